-- The paths of the question on marks.
use Rattle.std.proofs.Common.{◌≡◌, ℕ, suc, ◌+◌, ◌<◌, ◌≤◌, min, Bool, true, false, ◌&&◌, ltb, leb, ◌⊎◌, List, [], ◌∷◌, ◌++◌, length, Some, None, Ok, Err, Option, Result, sym, refl, ap, ◌∙◌, subst, inl, inr, ⊎_elim, arith}
use Rattle.std.proofs.lemmas.Bool.{ltb-false, leb-true, leb-false, and_parts, and_cases}
use Rattle.std.specs.Option.{option_map}
use Rattle.plain.specs.Machine.{Machine}
use Rattle.plain.specs.Questions.{mark_of_offset}
use Rattle.plain.specs.declared.answers.Mark.{Mark}
use Rattle.measures.specs.Law.{heaviest}
use Rattle.measures.specs.MarkTotals.{gaps, totals_of_marks, placed}
use Rattle.measures.specs.declared.mark_totals.MarkRow.{MarkRow}
use Rattle.measures.specs.declared.mark_totals.MarkTotals.{MarkTotals}
use Rattle.slots.specs.Ghost.{Finger, tree_of, rows, Fit}
use Rattle.slots.specs.Holds.{most}
use Rattle.slots.specs.Values.{flat}
use Rattle.slots.specs.declared.records.Record.{Record}
use Rattle.slots.specs.declared.records.Tree.{Tree}
use Rattle.slots.specs.declared.records.Unsound.{Unsound}
use Rattle.slots.proofs.Shapes.{ok_err, ok_same}
use Rattle.pieces.specs.Sound.{TextValue, itself, mark_mean, Mode, Spells}
use Rattle.pieces.specs.declared.rows.PieceRow.{PieceRow}
use Rattle.pieces.specs.declared.head.Head.{Head}
use Rattle.pieces.proofs.MarkMoves.{flat_itself, gaps_append, mark_weight, first_none, first_turn}
use Rattle.pieces.proofs.RowParts.{sizes_few}
use Rattle.asking.specs.Rows.{Turned, TurnsIn, RowFound}
use Rattle.asking.proofs.RowTurns.{some_none, some_same}
use Rattle.questions.specs.Marks.{FirstMark}

-- some marks, and the last at q or after it
abbrev pub from : ℕ → MarkTotals → Bool
from q v = ltb 0 v.count && leb q v.gaps

-- the probe's no of some marks
from_no : (q : ℕ) (xs : List MarkRow) → (xs ≡ []) ⊎ (from q (totals_of_marks (flat itself xs)) ≡ false) → (xs ≡ []) ⊎ (0 + gaps xs < q)
from_no q xs (inl e) = inl e
from_no q [] (inr e) = inl refl
from_no q (x ∷ xs) (inr e) =
    let same : from q (totals_of_marks (x ∷ xs)) ≡ false = ap (λ (l : List MarkRow). from q (totals_of_marks l)) (sym (flat_itself (x ∷ xs))) ∙ e in
    ⊎_elim (λ n. absurd (omega (arith, ltb-false 0 (suc (length xs)) n))) (λ n. inr (let lt = leb-false q (gaps (x ∷ xs)) n in omega arith))
    (and_cases (ltb 0 (suc (length xs))) (leb q (gaps (x ∷ xs))) same)

module _ {ms : List (Record MarkRow MarkTotals)} {tr : Tree} (q : ℕ) {v w : MarkTotals} {f : Result (Option MarkRow) Unsound}
    (start : v ≡ totals_of_marks []) (F : RowFound (λ (m : MarkRow). m.gap + 1) totals_of_marks (from q) ms tr v w f) where
  turns : (u : Finger MarkRow MarkTotals) → tree_of u ≡ tr → Fit mark_mean ms u 0 → length (rows u) ≤ most → gaps (rows u) + length (rows u) ≤ heaviest → TurnsIn totals_of_marks (from q) itself [] (rows u) w f
  turns u is fit few light = F.finds itself [] u is fit few (omega (arith, mark_weight (rows u))) start

  pub mark_lost : {e : Unsound} {r : Result (Option Mark) Unsound} → f ≡ Err e → FirstMark ms tr q r
  mark_lost bad = record { tells = λ u is fit few light. ⊎_elim (λ n. absurd (ok_err n.0 bad)) (λ y. absurd (ok_err y.1 bad)) (turns u is fit few light) }

  pub mark_none : {o : Option MarkRow} → f ≡ Ok o → o ≡ None → FirstMark ms tr q (Ok None)
  mark_none got nay = record {
    tells = λ u is fit few light. ⊎_elim
        (λ n. ⊎_elim
        (λ (e : rows u ≡ []). ap (λ (l : List MarkRow). Ok (mark_of_offset (placed 0 l) q)) (sym e))
        (λ lt. ap Ok (sym (first_none q 0 (rows u) lt)))
        (from_no q (rows u) n.1.no))
        (λ y. absurd (some_none (ok_same y.1 got ∙ nay))) (turns u is fit few light);
  }

  pub mark_found : {o : Option MarkRow} {x : MarkRow} {n : ℕ} → f ≡ Ok o → o ≡ Some x → n ≡ min (w.gaps + x.gap) 4294967295 → FirstMark ms tr q (Ok (Some (record { offset = n; label = x.label })))
  mark_found {o} {x} {n} got yea n-is = record {
    tells = λ u is fit few light. ⊎_elim
        (λ z. absurd (some_none (sym (ok_same z.0 got ∙ yea))))
        (λ y. of_turn u light y.0 (some_same (ok_same y.1 got ∙ yea)) y.2) (turns u is fit few light);
  }
    where
      mark_same : {a b c d : ℕ} → a ≡ b → c ≡ d → ◌≡◌ {A = Result (Option Mark) Unsound} (Ok (Some (record { offset = a; label = c }))) (Ok (Some (record { offset = b; label = d })))
      mark_same e g = cc

      of_turn : (u : Finger MarkRow MarkTotals) → gaps (rows u) + length (rows u) ≤ heaviest → (y : MarkRow) → y ≡ x → Turned totals_of_marks (from q) itself [] (rows u) w y
          → ◌≡◌ {A = Result (Option Mark) Unsound} (Ok (Some (record { offset = n; label = x.label }))) (Ok (mark_of_offset (placed 0 (rows u)) q))
      of_turn u light y is H =
          let w-gaps : w.gaps ≡ gaps H.xs = ap (λ (t : MarkTotals). t.gaps) H.past.place ∙ ap gaps (flat_itself H.xs) in
          let gap_is : y.gap ≡ x.gap = ap (λ (r : MarkRow). r.gap) is in
          let label_is : y.label ≡ x.label = ap (λ (r : MarkRow). r.label) is in
          let yes : from q (totals_of_marks (H.xs ++ (y ∷ []))) ≡ true = ap (λ (l : List MarkRow). from q (totals_of_marks l)) (sym (flat_itself (H.xs ++ (y ∷ [])))) ∙ H.yes in
          let ge : q ≤ gaps (H.xs ++ (y ∷ [])) = leb-true q (gaps (H.xs ++ (y ∷ []))) (and_parts (ltb 0 (length (H.xs ++ (y ∷ [])))) (leb q (gaps (H.xs ++ (y ∷ [])))) yes).1 in
          let all : gaps (rows u) ≡ gaps H.xs + (y.gap + gaps H.ys) = ap gaps H.parts ∙ gaps_append H.xs (y ∷ H.ys) in
          let turn = first_turn q 0 H.xs y H.ys (from_no q H.xs H.past.no) (omega (arith, gaps_append H.xs (y ∷ []))) in
          mark_same (let e : n ≡ 0 + gaps H.xs + y.gap = omega arith in e) (sym label_is) ∙ ap Ok (sym (ap (λ (l : List MarkRow). mark_of_offset (placed 0 l) q) H.parts ∙ turn))

  pub mark_told : {o : Option MarkRow} {z : Option Mark} → f ≡ Ok o → z ≡ option_map (λ x. record { offset = min (w.gaps + x.gap) 4294967295; label = x.label }) o → FirstMark ms tr q (Ok z)
  mark_told {o = None} got is = subst (λ (y : Option Mark). FirstMark ms tr q (Ok y)) (sym is) (mark_none got refl)
  mark_told {o = Some x} got is = subst (λ (y : Option Mark). FirstMark ms tr q (Ok y)) (sym is) (mark_found got refl refl)

-- the marks of memory that spells a machine
pub marks_told : {A : Type 0} {am : List ℕ → A} {mode : Mode} {B : List ℕ} {c q : ℕ} {rs : List (Record PieceRow (TextValue A))} {ms : List (Record MarkRow MarkTotals)} {h : Head} {m : Machine} {r : Result (Option Mark) Unsound}
    → FirstMark ms h.marks q r → Spells am mode B c rs ms h m → r ≡ Ok (mark_of_offset m.marks q)
marks_told {B = B} {q = q} F S =
    let L = S.sound.marks in
    let U = S.sound.text in
    F.tells S.sound.u L.tree L.fit (omega (arith, L.few, L.most))
    (omega (arith, L.few, L.most, U.few, U.most, S.sound.ends, sizes_few B (rows S.sound.t) S.sound.good))
    ∙ ap (λ (k : Machine). Ok (mark_of_offset k.marks q)) (sym S.machine)
