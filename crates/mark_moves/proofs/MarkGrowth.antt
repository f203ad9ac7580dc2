-- The paths of the marks when bytes come into the text.
use Rattle.std.proofs.Common.{◌≡◌, ℕ, ◌+◌, ◌*◌, ◌<◌, ◌≤◌, min, ◌⊎◌, List, [], ◌∷◌, ◌++◌, length, Some, None, Ok, Err, Option, Result, sym, refl, ap, ◌∙◌, subst, ap₂, inl, inr, ⊎_elim, arith, length-append}
use Rattle.plain.specs.Machine.{limit}
use Rattle.plain.specs.Marks.{grown}
use Rattle.measures.specs.MarkTotals.{gaps, totals_of_marks, placed}
use Rattle.measures.specs.declared.mark_totals.MarkRow.{MarkRow}
use Rattle.measures.specs.declared.mark_totals.MarkTotals.{MarkTotals}
use Rattle.slots.specs.Ghost.{Finger, same, occ_list, tree_of, rows, occ}
use Rattle.slots.specs.declared.records.Unsound.{Unsound}
use Rattle.slots.specs.Words.{Link}
use Rattle.slots.specs.declared.records.Tree.{Tree}
use Rattle.slots.specs.declared.records.Record.{Record}
use Rattle.slots.proofs.Shapes.{ok_err, ok_same}
use Rattle.pieces.specs.Sound.{mark_mean, Laid}
use Rattle.pieces.proofs.Bench.{Bench, bench_by, bench_once, bench_spare}
use Rattle.pieces.proofs.MarkMoves.{gaps_append, grown_below, grown_turn}
use Rattle.mark_moves.specs.Parting.{farthest, moved, AllBefore, MarksApart, MarksParted, MovedJoined}
use Rattle.mark_moves.specs.Moved.{MarksMade, MarksGrown}
use Rattle.mark_moves.specs.declared.parting.MarkHalves.{MarkHalves}
use Rattle.mark_moves.proofs.MarkDesk.{few_most, marks_hold, around_count, parted, marks_made, marks_stay}
use Rattle.mark_moves.proofs.MarkParts.{none_some, some_same}

module _ {ms ms₁ : List (Record MarkRow MarkTotals)} {f f₁ : Link} {tr : Tree} (p n : ℕ) {v v' : MarkTotals} {rp : Result (Option MarkHalves) Unsound}
    (start : v ≡ totals_of_marks []) (P : MarksParted ms ms₁ f f₁ tr p v v' rp) where
  parts_of : (u : Finger MarkRow MarkTotals) (gs : List ℕ) → Laid mark_mean ms f tr u gs → gaps (rows u) + n ≤ farthest
      → AllBefore ms ms₁ f f₁ [] p v' rp (rows u) ⊎ MarksApart ms ms₁ f₁ [] p v' rp u gs
  parts_of u gs L near = P.parts [] u gs (marks_hold (omega arith) L) start (omega arith) (few_most (length (rows u)) (length ms) L.few L.most)

  pub grow_no_parts : {e : Unsound} {r : Result Tree Unsound} → rp ≡ Err e → MarksGrown ms ms₁ f f₁ tr p n r
  grow_no_parts bad = record { grows = λ u gs L near. ⊎_elim (λ b. absurd (ok_err b.0 bad)) (λ D. absurd (ok_err D.ok bad)) (parts_of u gs L near) }

  none_move : (xs : List MarkRow) → (xs ≡ []) ⊎ (0 + gaps xs < p) → placed 0 xs ≡ grown p n (placed 0 xs)
  none_move xs (inl e) = subst (λ (l : List MarkRow). placed 0 l ≡ grown p n (placed 0 l)) (sym e) refl
  none_move xs (inr h) = sym (grown_below 0 p n xs h)

  pub grow_none : rp ≡ Ok None → MarksGrown ms ms₁ f f₁ tr p n (Ok tr)
  grow_none got = record {
    grows = λ u gs L near. ⊎_elim (λ b. marks_stay L b.1 b.2 (none_move (rows u) b.4))
        (λ D. absurd (none_some (ok_same got D.ok))) (parts_of u gs L near);
  }

  module _ {h : MarkHalves} (got : rp ≡ Ok (Some h)) {g : ℕ} (is-g : g ≡ min (h.row.gap + n) 4294967295)
      {ms₂ : List (Record MarkRow MarkTotals)} {f₂ : Link} {r : Result Tree Unsound} (J : MovedJoined ms₁ ms₂ f₁ f₂ h g r) where
    apart_of : (u : Finger MarkRow MarkTotals) (gs : List ℕ) → Laid mark_mean ms f tr u gs → gaps (rows u) + n ≤ farthest → MarksApart ms ms₁ f₁ [] p v' rp u gs
    apart_of u gs L near = ⊎_elim (λ b. absurd (none_some (sym (ok_same got b.0)))) (λ D. D) (parts_of u gs L near)

    pub grow_joined : MarksGrown ms ms₂ f f₂ tr p n r
    grow_joined = record { grows = joined }
      where
        joined : (u : Finger MarkRow MarkTotals) (gs : List ℕ) → Laid mark_mean ms f tr u gs → gaps (rows u) + n ≤ farthest → MarksMade ms ms₂ f₂ r (grown p n (placed 0 (rows u))) 1
        joined u gs L near =
            let D = apart_of u gs L near in
            let h_is : h ≡ record { left = tree_of D.l; at = D.i; row = D.x; right = tree_of D.q } = some_same (ok_same got D.ok) in
            let row_is : h.row ≡ D.x = ap (λ (y : MarkHalves). y.row) h_is in
            let at_is : h.at ≡ D.i = ap (λ (y : MarkHalves). y.at) h_is in
            let gap_is : h.row.gap ≡ D.x.gap = ap (λ (y : MarkRow). y.gap) row_is in
            let sum : gaps (rows u) ≡ gaps (rows D.l) + (D.x.gap + gaps (rows D.q)) = ap gaps D.text ∙ gaps_append (rows D.l) (D.x ∷ rows D.q) in
            let g-is : g ≡ D.x.gap + n = omega arith in
            let x' : MarkRow = moved g h.row in
            let T : List MarkRow = rows D.l ++ (x' ∷ rows D.q) in
            let same_at : (j : ℕ) → same h.at j ≡ same D.i j = λ j. ap (λ (k : ℕ). same k j) at_is in
            let b : Bench ms ms₁ f₁ (λ j. occ D.l j + (same h.at j + occ D.q j)) D.gs' [] = bench_by (λ j. occ D.l j + (same h.at j + occ D.q j)) (λ j. omega (arith, same_at j)) (parted L D) in
            let count : length T ≤ limit (length ms) = omega (arith, L.few, ap length D.text, length-append (rows D.l) (D.x ∷ rows D.q), length-append (rows D.l) (x' ∷ rows D.q)) in
            let spare = bench_spare (2 * length T) b (around_count (length ms) D.l h.at x' D.q) in
            let Z = J.joins D.l D.q D.gs' (record {
              left = ap (λ (y : MarkHalves). y.left) (sym h_is);
              right = ap (λ (y : MarkHalves). y.right) (sym h_is);
              within = omega (arith, D.holds.within);
              first = D.first;
              fit_l = D.fit_l;
              fit_q = D.fit_q;
              chain = D.chain;
              once = λ j. omega (arith, bench_once b j);
              near = omega (arith, gaps_append (rows D.l) (x' ∷ rows D.q));
              small = few_most (length T) (length ms) count L.most;
              long = omega (arith, L.least);
            }) in
            let turned : grown p n (placed 0 (rows u)) ≡ placed 0 T =
            ap (λ (l : List MarkRow). grown p n (placed 0 l)) D.text
            ∙ grown_turn 0 p n (rows D.l) D.x (rows D.q) D.low D.high
            ∙ ap₂ (λ (a b : ℕ). placed 0 (rows D.l ++ (record { gap = a; label = b } ∷ rows D.q))) (sym g-is) (ap (λ (y : MarkRow). y.label) (sym row_is)) in
            marks_made (λ j. occ D.l j + (same h.at j + occ D.q j)) (λ j. occ D.l j + (same h.at j + (occ D.q j + occ_list D.gs' j))) 0 1 L.least L.most b (λ j. omega arith) (omega arith) Z (sym turned) count
