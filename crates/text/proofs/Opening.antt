-- Opening over whole slices: what is asked of the watched slots is asked of the slices.
use Rattle.std.proofs.Common.{◌≡◌, ℕ, ◌*◌, ◌<◌, ◌≤◌, min, ◌&&◌, leb, List, [], ◌∷◌, ◌++◌, length, take, drop, Some, None, Ok, Err, Option, Result, sym, ap, ◌∙◌, subst, ap₂, ⊎_elim, arith, length-take}
use Rattle.std.proofs.lemmas.Bool.{le-leb, lt-leb, cases_lt}
use Rattle.plain.specs.Lists.{first_no}
use Rattle.plain.specs.Machine.{limit, watched, fresh, open_asked}
use Rattle.plain.specs.declared.faults.TextFault.{TextFault}
use Rattle.plain.specs.declared.faults.TextFault.TheVariants.{Slots, Pieces}
use Rattle.measures.specs.declared.mark_totals.MarkRow.{MarkRow}
use Rattle.measures.specs.declared.mark_totals.MarkTotals.{MarkTotals}
use Rattle.stores.specs.Stores.{Contents}
use Rattle.slots.specs.declared.records.Record.{Record}
use Rattle.pieces.specs.Sound.{TextValue, whole, Spells}
use Rattle.pieces.specs.declared.rows.PieceRow.{PieceRow}
use Rattle.pieces.specs.declared.head.Head.{Head}
use Rattle.opening.specs.Opened.{Outcome, Opens}
use Rattle.text.specs.declared.Whole.{Whole}
use Rattle.text.specs.Texts.{watched_of, OpenOutcome, OpensText}
use Rattle.text.proofs.Lending.{back, beyond, same}

-- so many slots of a slice of n are lent
enough : (n k : ℕ) → k ≡ min n 8316 → leb 130 k ≡ leb 130 n
enough n k e = ⊎_elim
    (λ (lt : n < 130). lt-leb 130 k (omega arith) ∙ sym (lt-leb 130 n lt))
    (λ (le : 130 ≤ n). le-leb 130 k (omega arith) ∙ sym (le-leb 130 n le))
    (cases_lt n 130)

asked_same : (B : List ℕ) (n k m j : ℕ) → k ≡ min n 8316 → j ≡ min m 8316 → open_asked B k j ≡ open_asked B n m
asked_same B n k m j e f =
    let wn : watched k ≡ watched n = omega arith in
    ap₂ (λ p q. (p && q, Slots) ∷ (leb (length B) (256 * limit (watched k)), Pieces) ∷ []) (enough n k e) (enough m j f)
    ∙ ap (λ u. (leb 130 n && leb 130 m, Slots) ∷ (leb (length B) (256 * limit u), Pieces) ∷ []) wn

fresh_same : (B : List ℕ) (c n k m j : ℕ) → k ≡ min n 8316 → j ≡ min m 8316 → fresh B c k j ≡ fresh B c n m
fresh_same B c n k m j e f =
    let wn : watched k ≡ watched n = omega arith in
    let wm : watched j ≡ watched m = omega arith in
    ap₂ (λ u v. record { bytes = B; capacity = c; text_slots = u; mark_slots = v; pieces = (fresh B c n m).pieces; clip = (fresh B c n m).clip; marks = [] }) wn wm

-- what opening a head gave, as the text's
abbrev pub whole_of : Result Head TextFault → Result Whole TextFault
whole_of (Ok h) = Ok (record { head = h })
whole_of (Err f) = Err f

pub opens_text : {A S : Type 0} {am : List ℕ → A} {contents : S → Contents} {s s' : S} {r : Result Head TextFault}
    (rs : List (Record PieceRow (TextValue A))) (w : ℕ) (ys : List (Record PieceRow (TextValue A))) (ms : List (Record MarkRow MarkTotals)) (v : ℕ) (zs : List (Record MarkRow MarkTotals))
    → w ≡ min (length rs) 8316 → length ys ≡ length (take w rs) → v ≡ min (length ms) 8316 → length zs ≡ length (take v ms)
    → Opens am contents s s' (take w rs) ys (take v ms) zs r
    → OpensText am contents s s' rs (ys ++ drop w rs) ms (zs ++ drop v ms) (whole_of r)
opens_text {am = am} {contents = contents} {s = s} {s' = s'} {r = r} rs w ys ms v zs e len f len' O = record {
  outcome = by (first_no (open_asked (contents s).bytes (length rs) (length ms)))
      (subst (λ q. Outcome am contents (first_no q) s s' (take w rs) ys (take v ms) zs r)
      (asked_same (contents s).bytes (length rs) (length (take w rs)) (length ms) (length (take v ms)) slots_lent marks_lent) O.outcome);
  same_bytes = O.same_bytes;
  same_capacity = O.same_capacity;
  later = record { slots = beyond rs w e ys len; marks = beyond ms v f zs len' };
}
  where
    slots_lent : length (take w rs) ≡ min (length rs) 8316
    slots_lent = omega (arith, length-take w rs)

    marks_lent : length (take v ms) ≡ min (length ms) 8316
    marks_lent = omega (arith, length-take v ms)

    by : (o : Option TextFault) → Outcome am contents o s s' (take w rs) ys (take v ms) zs r
        → OpenOutcome am contents o s s' rs (ys ++ drop w rs) ms (zs ++ drop v ms) (whole_of r)
    by None out =
        let got = out (omega (arith, slots_lent)) (omega (arith, marks_lent)) in
        let all = fresh (contents s).bytes (contents s).capacity (length rs) (length ms) in (
          record { head = got.0 },
          ap whole_of got.1,
          record {
            spells =
                subst (λ x. Spells am whole (contents s').bytes (contents s').capacity x (watched_of (zs ++ drop v ms)) got.0 all) (sym (back rs w e ys len))
                (subst (λ x. Spells am whole (contents s').bytes (contents s').capacity ys x got.0 all) (sym (back ms v f zs len'))
                (subst (λ x. Spells am whole (contents s').bytes (contents s').capacity ys zs got.0 x)
                (fresh_same (contents s).bytes (contents s).capacity (length rs) (length (take w rs)) (length ms) (length (take v ms)) slots_lent marks_lent) got.2.spells));
            each_once = got.2.each_once;
          },
        )
    by (Some g) out = (
      ap whole_of out.0,
      record {
        slots = same rs w e ys len out.1.slots;
        marks = same ms v f zs len' out.1.marks;
        same_reads = out.1.same_reads;
      },
    )

-- the fault as it is handed on
pub opens_not : {A S : Type 0} {am : List ℕ → A} {contents : S → Contents} {s s' : S} {rs rs' : List (Record PieceRow (TextValue A))} {ms ms' : List (Record MarkRow MarkTotals)} {f : TextFault} {r : Result Whole TextFault}
    → OpensText am contents s s' rs rs' ms ms' (Err f) → r ≡ Err f → OpensText am contents s s' rs rs' ms ms' r
opens_not O is = rw is O
