use Rattle.std.specs.Prelude.{◌≡◌, ℕ, ◌+◌, min, ◌&&◌, List, [], ◌∷◌, ◌++◌, nat_le, nat_lt}
use Rattle.std.proofs.Common.{ap, arith, length-append}
use Rattle.measures.specs.Law.{Joins, Keeps, weights}
use Rattle.measures.specs.Reached.{reached_kept, both_kept}
use Rattle.measures.specs.MarkTotals.{gaps, totals_of_marks, placed, last_offset_of}
use Rattle.measures.specs.declared.mark_totals.MarkRow.{MarkRow}
use Rattle.measures.specs.declared.mark_totals.MarkTotals.{MarkTotals}

abbrev make : ℕ → ℕ → MarkTotals
make m n = record { gaps = m; count = n }

make_eq : {m n p q : ℕ} → m ≡ p → n ≡ q → make m n ≡ make p q
make_eq e f = cc

pub gaps_append : (xs ys : List MarkRow) → (totals_of_marks (xs ++ ys)).gaps ≡ (totals_of_marks xs).gaps + (totals_of_marks ys).gaps
gaps_append [] ys = omega arith
gaps_append (x ∷ xs) ys = omega (arith, gaps_append xs ys)

pub count_append : (xs ys : List MarkRow) → (totals_of_marks (xs ++ ys)).count ≡ (totals_of_marks xs).count + (totals_of_marks ys).count
count_append xs ys = length-append xs ys

pub weights_marks : (xs : List MarkRow) → weights (λ m. m.gap + 1) xs ≡ (totals_of_marks xs).gaps + (totals_of_marks xs).count
weights_marks [] = omega arith
weights_marks (x ∷ xs) = omega (arith, weights_marks xs)

pub join_marks : (a b : MarkTotals) (m n : ℕ) → m ≡ min (a.gaps + b.gaps) 4294967295 → n ≡ min (a.count + b.count) 4294967295 → Joins (λ m. m.gap + 1) totals_of_marks a b (make m n)
join_marks a b m n p q = record {
  joins = λ xs ys light e f.
      let w = weights_marks (xs ++ ys) in
      let A : a.gaps ≡ (totals_of_marks xs).gaps = ap (λ (v : MarkTotals). v.gaps) e in
      let B : b.gaps ≡ (totals_of_marks ys).gaps = ap (λ (v : MarkTotals). v.gaps) f in
      let C : a.count ≡ (totals_of_marks xs).count = ap (λ (v : MarkTotals). v.count) e in
      let D : b.count ≡ (totals_of_marks ys).count = ap (λ (v : MarkTotals). v.count) f in
      let l = gaps_append xs ys in
      let k = count_append xs ys in
      make_eq {m = m} {n = n} {p = (totals_of_marks (xs ++ ys)).gaps} {q = (totals_of_marks (xs ++ ys)).count} (omega arith) (omega arith);
}

pub last_offset_lem : (o : ℕ) (ms : List MarkRow) → o + gaps ms ≡ last_offset_of o (placed o ms)
last_offset_lem o [] = omega arith
last_offset_lem o (m ∷ ms) = omega (arith, last_offset_lem (o + m.gap) ms)

-- there is a mark, and the last one lies so far
pub mark_from_kept : (n : ℕ) → Keeps (λ m. m.gap + 1) totals_of_marks (λ v. nat_lt 0 v.count && nat_le n v.gaps)
mark_from_kept n =
    both_kept
    (reached_kept (λ (v : MarkTotals). v.count) (λ xs ys. omega (arith, count_append xs ys)) 1)
    (reached_kept (λ (v : MarkTotals). v.gaps) (λ xs ys. omega (arith, gaps_append xs ys)) n)
