use Rattle.std.specs.Prelude.{◌≡◌, ℕ, suc, ◌+◌, ◌≤◌, min, List, ◌++◌, nat_le, nat_lt}
use Rattle.std.proofs.Common.{ap, arith, length-append}
use Rattle.plain.specs.Tokens.{feed}
use Rattle.measures.specs.Law.{Joins, Keeps}
use Rattle.measures.specs.Reached.{reached_kept}
use Rattle.measures.specs.Totals.{totals}
use Rattle.measures.specs.declared.totals.Totals.{Totals}
use Rattle.measures.specs.Counts.{count_append, count_length}
use Rattle.measures.specs.Weights.{weights_bytes}

abbrev make : ℕ → ℕ → Totals
make m n = record { bytes = m; feeds = n }

make_eq : {m n p q : ℕ} → m ≡ p → n ≡ q → make m n ≡ make p q
make_eq e f = cc

pub bytes_append : (xs ys : List ℕ) → (totals (xs ++ ys)).bytes ≡ (totals xs).bytes + (totals ys).bytes
bytes_append xs ys = length-append xs ys

pub feeds_append : (xs ys : List ℕ) → (totals (xs ++ ys)).feeds ≡ (totals xs).feeds + (totals ys).feeds
feeds_append xs ys = count_append feed xs ys

pub feeds_bytes : (xs : List ℕ) → (totals xs).feeds ≤ (totals xs).bytes
feeds_bytes xs = count_length feed xs

pub join_totals : (a b : Totals) (m n : ℕ) → m ≡ min (a.bytes + b.bytes) 4294967295 → n ≡ min (a.feeds + b.feeds) 4294967295 → Joins (λ _. 1) totals a b (make m n)
join_totals a b m n p q = record {
  joins = λ xs ys light e f.
      let w = weights_bytes (xs ++ ys) in
      let A : a.bytes ≡ (totals xs).bytes = ap (λ (v : Totals). v.bytes) e in
      let B : b.bytes ≡ (totals ys).bytes = ap (λ (v : Totals). v.bytes) f in
      let C : a.feeds ≡ (totals xs).feeds = ap (λ (v : Totals). v.feeds) e in
      let D : b.feeds ≡ (totals ys).feeds = ap (λ (v : Totals). v.feeds) f in
      let l = bytes_append xs ys in
      let k = feeds_append xs ys in
      let s = feeds_bytes (xs ++ ys) in
      make_eq {m = m} {n = n} {p = (totals (xs ++ ys)).bytes} {q = (totals (xs ++ ys)).feeds} (omega arith) (omega arith);
}

-- what is past a byte, or has so many line feeds
pub past_byte_kept : (n : ℕ) → Keeps (λ _. 1) totals (λ v. nat_lt n v.bytes)
past_byte_kept n = reached_kept (λ (v : Totals). v.bytes) (λ xs ys. omega (arith, bytes_append xs ys)) (suc n)

pub feeds_kept : (n : ℕ) → Keeps (λ _. 1) totals (λ v. nat_le n v.feeds)
feeds_kept n = reached_kept (λ (v : Totals). v.feeds) (λ xs ys. omega (arith, feeds_append xs ys)) n
