use Rattle.std.specs.Prelude.{◌≡◌, ℕ, ◌+◌, ◌*◌, ◌≤◌, List, [], ◌∷◌, ◌++◌, nat_le}
use Rattle.std.proofs.Common.{arith}
use Rattle.std.proofs.lemmas.Bool.Decides.{nat_tests}
use Rattle.measures.specs.Law.{Keeps, weights}
use Rattle.measures.specs.Reached.{reached_kept}
use Rattle.digit_sum.specs.Digits.{decimal_of, digit_sum_of}

-- the digits of two lists
pub sum_append : (xs ys : List ℕ) → digit_sum_of (xs ++ ys) ≡ digit_sum_of xs + digit_sum_of ys
sum_append [] ys = omega arith
sum_append (x ∷ xs) ys = omega (arith, sum_append xs ys)

-- a digit is 9 at most, so that no sum within the weight limit passes a u32
nine_at_most : (b : ℕ) → decimal_of b ≤ 9
nine_at_most b = grind (arith, nat_tests)

pub sum_bound : (xs : List ℕ) → digit_sum_of xs ≤ 9 * weights (λ _. 1) xs
sum_bound [] = omega arith
sum_bound (x ∷ xs) = omega (arith, sum_bound xs, nine_at_most x)

-- a sum that has reached so much has reached it in every longer list
pub sum_kept : (n : ℕ) → Keeps (λ _. 1) digit_sum_of (λ v. nat_le n v)
sum_kept n = reached_kept (λ (v : ℕ). v) (λ xs ys. omega (arith, sum_append xs ys)) n
