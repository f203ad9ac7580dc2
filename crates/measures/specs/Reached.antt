-- A number that only grows with the list, once it has reached a bound, has reached it for every longer list.
use Rattle.std.specs.Prelude.{◌≡◌, ℕ, ◌≤◌, Bool, true, ◌&&◌, List, ◌++◌, nat_le}
use Rattle.std.proofs.Common.{arith}
use Rattle.std.proofs.lemmas.Bool.Decides.{nat_tests}
use Rattle.measures.specs.Law.{Keeps}

still_reached : (n a b : ℕ) → a ≤ b → nat_le n a ≡ true → nat_le n b ≡ true
still_reached n a b h said = grind (arith, nat_tests)

both_true : {a b c d : Bool} → (a ≡ true → c ≡ true) → (b ≡ true → d ≡ true) → (a && b) ≡ true → (c && d) ≡ true
both_true {a = a} {b = b} f g h = grind arith

module _ {I V : Type 0} {weigh : I → ℕ} {means : List I → V} where
  pub reached_kept : (number : V → ℕ) → ((xs ys : List I) → number (means xs) ≤ number (means (xs ++ ys))) → (n : ℕ) → Keeps weigh means (λ v. nat_le n (number v))
  reached_kept number grows n = record { keeps = λ xs ys light said. still_reached n (number (means xs)) (number (means (xs ++ ys))) (grows xs ys) said }

  pub both_kept : {says also : V → Bool} → Keeps weigh means says → Keeps weigh means also → Keeps weigh means (λ v. says v && also v)
  both_kept k l = record { keeps = λ xs ys light said. both_true (k.keeps xs ys light) (l.keeps xs ys light) said }
