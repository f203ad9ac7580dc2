-- Laws of `fold`: a meaning that reads a list from left to right has its join law from one step.
use Rattle.std.proofs.Common.{◌≡◌, ℕ, ◌+◌, ◌≤◌, List, [], ◌∷◌, ◌++◌, fold, sym, refl, ap, ◌∙◌, arith}
use Rattle.measures.specs.Law.{weights}

module _ {X V : Type 0} (step : V → X → V) where
  pub folded_append : (v : V) (xs ys : List X) → fold step v (xs ++ ys) ≡ fold step (fold step v xs) ys
  folded_append v [] ys = refl
  folded_append v (x ∷ xs) ys = folded_append (step v x) xs ys

  -- what takes a step on its right takes all the steps
  pub folded_through : (J : V → V) → ((w : V) (x : X) → J (step w x) ≡ step (J w) x) → (w : V) (ys : List X) → J (fold step w ys) ≡ fold step (J w) ys
  folded_through J law w [] = refl
  folded_through J law w (x ∷ ys) = folded_through J law (step w x) ys ∙ ap (λ v. fold step v ys) (law w x)

  -- the join law
  pub folded_join : (e : V) (J : V → V → V) → ((v : V) → J v e ≡ v) → ((v w : V) (x : X) → J v (step w x) ≡ step (J v w) x) → (xs ys : List X) → J (fold step e xs) (fold step e ys) ≡ fold step e (xs ++ ys)
  folded_join e J unit law xs ys =
      let v = fold step e xs in
      folded_through (J v) (law v) e ys ∙ ap (λ u. fold step u ys) (unit v) ∙ sym (folded_append e xs ys)

  -- a number that each step raises by at most the item's weight
  pub folded_bound : (weigh : X → ℕ) (size : V → ℕ) → ((v : V) (x : X) → size (step v x) ≤ size v + weigh x) → (v : V) (xs : List X) → size (fold step v xs) ≤ size v + weights weigh xs
  folded_bound weigh size law v [] = omega arith
  folded_bound weigh size law v (x ∷ xs) = omega (arith, folded_bound weigh size law (step v x) xs, law v x)
