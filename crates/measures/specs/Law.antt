-- What makes a measure and a probe lawful.
use Rattle.std.specs.Prelude.{◌≡◌, ℕ, ◌+◌, ◌≤◌, Bool, true, List, [], ◌∷◌, ◌++◌}

-- what the items of a list weigh together
abbrev pub weights : {I : Type 0} → (I → ℕ) → List I → ℕ
weights weigh [] = 0
weights weigh (x ∷ xs) = weigh x + weights weigh xs

-- the heaviest lists that a measure must be lawful for
abbrev pub heaviest : ℕ
heaviest = 2097152

module _ {I V : Type 0} (weigh : I → ℕ) (means : List I → V) where
  -- r is the value of two lists one after the other, if a and b are the values of the two
  pub record Joins (a b r : V) : Type 0 where
    pub joins : (xs ys : List I) → weights weigh (xs ++ ys) ≤ heaviest → a ≡ means xs → b ≡ means ys → r ≡ means (xs ++ ys)

  -- r is the value of a list and one item more
  pub record Adds (a : V) (x : I) (r : V) : Type 0 where
    pub adds : (xs : List I) → weights weigh (xs ++ (x ∷ [])) ≤ heaviest → a ≡ means xs → r ≡ means (xs ++ (x ∷ []))

  -- what a probe says of a list it says of every longer one
  pub record Keeps (says : V → Bool) : Type 0 where
    pub keeps : (xs ys : List I) → weights weigh (xs ++ ys) ≤ heaviest → says (means xs) ≡ true → says (means (xs ++ ys)) ≡ true
