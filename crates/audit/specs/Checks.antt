-- What a check of leaves promises.
use Rattle.std.specs.Prelude.{◌≢◌, ◌≡◌, List, [], ◌∷◌, ℕ}
use Rattle.measures.specs.Law.{weights}
use Rattle.std.specs.declared.result.Result.{Result}
use Rattle.std.specs.declared.result.Result.TheVariants.{Ok, Err}
use Rattle.audit.specs.Words.{Unsound}

module _ {R I V : Type 0} (weigh : I → ℕ) (means : List I → V) (items : R → List I) (good : R → Type 0) where
  -- the row is good, v is the value of its items, and n is their weight
  pub record Passes (row : R) (v : V) (n : ℕ) : Type 0 where
    pub is_good : good row
    pub value : v ≡ means (items row)
    pub weight : n ≡ weights weigh (items row)

  abbrev pub Verdict : R → V → Result ℕ Unsound → Type 0
  Verdict row v (Ok n) = Passes row v n
  Verdict row v (Err e) = good row → v ≢ means (items row)

  pub record Judged (row : R) (v : V) (r : Result ℕ Unsound) : Type 0 where
    pub says : Verdict row v r

-- what an audit goes by: what items weigh and mean, what rows stand for, which are good, and what a check does to its source
pub record Rules (R I V S : Type 0) : Type 1 where
  pub weigh : I → ℕ
  pub means : List I → V
  pub items : S → R → List I
  pub good : S → R → Type 0
  pub checks : S → R → S → Type 0

abbrev pub rules : {R I V S : Type 0} → (I → ℕ) → (List I → V) → (S → R → List I) → (S → R → Type 0) → (S → R → S → Type 0) → Rules R I V S
rules weigh means items good checks = record { weigh = weigh; means = means; items = items; good = good; checks = checks }

-- What rows stand for and which of them are good is the same in both states of a source
pub record Stays {R I S : Type 0} (items : S → R → List I) (good : S → R → Type 0) (s s' : S) : Type 0 where
  pub same_items : items s' ≡ items s
  pub still_good : (x : R) → good s x → good s' x
  pub was_good : (x : R) → good s' x → good s x

-- from s to s' by checking the rows, one after the other and each once
abbrev pub Run : {R S : Type 0} → (S → R → S → Type 0) → S → List R → S → Type 0
Run {R} {S} checks s [] s' = s' ≡ s
Run {R} {S} checks s (x ∷ xs) s' = (s₁ : S) × checks s x s₁ × Run checks s₁ xs s'
