-- The row at which a probe turns yes.
use Rattle.std.specs.Prelude.{◌≡◌, Bool, true, List, [], ◌∷◌, ◌++◌, ◌⊎◌, ℕ, ◌≤◌, length}
use Rattle.std.specs.declared.option.Option.{Option}
use Rattle.std.specs.declared.option.Option.TheVariants.{None, Some}
use Rattle.std.specs.declared.result.Result.{Result}
use Rattle.std.specs.declared.result.Result.TheVariants.{Ok}
use Rattle.seek.specs.Words.{Unsound, Tree, Record}
use Rattle.slots.specs.Ghost.{Finger, tree_of, rows, Fit}
use Rattle.slots.specs.Holds.{most}
use Rattle.slots.specs.Values.{mean}
use Rattle.measures.specs.Law.{weights, heaviest}
use Rattle.seek.specs.Places.{upto, Past, Turns, Never}

module _ {R I V : Type 0} (means : List I → V) (says : V → Bool) where
  -- the probe turns yes at the row x of T, and the place is before it
  pub record Turned (items : R → List I) (w : List I) (T : List R) (p : V) (x : R) : Type 0 where
    pub xs : List R
    pub ys : List R
    pub parts : T ≡ xs ++ (x ∷ ys)
    pub past : Past means says items w xs p
    pub yes : says (means (upto items w (xs ++ (x ∷ [])))) ≡ true

  -- or the place moves past all rows
  abbrev pub TurnsIn : (R → List I) → List I → List R → V → Result (Option R) Unsound → Type 0
  TurnsIn items w T p r = ((r ≡ Ok None) × Past means says items w T p) ⊎ ((x : R) × (r ≡ Ok (Some x)) × Turned items w T p x)

module _ {R I V : Type 0} (weigh : I → ℕ) (means : List I → V) (says : V → Bool) where
  pub record RowFound (rs : List (Record R V)) (tr : Tree) (p p' : V) (r : Result (Option R) Unsound) : Type 0 where
    pub finds : (items : R → List I) (w : List I) (t : Finger R V) → tree_of t ≡ tr → Fit (mean means items) rs t 0 → length (rows t) ≤ most → weights weigh (upto items w (rows t)) ≤ heaviest → p ≡ means w → TurnsIn means says items w (rows t) p' r

-- The second probe is sought for among the rows after the first at which the first is yes.
module _ {R I V : Type 0} (weigh : I → ℕ) (means : List I → V) (from until : V → Bool) where
  pub record RowSought (rs : List (Record R V)) (tr : Tree) (p p' : V) (r : Result (Option R) Unsound) : Type 0 where
    pub seeks : (items : R → List I) (w : List I) (t : Finger R V) → tree_of t ≡ tr → Fit (mean means items) rs t 0 → length (rows t) ≤ most → weights weigh (upto items w (rows t)) ≤ heaviest → p ≡ means w
        → ((r ≡ Ok None) × Never means from items [] (rows t)) ⊎ Turns means from items [] (rows t) (λ xs ys. TurnsIn means until items w ys p' r)
