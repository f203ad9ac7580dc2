-- Where a probe turns yes among rows.
use Rattle.std.specs.Prelude.{◌≡◌, Bool, true, false, List, [], ◌∷◌, ◌++◌, ◌⊎◌, ℕ}
use Rattle.std.specs.declared.option.Option.{Option}
use Rattle.std.specs.declared.option.Option.TheVariants.{None, Some}
use Rattle.std.specs.declared.result.Result.{Result}
use Rattle.std.specs.declared.result.Result.TheVariants.{Ok}
use Rattle.seek.specs.Words.{Unsound, Record, Leaf}
use Rattle.slots.specs.Ghost.{At}
use Rattle.slots.specs.Values.{flat, mean}

-- the items w, and then those of the rows
abbrev pub upto : {R I : Type 0} → (R → List I) → List I → List R → List I
upto items w xs = w ++ flat items xs

module _ {R I V : Type 0} (means : List I → V) (says : V → Bool) where
  -- the probe is no after the rows, unless there are none
  abbrev pub NotYet : (R → List I) → List I → List R → Type 0
  NotYet items w xs = (xs ≡ []) ⊎ (says (means (upto items w xs)) ≡ false)

  -- a place that began at the items w has moved past the rows xs
  pub record Past (items : R → List I) (w : List I) (xs : List R) (p : V) : Type 0 where
    pub place : p ≡ means (upto items w xs)
    pub no : NotYet items w xs

  -- the probe turns yes at the row of the leaf in slot i, and the place is before it
  pub record Found (items : R → List I) (rs : List (Record R V)) (w : List I) (T : List R) (p : V) (i : ℕ) : Type 0 where
    pub row : R
    pub value : V
    pub xs : List R
    pub ys : List R
    pub text : T ≡ xs ++ (row ∷ ys)
    pub past : Past items w xs p
    pub yes : says (means (upto items w (xs ++ (row ∷ [])))) ≡ true
    pub at : At rs i (Leaf row value)
    pub right : value ≡ mean means items (row ∷ [])

  -- the probe turns yes at a row of T, and X is said of the rows before it and after it
  pub record Turns (items : R → List I) (w : List I) (T : List R) (X : List R → List R → Type 0) : Type 0 where
    pub row : R
    pub xs : List R
    pub ys : List R
    pub text : T ≡ xs ++ (row ∷ ys)
    pub no : NotYet items w xs
    pub yes : says (means (upto items w (xs ++ (row ∷ [])))) ≡ true
    pub rest : X xs ys

  -- among the rows T the probe turns yes at a leaf, or the place moves past them all
  abbrev pub Lands : (R → List I) → List (Record R V) → List I → List R → V → Result (Option ℕ) Unsound → Type 0
  Lands items rs w T p r = ((r ≡ Ok None) × Past items w T p) ⊎ ((i : ℕ) × (r ≡ Ok (Some i)) × Found items rs w T p i)

  -- at none of the rows is the probe yes
  abbrev pub Never : (R → List I) → List I → List R → Type 0
  Never items w T = (xs : List R) (x : R) (ys : List R) → T ≡ xs ++ (x ∷ ys) → says (means (upto items w (xs ++ (x ∷ [])))) ≡ false

  -- what a search among the rows T gives: the first row up to and with which the probe is yes, or none
  abbrev pub Finds : (R → List I) → List (Record R V) → List I → List R → V → Result (Option ℕ) Unsound → Type 0
  Finds items rs w T p r = ((r ≡ Ok None) × Past items w T p × Never items w T) ⊎ ((i : ℕ) × (r ≡ Ok (Some i)) × (f : Found items rs w T p i) × Never items w f.xs)
