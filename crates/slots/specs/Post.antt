-- What the calls of this crate promise.
use Rattle.std.specs.Prelude.{◌≡◌, List, [], ◌∷◌, ◌++◌, ℕ, zero, suc, ◌+◌, ◌≤◌, ◌<◌, min, length, set, drop}
use Rattle.std.specs.declared.option.Option.{Option}
use Rattle.std.specs.declared.option.Option.TheVariants.{None, Some}
use Rattle.std.specs.declared.result.Result.{Result}
use Rattle.std.specs.declared.result.Result.TheVariants.{Ok, Err}
use Rattle.slots.specs.Words.{Unsound, unsound, Link, Digit, Tree, Record, Free, Leaf}
use Rattle.slots.specs.Ghost.{Arm, Finger, head_of, digit_of, part_of, tree_of, rows_arm, rows_part, rows, FitArm, FitPart, Fit, Chain}
use Rattle.slots.specs.Values.{mean, wt}
use Rattle.measures.specs.Law.{heaviest}

-- how many slots of a slice are in play: no call reads or writes a later one
abbrev pub watched : ℕ → ℕ
watched n = min n 8316

-- n numbers from i on
abbrev pub counting : ℕ → ℕ → List ℕ
counting i zero = []
counting i (suc n) = i ∷ counting (i + 1) n

module _ {R V : Type 0} where
  -- every watched slot is free, in the order of the slice
  pub record LaidOut (rs rs' : List (Record R V)) (f : Link) : Type 0 where
    pub first : f ≡ head_of (counting 0 (watched (length rs)))
    pub chain : Chain rs' (counting 0 (watched (length rs)))
    pub len : length rs' ≡ length rs
    pub later : drop (watched (length rs)) rs' ≡ drop (watched (length rs)) rs

  -- the first slot of the chain
  pub record Taken (rs : List (Record R V)) (f f' : Link) (r : Result ℕ Unsound) : Type 0 where
    pub takes : (i : ℕ) (is : List ℕ) → f ≡ Some i → Chain rs (i ∷ is) → (r ≡ Ok i) × (f' ≡ head_of is)
    pub refuses : f ≡ None → (r ≡ Err unsound) × (f' ≡ f)

  pub record Wrote (rs rs' : List (Record R V)) (i : ℕ) (c : Record R V) (r : Result (Unit {0}) Unsound) : Type 0 where
    pub writes : i < length rs → (r ≡ Ok tt) × (rs' ≡ set rs i c)
    pub refuses : length rs ≤ i → (r ≡ Err unsound) × (rs' ≡ rs)

  -- slot i is the first of the chain
  pub record Given (rs rs' : List (Record R V)) (f f' : Link) (i : ℕ) (r : Result (Unit {0}) Unsound) : Type 0 where
    pub gives : i < length rs → (r ≡ Ok tt) × (f' ≡ Some i) × (rs' ≡ set rs i (Free f))
    pub refuses : length rs ≤ i → (r ≡ Err unsound) × (f' ≡ f) × (rs' ≡ rs)

  -- the first slot of the chain holds the leaf
  pub record LeafPut (rs rs' : List (Record R V)) (f f' : Link) (row : R) (v : V) (r : Result ℕ Unsound) : Type 0 where
    pub puts : (i : ℕ) (is : List ℕ) → f ≡ Some i → Chain rs (i ∷ is) → (r ≡ Ok i) × (f' ≡ head_of is) × (rs' ≡ set rs i (Leaf row v))
    pub refuses : f ≡ None → (r ≡ Err unsound) × (f' ≡ f) × (rs' ≡ rs)

  module _ {I : Type 0} (weigh : I → ℕ) (means : List I → V) where
    pub record DigitValued (rs : List (Record R V)) (d : Digit) (r : Result V Unsound) : Type 0 where
      pub values : (items : R → List I) (a : Arm R V) (k : ℕ) → digit_of a ≡ d → FitArm (mean means items) rs a k → wt weigh items (rows_arm a) ≤ heaviest → r ≡ Ok (mean means items (rows_arm a))

    pub record PartValued (rs : List (Record R V)) (d : Option Digit) (r : Result V Unsound) : Type 0 where
      pub values : (items : R → List I) (a : Option (Arm R V)) (k : ℕ) → part_of a ≡ d → FitPart (mean means items) rs a k → wt weigh items (rows_part a) ≤ heaviest → r ≡ Ok (mean means items (rows_part a))

    pub record TreeValued (rs : List (Record R V)) (tr : Tree) (r : Result V Unsound) : Type 0 where
      pub values : (items : R → List I) (t : Finger R V) (k : ℕ) → tree_of t ≡ tr → Fit (mean means items) rs t k → r ≡ Ok (mean means items (rows t))

    pub record LevelValued (rs : List (Record R V)) (f : Digit) (tr : Tree) (b : Digit) (r : Result V Unsound) : Type 0 where
      pub values : (items : R → List I) (F : Arm R V) (m : Finger R V) (B : Arm R V) (k j : ℕ) → digit_of F ≡ f → tree_of m ≡ tr → digit_of B ≡ b
          → FitArm (mean means items) rs F k → Fit (mean means items) rs m j → FitArm (mean means items) rs B k
          → wt weigh items ((rows_arm F ++ rows m) ++ rows_arm B) ≤ heaviest → r ≡ Ok (mean means items ((rows_arm F ++ rows m) ++ rows_arm B))
