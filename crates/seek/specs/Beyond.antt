-- What the searches after an element promise.
use Rattle.std.specs.Prelude.{◌≡◌, Bool, true, List, [], ◌++◌, ◌⊎◌, ℕ, ◌+◌, ◌≤◌, length}
use Rattle.std.specs.declared.option.Option.{Option}
use Rattle.std.specs.declared.option.Option.TheVariants.{None}
use Rattle.std.specs.declared.result.Result.{Result}
use Rattle.std.specs.declared.result.Result.TheVariants.{Ok}
use Rattle.seek.specs.Words.{Unsound, Digit, Tree, Record}
use Rattle.slots.specs.Ghost.{Twig, Arm, Finger, root, digit_of, part_of, tree_of, rows_twig, rows_arm, rows_part, rows, levels, FitTwig, FitArm, FitPart, Fit}
use Rattle.slots.specs.Holds.{most}
use Rattle.slots.specs.Values.{mean}
use Rattle.measures.specs.Law.{weights, heaviest}
use Rattle.seek.specs.Places.{upto, NotYet, Turns, Lands, Never, Finds}

module _ {R I V : Type 0} (weigh : I → ℕ) (means : List I → V) (until : V → Bool) where
  -- the rows X were searched, and then those of the digit
  pub record DigitThen (rs : List (Record R V)) (height : ℕ) (found : Result (Option ℕ) Unsound) (d : Option Digit) (p p' : V) (r : Result (Option ℕ) Unsound) : Type 0 where
    pub lands : (items : R → List I) (w : List I) (X : List R) (A : Option (Arm R V)) → part_of A ≡ d → FitPart (mean means items) rs A height → weights weigh (upto items w (X ++ rows_part A)) ≤ heaviest
        → Lands means until items rs w X p found → Lands means until items rs w (X ++ rows_part A) p' r

  -- the same of a tree
  pub record TreeThen (rs : List (Record R V)) (height : ℕ) (found : Result (Option ℕ) Unsound) (tr : Tree) (p p' : V) (r : Result (Option ℕ) Unsound) : Type 0 where
    pub lands : (items : R → List I) (w : List I) (X : List R) (t : Finger R V) → tree_of t ≡ tr → Fit (mean means items) rs t height → height + levels t ≤ 16 → weights weigh (upto items w (X ++ rows t)) ≤ heaviest
        → Lands means until items rs w X p found → Lands means until items rs w (X ++ rows t) p' r

module _ {R I V : Type 0} (means : List I → V) (from until : V → Bool) where
  -- a row of T turns the first probe to yes, and among the rows after it the second lands
  abbrev pub Beyond : (R → List I) → List (Record R V) → List I → List I → List R → V → Result (Option ℕ) Unsound → Type 0
  Beyond items rs v w T p r = Turns means from items v T (λ xs ys. Lands means until items rs w ys p r)

  -- or no row does
  abbrev pub AfterIn : (R → List I) → List (Record R V) → List I → List I → List R → V → V → Result (Option ℕ) Unsound → Type 0
  AfterIn items rs v w T p p' r = ((r ≡ Ok None) × (p' ≡ p) × NotYet means from items v T) ⊎ Beyond items rs v w T p' r

module _ {R I V : Type 0} (weigh : I → ℕ) (means : List I → V) (from until : V → Bool) where
  pub record TwigAfter (rs : List (Record R V)) (height i : ℕ) (s p p' : V) (r : Result (Option ℕ) Unsound) : Type 0 where
    pub seeks : (items : R → List I) (v w : List I) (u : Twig R V) → root u ≡ i → FitTwig (mean means items) rs u height → weights weigh (upto items v (rows_twig u)) ≤ heaviest → weights weigh (upto items w (rows_twig u)) ≤ heaviest
        → s ≡ means v → p ≡ means w → from (means (upto items v (rows_twig u))) ≡ true → Beyond means from until items rs v w (rows_twig u) p' r

  pub record DigitAfter (rs : List (Record R V)) (height : ℕ) (d : Digit) (s p p' : V) (r : Result (Option ℕ) Unsound) : Type 0 where
    pub seeks : (items : R → List I) (v w : List I) (A : Arm R V) → digit_of A ≡ d → FitArm (mean means items) rs A height → weights weigh (upto items v (rows_arm A)) ≤ heaviest → weights weigh (upto items w (rows_arm A)) ≤ heaviest
        → s ≡ means v → p ≡ means w → AfterIn means from until items rs v w (rows_arm A) p p' r

  pub record TreeAfter (rs : List (Record R V)) (height : ℕ) (tr : Tree) (s p p' : V) (r : Result (Option ℕ) Unsound) : Type 0 where
    pub seeks : (items : R → List I) (v w : List I) (t : Finger R V) → tree_of t ≡ tr → Fit (mean means items) rs t height → height + levels t ≤ 16 → weights weigh (upto items v (rows t)) ≤ heaviest → weights weigh (upto items w (rows t)) ≤ heaviest
        → s ≡ means v → p ≡ means w → AfterIn means from until items rs v w (rows t) p p' r

  -- The first probe judges the tree from its start; among the rows after the first at which it is yes, the second is
  -- sought for, read on from the place.
  pub record SoughtAfter (rs : List (Record R V)) (tr : Tree) (p p' : V) (r : Result (Option ℕ) Unsound) : Type 0 where
    pub seeks : (items : R → List I) (w : List I) (t : Finger R V) → tree_of t ≡ tr → Fit (mean means items) rs t 0 → length (rows t) ≤ most → weights weigh (upto items w (rows t)) ≤ heaviest → p ≡ means w
        → ((r ≡ Ok None) × (p' ≡ p) × Never means from items [] (rows t)) ⊎ Turns means from items [] (rows t) (λ xs ys. Never means from items [] xs × Finds means until items rs w ys p' r)
