-- What rows mean and weigh, and what is read from a record.
use Rattle.std.specs.Prelude.{◌≡◌, List, [], ◌∷◌, ◌++◌, ℕ, ◌≤◌}
use Rattle.std.specs.declared.option.Option.{Option}
use Rattle.std.specs.declared.option.Option.TheVariants.{None, Some}
use Rattle.std.specs.declared.result.Result.{Result}
use Rattle.std.specs.declared.result.Result.TheVariants.{Ok, Err}
use Rattle.slots.specs.Words.{Unsound, unsound, Link, Digit, One, Two, Three, Four, Record, Free, Leaf, Node2, Node3, Level, Spine}
use Rattle.measures.specs.Law.{weights, heaviest}

-- the items that rows stand for
abbrev pub flat : {R I : Type 0} → (R → List I) → List R → List I
flat items [] = []
flat items (x ∷ xs) = items x ++ flat items xs

-- the value of rows
abbrev pub mean : {R I V : Type 0} → (List I → V) → (R → List I) → List R → V
mean means items xs = means (flat items xs)

-- the weight of rows
abbrev pub wt : {R I : Type 0} → (I → ℕ) → (R → List I) → List R → ℕ
wt weigh items xs = weights weigh (flat items xs)

-- the join of two values, where there are two
pub record JoinedOk {I V : Type 0} (weigh : I → ℕ) (means : List I → V) (a b r : Result V Unsound) : Type 0 where
  pub joins : (xs ys : List I) → weights weigh (xs ++ ys) ≤ heaviest → a ≡ Ok (means xs) → b ≡ Ok (means ys) → r ≡ Ok (means (xs ++ ys))

module _ {R V : Type 0} where
  abbrev pub value_in : Record R V → Result V Unsound
  value_in (Free n) = Err unsound
  value_in (Leaf row v) = Ok v
  value_in (Node2 a b v) = Ok v
  value_in (Node3 a b c v) = Ok v
  value_in (Level f m b v) = Ok v

  abbrev pub row_in : Record R V → Result R Unsound
  row_in (Free n) = Err unsound
  row_in (Leaf row v) = Ok row
  row_in (Node2 a b v) = Err unsound
  row_in (Node3 a b c v) = Err unsound
  row_in (Level f m b v) = Err unsound

  -- the slot after a free one
  abbrev pub next_in : Record R V → Result Link Unsound
  next_in (Free n) = Ok n
  next_in (Leaf row v) = Err unsound
  next_in (Node2 a b v) = Err unsound
  next_in (Node3 a b c v) = Err unsound
  next_in (Level f m b v) = Err unsound

  -- the parts of a node
  abbrev pub parts_in : Record R V → Result Digit Unsound
  parts_in (Free n) = Err unsound
  parts_in (Leaf row v) = Err unsound
  parts_in (Node2 a b v) = Ok (Two a b)
  parts_in (Node3 a b c v) = Ok (Three a b c)
  parts_in (Level f m b v) = Err unsound

  -- what lies below a leaf or a node: nothing, or its parts
  abbrev pub below_in : Record R V → Result (Option Digit) Unsound
  below_in (Free n) = Err unsound
  below_in (Leaf row v) = Ok None
  below_in (Node2 a b v) = Ok (Some (Two a b))
  below_in (Node3 a b c v) = Ok (Some (Three a b c))
  below_in (Level f m b v) = Err unsound

  abbrev pub spine_in : Record R V → Result Spine Unsound
  spine_in (Free n) = Err unsound
  spine_in (Leaf row v) = Err unsound
  spine_in (Node2 a b v) = Err unsound
  spine_in (Node3 a b c v) = Err unsound
  spine_in (Level f m b v) = Ok (record { front = f; middle = m; back = b })

  -- the node of a digit's slots, where it has two or three
  abbrev pub node_of : Digit → V → Result (Record R V) Unsound
  node_of (One a) v = Err unsound
  node_of (Two a b) v = Ok (Node2 a b v)
  node_of (Three a b c) v = Ok (Node3 a b c v)
  node_of (Four a b c d) v = Err unsound
