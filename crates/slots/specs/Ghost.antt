-- The trees that slots may hold, and when they hold them.
use Rattle.std.specs.Prelude.{◌≡◌, Bool, true, false, cond, List, [], ◌∷◌, ◌++◌, ◌⊎◌, ℕ, zero, suc, ◌+◌, ◌<◌, length, get_or, ◌==◌, nat_lt}
use Rattle.std.specs.declared.option.Option.{Option}
use Rattle.std.specs.declared.option.Option.TheVariants.{None, Some}
use Rattle.slots.specs.Words.{Link, Digit, One, Two, Three, Four, Tree, Empty, Single, Deep, Record, Free, Leaf, Node2, Node3, Level}

-- a leaf or a node: its slot, its value, and the row or the twigs below it
pub data Twig (R V : Type 0) : Type 0 where
  leaf : ℕ → R → V → Twig R V
  two : ℕ → V → Twig R V → Twig R V → Twig R V
  three : ℕ → V → Twig R V → Twig R V → Twig R V → Twig R V

-- the twigs of a digit
pub data Arm (R V : Type 0) : Type 0 where
  a1 : Twig R V → Arm R V
  a2 : Twig R V → Twig R V → Arm R V
  a3 : Twig R V → Twig R V → Twig R V → Arm R V
  a4 : Twig R V → Twig R V → Twig R V → Twig R V → Arm R V

-- a finger tree: a level has its slot, its value, the front digit, the middle and the back digit
pub data Finger (R V : Type 0) : Type 0 where
  nil : Finger R V
  one : Twig R V → Finger R V
  deep : ℕ → V → Arm R V → Finger R V → Arm R V → Finger R V

-- 1 where the two are one slot, else 0
unfoldable pub same : ℕ → ℕ → ℕ
same i k = cond (i == k) 1 0

-- 1 for each of the first w slots, else 0
unfoldable pub named : ℕ → ℕ → ℕ
named w i = cond (nat_lt i w) 1 0

-- how often a list names slot k
abbrev pub occ_list : List ℕ → ℕ → ℕ
occ_list [] k = 0
occ_list (i ∷ is) k = same i k + occ_list is k

abbrev pub head_of : List ℕ → Link
head_of [] = None
head_of (i ∷ is) = Some i

module _ {R V : Type 0} where
  -- what is read where there is no slot
  abbrev pub none : Record R V
  none = Free None

  abbrev pub root : Twig R V → ℕ
  root (leaf i row v) = i
  root (two i v l r) = i
  root (three i v l m r) = i

  abbrev pub digit_of : Arm R V → Digit
  digit_of (a1 a) = One (root a)
  digit_of (a2 a b) = Two (root a) (root b)
  digit_of (a3 a b c) = Three (root a) (root b) (root c)
  digit_of (a4 a b c d) = Four (root a) (root b) (root c) (root d)

  -- up to four twigs
  abbrev pub part_of : Option (Arm R V) → Option Digit
  part_of None = None
  part_of (Some a) = Some (digit_of a)

  abbrev pub tree_of : Finger R V → Tree
  tree_of nil = Empty
  tree_of (one w) = Single (root w)
  tree_of (deep i v f m b) = Deep i

  -- the rows of the leaves, from front to back
  abbrev pub rows_twig : Twig R V → List R
  rows_twig (leaf i row v) = row ∷ []
  rows_twig (two i v l r) = rows_twig l ++ rows_twig r
  rows_twig (three i v l m r) = (rows_twig l ++ rows_twig m) ++ rows_twig r

  abbrev pub rows_arm : Arm R V → List R
  rows_arm (a1 a) = rows_twig a
  rows_arm (a2 a b) = rows_twig a ++ rows_twig b
  rows_arm (a3 a b c) = (rows_twig a ++ rows_twig b) ++ rows_twig c
  rows_arm (a4 a b c d) = ((rows_twig a ++ rows_twig b) ++ rows_twig c) ++ rows_twig d

  abbrev pub rows_part : Option (Arm R V) → List R
  rows_part None = []
  rows_part (Some a) = rows_arm a

  abbrev pub rows : Finger R V → List R
  rows nil = []
  rows (one w) = rows_twig w
  rows (deep i v f m b) = (rows_arm f ++ rows m) ++ rows_arm b

  -- not empty
  abbrev pub Full : Finger R V → Type 0
  Full nil = ⊥
  Full (one w) = Unit {0}
  Full (deep i v f m b) = Unit {0}

  abbrev pub levels : Finger R V → ℕ
  levels nil = 0
  levels (one w) = 0
  levels (deep i v f m b) = suc (levels m)

  abbrev pub size : Arm R V → ℕ
  size (a1 a) = 1
  size (a2 a b) = 2
  size (a3 a b c) = 3
  size (a4 a b c d) = 4

  abbrev pub size_part : Option (Arm R V) → ℕ
  size_part None = 0
  size_part (Some a) = size a

  -- how often a tree names slot k
  abbrev pub occ_twig : Twig R V → ℕ → ℕ
  occ_twig (leaf i row v) k = same i k
  occ_twig (two i v l r) k = same i k + (occ_twig l k + occ_twig r k)
  occ_twig (three i v l m r) k = same i k + (occ_twig l k + (occ_twig m k + occ_twig r k))

  abbrev pub occ_arm : Arm R V → ℕ → ℕ
  occ_arm (a1 a) k = occ_twig a k
  occ_arm (a2 a b) k = occ_twig a k + occ_twig b k
  occ_arm (a3 a b c) k = occ_twig a k + (occ_twig b k + occ_twig c k)
  occ_arm (a4 a b c d) k = occ_twig a k + (occ_twig b k + (occ_twig c k + occ_twig d k))

  abbrev pub occ_part : Option (Arm R V) → ℕ → ℕ
  occ_part None k = 0
  occ_part (Some a) k = occ_arm a k

  abbrev pub occ : Finger R V → ℕ → ℕ
  occ nil k = 0
  occ (one w) k = occ_twig w k
  occ (deep i v f m b) k = same i k + (occ_arm f k + (occ m k + occ_arm b k))

  pub record At (rs : List (Record R V)) (i : ℕ) (c : Record R V) : Type 0 where
    pub within : i < length rs
    pub is : get_or rs i none ≡ c

  -- the slots hold the twig, whose leaves are k nodes down, and each value is that of the rows below
  abbrev pub FitTwig : (List R → V) → List (Record R V) → Twig R V → ℕ → Type 0
  FitTwig mean rs (leaf i row v) zero = At rs i (Leaf row v) × (v ≡ mean (row ∷ []))
  FitTwig mean rs (leaf i row v) (suc k) = ⊥
  FitTwig mean rs (two i v l r) zero = ⊥
  FitTwig mean rs (two i v l r) (suc k) = At rs i (Node2 (root l) (root r) v) × (v ≡ mean (rows_twig l ++ rows_twig r)) × FitTwig mean rs l k × FitTwig mean rs r k
  FitTwig mean rs (three i v l m r) zero = ⊥
  FitTwig mean rs (three i v l m r) (suc k) = At rs i (Node3 (root l) (root m) (root r) v) × (v ≡ mean ((rows_twig l ++ rows_twig m) ++ rows_twig r)) × FitTwig mean rs l k × FitTwig mean rs m k × FitTwig mean rs r k

  abbrev pub FitArm : (List R → V) → List (Record R V) → Arm R V → ℕ → Type 0
  FitArm mean rs (a1 a) k = FitTwig mean rs a k
  FitArm mean rs (a2 a b) k = FitTwig mean rs a k × FitTwig mean rs b k
  FitArm mean rs (a3 a b c) k = FitTwig mean rs a k × FitTwig mean rs b k × FitTwig mean rs c k
  FitArm mean rs (a4 a b c d) k = FitTwig mean rs a k × FitTwig mean rs b k × FitTwig mean rs c k × FitTwig mean rs d k

  abbrev pub FitPart : (List R → V) → List (Record R V) → Option (Arm R V) → ℕ → Type 0
  FitPart mean rs None k = Unit {0}
  FitPart mean rs (Some a) k = FitArm mean rs a k

  abbrev pub Fit : (List R → V) → List (Record R V) → Finger R V → ℕ → Type 0
  Fit mean rs nil k = Unit {0}
  Fit mean rs (one w) k = FitTwig mean rs w k
  Fit mean rs (deep i v f m b) k = At rs i (Level (digit_of f) (tree_of m) (digit_of b) v) × (v ≡ mean ((rows_arm f ++ rows m) ++ rows_arm b)) × FitArm mean rs f k × Fit mean rs m (suc k) × FitArm mean rs b k

  -- the slots hold the chain
  abbrev pub Chain : List (Record R V) → List ℕ → Type 0
  Chain rs [] = Unit {0}
  Chain rs (i ∷ is) = At rs i (Free (head_of is)) × Chain rs is

  -- the second list differs from the first only at slots that τ counts
  pub record Off (rs rs' : List (Record R V)) (τ : ℕ → ℕ) : Type 0 where
    pub len : length rs' ≡ length rs
    pub reads : (i : ℕ) → τ i ≡ 0 → get_or rs' i none ≡ get_or rs i none

  -- free or a level
  abbrev pub loose : Record R V → Bool
  loose (Free n) = true
  loose (Leaf row v) = false
  loose (Node2 a b v) = false
  loose (Node3 a b c v) = false
  loose (Level f m b v) = true

  -- no new leaf or node lies in a slot that held the first record and holds the second
  abbrev pub Calm : Record R V → Record R V → Type 0
  Calm old new = (loose new ≡ true) ⊎ (new ≡ old)
