-- What visiting slots says. A visited slot is marked, so that a second visit of it is refused.
use Rattle.std.specs.Prelude.{◌≢◌, ◌≡◌, List, [], ◌∷◌, map, ℕ, suc, ◌+◌, ◌≤◌, length, get_or, set}
use Rattle.std.specs.List.{AllByRecursion}
use Rattle.measures.specs.Law.{heaviest}
use Rattle.std.specs.declared.result.Result.{Result}
use Rattle.std.specs.declared.result.Result.TheVariants.{Ok, Err}
use Rattle.audit.specs.Words.{Unsound, Link, Digit, Tree, Record}
use Rattle.slots.specs.Ghost.{Twig, Arm, Finger, occ_list, head_of, root, digit_of, tree_of, rows_twig, rows_arm, rows, levels, occ_twig, occ_arm, occ, At, FitTwig, FitArm, Fit, Chain}
use Rattle.slots.specs.Values.{mean, wt}
use Rattle.slots.specs.Theorems.{occ_trees}
use Rattle.audit.specs.Checks.{Rules, Stays, Run}
use Rattle.audit.specs.Sound.{rows_trees, FitTrees}
use Rattle.audit.specs.declared.budget.Budget.{Budget}

-- 1 for a marked slot; where there is no scratch byte, as if it were marked
abbrev pub mark : List ℕ → ℕ → ℕ
mark marks i = get_or marks i 1

-- how many slots are not marked
abbrev pub unmarked : List ℕ → ℕ
unmarked marks = occ_list marks 0

-- the most levels of a tree of at most 65,535 elements
abbrev pub deepest : ℕ
deepest = 15

-- where a visit begins or ends: the marks, what is left of the limits, and the source that leaves are checked by
pub record Moment (S : Type 0) : Type 0 where
  pub marks : List ℕ
  pub budget : Budget
  pub source : S

abbrev pub moment : {S : Type 0} → List ℕ → Budget → S → Moment S
moment marks budget source = record { marks = marks; budget = budget; source = source }

-- one element of weight n is within what is left, and taken from it
pub record Within (b b' : Budget) (n : ℕ) : Type 0 where
  pub elements : b.elements ≡ b'.elements + 1
  pub weight : b.weight ≡ b'.weight + n

abbrev pub Spends : Budget → Budget → ℕ → Result (Unit {0}) Unsound → Type 0
Spends b b' n (Ok u) = Within b b' n
Spends b b' n (Err e) = 1 ≤ b.elements → n ≤ b.weight → ⊥

pub record Spent (b b' : Budget) (n : ℕ) (r : Result (Unit {0}) Unsound) : Type 0 where
  pub says : Spends b b' n r

-- r says whether the value found is v
abbrev pub Confirms : {V : Type 0} → Result V Unsound → V → Result (Unit {0}) Unsound → Type 0
Confirms found v (Ok u) = found ≡ Ok v
Confirms found v (Err e) = found ≡ Ok v → ⊥

pub record Confirmed {V : Type 0} (found : Result V Unsound) (v : V) (r : Result (Unit {0}) Unsound) : Type 0 where
  pub says : Confirms found v r

module _ {R V : Type 0} where
  abbrev pub Low : List (Finger R V) → Type 0
  Low [] = Unit {0}
  Low (t ∷ ts) = (levels t ≤ deepest) × Low ts

  -- slot i holds c and was not marked
  pub record Enter (rs : List (Record R V)) (s s' : List ℕ) (i : ℕ) (c : Record R V) : Type 0 where
    pub at : At rs i c
    pub fresh : mark s i ≡ 0
    pub sets : s' ≡ set s i 1

  abbrev pub Enters : List (Record R V) → List ℕ → List ℕ → ℕ → Result (Record R V) Unsound → Type 0
  Enters rs s s' i (Ok c) = Enter rs s s' i c
  Enters rs s s' i (Err e) = (s' ≡ s) × ((c : Record R V) → At rs i c → mark s i ≢ 0)

  pub record Entered (rs : List (Record R V)) (s s' : List ℕ) (i : ℕ) (r : Result (Record R V) Unsound) : Type 0 where
    pub says : Enters rs s s' i r

  -- the chain that a link leads to, all of whose slots were unmarked and now are marked
  pub record ChainFound (rs : List (Record R V)) (l : Link) (s s' : List ℕ) : Type 0 where
    pub it : List ℕ
    pub first : head_of it ≡ l
    pub chained : Chain rs it
    pub marks : (j : ℕ) → mark s' j ≡ mark s j + occ_list it j
    pub once : (j : ℕ) → mark s j ≤ 1 → mark s' j ≤ 1

  abbrev pub NoChain : List (Record R V) → Link → List ℕ → Type 0
  NoChain rs l s = (fs : List ℕ) → head_of fs ≡ l → Chain rs fs → ((j : ℕ) → mark s j + occ_list fs j ≤ 1) → ⊥

  abbrev pub ChainCases : List (Record R V) → Link → List ℕ → List ℕ → Result (Unit {0}) Unsound → Type 0
  ChainCases rs l s s' (Ok u) = ChainFound rs l s s'
  ChainCases rs l s s' (Err e) = NoChain rs l s

  pub record ChainVisited (rs : List (Record R V)) (l : Link) (s s' : List ℕ) (r : Result (Unit {0}) Unsound) : Type 0 where
    pub says : ChainCases rs l s s' r

-- A kind of ghost: its rows, how often it names a slot, and when it is there. The first argument of Is is the value of rows.
pub record Kind (R V : Type 0) : Type 1 where
  pub T : Type 0
  pub text : T → List R
  pub names : T → ℕ → ℕ
  pub Is : (List R → V) → T → Type 0

module _ {R V : Type 0} (rs : List (Record R V)) where
  pub record IsTwig (k i : ℕ) (mean : List R → V) (t : Twig R V) : Type 0 where
    pub root_is : root t ≡ i
    pub fit : FitTwig mean rs t k

  pub record IsArm (k : ℕ) (d : Digit) (mean : List R → V) (a : Arm R V) : Type 0 where
    pub root_is : digit_of a ≡ d
    pub fit : FitArm mean rs a k

  -- the parts of a node that is h high and has the value v
  pub record IsNode (h : ℕ) (d : Digit) (v : V) (mean : List R → V) (a : Arm R V) : Type 0 where
    pub k : ℕ
    pub height : h ≡ suc k
    pub root_is : digit_of a ≡ d
    pub fit : FitArm mean rs a k
    pub value : v ≡ mean (rows_arm a)

  pub record IsTree (k : ℕ) (t : Tree) (mean : List R → V) (f : Finger R V) : Type 0 where
    pub root_is : tree_of f ≡ t
    pub fit : Fit mean rs f k
    pub low : levels f + k ≤ deepest

  pub record AreTrees (roots : List Tree) (mean : List R → V) (ts : List (Finger R V)) : Type 0 where
    pub roots_are : map tree_of ts ≡ roots
    pub fits : FitTrees mean rs ts
    pub low : Low ts

  abbrev pub twig_at : ℕ → ℕ → Kind R V
  twig_at k i = record { T = Twig R V; text = rows_twig; names = occ_twig; Is = IsTwig k i }

  abbrev pub arm_at : ℕ → Digit → Kind R V
  arm_at k d = record { T = Arm R V; text = rows_arm; names = occ_arm; Is = IsArm k d }

  abbrev pub node_at : ℕ → Digit → V → Kind R V
  node_at h d v = record { T = Arm R V; text = rows_arm; names = occ_arm; Is = IsNode h d v }

  abbrev pub tree_at : ℕ → Tree → Kind R V
  tree_at k t = record { T = Finger R V; text = rows; names = occ; Is = IsTree k t }

  abbrev pub trees_at : List Tree → Kind R V
  trees_at roots = record { T = List (Finger R V); text = rows_trees; names = occ_trees; Is = AreTrees roots }

module _ {R I V S : Type 0} (w : Rules R I V S) where
  -- the value of rows, and their weight, at that moment
  abbrev pub mean_at : Moment S → List R → V
  mean_at m = mean w.means (w.items m.source)

  abbrev pub wt_at : Moment S → List R → ℕ
  wt_at m = wt w.weigh (w.items m.source)

  -- a ghost of the kind: its rows are the ones checked, its slots were unmarked and now are marked
  pub record Found (K : Kind R V) (m m' : Moment S) (xs : List R) : Type 0 where
    pub it : K.T
    pub is : K.Is (mean_at m) it
    pub each : xs ≡ K.text it
    pub good_rows : AllByRecursion (w.good m.source) xs
    pub elements : m.budget.elements ≡ m'.budget.elements + length xs
    pub weight : m.budget.weight ≡ m'.budget.weight + wt_at m xs
    pub marks : (j : ℕ) → mark m'.marks j ≡ mark m.marks j + K.names it j
    pub once : (j : ℕ) → mark m.marks j ≤ 1 → mark m'.marks j ≤ 1

  -- there is none of good rows, within what is left of the limits and apart from the marked slots
  abbrev pub Nowhere : Kind R V → Moment S → Type 0
  Nowhere K m = (t : K.T) → K.Is (mean_at m) t → AllByRecursion (w.good m.source) (K.text t) → length (K.text t) ≤ m.budget.elements → wt_at m (K.text t) ≤ m.budget.weight
      → ((j : ℕ) → mark m.marks j + K.names t j ≤ 1) → ⊥

  abbrev pub Cases : Kind R V → Moment S → Moment S → List R → Result (Unit {0}) Unsound → Type 0
  Cases K m m' xs (Ok u) = Found K m m' xs
  Cases K m m' xs (Err e) = Nowhere K m

  -- from m to m' by a visit
  pub record Visited (K : Kind R V) (m m' : Moment S) (r : Result (Unit {0}) Unsound) : Type 0 where
    pub checked : List R
    pub ran : Run w.checks m.source checked m'.source
    pub at_most : length checked + unmarked m'.marks ≤ unmarked m.marks
    pub stays : Stays w.items w.good m.source m'.source
    pub says : m.budget.weight ≤ heaviest → Cases K m m' checked r
