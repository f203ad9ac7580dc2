-- A tree, or two, in slots beside a chain of free ones: what calls on trees start from.
use Rattle.std.specs.Prelude.{◌≡◌, List, ◌++◌, ℕ, ◌+◌, ◌≤◌, length}
use Rattle.std.specs.declared.option.Option.{Option}
use Rattle.slots.specs.Words.{Link, Digit, Tree, Record}
use Rattle.slots.specs.Ghost.{Arm, Finger, occ_list, head_of, part_of, tree_of, rows_part, rows, occ_part, occ, FitPart, Fit, Chain}
use Rattle.slots.specs.Values.{mean, wt}
use Rattle.measures.specs.Law.{heaviest}

-- more rows than any sound memory has
abbrev pub most : ℕ
most = 4100

-- more slots than any call takes
abbrev pub spare : ℕ
spare = 100

module _ {R I V : Type 0} (weigh : I → ℕ) (means : List I → V) where
  -- the slots hold the tree t and the chain fs, each slot at most once
  pub record Holds (items : R → List I) (rs : List (Record R V)) (f : Link) (tr : Tree) (t : Finger R V) (fs : List ℕ) : Type 0 where
    pub tree : tree_of t ≡ tr
    pub first : head_of fs ≡ f
    pub fit : Fit (mean means items) rs t 0
    pub chain : Chain rs fs
    pub once : (i : ℕ) → occ t i + occ_list fs i ≤ 1
    pub light : wt weigh items (rows t) ≤ heaviest
    pub small : length (rows t) ≤ most
    pub long : spare ≤ length fs

  -- the slots hold the trees l and r with up to four leaves between them, and the chain fs, each slot at most once
  pub record Beside (items : R → List I) (rs : List (Record R V)) (f : Link) (tl : Tree) (d : Option Digit) (tr : Tree) (l : Finger R V) (Q : Option (Arm R V)) (r : Finger R V) (fs : List ℕ) : Type 0 where
    pub left : tree_of l ≡ tl
    pub between : part_of Q ≡ d
    pub right : tree_of r ≡ tr
    pub first : head_of fs ≡ f
    pub fit_l : Fit (mean means items) rs l 0
    pub fit_q : FitPart (mean means items) rs Q 0
    pub fit_r : Fit (mean means items) rs r 0
    pub chain : Chain rs fs
    pub once : (i : ℕ) → occ l i + (occ_part Q i + (occ r i + occ_list fs i)) ≤ 1
    pub light : wt weigh items (rows l ++ (rows_part Q ++ rows r)) ≤ heaviest
    pub small : length (rows l ++ (rows_part Q ++ rows r)) ≤ most
    pub long : spare ≤ length fs
