-- What giving back the slots of a tree promises.
use Rattle.std.specs.Prelude.{◌≡◌, ℕ, suc, ◌+◌, ◌<◌, ◌≤◌, min, List, length, Some, None, Ok, Option, Result, slice_index_or}
use Rattle.slots.specs.declared.records.Unsound.{Unsound}
use Rattle.slots.specs.Words.{Link}
use Rattle.slots.specs.declared.records.Digit.{Digit}
use Rattle.slots.specs.declared.records.Tree.{Tree}
use Rattle.slots.specs.declared.records.Record.{Record}
use Rattle.slots.specs.declared.records.Record.TheVariants.{Free}
use Rattle.slots.specs.Ghost.{Arm, Finger, occ_list, head_of, none, part_of, tree_of, rows_part, rows, levels, occ_part, occ, FitPart, Fit, Chain, Off, Calm}
use Rattle.slots.specs.Holds.{most}

-- the leaves of a twig, of which n lie below it
abbrev pub counted : Option Digit → ℕ → ℕ
counted None n = 1
counted (Some d) n = n

-- what a count of n leaves comes to: it stops at the largest u32
abbrev pub stopped : ℕ → ℕ
stopped n = min n 4294967295

module _ {R V : Type 0} where
  -- how much fuel twigs take that are k high
  abbrev pub reach : Option (Arm R V) → ℕ → ℕ
  reach None k = 0
  reach (Some A) k = suc k

  -- the slots that τ counts are in the chain now; n leaves lay in them
  pub record Back (rs rs' : List (Record R V)) (f' : Link) (r : Result ℕ Unsound) (τ : ℕ → ℕ) (n : ℕ) (fs : List ℕ) : Type 0 where
    pub fs' : List ℕ
    pub ok : r ≡ Ok n
    pub first : head_of fs' ≡ f'
    pub chain : Chain rs' fs'
    pub kept : (i : ℕ) → occ_list fs' i ≡ τ i + occ_list fs i
    pub frame : Off rs rs' τ
    pub calm : (i : ℕ) → Calm (slice_index_or rs i none) (slice_index_or rs' i none)

  -- What was free stays as it was: whatever the slots hold, none is freed twice.
  pub record FreeKept (rs rs' : List (Record R V)) : Type 0 where
    pub stays : (i : ℕ) (n : Link) → slice_index_or rs i none ≡ Free n → slice_index_or rs' i none ≡ Free n

  pub record PartReleased (rs rs' : List (Record R V)) (f f' : Link) (fuel : ℕ) (p : Option Digit) (r : Result ℕ Unsound) : Type 0 where
    pub frees : (mean : List R → V) (P : Option (Arm R V)) (fs : List ℕ) (k : ℕ) → part_of P ≡ p → head_of fs ≡ f → FitPart mean rs P k → Chain rs fs → ((i : ℕ) → occ_part P i + occ_list fs i ≤ 1) → reach P k ≤ fuel
        → Back rs rs' f' r (occ_part P) (stopped (length (rows_part P))) fs
    pub free_kept : FreeKept rs rs'

  pub record TreeReleased (rs rs' : List (Record R V)) (f f' : Link) (fuel : ℕ) (tr : Tree) (r : Result ℕ Unsound) : Type 0 where
    pub frees : (mean : List R → V) (t : Finger R V) (fs : List ℕ) (k : ℕ) → tree_of t ≡ tr → head_of fs ≡ f → Fit mean rs t k → Chain rs fs → ((i : ℕ) → occ t i + occ_list fs i ≤ 1) → levels t ≤ fuel → k + levels t < 16
        → Back rs rs' f' r (occ t) (stopped (length (rows t))) fs
    pub free_kept : FreeKept rs rs'

  pub record Released (rs rs' : List (Record R V)) (f f' : Link) (tr : Tree) (r : Result ℕ Unsound) : Type 0 where
    pub frees : (mean : List R → V) (t : Finger R V) (fs : List ℕ) → tree_of t ≡ tr → head_of fs ≡ f → Fit mean rs t 0 → Chain rs fs → ((i : ℕ) → occ t i + occ_list fs i ≤ 1) → length (rows t) ≤ most
        → Back rs rs' f' r (occ t) (length (rows t)) fs
    pub free_kept : FreeKept rs rs'
