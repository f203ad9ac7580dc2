-- What the marks' tree promises under edits.
use Rattle.std.specs.Prelude.{◌≡◌, ℕ, ◌+◌, ◌*◌, ◌<◌, ◌≤◌, List, length, Ok, Result, slice_index_or}
use Rattle.plain.specs.Machine.{limit}
use Rattle.plain.specs.Marks.{grown, shrunk, marked}
use Rattle.plain.specs.declared.answers.Mark.{Mark}
use Rattle.measures.specs.MarkTotals.{gaps, placed}
use Rattle.measures.specs.declared.mark_totals.MarkRow.{MarkRow}
use Rattle.measures.specs.declared.mark_totals.MarkTotals.{MarkTotals}
use Rattle.slots.specs.Ghost.{Finger, occ_list, none, tree_of, rows, levels, Fit, Calm}
use Rattle.slots.specs.declared.records.Unsound.{Unsound}
use Rattle.slots.specs.Words.{Link}
use Rattle.slots.specs.declared.records.Tree.{Tree}
use Rattle.slots.specs.declared.records.Record.{Record}
use Rattle.pieces.specs.Sound.{mark_mean, Laid}
pub use Rattle.mark_moves.specs.Parting.{farthest}

-- The slots hold a tree of the marks H beside the chain; at most 4 new nodes for each of its levels and `leaves` more records are new.
pub record MarksMade (ms ms' : List (Record MarkRow MarkTotals)) (f' : Link) (r : Result Tree Unsound) (H : List Mark) (leaves : ℕ) : Type 0 where
  pub u' : Finger MarkRow MarkTotals
  pub gs' : List ℕ
  pub js : List ℕ
  pub ok : r ≡ Ok (tree_of u')
  pub laid : Laid mark_mean ms' f' (tree_of u') u' gs'
  pub len : length ms' ≡ length ms
  pub marks : placed 0 (rows u') ≡ H
  pub few : length js ≤ 4 * levels u' + leaves
  pub fresh : (i : ℕ) → occ_list js i ≡ 0 → Calm (slice_index_or ms i none) (slice_index_or ms' i none)

-- n bytes more at p
pub record MarksGrown (ms ms' : List (Record MarkRow MarkTotals)) (f f' : Link) (tr : Tree) (p n : ℕ) (r : Result Tree Unsound) : Type 0 where
  pub grows : (u : Finger MarkRow MarkTotals) (gs : List ℕ) → Laid mark_mean ms f tr u gs → gaps (rows u) + n ≤ farthest
      → MarksMade ms ms' f' r (grown p n (placed 0 (rows u))) 1

-- the bytes from a to b gone
pub record MarksShrunk (ms ms' : List (Record MarkRow MarkTotals)) (f f' : Link) (tr : Tree) (a b : ℕ) (r : Result Tree Unsound) : Type 0 where
  pub shrinks : (u : Finger MarkRow MarkTotals) (gs : List ℕ) → Laid mark_mean ms f tr u gs → a < b → gaps (rows u) ≤ farthest
      → MarksMade ms ms' f' r (shrunk a b (placed 0 (rows u))) 1

-- one mark more at q
pub record MarkPut (ms ms' : List (Record MarkRow MarkTotals)) (f f' : Link) (tr : Tree) (q l : ℕ) (r : Result Tree Unsound) : Type 0 where
  pub puts : (u : Finger MarkRow MarkTotals) (gs : List ℕ) → Laid mark_mean ms f tr u gs → length (rows u) < limit (length ms) → q ≤ farthest → gaps (rows u) ≤ farthest
      → MarksMade ms ms' f' r (marked q l (placed 0 (rows u))) 2

pub record MarksCounted (ms : List (Record MarkRow MarkTotals)) (tr : Tree) (r : Result ℕ Unsound) : Type 0 where
  pub tells : (u : Finger MarkRow MarkTotals) → tree_of u ≡ tr → Fit mark_mean ms u 0 → r ≡ Ok (length (rows u))
