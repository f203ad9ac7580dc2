-- What closing the marks promises where bytes leave the text.
use Rattle.std.specs.Prelude.{◌≡◌, ℕ, ◌<◌, ◌≤◌, List, length, Ok, Result}
use Rattle.plain.specs.Marks.{shrunk}
use Rattle.plain.specs.declared.answers.Mark.{Mark}
use Rattle.measures.specs.MarkTotals.{gaps, placed}
use Rattle.measures.specs.declared.mark_totals.MarkRow.{MarkRow}
use Rattle.measures.specs.declared.mark_totals.MarkTotals.{MarkTotals}
use Rattle.slots.specs.Ghost.{Finger, rows}
use Rattle.slots.specs.declared.records.Unsound.{Unsound}
use Rattle.slots.specs.Words.{Link}
use Rattle.slots.specs.declared.records.Tree.{Tree}
use Rattle.slots.specs.declared.records.Record.{Record}
use Rattle.pieces.specs.Sound.{mark_mean, Laid}
use Rattle.mark_moves.specs.Moved.{farthest, MarksMade}
use Rattle.head_edits.specs.declared.closing.MarksLeft as code

-- The marks' tree is one of the marks H, which are counted.
pub record LeftMade (ms ms' : List (Record MarkRow MarkTotals)) (f' : Link) (r : Result code.MarksLeft Unsound) (H : List Mark) : Type 0 where
  pub tree : Tree
  pub made : MarksMade ms ms' f' (Ok tree) H 1
  pub ok : r ≡ Ok (record { tree = tree; count = length H })

-- The bytes from a to b are gone.
pub record MarksClosed (ms ms' : List (Record MarkRow MarkTotals)) (f f' : Link) (tr : Tree) (a b : ℕ) (r : Result code.MarksLeft Unsound) : Type 0 where
  pub closes : (u : Finger MarkRow MarkTotals) (gs : List ℕ) → Laid mark_mean ms f tr u gs → a < b → gaps (rows u) ≤ farthest → LeftMade ms ms' f' r (shrunk a b (placed 0 (rows u)))
