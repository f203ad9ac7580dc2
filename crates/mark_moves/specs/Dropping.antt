-- What dropping marks promises.
use Rattle.std.specs.Prelude.{◌≡◌, ℕ, ◌+◌, ◌-◌, ◌<◌, ◌≤◌, List, ◌++◌, length, Result}
use Rattle.plain.specs.Marks.{shrunk}
use Rattle.measures.specs.MarkTotals.{gaps, totals_of_marks, placed}
use Rattle.measures.specs.declared.mark_totals.MarkRow.{MarkRow}
use Rattle.measures.specs.declared.mark_totals.MarkTotals.{MarkTotals}
use Rattle.slots.specs.Ghost.{Finger, rows}
use Rattle.slots.specs.Holds.{most}
use Rattle.slots.specs.declared.records.Unsound.{Unsound}
use Rattle.slots.specs.Words.{Link}
use Rattle.slots.specs.declared.records.Tree.{Tree}
use Rattle.slots.specs.declared.records.Record.{Record}
use Rattle.pieces.specs.Sound.{mark_mean, LaidTwo}
use Rattle.mark_moves.specs.Parting.{farthest}
use Rattle.mark_moves.specs.Moved.{MarksMade}

-- The bytes from a to b are gone. The tree l has the marks up to a; the last of the marks v, on from which those of m are
-- counted, was between a and b; and c is the old offset of a mark that would now be at the last of l.
pub record MarksDropped (ms ms' : List (Record MarkRow MarkTotals)) (f f' : Link) (left rest : Tree) (p : MarkTotals) (b c : ℕ) (r : Result Tree Unsound) : Type 0 where
  pub drops : (a : ℕ) (v : List MarkRow) (l m : Finger MarkRow MarkTotals) (gs : List ℕ) → LaidTwo mark_mean ms f left rest l m gs → p ≡ totals_of_marks v
      → gaps (rows l) ≤ a → a < gaps v → gaps v < b → (b ≤ farthest → c ≡ gaps (rows l) + (b - a)) → gaps (v ++ rows m) ≤ farthest → length (v ++ rows m) ≤ most
      → MarksMade ms ms' f' r (placed 0 (rows l) ++ shrunk a b (placed (gaps v) (rows m))) 1
