-- The first mark of a tree at or after an offset.
use Rattle.std.specs.Prelude.{◌≡◌, ℕ, ◌+◌, ◌≤◌, List, length, Ok, Option, Result}
use Rattle.plain.specs.Questions.{mark_of_offset}
use Rattle.plain.specs.declared.answers.Mark.{Mark}
use Rattle.measures.specs.Law.{heaviest}
use Rattle.measures.specs.MarkTotals.{gaps, placed}
use Rattle.measures.specs.declared.mark_totals.MarkRow.{MarkRow}
use Rattle.measures.specs.declared.mark_totals.MarkTotals.{MarkTotals}
use Rattle.slots.specs.Ghost.{Finger, tree_of, rows, Fit}
use Rattle.slots.specs.Holds.{most}
use Rattle.slots.specs.declared.records.Record.{Record}
use Rattle.slots.specs.declared.records.Tree.{Tree}
use Rattle.slots.specs.declared.records.Unsound.{Unsound}
use Rattle.pieces.specs.Sound.{mark_mean}

pub record FirstMark (ms : List (Record MarkRow MarkTotals)) (tr : Tree) (q : ℕ) (r : Result (Option Mark) Unsound) : Type 0 where
  pub tells : (u : Finger MarkRow MarkTotals) → tree_of u ≡ tr → Fit mark_mean ms u 0 → length (rows u) ≤ most → gaps (rows u) + length (rows u) ≤ heaviest → r ≡ Ok (mark_of_offset (placed 0 (rows u)) q)
