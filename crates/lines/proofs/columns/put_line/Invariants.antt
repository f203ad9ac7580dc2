use Rattle.std.proofs.Common.{◌≡◌, ◌++◌, map, vec_items}
use Rattle.plain.specs.Script.{printed}
use Rattle.lines.specs.Columns.{column_bytes}
use Rattle.lines.proofs.Appending.{Kept}
use Rattle.lines.proofs.Printed.{unprinted}
use Rattle.lines.proofs.columns.put_line.Given as goal

abbrev pub invariant-loop-i : goal.invariant-loop-i
invariant-loop-i l =
    (vec_items l.out ++ unprinted l.i (map column_bytes l.columns) ≡ vec_items l.initial.out ++ printed (map column_bytes l.columns))
    × Kept (vec_items l.initial.out) (vec_items l.out)
