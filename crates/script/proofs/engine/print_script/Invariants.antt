use Rattle.std.proofs.Common.{◌≡◌, ◌++◌, None, vec_items}
use Rattle.plain.specs.Script.{lines_of}
use Rattle.script.specs.Input.{left, next_number}
use Rattle.script.proofs.engine.print_script.Given as goal

abbrev pub invariant-loop-line : goal.invariant-loop-line
invariant-loop-line g l =
    (goal.iterator-loop-line g).can_next l.lines
    × (goal.iterator-loop-line g).is_finite l.lines
    × (vec_items l.out ++ g.E.Engine.prints (next_number l.lines) None (left l.lines) ≡
    vec_items l.initial.out ++ g.E.Engine.prints 1 None (lines_of l.input))
