use Rattle.std.proofs.Common.{◌≡◌, ◌++◌, vec_items}
use Rattle.script.specs.Input.{left}
use Rattle.call_script.specs.Listed.{calls_of}
use Rattle.call_script.proofs.Collected.{meant_all}
use Rattle.call_script.proofs.collecting.read_calls.Given as goal

abbrev pub invariant-loop-line : goal.invariant-loop-line
invariant-loop-line l =
    goal.iterator-loop-line.can_next l.line-iterator
    × goal.iterator-loop-line.is_finite l.line-iterator
    × (meant_all (vec_items l.calls) ++ calls_of (left l.line-iterator) ≡ calls_of (left l.initial.line-iterator))
