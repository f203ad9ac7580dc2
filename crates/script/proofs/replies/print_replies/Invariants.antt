use Rattle.std.proofs.Common.{◌≡◌, ◌++◌, vec_items}
use Rattle.script.specs.Input.{left, next_number}
use Rattle.script.proofs.replies.print_replies.Given as goal

abbrev pub invariant-loop-line : goal.invariant-loop-line
invariant-loop-line g l =
    (goal.iterator-loop-line g).can_next l.line-iterator
    × (goal.iterator-loop-line g).is_finite l.line-iterator
    × (vec_items l.out ++ g.R.Replies.prints (next_number l.line-iterator) l.replies (left l.line-iterator) ≡
    vec_items l.initial.out ++ g.R.Replies.prints (next_number l.initial.line-iterator) l.initial.replies (left l.initial.line-iterator))
