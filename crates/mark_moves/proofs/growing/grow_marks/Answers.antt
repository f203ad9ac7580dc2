use Rattle.std.proofs.Common.{Ok, ap, ◌∙◌}
use Rattle.mark_moves.proofs.MarkGrowth.{grow_no_parts, grow_none, grow_joined}
use Rattle.mark_moves.proofs.growing.grow_marks.Goals as goal

pub returns-in_err-found : goal.returns-in_err-found
returns-in_err-found c = grow_no_parts c.args.at c.args.by c.empty-place.ensures c.part_marks.ensures c.in_err-found.was

pub returns-in-None : goal.returns-in-None
returns-in-None c = grow_none c.args.at c.args.by c.empty-place.ensures c.part_marks.ensures (c.in_ok-found.was ∙ ap Ok c.in-None.is)

pub returns-in-Some : goal.returns-in-Some
returns-in-Some c = grow_joined c.args.at c.args.by c.empty-place.ensures c.part_marks.ensures (c.in_ok-found.was ∙ ap Ok c.in-Some.is) c.saturating_add-gap.ensures c.join_moved.ensures
