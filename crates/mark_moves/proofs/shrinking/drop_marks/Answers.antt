use Rattle.std.proofs.Common.{Ok, ap, ◌∙◌}
use Rattle.mark_moves.proofs.MarkDrops.{drop_no_parts, drop_no_release, drop_all, drop_no_front, drop_front_lem}
use Rattle.mark_moves.proofs.shrinking.drop_marks.Goals as goal

pub returns-in_err-next : goal.returns-in_err-next
returns-in_err-next c = drop_no_parts c.args.left c.args.base c.part_marks.ensures c.in_err-next.was

pub returns-in_err-release : goal.returns-in_err-release
returns-in_err-release c = drop_no_release c.args.left c.args.base c.part_marks.ensures (c.in_ok-next.was ∙ ap Ok c.in_default.is) c.release.ensures c.in_err-release.was

pub returns-in_default : goal.returns-in_default
returns-in_default c = drop_all c.args.left c.args.base c.part_marks.ensures (c.in_ok-next.was ∙ ap Ok c.in_default.is) c.release.ensures

pub returns-in_err-release-2 : goal.returns-in_err-release-2
returns-in_err-release-2 c = drop_no_front c.args.left c.args.base c.part_marks.ensures (c.in_ok-next.was ∙ ap Ok c.in-Some.is) c.release-2.ensures c.in_err-release-2.was

pub returns : goal.returns
returns c = drop_front_lem c.args.left c.args.base c.part_marks.ensures (c.in_ok-next.was ∙ ap Ok c.in-Some.is) c.release-2.ensures c.saturating_add-offset.ensures c.saturating_sub.ensures c.join_moved.ensures
