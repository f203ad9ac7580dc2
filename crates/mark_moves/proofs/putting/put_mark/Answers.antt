use Rattle.std.proofs.Common.{Ok, ap, ◌∙◌}
use Rattle.mark_moves.proofs.MarkAdding.{put_no_parts, put_no_leaf, put_last, put_no_write, put_between}
use Rattle.mark_moves.proofs.putting.put_mark.Goals as goal

pub returns-in_err-found : goal.returns-in_err-found
returns-in_err-found c = put_no_parts c.args.at c.args.label c.saturating_add.ensures c.empty-place.ensures c.part_marks.ensures c.in_err-found.was

pub returns-in_err-i : goal.returns-in_err-i
returns-in_err-i c = put_no_leaf c.args.at c.args.label c.saturating_add.ensures c.empty-place.ensures c.part_marks.ensures c.saturating_sub.ensures c.one.ensures c.put_leaf.ensures c.in_err-i.was

pub returns-in-None : goal.returns-in-None
returns-in-None c = put_last c.args.at c.args.label c.saturating_add.ensures c.empty-place.ensures c.part_marks.ensures c.saturating_sub.ensures c.one.ensures c.put_leaf.ensures c.in_ok-i.was (c.in_ok-found.was ∙ ap Ok c.in-None.is) c.concat.ensures

pub returns-in_err-set_mark-in-Some : goal.returns-in_err-set_mark-in-Some
returns-in_err-set_mark-in-Some c = put_no_write c.args.at c.args.label c.saturating_add.ensures c.empty-place.ensures c.part_marks.ensures c.saturating_sub.ensures c.one.ensures c.put_leaf.ensures c.in_ok-i.was (c.in_ok-found.was ∙ ap Ok c.in-Some.is) c.saturating_sub-in-Some.ensures c.set_mark.ensures c.in_err-set_mark-in-Some.was

pub returns-in_ok-set_mark-in-Some : goal.returns-in_ok-set_mark-in-Some
returns-in_ok-set_mark-in-Some c = put_between c.args.at c.args.label c.saturating_add.ensures c.empty-place.ensures c.part_marks.ensures c.saturating_sub.ensures c.one.ensures c.put_leaf.ensures c.in_ok-i.was (c.in_ok-found.was ∙ ap Ok c.in-Some.is) c.saturating_sub-in-Some.ensures c.set_mark.ensures c.concat-in-Some.ensures
