use Rattle.std.proofs.Common.{Ok, ap, ◌∙◌}
use Rattle.mark_moves.proofs.MarkDrops.{shrink_no_parts, shrink_none, shrink_turn, shrink_no_give, shrink_drop}
use Rattle.mark_moves.proofs.shrinking.shrink_marks.Goals as goal

pub returns-in_err-found : goal.returns-in_err-found
returns-in_err-found c = shrink_no_parts c.args.from c.args.to c.saturating_add.ensures c.empty-place.ensures c.part_marks.ensures c.in_err-found.was

pub returns-in-None : goal.returns-in-None
returns-in-None c = shrink_none c.args.from c.args.to c.saturating_add.ensures c.empty-place.ensures c.part_marks.ensures (c.in_ok-found.was ∙ ap Ok c.in-None.is)

pub returns-then-offset-to : goal.returns-then-offset-to
returns-then-offset-to c = shrink_turn c.args.from c.args.to c.saturating_add.ensures c.empty-place.ensures c.part_marks.ensures (c.in_ok-found.was ∙ ap Ok c.in-Some.is) c.saturating_sub.ensures c.saturating_add-base.ensures c.saturating_add-offset.ensures c.if-offset-to.true c.saturating_sub-then-offset-to.ensures c.join_moved.ensures

pub returns-in_err-give_slot-in-Some : goal.returns-in_err-give_slot-in-Some
returns-in_err-give_slot-in-Some c = shrink_no_give c.args.from c.args.to c.saturating_add.ensures c.empty-place.ensures c.part_marks.ensures (c.in_ok-found.was ∙ ap Ok c.in-Some.is) c.saturating_sub.ensures c.saturating_add-base.ensures c.saturating_add-offset.ensures c.if-offset-to.false c.give_slot.ensures c.in_err-give_slot-in-Some.was

pub returns-in_ok-give_slot-in-Some : goal.returns-in_ok-give_slot-in-Some
returns-in_ok-give_slot-in-Some c = shrink_drop c.args.from c.args.to c.saturating_add.ensures c.empty-place.ensures c.part_marks.ensures (c.in_ok-found.was ∙ ap Ok c.in-Some.is) c.saturating_sub.ensures c.saturating_add-base.ensures c.saturating_add-offset.ensures c.if-offset-to.false c.give_slot.ensures c.add.ensures c.drop_marks.ensures
