use Rattle.std.proofs.Common.{ap, ◌∙◌, inl, inr}
use Rattle.std.specs.Result.{result_ok}
use Rattle.opens.proofs.Leftward.{digit_lost, digit_one, digit_more, slot_lost, slot_past, slot_no_parts, slot_node, slot_split, slot_no_row, slot_leaf}
use Rattle.opens.proofs.walk.Walk.+slots.Goals as goal

pub digit-returns-in_err-next-in-Some : goal.digit-returns-in_err-next-in-Some
digit-returns-in_err-next-in-Some g t c = digit_lost c.peel-first.ensures c.in-Some.is c.slot_end.ensures c.in_err-next-in-Some.was

pub digit-returns-in-None : goal.digit-returns-in-None
digit-returns-in-None g t c = digit_one c.peel-first.ensures c.in-None.is c.slot.ensures

pub digit-returns-in_ok-found-in-Some : goal.digit-returns-in_ok-found-in-Some
digit-returns-in_ok-found-in-Some g t c = digit_more c.peel-first.ensures c.in-Some.is c.slot_end.ensures c.in_ok-next-in-Some.was c.digit.ensures (inl (_, c.in_ok-found-in-Some.was, c.slot-in-Some.ensures))

pub digit-returns-in_err-found-in-Some : goal.digit-returns-in_err-found-in-Some
digit-returns-in_err-found-in-Some g t c = digit_more c.peel-first.ensures c.in-Some.is c.slot_end.ensures c.in_ok-next-in-Some.was c.digit.ensures (inr (_, c.in_err-found-in-Some.was))

pub slot-returns-in_err-visit : goal.slot-returns-in_err-visit
slot-returns-in_err-visit g t c = slot_lost c.visit.ensures c.in_err-visit.was

pub slot-returns-in_err-parts-in-Into : goal.slot-returns-in_err-parts-in-Into
slot-returns-in_err-parts-in-Into g t c = slot_no_parts c.visit.ensures c.in_ok-visit.was c.in-Into.is c.if-height-gt0.true c.parts_at.ensures c.in_err-parts-in-Into.was

pub slot-returns-then-height-gt0 : goal.slot-returns-then-height-gt0
slot-returns-then-height-gt0 g t c = slot_node c.visit.ensures c.in_ok-visit.was c.in-Into.is c.if-height-gt0.true c.parts_at.ensures c.in_ok-parts-in-Into.was c.is_some.ensures c.digit-found.ensures c.hold.ensures

pub slot-returns-in-Past : goal.slot-returns-in-Past
slot-returns-in-Past g t c = slot_past c.visit.ensures c.in_ok-visit.was c.in-Past.is

pub slot-returns-in_err-rank-in-Into : goal.slot-returns-in_err-rank-in-Into
slot-returns-in_err-rank-in-Into g t c = slot_split c.visit.ensures c.in_ok-visit.was c.in-Into.is c.if-height-gt0.false (c.ok_or.ensures.ok_part ∙ ap result_ok c.in_err-rank-in-Into.was)

pub slot-returns-in_err-row-in-Into : goal.slot-returns-in_err-row-in-Into
slot-returns-in_err-row-in-Into g t c =
    slot_no_row c.visit.ensures c.in_ok-visit.was c.in-Into.is c.if-height-gt0.false (c.ok_or.ensures.ok_part ∙ ap result_ok c.in_ok-rank-in-Into.was) c.row_at.ensures c.in_err-row-in-Into.was

pub slot-returns-in_ok-row-in-Into : goal.slot-returns-in_ok-row-in-Into
slot-returns-in_ok-row-in-Into g t c =
    slot_leaf c.visit.ensures c.in_ok-visit.was c.in-Into.is c.if-height-gt0.false (c.ok_or.ensures.ok_part ∙ ap result_ok c.in_ok-rank-in-Into.was) c.row_at.ensures c.in_ok-row-in-Into.was
