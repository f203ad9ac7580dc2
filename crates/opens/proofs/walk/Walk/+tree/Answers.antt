use Rattle.std.proofs.Common.{inl, inr}
use Rattle.opens.proofs.Leftward.{tree_none, tree_one, tree_lost, tree_past, tree_too_deep, tree_no_level, tree_no_inner, tree_no_last, tree_level}
use Rattle.opens.proofs.walk.Walk.+tree.Goals as goal

pub returns-in_err-visit-in-Deep : goal.returns-in_err-visit-in-Deep
returns-in_err-visit-in-Deep g t c = tree_lost c.in-Deep.is c.visit.ensures c.in_err-visit-in-Deep.was

pub returns-then-height-ge-LEVELS : goal.returns-then-height-ge-LEVELS
returns-then-height-ge-LEVELS g t c = tree_too_deep c.in-Deep.is c.visit.ensures c.in_ok-visit-in-Deep.was c.in-Into.is c.if-height-ge-LEVELS.true

pub returns-in_err-level-in-Into : goal.returns-in_err-level-in-Into
returns-in_err-level-in-Into g t c = tree_no_level c.in-Deep.is c.visit.ensures c.in_ok-visit-in-Deep.was c.in-Into.is c.spine_at.ensures c.in_err-level-in-Into.was

pub returns-in_err-inner-in-Into : goal.returns-in_err-inner-in-Into
returns-in_err-inner-in-Into g t c = tree_no_inner c.in-Deep.is c.visit.ensures c.in_ok-visit-in-Deep.was c.in-Into.is c.spine_at.ensures c.in_ok-level-in-Into.was c.digit_end.ensures c.in_err-inner-in-Into.was

pub returns-in_err-last-in-Into : goal.returns-in_err-last-in-Into
returns-in_err-last-in-Into g t c = tree_no_last c.in-Deep.is c.visit.ensures c.in_ok-visit-in-Deep.was c.in-Into.is c.spine_at.ensures c.in_ok-level-in-Into.was c.digit_end.ensures c.in_ok-inner-in-Into.was c.tree_end.ensures c.in_err-last-in-Into.was

pub returns-in-Empty : goal.returns-in-Empty
returns-in-Empty g t c = tree_none c.in-Empty.is

pub returns-in-Single : goal.returns-in-Single
returns-in-Single g t c = tree_one c.in-Single.is c.slot.ensures

pub returns-in-Past : goal.returns-in-Past
returns-in-Past g t c = tree_past c.in-Deep.is c.visit.ensures c.in_ok-visit-in-Deep.was c.in-Past.is

pub returns-in_err-back-in-Into : goal.returns-in_err-back-in-Into
returns-in_err-back-in-Into g t c = tree_level c.in-Deep.is c.visit.ensures c.in_ok-visit-in-Deep.was c.in-Into.is c.spine_at.ensures c.in_ok-level-in-Into.was c.digit_end.ensures c.in_ok-inner-in-Into.was c.tree_end.ensures c.in_ok-last-in-Into.was c.is_some-whole.ensures c.digit.ensures (inr (_, c.in_err-back-in-Into.was))

pub returns-in_err-middle-in-Into : goal.returns-in_err-middle-in-Into
returns-in_err-middle-in-Into g t c = tree_level c.in-Deep.is c.visit.ensures c.in_ok-visit-in-Deep.was c.in-Into.is c.spine_at.ensures c.in_ok-level-in-Into.was c.digit_end.ensures c.in_ok-inner-in-Into.was c.tree_end.ensures c.in_ok-last-in-Into.was c.is_some-whole.ensures c.digit.ensures (inl (_, c.in_ok-back-in-Into.was, (_, c.tree.ensures, inr (_, c.in_err-middle-in-Into.was))))

pub returns-in_ok-middle-in-Into : goal.returns-in_ok-middle-in-Into
returns-in_ok-middle-in-Into g t c = tree_level c.in-Deep.is c.visit.ensures c.in_ok-visit-in-Deep.was c.in-Into.is c.spine_at.ensures c.in_ok-level-in-Into.was c.digit_end.ensures c.in_ok-inner-in-Into.was c.tree_end.ensures c.in_ok-last-in-Into.was c.is_some-whole.ensures c.digit.ensures (inl (_, c.in_ok-back-in-Into.was, (_, c.tree.ensures, inl (_, c.in_ok-middle-in-Into.was, (_, c.digit-front.ensures, c.hold.ensures)))))
