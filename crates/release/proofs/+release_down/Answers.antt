use Rattle.release.proofs.Releasing.{tree_nothing, tree_one, tree_no_fuel, tree_no_level, tree_no_gift, tree_no_front, tree_no_middle, tree_no_back, tree_freed}
use Rattle.release.proofs.+release_down.Goals as goal

pub returns-in-Empty : goal.returns-in-Empty
returns-in-Empty g t c = tree_nothing c.in-Empty.is

pub returns-in-Single : goal.returns-in-Single
returns-in-Single g t c = tree_one c.in-Single.is c.release_part.ensures

pub returns-then-fuel-eq0 : goal.returns-then-fuel-eq0
returns-then-fuel-eq0 g t c = tree_no_fuel c.in-Deep.is c.if-fuel-eq0.true

pub returns-in_err-level-in-Deep : goal.returns-in_err-level-in-Deep
returns-in_err-level-in-Deep g t c = tree_no_level c.in-Deep.is c.spine_at.ensures c.in_err-level-in-Deep.was

pub returns-in_err-give_slot-in-Deep : goal.returns-in_err-give_slot-in-Deep
returns-in_err-give_slot-in-Deep g t c = tree_no_gift c.in-Deep.is c.spine_at.ensures c.in_ok-level-in-Deep.was c.give_slot.ensures c.in_err-give_slot-in-Deep.was

pub returns-in_err-front-in-Deep : goal.returns-in_err-front-in-Deep
returns-in_err-front-in-Deep g t c = tree_no_front c.in-Deep.is c.spine_at.ensures c.in_ok-level-in-Deep.was c.give_slot.ensures c.release_part-in-Deep.ensures c.in_err-front-in-Deep.was

pub returns-in_err-middle-in-Deep : goal.returns-in_err-middle-in-Deep
returns-in_err-middle-in-Deep g t c = tree_no_middle c.in-Deep.is c.spine_at.ensures c.in_ok-level-in-Deep.was c.give_slot.ensures c.release_part-in-Deep.ensures c.release_down.ensures c.in_err-middle-in-Deep.was

pub returns-in_err-back-in-Deep : goal.returns-in_err-back-in-Deep
returns-in_err-back-in-Deep g t c = tree_no_back c.in-Deep.is c.spine_at.ensures c.in_ok-level-in-Deep.was c.give_slot.ensures c.release_part-in-Deep.ensures c.release_down.ensures c.release_part-in-Deep-2.ensures c.in_err-back-in-Deep.was

pub returns-in_ok-back-in-Deep : goal.returns-in_ok-back-in-Deep
returns-in_ok-back-in-Deep g t c = tree_freed c.in-Deep.is c.spine_at.ensures c.in_ok-level-in-Deep.was c.give_slot.ensures c.release_part-in-Deep.ensures c.release_down.ensures c.release_part-in-Deep-2.ensures c.in_ok-front-in-Deep.was c.in_ok-middle-in-Deep.was c.in_ok-back-in-Deep.was c.saturating_add.ensures c.saturating_add-in-Deep.ensures
