use Rattle.split.proofs.Cleaving.{split_empty, split_single_err, split_single_no, split_single_yes, split_no_level, split_err, split_front, split_mid_err, split_no_fuel, split_back_err, split_none, split_back, split_split_err, split_split_none, split_open_err, split_middle}
use Rattle.split.proofs.descent.+split_down.Goals as goal

pub returns-in-Empty : goal.returns-in-Empty
returns-in-Empty g t c = split_empty c.in-Empty.is

pub returns-in_err-reaches-in-Single : goal.returns-in_err-reaches-in-Single
returns-in_err-reaches-in-Single g t c = split_single_err c.in-Single.is c.reaches.ensures c.in_err-reaches-in-Single.was

pub returns-then-branch : goal.returns-then-branch
returns-then-branch g t c = split_single_yes c.in-Single.is c.reaches.ensures c.in_ok-reaches-in-Single.was c.if-branch.true c.new.ensures

pub returns-else-branch : goal.returns-else-branch
returns-else-branch g t c = split_single_no c.in-Single.is c.reaches.ensures c.in_ok-reaches-in-Single.was c.if-branch.false

pub returns-in_err-level-in-Deep : goal.returns-in_err-level-in-Deep
returns-in_err-level-in-Deep g t c = split_no_level c.in-Deep.is c.spine_at.ensures c.in_err-level-in-Deep.was

pub returns-in_err-cut-in-Deep : goal.returns-in_err-cut-in-Deep
returns-in_err-cut-in-Deep g t c = split_err c.in-Deep.is c.spine_at.ensures c.in_ok-level-in-Deep.was c.pick.ensures c.in_err-cut-in-Deep.was

pub returns-in-Some : goal.returns-in-Some
returns-in-Some g t c = split_front c.in-Deep.is c.spine_at.ensures c.in_ok-level-in-Deep.was c.pick.ensures c.in_ok-cut-in-Deep.was c.in-Some.is c.edge.ensures

pub returns-in_err-reaches_tree-in-Deep : goal.returns-in_err-reaches_tree-in-Deep
returns-in_err-reaches_tree-in-Deep g t c = split_mid_err c.in-Deep.is c.spine_at.ensures c.in_ok-level-in-Deep.was c.pick.ensures c.in_ok-cut-in-Deep.was c.in_default.is c.reaches_tree.ensures c.in_err-reaches_tree-in-Deep.was

pub returns-in_err-last-in-Deep : goal.returns-in_err-last-in-Deep
returns-in_err-last-in-Deep g t c = split_back_err c.in-Deep.is c.spine_at.ensures c.in_ok-level-in-Deep.was c.pick.ensures c.in_ok-cut-in-Deep.was c.in_default.is c.reaches_tree.ensures c.in_ok-reaches_tree-in-Deep.was c.if-not-branch.true c.pick-then-not-branch.ensures c.in_err-last-in-Deep.was

pub returns-in-Some-2 : goal.returns-in-Some-2
returns-in-Some-2 g t c = split_back c.in-Deep.is c.spine_at.ensures c.in_ok-level-in-Deep.was c.pick.ensures c.in_ok-cut-in-Deep.was c.in_default.is c.reaches_tree.ensures c.in_ok-reaches_tree-in-Deep.was c.if-not-branch.true c.pick-then-not-branch.ensures c.in_ok-last-in-Deep.was c.in-Some-2.is c.edge-in-Some-2.ensures

pub returns-in-None : goal.returns-in-None
returns-in-None g t c = split_none c.in-Deep.is c.spine_at.ensures c.in_ok-level-in-Deep.was c.pick.ensures c.in_ok-cut-in-Deep.was c.in_default.is c.reaches_tree.ensures c.in_ok-reaches_tree-in-Deep.was c.if-not-branch.true c.pick-then-not-branch.ensures c.in_ok-last-in-Deep.was c.in-None.is

pub returns-then-fuel-eq0 : goal.returns-then-fuel-eq0
returns-then-fuel-eq0 g t c = split_no_fuel c.in-Deep.is c.spine_at.ensures c.in_ok-level-in-Deep.was c.pick.ensures c.in_ok-cut-in-Deep.was c.in_default.is c.reaches_tree.ensures c.if-fuel-eq0.true

pub returns-in_err-split_down-in-Deep : goal.returns-in_err-split_down-in-Deep
returns-in_err-split_down-in-Deep g t c = split_split_err c.in-Deep.is c.spine_at.ensures c.in_ok-level-in-Deep.was c.pick.ensures c.in_ok-cut-in-Deep.was c.in_default.is c.reaches_tree.ensures c.in_ok-reaches_tree-in-Deep.was c.if-not-branch.false c.split_down.ensures c.in_err-split_down-in-Deep.was

pub returns-in_err-middle-in-Deep : goal.returns-in_err-middle-in-Deep
returns-in_err-middle-in-Deep g t c = split_split_none c.in-Deep.is c.spine_at.ensures c.in_ok-level-in-Deep.was c.pick.ensures c.in_ok-cut-in-Deep.was c.in_default.is c.reaches_tree.ensures c.in_ok-reaches_tree-in-Deep.was c.if-not-branch.false c.split_down.ensures c.in_ok-split_down-in-Deep.was c.in_err-middle-in-Deep.ensures.ok_part

pub returns-in_err-inner-in-Deep : goal.returns-in_err-inner-in-Deep
returns-in_err-inner-in-Deep g t c = split_open_err c.in-Deep.is c.spine_at.ensures c.in_ok-level-in-Deep.was c.pick.ensures c.in_ok-cut-in-Deep.was c.in_default.is c.reaches_tree.ensures c.in_ok-reaches_tree-in-Deep.was c.if-not-branch.false c.split_down.ensures c.in_ok-split_down-in-Deep.was c.in_ok-middle-in-Deep.ensures.ok_part c.reopen.ensures c.in_err-inner-in-Deep.was

pub returns-in_ok-inner-in-Deep : goal.returns-in_ok-inner-in-Deep
returns-in_ok-inner-in-Deep g t c = split_middle c.in-Deep.is c.spine_at.ensures c.in_ok-level-in-Deep.was c.pick.ensures c.in_ok-cut-in-Deep.was c.in_default.is c.reaches_tree.ensures c.in_ok-reaches_tree-in-Deep.was c.if-not-branch.false c.split_down.ensures c.in_ok-split_down-in-Deep.was c.in_ok-middle-in-Deep.ensures.ok_part c.reopen.ensures c.in_ok-inner-in-Deep.was c.rejoin.ensures
