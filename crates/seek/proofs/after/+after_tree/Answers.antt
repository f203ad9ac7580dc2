use Rattle.seek.proofs.Onward.{tree_after_empty, tree_after_single, tree_after_no_level, tree_after_too_deep, tree_after_err, tree_after_front, tree_after_mid_err, tree_after_back, tree_after_middle, digit_then_stopped, tree_then_stopped}
use Rattle.seek.proofs.after.+after_tree.Goals as goal

pub returns-in-Empty : goal.returns-in-Empty
returns-in-Empty g t c = tree_after_empty c.in-Empty.is

pub returns-in-Single : goal.returns-in-Single
returns-in-Single g t c = tree_after_single c.in-Single.is c.after_digit.ensures

pub returns-in_err-level-in-Deep : goal.returns-in_err-level-in-Deep
returns-in_err-level-in-Deep g t c = tree_after_no_level c.in-Deep.is c.spine_at.ensures c.in_err-level-in-Deep.was

pub returns-then-height-ge-LEVELS : goal.returns-then-height-ge-LEVELS
returns-then-height-ge-LEVELS g t c = tree_after_too_deep c.in-Deep.is c.spine_at.ensures c.in_ok-level-in-Deep.was c.if-height-ge-LEVELS.true

pub returns-in_err-cut-in-Deep : goal.returns-in_err-cut-in-Deep
returns-in_err-cut-in-Deep g t c = tree_after_err c.in-Deep.is c.spine_at.ensures c.in_ok-level-in-Deep.was c.pick.ensures c.in_err-cut-in-Deep.was

pub returns-in_err-x-in-Deep : goal.returns-in_err-x-in-Deep
returns-in_err-x-in-Deep g t c = tree_after_front c.in-Deep.is c.spine_at.ensures c.in_ok-level-in-Deep.was c.pick.ensures c.in_ok-cut-in-Deep.was c.in-Some.is c.in_err-x-in-Deep.ensures (digit_then_stopped {p' = c.args.place.now}) (tree_then_stopped {p' = c.args.place.now}) digit_then_stopped

pub returns-in_err-y-in-Deep : goal.returns-in_err-y-in-Deep
returns-in_err-y-in-Deep g t c = tree_after_front c.in-Deep.is c.spine_at.ensures c.in_ok-level-in-Deep.was c.pick.ensures c.in_ok-cut-in-Deep.was c.in-Some.is c.in_ok-x-in-Deep.ensures c.in_err-y-in-Deep.ensures (tree_then_stopped {p' = c.args.place.now}) digit_then_stopped

pub returns-in_err-z-in-Deep : goal.returns-in_err-z-in-Deep
returns-in_err-z-in-Deep g t c = tree_after_front c.in-Deep.is c.spine_at.ensures c.in_ok-level-in-Deep.was c.pick.ensures c.in_ok-cut-in-Deep.was c.in-Some.is c.in_ok-x-in-Deep.ensures c.in_ok-y-in-Deep.ensures c.in_err-z-in-Deep.ensures digit_then_stopped

pub returns-in-Some : goal.returns-in-Some
returns-in-Some g t c = tree_after_front c.in-Deep.is c.spine_at.ensures c.in_ok-level-in-Deep.was c.pick.ensures c.in_ok-cut-in-Deep.was c.in-Some.is c.in_ok-x-in-Deep.ensures c.in_ok-y-in-Deep.ensures c.in_ok-z-in-Deep.ensures c.then_digit-in-Some.ensures

pub returns-in_err-reaches_tree-in-Deep : goal.returns-in_err-reaches_tree-in-Deep
returns-in_err-reaches_tree-in-Deep g t c = tree_after_mid_err c.in-Deep.is c.spine_at.ensures c.in_ok-level-in-Deep.was c.pick.ensures c.in_ok-cut-in-Deep.was c.in_default.is c.reaches_tree.ensures c.in_err-reaches_tree-in-Deep.was

pub returns-then-not-branch : goal.returns-then-not-branch
returns-then-not-branch g t c = tree_after_back c.in-Deep.is c.spine_at.ensures c.in_ok-level-in-Deep.was c.pick.ensures c.in_ok-cut-in-Deep.was c.in_default.is c.reaches_tree.ensures c.in_ok-reaches_tree-in-Deep.was c.if-not-branch.true c.after_digit-then-not-branch.ensures

pub returns-in_err-x-in-Deep-2 : goal.returns-in_err-x-in-Deep-2
returns-in_err-x-in-Deep-2 g t c = tree_after_middle c.in-Deep.is c.spine_at.ensures c.in_ok-level-in-Deep.was c.pick.ensures c.in_ok-cut-in-Deep.was c.in_default.is c.reaches_tree.ensures c.in_ok-reaches_tree-in-Deep.was c.if-not-branch.false c.in_err-x-in-Deep-2.ensures digit_then_stopped

pub returns-in_ok-x-in-Deep-2 : goal.returns-in_ok-x-in-Deep-2
returns-in_ok-x-in-Deep-2 g t c = tree_after_middle c.in-Deep.is c.spine_at.ensures c.in_ok-level-in-Deep.was c.pick.ensures c.in_ok-cut-in-Deep.was c.in_default.is c.reaches_tree.ensures c.in_ok-reaches_tree-in-Deep.was c.if-not-branch.false c.in_ok-x-in-Deep-2.ensures c.then_digit-in-Deep.ensures
