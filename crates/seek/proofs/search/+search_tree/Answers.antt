use Rattle.seek.proofs.Finding.{in_empty, in_single, in_no_level, in_front_err, in_front, in_middle_err, in_too_deep, in_middle, in_back}
use Rattle.seek.proofs.search.+search_tree.Goals as goal

pub returns-in-Empty : goal.returns-in-Empty
returns-in-Empty g t c = in_empty c.in-Empty.is

pub returns-in-Single : goal.returns-in-Single
returns-in-Single g t c = in_single c.in-Single.is c.search_digit.ensures

pub returns-in_err-level-in-Deep : goal.returns-in_err-level-in-Deep
returns-in_err-level-in-Deep g t c = in_no_level c.in-Deep.is c.spine_at.ensures c.in_err-level-in-Deep.was

pub returns-in_err-found-in-Deep : goal.returns-in_err-found-in-Deep
returns-in_err-found-in-Deep g t c = in_front_err c.in-Deep.is c.spine_at.ensures c.in_ok-level-in-Deep.was c.search_digit-in-Deep.ensures c.in_err-found-in-Deep.was

pub returns-then-is_some : goal.returns-then-is_some
returns-then-is_some g t c = in_front c.in-Deep.is c.spine_at.ensures c.in_ok-level-in-Deep.was c.search_digit-in-Deep.ensures c.in_ok-found-in-Deep.was c.is_some.ensures c.if-is_some.true

pub returns-in_err-reaches_tree-in-Deep : goal.returns-in_err-reaches_tree-in-Deep
returns-in_err-reaches_tree-in-Deep g t c = in_middle_err c.in-Deep.is c.spine_at.ensures c.in_ok-level-in-Deep.was c.search_digit-in-Deep.ensures c.in_ok-found-in-Deep.was c.is_some.ensures c.if-is_some.false c.reaches_tree.ensures c.in_err-reaches_tree-in-Deep.was

pub returns-then-not-branch : goal.returns-then-not-branch
returns-then-not-branch g t c = in_back c.in-Deep.is c.spine_at.ensures c.in_ok-level-in-Deep.was c.search_digit-in-Deep.ensures c.in_ok-found-in-Deep.was c.is_some.ensures c.if-is_some.false c.reaches_tree.ensures c.in_ok-reaches_tree-in-Deep.was c.if-not-branch.true c.search_digit-then-not-branch.ensures

pub returns-then-height-ge-LEVELS : goal.returns-then-height-ge-LEVELS
returns-then-height-ge-LEVELS g t c = in_too_deep c.in-Deep.is c.spine_at.ensures c.in_ok-level-in-Deep.was c.search_digit-in-Deep.ensures c.in_ok-found-in-Deep.was c.is_some.ensures c.if-is_some.false c.reaches_tree.ensures c.if-height-ge-LEVELS.true

pub returns-else-height-ge-LEVELS : goal.returns-else-height-ge-LEVELS
returns-else-height-ge-LEVELS g t c = in_middle c.in-Deep.is c.spine_at.ensures c.in_ok-level-in-Deep.was c.search_digit-in-Deep.ensures c.in_ok-found-in-Deep.was c.is_some.ensures c.if-is_some.false c.reaches_tree.ensures c.in_ok-reaches_tree-in-Deep.was c.if-not-branch.false c.search_tree.ensures
