use Rattle.slots.proofs.Joined.{level_joined, level_no_front, level_no_middle, level_no_back}
use Rattle.slots.proofs.values.level_value.Goals as goal

pub returns-in_err-first : goal.returns-in_err-first
returns-in_err-first g c = level_no_front c.digit_value.ensures c.in_err-first.was

pub returns-in_err-tree_value : goal.returns-in_err-tree_value
returns-in_err-tree_value g c = level_no_middle c.tree_value.ensures c.in_err-tree_value.was

pub returns-in_err-digit_value : goal.returns-in_err-digit_value
returns-in_err-digit_value g c = level_no_back c.digit_value-2.ensures c.in_err-digit_value.was

pub returns : goal.returns
returns g c = level_joined c.digit_value.ensures c.in_ok-first.was c.tree_value.ensures c.in_ok-tree_value.was c.join-some.ensures c.digit_value-2.ensures c.in_ok-digit_value.was c.join.ensures
