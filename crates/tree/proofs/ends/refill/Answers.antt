use Rattle.tree.proofs.Shrinking.{refilled, refill_no_node}
use Rattle.tree.proofs.ends.refill.Goals as goal

pub returns-clause-refilled : goal.returns-clause-refilled
returns-clause-refilled g c = refilled c.take_node.ensures c.in_ok-near.was c.settle.ensures

pub returns-in_err-near-clause-refilled : goal.returns-in_err-near-clause-refilled
returns-in_err-near-clause-refilled g c = refill_no_node c.take_node.ensures c.in_err-near.was
