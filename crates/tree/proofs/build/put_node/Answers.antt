use Rattle.tree.proofs.Levels.{node_ok, node_no_write, node_no_slot, node_no_value, node_not}
use Rattle.tree.proofs.build.put_node.Goals as goal

pub returns-in_err-value-clause-put : goal.returns-in_err-value-clause-put
returns-in_err-value-clause-put g c = node_no_value c.digit_value.ensures c.in_err-value.was

pub returns-in_err-node-clause-put : goal.returns-in_err-node-clause-put
returns-in_err-node-clause-put g c = node_not c.digit_value.ensures c.in_ok-value.was c.node.ensures c.in_err-node.was

pub returns-in_err-i-clause-put : goal.returns-in_err-i-clause-put
returns-in_err-i-clause-put g c = node_no_slot c.take.ensures.taken c.in_err-i.was

pub returns-in_err-write_slot-clause-put : goal.returns-in_err-write_slot-clause-put
returns-in_err-write_slot-clause-put g c = node_no_write c.take.ensures.taken c.take.ensures.slots c.in_ok-i.was c.write_slot.ensures c.in_err-write_slot.was

pub returns-clause-put : goal.returns-clause-put
returns-clause-put g c = node_ok c.digit_value.ensures c.in_ok-value.was c.node.ensures c.in_ok-node.was c.take.ensures.taken c.take.ensures.slots c.in_ok-i.was c.write_slot.ensures
