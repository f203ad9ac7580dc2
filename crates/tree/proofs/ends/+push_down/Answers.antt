use Rattle.tree.proofs.Pushes.{push_empty, push_single, push_no_slot, push_no_level, push_room, push_no_fuel, push_over, push_no_node, push_no_push}
use Rattle.tree.proofs.ends.+push_down.Goals as goal

pub returns-in-Empty-clause-pushed : goal.returns-in-Empty-clause-pushed
returns-in-Empty-clause-pushed g t c = push_empty c.in-Empty.is

pub returns-in_ok-i-in-Single-clause-pushed : goal.returns-in_ok-i-in-Single-clause-pushed
returns-in_ok-i-in-Single-clause-pushed g t c = push_single c.in-Single.is c.join_ends_in-value.ensures c.take.ensures.taken c.take.ensures.slots c.in_ok-i-in-Single.was c.put_level.ensures

pub returns-in_err-i-in-Single-clause-pushed : goal.returns-in_err-i-in-Single-clause-pushed
returns-in_err-i-in-Single-clause-pushed g t c = push_no_slot c.take.ensures.taken c.in_err-i-in-Single.was

pub returns-in_err-level-in-Deep-clause-pushed : goal.returns-in_err-level-in-Deep-clause-pushed
returns-in_err-level-in-Deep-clause-pushed g t c = push_no_level c.in-Deep.is c.spine_at.ensures c.in_err-level-in-Deep.was

pub returns-in-Room-clause-pushed : goal.returns-in-Room-clause-pushed
returns-in-Room-clause-pushed g t c = push_room c.in-Deep.is c.spine_at.ensures c.in_ok-level-in-Deep.was c.pick-near.ensures c.flip.ensures c.pick-far.ensures c.grow.ensures c.in-Room.is c.join_ends_in-value-in-Deep.ensures c.put_level-in-Room.ensures

pub returns-then-fuel-eq0-clause-pushed : goal.returns-then-fuel-eq0-clause-pushed
returns-then-fuel-eq0-clause-pushed g t c = push_no_fuel c.in-Deep.is c.spine_at.ensures c.in_ok-level-in-Deep.was c.pick-near.ensures c.flip.ensures c.pick-far.ensures c.if-fuel-eq0.true

pub returns-in_err-n-in-Over-clause-pushed : goal.returns-in_err-n-in-Over-clause-pushed
returns-in_err-n-in-Over-clause-pushed g t c = push_no_node c.in-Deep.is c.spine_at.ensures c.in_ok-level-in-Deep.was c.pick-near.ensures c.flip.ensures c.pick-far.ensures c.grow.ensures c.in-Over.is c.put_node.ensures.put c.in_err-n-in-Over.was

pub returns-in_err-middle-in-Over-clause-pushed : goal.returns-in_err-middle-in-Over-clause-pushed
returns-in_err-middle-in-Over-clause-pushed g t c = push_no_push c.in-Deep.is c.spine_at.ensures c.in_ok-level-in-Deep.was c.pick-near.ensures c.flip.ensures c.pick-far.ensures c.grow.ensures c.in-Over.is c.put_node.ensures.put c.in_ok-n-in-Over.was c.push_down.ensures.pushed c.in_err-middle-in-Over.was

pub returns-in_ok-middle-in-Over-clause-pushed : goal.returns-in_ok-middle-in-Over-clause-pushed
returns-in_ok-middle-in-Over-clause-pushed g t c = push_over c.in-Deep.is c.spine_at.ensures c.in_ok-level-in-Deep.was c.pick-near.ensures c.flip.ensures c.pick-far.ensures c.grow.ensures c.in-Over.is c.join_ends_in-value-in-Deep.ensures c.put_node.ensures.put c.in_ok-n-in-Over.was c.push_down.ensures.pushed c.in_ok-middle-in-Over.was c.put_level-in-Over.ensures
