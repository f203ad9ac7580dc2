use Rattle.slots.proofs.Laying.{given, not_given}
use Rattle.slots.proofs.arena.give_slot.Goals as goal

pub returns-in_err-write_slot : goal.returns-in_err-write_slot
returns-in_err-write_slot g c = not_given c.write_slot.ensures c.in_err-write_slot.was c.from_residual.ensures.0

pub returns : goal.returns
returns g c = given c.write_slot.ensures c.in_ok-write_slot.was
