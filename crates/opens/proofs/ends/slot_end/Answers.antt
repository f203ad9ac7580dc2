use Rattle.opens.proofs.Placing.{slot_ends, slot_endless}
use Rattle.opens.proofs.ends.slot_end.Goals as goal

pub returns-in_err-value : goal.returns-in_err-value
returns-in_err-value g c = slot_endless c.value_at.ensures c.in_err-value.was

pub returns : goal.returns
returns g c = slot_ends c.value_at.ensures c.in_ok-value.was c.part_from.ensures
