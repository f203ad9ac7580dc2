use Rattle.slots.proofs.Joined.{part_empty, part_full}
use Rattle.slots.proofs.values.part_value.Goals as goal

pub returns-in-None : goal.returns-in-None
returns-in-None g c = part_empty c.in-None.is c.empty.ensures

pub returns-in-Some : goal.returns-in-Some
returns-in-Some g c = part_full c.in-Some.is c.digit_value.ensures
