use Rattle.slots.proofs.Ends.{peel_four}
use Rattle.slots.proofs.records.Digit.peel.Goals as goal

pub returns-in-Four : goal.returns-in-Four
returns-in-Four c = peel_four c.args.side c.args.self c.in-Four.is c.pick-in-Four.ensures c.pick-in-Four-2.ensures
