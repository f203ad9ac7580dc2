use Rattle.slots.proofs.Counts.{economy}
use Rattle.slots.proofs.theorems.economy.Goals as goal

pub returns : goal.returns
returns g c = economy _ _
