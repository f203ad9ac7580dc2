use Rattle.slots.proofs.Same.{unique}
use Rattle.slots.proofs.theorems.unique.Goals as goal

pub returns : goal.returns
returns g c = unique _ _
