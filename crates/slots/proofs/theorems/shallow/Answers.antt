use Rattle.slots.proofs.Depth.{shallow}
use Rattle.slots.proofs.theorems.shallow.Goals as goal

pub returns : goal.returns
returns g c = shallow _ _
