use Rattle.tree.proofs.Shrinking.{settled}
use Rattle.tree.proofs.build.settle.Goals as goal

pub returns : goal.returns
returns g c = settled c.pick.ensures c.pick-2.ensures c.level_value-value.ensures c.put_level.ensures
