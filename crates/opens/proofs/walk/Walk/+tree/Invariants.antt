use Rattle.std.proofs.Common.{◌-◌}
use Rattle.opens.proofs.walk.Walk.+tree.Given as goal

abbrev pub decreases-tree : goal.decreases-tree
decreases-tree g l = 16 - l.height
