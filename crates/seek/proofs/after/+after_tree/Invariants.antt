use Rattle.std.proofs.Common.{◌-◌}
use Rattle.seek.proofs.after.+after_tree.Given as goal

abbrev pub decreases-after_tree : goal.decreases-after_tree
decreases-after_tree g l = 16 - l.height
