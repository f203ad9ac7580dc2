use Rattle.std.proofs.Common.{◌-◌}
use Rattle.audit.proofs.visits.Audit.+visit_tree.Given as goal

abbrev pub decreases-visit_tree : goal.decreases-visit_tree
decreases-visit_tree g l = 16 - l.height
