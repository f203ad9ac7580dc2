use Rattle.std.proofs.Common.{◌-◌}
use Rattle.seek.proofs.search.+search_tree.Given as goal

abbrev pub decreases-search_tree : goal.decreases-search_tree
decreases-search_tree g l = 16 - l.height
