use Rattle.split.proofs.descent.+split_down.Given as goal

abbrev pub decreases-split_down : goal.decreases-split_down
decreases-split_down g l = l.fuel
