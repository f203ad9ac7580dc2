use Rattle.tree.proofs.ends.+push_down.Given as goal

abbrev pub decreases-push_down : goal.decreases-push_down
decreases-push_down g l = l.fuel
