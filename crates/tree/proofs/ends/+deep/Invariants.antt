use Rattle.tree.proofs.ends.+deep.Given as goal

abbrev pub decreases-deep : goal.decreases-deep
decreases-deep g l = l.fuel
