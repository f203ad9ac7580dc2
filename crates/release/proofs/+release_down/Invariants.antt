use Rattle.release.proofs.+release_down.Given as goal

abbrev pub decreases-release_down : goal.decreases-release_down
decreases-release_down g l = l.fuel
