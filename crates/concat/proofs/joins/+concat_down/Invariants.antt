use Rattle.concat.proofs.joins.+concat_down.Given as goal

abbrev pub decreases-concat_down : goal.decreases-concat_down
decreases-concat_down g l = l.fuel
