use Rattle.slots.specs.Sides.{count}
use Rattle.concat.proofs.joins.+extend_down.Given as goal

abbrev pub decreases-extend_down : goal.decreases-extend_down
decreases-extend_down g l = count l.part
