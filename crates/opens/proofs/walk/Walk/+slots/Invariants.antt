use Rattle.std.proofs.Common.{◌+◌, ◌*◌, Some}
use Rattle.slots.specs.Sides.{count}
use Rattle.opens.proofs.walk.Walk.+slots.Given as goal

abbrev pub decreases-digit : goal.decreases-digit
decreases-digit g l = 6 * l.height + count (Some l.digit)

abbrev pub decreases-slot : goal.decreases-slot
decreases-slot g l = 6 * l.height
