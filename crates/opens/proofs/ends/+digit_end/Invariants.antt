use Rattle.std.proofs.Common.{Some}
use Rattle.slots.specs.Sides.{count}
use Rattle.opens.proofs.ends.+digit_end.Given as goal

abbrev pub decreases-digit_end : goal.decreases-digit_end
decreases-digit_end g l = count (Some l.digit)
