use Rattle.slots.specs.Sides.{count}
use Rattle.concat.proofs.bundles.+feed_part.Given as goal

abbrev pub decreases-feed_part : goal.decreases-feed_part
decreases-feed_part g l = count l.part
