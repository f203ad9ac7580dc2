use Rattle.std.proofs.Common.{refl}
use Rattle.head_edits.proofs.Discards.{discarded}
use Rattle.head_edits.proofs.discarding.discard.Goals as goal

pub returns : goal.returns
returns g c = record { edits = discarded c.release.ensures c.unwrap_or-gone.ensures c.saturating_sub-head.ensures; clip = refl }
