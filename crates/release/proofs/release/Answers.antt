use Rattle.release.proofs.Releasing.{released}
use Rattle.release.proofs.release.Goals as goal

pub returns : goal.returns
returns g c = released c.release_down.ensures
