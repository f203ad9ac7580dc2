use Rattle.split.proofs.Cleaving.{split_at}
use Rattle.split.proofs.descent.split.Goals as goal

pub returns : goal.returns
returns g c = split_at (g.met.P.Probe.keeps c.args.probe.now) c.split_down.ensures
