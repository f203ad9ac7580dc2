use Rattle.seek.proofs.Onward.{sought_after}
use Rattle.seek.proofs.after.seek_after.Goals as goal

pub returns : goal.returns
returns g c = sought_after (g.met.F.Probe.keeps c.args.from.now) (g.met.P.Probe.keeps c.args.until.now) c.empty-start.ensures c.after_tree.ensures
