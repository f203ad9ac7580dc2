use Rattle.seek.proofs.Finding.{searched}
use Rattle.seek.proofs.search.search.Goals as goal

pub returns : goal.returns
returns g c = searched (g.met.P.Probe.keeps c.args.probe.now) c.search_tree.ensures
