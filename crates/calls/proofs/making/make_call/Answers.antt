use Rattle.calls.proofs.Sizes.{step_told}
use Rattle.calls.proofs.making.make_call.Goals as goal

pub returns : goal.returns
returns g c room m sp = step_told g.A.Measure.means g.S.Store.contents (c.perform-text.ensures room m sp) c.view.ensures c.size_of-size.ensures
