use Rattle.split.proofs.Edges.{edge_no_inner, edge_no_outer, edge_ok}
use Rattle.split.proofs.halves.edge_in.Goals as goal

pub returns-in_err-inner-clause-edged : goal.returns-in_err-inner-clause-edged
returns-in_err-inner-clause-edged g c = edge_no_inner c.args.level c.args.cut c.pick-far.ensures c.flip.ensures c.pick-near.ensures c.deep.ensures.deepened c.in_err-inner.was

pub returns-in_err-outer-clause-edged : goal.returns-in_err-outer-clause-edged
returns-in_err-outer-clause-edged g c = edge_no_outer c.args.level c.args.cut c.pick-far.ensures c.flip.ensures c.pick-near.ensures c.deep.ensures.deepened c.pick.ensures c.plant.ensures.planted c.in_err-outer.was

pub returns-clause-edged : goal.returns-clause-edged
returns-clause-edged g c = edge_ok c.args.level c.args.cut c.pick-far.ensures c.flip.ensures c.pick-near.ensures c.deep.ensures.deepened c.pick.ensures c.plant.ensures.planted c.in_ok-inner.was c.in_ok-outer.was c.new.ensures
