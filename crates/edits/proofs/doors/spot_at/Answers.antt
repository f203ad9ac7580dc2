use Rattle.edits.proofs.Doorsteps.{spot_no_size, spot_no_edge, spot_told}
use Rattle.edits.proofs.doors.spot_at.Goals as goal

pub returns-in_err-size_of : goal.returns-in_err-size_of
returns-in_err-size_of g c = spot_no_size c.size_of.ensures c.in_err-size_of.was

pub returns-in_err-halves : goal.returns-in_err-halves
returns-in_err-halves g c = spot_no_edge c.size_of.ensures c.halves.ensures c.in_err-halves.was

pub returns : goal.returns
returns g c = spot_told c.size_of.ensures c.halves.ensures c.in_ok-size_of.was c.in_ok-halves.was
