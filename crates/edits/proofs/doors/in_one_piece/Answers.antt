use Rattle.edits.proofs.Doorsteps.{one_no_first, one_no_second, one_told}
use Rattle.edits.proofs.doors.in_one_piece.Goals as goal

pub returns-in_err-first : goal.returns-in_err-first
returns-in_err-first g c = one_no_first c.edge_at.ensures c.in_err-first.was

pub returns-in_err-second : goal.returns-in_err-second
returns-in_err-second g c = one_no_second c.edge_at.ensures c.edge_at-2.ensures c.in_err-second.was

pub returns : goal.returns
returns g c = one_told c.edge_at.ensures c.in_ok-first.was c.edge_at-2.ensures c.in_ok-second.was c.both_inside.ensures
