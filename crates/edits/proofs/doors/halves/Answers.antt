use Rattle.std.proofs.Common.{rules}
use Rattle.edits.proofs.Doorsteps.{halves_broken, halves_told}
use Rattle.edits.proofs.doors.halves.Goals as goal

pub returns-in_err-edge : goal.returns-in_err-edge
returns-in_err-edge g c = halves_broken c.edge_at.ensures c.in_err-edge.was

pub returns : goal.returns
returns g c = halves_told c.edge_at.ensures c.in_ok-edge.was (search rules)
