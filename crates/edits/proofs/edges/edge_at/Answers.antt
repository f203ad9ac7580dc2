use Rattle.std.proofs.Common.{Ok, ap, ◌∙◌}
use Rattle.edits.proofs.Falling.{edge_broken, edge_none, edge_no_row, edge_found}
use Rattle.edits.proofs.edges.edge_at.Goals as goal

pub returns-in_err-found : goal.returns-in_err-found
returns-in_err-found g c = edge_broken c.args.p c.empty-place.ensures (rw c.at_byte.ensures at c.search.ensures) c.in_err-found.was

pub returns-in_default : goal.returns-in_default
returns-in_default g c = edge_none c.args.p c.empty-place.ensures (rw c.at_byte.ensures at c.search.ensures) (c.in_ok-found.was ∙ ap Ok c.in_default.is)

pub returns-in_err-row_at : goal.returns-in_err-row_at
returns-in_err-row_at g c = edge_no_row c.args.p c.empty-place.ensures (rw c.at_byte.ensures at c.search.ensures) (c.in_ok-found.was ∙ ap Ok c.in-Some.is) c.row_at.ensures c.in_err-row_at.was

pub returns : goal.returns
returns g c = edge_found c.args.p c.empty-place.ensures (rw c.at_byte.ensures at c.search.ensures) (c.in_ok-found.was ∙ ap Ok c.in-Some.is) c.row_at.ensures c.in_ok-row_at.was
