use Rattle.std.proofs.Common.{Ok, ap, ◌∙◌}
use Rattle.excisions.proofs.Opening.{open_broken, open_none, open_no_row, open_found}
use Rattle.excisions.proofs.spots.open_at.Goals as goal

pub returns-in_err-found : goal.returns-in_err-found
returns-in_err-found g c = open_broken c.args.p c.empty-place.ensures c.split.ensures c.in_err-found.was

pub returns-in_err-row : goal.returns-in_err-row
returns-in_err-row g c = open_no_row c.args.p c.empty-place.ensures c.split.ensures (c.in_ok-found.was ∙ ap Ok c.in-Some.is) c.row_at.ensures c.in_err-row.was

pub returns-in_default : goal.returns-in_default
returns-in_default g c = open_none c.args.p c.empty-place.ensures c.split.ensures (c.in_ok-found.was ∙ ap Ok c.in_default.is)

pub returns : goal.returns
returns g c = open_found c.args.p c.empty-place.ensures c.split.ensures (c.in_ok-found.was ∙ ap Ok c.in-Some.is) c.row_at.ensures c.in_ok-row.was c.saturating_sub.ensures
