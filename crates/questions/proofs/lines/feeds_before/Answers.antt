use Rattle.questions.proofs.LinePaths.{feeds_lost, feeds_all, feeds_unread, feeds_found}
use Rattle.questions.proofs.lines.feeds_before.Goals as goal

pub returns-in_err-found : goal.returns-in_err-found
returns-in_err-found g c = feeds_lost c.args.at c.empty-before.ensures (rw c.at_byte.ensures at c.find_row.ensures) c.in_err-found.was

pub returns-in_default : goal.returns-in_default
returns-in_default g c = feeds_all c.args.at c.empty-before.ensures (rw c.at_byte.ensures at c.find_row.ensures) c.in_ok-found.was c.in_default.is

pub returns-in_err-here : goal.returns-in_err-here
returns-in_err-here g c =
    feeds_unread c.args.at c.empty-before.ensures (rw c.at_byte.ensures at c.find_row.ensures) c.in_ok-found.was c.in-Some.is c.saturating_sub-inside.ensures c.measure_slice.ensures c.in_err-here.was

pub returns : goal.returns
returns g c =
    feeds_found c.args.at c.empty-before.ensures (rw c.at_byte.ensures at c.find_row.ensures) c.in_ok-found.was c.in-Some.is c.saturating_sub-inside.ensures c.measure_slice.ensures c.in_ok-here.was
    c.saturating_add.ensures
