use Rattle.questions.proofs.RangePaths.{rest_lost, rest_all, rest_unread, rest_found}
use Rattle.questions.proofs.range.measure_rest.Goals as goal

pub returns-in_err-found : goal.returns-in_err-found
returns-in_err-found g c = rest_lost c.args.offset c.args.many c.empty-between.ensures (rw (c.at_byte.ensures, c.at_byte-2.ensures) at c.find_row_after.ensures) c.in_err-found.was

pub returns-in_default : goal.returns-in_default
returns-in_default g c = rest_all c.args.offset c.args.many c.empty-between.ensures (rw (c.at_byte.ensures, c.at_byte-2.ensures) at c.find_row_after.ensures) c.in_ok-found.was c.in_default.is

pub returns-in_err-end : goal.returns-in_err-end
returns-in_err-end g c =
    rest_unread c.args.offset c.args.many c.empty-between.ensures (rw (c.at_byte.ensures, c.at_byte-2.ensures) at c.find_row_after.ensures) c.in_ok-found.was c.in-Some.is
    c.saturating_sub-inside.ensures c.measure_slice.ensures c.in_err-end.was

pub returns : goal.returns
returns g c =
    rest_found c.args.offset c.args.many c.empty-between.ensures (rw (c.at_byte.ensures, c.at_byte-2.ensures) at c.find_row_after.ensures) c.in_ok-found.was c.in-Some.is
    c.saturating_sub-inside.ensures c.measure_slice.ensures c.in_ok-end.was c.join.ensures
