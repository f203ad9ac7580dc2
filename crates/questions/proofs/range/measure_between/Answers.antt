use Rattle.questions.proofs.RangePaths.{range_lost, range_empty, range_unread, range_one, range_no_rest, range_two}
use Rattle.questions.proofs.range.measure_between.Goals as goal

pub returns-in_err-found : goal.returns-in_err-found
returns-in_err-found g c = range_lost c.args.from c.args.to c.empty-before.ensures (rw c.at_byte.ensures at c.find_row.ensures) c.in_err-found.was

pub returns-in_default : goal.returns-in_default
returns-in_default g c = range_empty c.args.from c.args.to c.empty-before.ensures (rw c.at_byte.ensures at c.find_row.ensures) c.in_ok-found.was c.in_default.is c.empty.ensures

pub returns-in_err-first : goal.returns-in_err-first
returns-in_err-first g c =
    range_unread c.args.from c.args.to c.empty-before.ensures (rw c.at_byte.ensures at c.find_row.ensures) c.in_ok-found.was c.in-Some.is c.saturating_sub.ensures c.saturating_sub-2.ensures c.measure_slice.ensures c.in_err-first.was

pub returns-then-to-end : goal.returns-then-to-end
returns-then-to-end g c =
    range_one c.args.from c.args.to c.empty-before.ensures (rw c.at_byte.ensures at c.find_row.ensures) c.in_ok-found.was c.in-Some.is c.saturating_sub.ensures c.saturating_sub-2.ensures c.measure_slice.ensures c.saturating_add-end.ensures
    c.in_ok-first.was c.if-to-end.true

pub returns-in_err-rest : goal.returns-in_err-rest
returns-in_err-rest g c =
    range_no_rest c.args.from c.args.to c.empty-before.ensures (rw c.at_byte.ensures at c.find_row.ensures) c.in_ok-found.was c.in-Some.is c.saturating_sub.ensures c.saturating_sub-2.ensures c.measure_slice.ensures c.saturating_add-end.ensures
    c.in_ok-first.was c.if-to-end.false c.measure_rest.ensures c.in_err-rest.was

pub returns : goal.returns
returns g c =
    range_two c.args.from c.args.to c.empty-before.ensures (rw c.at_byte.ensures at c.find_row.ensures) c.in_ok-found.was c.in-Some.is c.saturating_sub.ensures c.saturating_sub-2.ensures c.measure_slice.ensures c.saturating_add-end.ensures
    c.in_ok-first.was c.if-to-end.false c.measure_rest.ensures c.in_ok-rest.was c.join.ensures
