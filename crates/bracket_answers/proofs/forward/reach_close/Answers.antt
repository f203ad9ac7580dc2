use Rattle.std.proofs.Common.{rules}
use Rattle.bracket_answers.proofs.Closings.{reach_unread, reach_here, reach_lost, reach_on}
use Rattle.bracket_answers.proofs.forward.reach_close.Goals as goal

pub returns-in_err-place : goal.returns-in_err-place
returns-in_err-place g c = reach_unread c.args.at c.measure_part.ensures c.in_err-place.was

pub returns-then-row_of-gt0 : goal.returns-then-row_of-gt0
returns-then-row_of-gt0 g c = reach_here c.args.at c.measure_part.ensures c.in_ok-place.was c.row_of.ensures c.if-row_of-gt0.true c.start.ensures

pub returns-in_err-found : goal.returns-in_err-found
returns-in_err-found g c =
    let found = rw (c.at_byte.ensures, c.at_stray.ensures.state, c.at_stray.ensures.count) at c.find_row_after.ensures in
    reach_lost c.args.at c.measure_part.ensures c.in_ok-place.was c.row_of.ensures c.if-row_of-gt0.false found c.in_err-found.was

pub returns : goal.returns
returns g c =
    let found = rw (c.at_byte.ensures, c.at_stray.ensures.state, c.at_stray.ensures.count) at c.find_row_after.ensures in
    reach_on c.args.at c.measure_part.ensures c.in_ok-place.was c.row_of.ensures c.if-row_of-gt0.false found c.in_ok-found.was (search rules)
