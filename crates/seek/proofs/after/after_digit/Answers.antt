use Rattle.seek.proofs.Onward.{digit_after_err, digit_after_none, digit_after_some, digit_then_stopped}
use Rattle.seek.proofs.after.after_digit.Goals as goal

pub returns-in_err-cut : goal.returns-in_err-cut
returns-in_err-cut g c = digit_after_err c.pick.ensures c.in_err-cut.was

pub returns-in_default : goal.returns-in_default
returns-in_default g c = digit_after_none c.pick.ensures c.in_ok-cut.was c.in_default.is

pub returns-in_err-found : goal.returns-in_err-found
returns-in_err-found g c = digit_after_some c.pick.ensures c.in_ok-cut.was c.in-Some.is c.in_err-found.ensures digit_then_stopped

pub returns : goal.returns
returns g c = digit_after_some c.pick.ensures c.in_ok-cut.was c.in-Some.is c.in_ok-found.ensures c.then_digit.ensures
