use Rattle.seek.proofs.Tries.{reach_yes, reach_no, reach_err}
use Rattle.seek.proofs.digits.reaches.Goals as goal

pub returns-in_err-all : goal.returns-in_err-all
returns-in_err-all g c = reach_err c.join_on.ensures c.in_err-all.was

pub returns-then-holds : goal.returns-then-holds
returns-then-holds g c = reach_yes c.join_on.ensures c.in_ok-all.was c.holds.ensures c.if-holds.true

pub returns : goal.returns
returns g c = reach_no c.join_on.ensures c.in_ok-all.was c.holds.ensures c.if-holds.false
