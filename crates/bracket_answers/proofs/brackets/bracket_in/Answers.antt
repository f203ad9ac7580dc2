use Rattle.bracket_answers.proofs.Pairing.{in_lost, in_none, in_open_lost, in_open, in_close_lost, in_close}
use Rattle.bracket_answers.proofs.brackets.bracket_in.Goals as goal

pub returns-in_err-spot : goal.returns-in_err-spot
returns-in_err-spot g c = in_lost c.find_spot.ensures c.in_err-spot.was

pub returns-in_err-close-in-Open : goal.returns-in_err-close-in-Open
returns-in_err-close-in-Open g c = in_open_lost c.find_spot.ensures c.in_ok-spot.was c.close_of.ensures c.in_err-close-in-Open.was

pub returns-in_ok-close-in-Open : goal.returns-in_ok-close-in-Open
returns-in_ok-close-in-Open g c = in_open c.find_spot.ensures c.in_ok-spot.was c.close_of.ensures c.in-Open.is c.in_ok-close-in-Open.was c.after_open.ensures

pub returns-in_err-open-in-Close : goal.returns-in_err-open-in-Close
returns-in_err-open-in-Close g c = in_close_lost c.find_spot.ensures c.in_ok-spot.was c.open_of.ensures c.in_err-open-in-Close.was

pub returns-in_ok-open-in-Close : goal.returns-in_ok-open-in-Close
returns-in_ok-open-in-Close g c = in_close c.find_spot.ensures c.in_ok-spot.was c.open_of.ensures c.in-Close.is c.in_ok-open-in-Close.was c.before_close.ensures

pub returns-in_default : goal.returns-in_default
returns-in_default g c = in_none c.find_spot.ensures c.in_ok-spot.was c.in_default.not-Open c.in_default.not-Close
