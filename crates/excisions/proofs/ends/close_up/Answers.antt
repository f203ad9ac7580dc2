use Rattle.excisions.proofs.ClosingUp.{close_broken, close_made}
use Rattle.excisions.proofs.ends.close_up.Goals as goal

pub returns-in_err-part : goal.returns-in_err-part
returns-in_err-part g c = close_broken c.append_one.ensures c.in_err-part.was

pub returns : goal.returns
returns g c = close_made c.append_one.ensures c.in_ok-part.was c.concat.ensures
