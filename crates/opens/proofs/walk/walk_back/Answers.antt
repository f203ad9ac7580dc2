use Rattle.std.proofs.Common.{refl}
use Rattle.opens.proofs.Leftward.{back_lost, back_found, back_none}
use Rattle.opens.proofs.walk.walk_back.Goals as goal

pub returns-in_err-back : goal.returns-in_err-back
returns-in_err-back g c = back_lost refl c.tree.ensures c.in_err-back.was

pub returns-in-At : goal.returns-in-At
returns-in-At g c = back_found refl c.tree.ensures c.in_ok-back.was c.in-At.is

pub returns-in-Before : goal.returns-in-Before
returns-in-Before g c = back_none refl c.tree.ensures c.in_ok-back.was c.in-Before.is
