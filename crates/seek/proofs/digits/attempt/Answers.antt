use Rattle.std.proofs.Common.{refl}
use Rattle.seek.proofs.Tries.{tried_yes, tried_no, tried_err}
use Rattle.seek.proofs.digits.attempt.Goals as goal

pub returns-in_err-reaches : goal.returns-in_err-reaches
returns-in_err-reaches g c = tried_err refl c.is_some.ensures c.if-is_some.false c.reaches.ensures c.in_err-reaches.was

pub returns-then-branch : goal.returns-then-branch
returns-then-branch g c = tried_yes refl c.is_some.ensures c.if-is_some.false c.reaches.ensures c.in_ok-reaches.was c.if-branch.true

pub returns : goal.returns
returns g c = tried_no refl c.is_some.ensures c.if-is_some.false c.reaches.ensures c.in_ok-reaches.was c.if-branch.false
