use Rattle.tree.proofs.Shrinking.{deep_some, deep_empty, deep_single, deep_no_fuel, deep_no_level, deep_roll, deep_no_rest}
use Rattle.tree.proofs.ends.+deep.Goals as goal

pub returns-in-Some-clause-deepened : goal.returns-in-Some-clause-deepened
returns-in-Some-clause-deepened g t c = deep_some c.in-Some.is c.settle.ensures

pub returns-in-Empty-clause-deepened : goal.returns-in-Empty-clause-deepened
returns-in-Empty-clause-deepened g t c = deep_empty c.in_default.is c.in-Empty.is c.replant.ensures.grown

pub returns-in-Single-clause-deepened : goal.returns-in-Single-clause-deepened
returns-in-Single-clause-deepened g t c = deep_single c.in_default.is c.in-Single.is c.refill.ensures.refilled

pub returns-then-fuel-eq0-clause-deepened : goal.returns-then-fuel-eq0-clause-deepened
returns-then-fuel-eq0-clause-deepened g t c = deep_no_fuel c.in_default.is c.in-Deep.is c.if-fuel-eq0.true

pub returns-in_err-level-in-Deep-clause-deepened : goal.returns-in_err-level-in-Deep-clause-deepened
returns-in_err-level-in-Deep-clause-deepened g t c = deep_no_level c.in_default.is c.in-Deep.is c.spine_at.ensures c.in_err-level-in-Deep.was

pub returns-in_ok-rest-in-Deep-clause-deepened : goal.returns-in_ok-rest-in-Deep-clause-deepened
returns-in_ok-rest-in-Deep-clause-deepened g t c = deep_roll c.in_default.is c.in-Deep.is c.spine_at.ensures c.in_ok-level-in-Deep.was c.pick.ensures c.peel-first.ensures c.flip.ensures c.pick-other.ensures c.deep.ensures.deepened c.in_ok-rest-in-Deep.was c.refill-in-Deep.ensures.refilled

pub returns-in_err-rest-in-Deep-clause-deepened : goal.returns-in_err-rest-in-Deep-clause-deepened
returns-in_err-rest-in-Deep-clause-deepened g t c = deep_no_rest c.in_default.is c.in-Deep.is c.spine_at.ensures c.in_ok-level-in-Deep.was c.pick.ensures c.peel-first.ensures c.flip.ensures c.pick-other.ensures c.deep.ensures.deepened c.in_err-rest-in-Deep.was
