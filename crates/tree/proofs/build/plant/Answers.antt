use Rattle.tree.proofs.Shrinking.{plant_none, plant_some, plant_no_slot}
use Rattle.tree.proofs.build.plant.Goals as goal

pub returns-in-None-clause-planted : goal.returns-in-None-clause-planted
returns-in-None-clause-planted g c = plant_none c.in-None.is

pub returns-in_ok-i-in-Some-clause-planted : goal.returns-in_ok-i-in-Some-clause-planted
returns-in_ok-i-in-Some-clause-planted g c = plant_some c.in-Some.is c.take.ensures.taken c.take.ensures.slots c.in_ok-i-in-Some.was c.replant.ensures.grown

pub returns-in_err-i-in-Some-clause-planted : goal.returns-in_err-i-in-Some-clause-planted
returns-in_err-i-in-Some-clause-planted g c = plant_no_slot c.take.ensures.taken c.in_err-i-in-Some.was
