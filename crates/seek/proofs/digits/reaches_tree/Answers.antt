use Rattle.seek.proofs.Tries.{reach_empty, reach_slot}
use Rattle.seek.proofs.digits.reaches_tree.Goals as goal

pub returns-in-Empty : goal.returns-in-Empty
returns-in-Empty g c = reach_empty c.in-Empty.is

pub returns-in-Single : goal.returns-in-Single
returns-in-Single g c = reach_slot c.in-Single.is c.reaches.ensures
