use Rattle.std.proofs.Common.{refl}
use Rattle.tree.proofs.Shrinking.{pop_empty, pop_single, pop_no_level, pop_off, pop_no_rest}
use Rattle.tree.proofs.ends.pop_down.Goals as goal

pub returns-in-Empty-clause-pops : goal.returns-in-Empty-clause-pops
returns-in-Empty-clause-pops g c = pop_empty c.in-Empty.is

pub returns-in-Single-clause-pops : goal.returns-in-Single-clause-pops
returns-in-Single-clause-pops g c = pop_single c.in-Single.is refl refl

pub returns-in_err-level-in-Deep-clause-pops : goal.returns-in_err-level-in-Deep-clause-pops
returns-in_err-level-in-Deep-clause-pops g c = pop_no_level c.in-Deep.is c.spine_at.ensures c.in_err-level-in-Deep.was

pub returns-in_ok-rest-in-Deep-clause-pops : goal.returns-in_ok-rest-in-Deep-clause-pops
returns-in_ok-rest-in-Deep-clause-pops g c = pop_off c.in-Deep.is c.spine_at.ensures c.in_ok-level-in-Deep.was c.pick.ensures c.peel-first.ensures c.flip.ensures c.pick-other.ensures c.deep.ensures.deepened c.in_ok-rest-in-Deep.was refl refl

pub returns-in_err-rest-in-Deep-clause-pops : goal.returns-in_err-rest-in-Deep-clause-pops
returns-in_err-rest-in-Deep-clause-pops g c = pop_no_rest c.in-Deep.is c.spine_at.ensures c.in_ok-level-in-Deep.was c.pick.ensures c.peel-first.ensures c.flip.ensures c.pick-other.ensures c.deep.ensures.deepened c.in_err-rest-in-Deep.was
