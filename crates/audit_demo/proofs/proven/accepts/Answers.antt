use Rattle.std.proofs.Common.{eq-eqb}
use Rattle.audit_demo.proofs.Witness.{goes_well, counts_three}
use Rattle.audit_demo.proofs.proven.accepts.Goals as goal

pub returns-in-Ok : goal.returns-in-Ok
returns-in-Ok c = eq-eqb c.in-Ok.elements 3 (counts_three c.audit.ensures c.in-Ok.is)

pub returns-in-Err : goal.returns-in-Err
returns-in-Err c = absurd (goes_well c.in-Err.field-0 c.audit.ensures c.in-Err.is)
