use Rattle.std.proofs.Common.{Err, ap, ◌∙◌}
use Rattle.audit_demo.proofs.Witness.{not_sound, not_short}
use Rattle.audit_demo.proofs.proven.refuses.Goals as goal

pub returns-in-Ok : goal.returns-in-Ok
returns-in-Ok c = absurd (not_sound c.audit.ensures c.in-Ok.is)

pub returns-in-Err-ShortScratch : goal.returns-in-Err-ShortScratch
returns-in-Err-ShortScratch c = absurd (not_short c.audit.ensures (c.in-Err-ShortScratch.is ∙ ap Err c.in-Err-ShortScratch.field-0-is))
