use Rattle.std.proofs.Common.{refl, rules}
use Rattle.audit.proofs.Covers.{too_short, audit_passed, audit_failed}
use Rattle.audit.proofs.audit.Goals as goal

pub returns-then-scratch-count : goal.returns-then-scratch-count
returns-then-scratch-count g c = too_short c.if-scratch-count.true

pub returns : goal.returns
returns g c = audit_passed c.args.scratch.now refl c.if-scratch-count.false c.survey_fresh.ensures c.in_ok-survey_fresh.was

pub returns-in_err-survey_fresh : goal.returns-in_err-survey_fresh
returns-in_err-survey_fresh g c = audit_failed c.args.scratch.now refl c.if-scratch-count.false c.survey_fresh.ensures c.in_err-survey_fresh.was (search rules)
