use Rattle.audit.proofs.Covers.{surveyed_fresh}
use Rattle.audit.proofs.survey_fresh.Goals as goal

pub returns : goal.returns
returns g c = surveyed_fresh c.survey-found.new.marks (c.fill.ensures.after (λ y e. e)) c.survey-found.ensures c.survey-found.auto.marks (c.fill-2.ensures.after (λ y e. e))
