use Rattle.concat.proofs.Extending.{past_no_extend, extended_past}
use Rattle.concat.proofs.joins.extend_past.Goals as goal

pub returns-in_err-more-clause-extended : goal.returns-in_err-more-clause-extended
returns-in_err-more-clause-extended g c = past_no_extend c.extend_down.ensures.extended c.in_err-more.was

pub returns-clause-extended : goal.returns-clause-extended
returns-clause-extended g c = extended_past c.extend_down.ensures.extended c.in_ok-more.was c.push_down.ensures.pushed
