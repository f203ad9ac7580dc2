use Rattle.audit.specs.Visits.{unmarked}
use Rattle.audit.proofs.Chains.{Leads}
use Rattle.audit.proofs.visits.visit_chain.Given as goal

abbrev pub invariant-loop-link : goal.invariant-loop-link
invariant-loop-link g l = Leads l.slots l.initial.marks l.initial.link l.marks l.link

abbrev pub decreases-loop-link : goal.decreases-loop-link
decreases-loop-link g l = unmarked l.marks
