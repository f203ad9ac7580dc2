use Rattle.audit.proofs.Marks.{falls}
use Rattle.audit.proofs.Chains.{leads_on, no_enter, not_free, chain_end}
use Rattle.audit.proofs.visits.visit_chain.Goals as goal

pub loop-link-init : goal.loop-link-init
loop-link-init g c s r h = h

pub loop-link-smaller : goal.loop-link-smaller
loop-link-smaller g c = falls c.enter.ensures c.in_ok-next.was

pub loop-link-preserved : goal.loop-link-preserved
loop-link-preserved g c = leads_on c.loop-link.invariant c.in-Some.is c.enter.ensures c.in_ok-next.was c.in-Free.is

pub returns-in_default-2 : goal.returns-in_default-2
returns-in_default-2 g c = not_free c.loop-link.invariant c.in-Some.is c.enter.ensures c.in_ok-next.was c.in_default-2.not-Free

pub returns-in_err-next : goal.returns-in_err-next
returns-in_err-next g c = no_enter c.loop-link.invariant c.in-Some.is c.enter.ensures _ c.in_err-next.was c.from_residual.ensures.0

pub returns : goal.returns
returns g c = chain_end c.loop-link.invariant c.in_default.is
