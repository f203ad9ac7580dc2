use Rattle.std.proofs.Common.{is_err, sym, refl, ap, ⊎_elim, arith}
use Rattle.std.specs.declared.result.Result.TheVariants.{Ok}
use Rattle.audit.proofs.Steps.{went, seq, found_same, none_found}
use Rattle.audit.proofs.Twigs.{sole_twig, same_arm, digit_last, digit_more, digit_stopped, node_flat, node_visited, node_stopped, twig_shut, twig_not, leaf_judged, leaf_bad, twig_node}
use Rattle.audit.proofs.visits.Audit.+visit_digit_visit_node_visit_twig.Goals as goal

pub visit_digit-returns-in_err-visit_twig-clause-visited : goal.visit_digit-returns-in_err-visit_twig-clause-visited
visit_digit-returns-in_err-visit_twig-clause-visited g t c = digit_stopped c.args.digit _ _ c.peel-first.ensures c.visit_twig.ensures.visited (ap is_err c.in_err-visit_twig.was) c.from_residual.ensures.0

pub visit_digit-returns-in-Some-clause-visited : goal.visit_digit-returns-in-Some-clause-visited
visit_digit-returns-in-Some-clause-visited g t c = digit_more c.args.digit _ c.peel-first.ensures c.in-Some.is (seq _ (sole_twig _ _ _) c.visit_twig.ensures.visited c.in_ok-visit_twig.was (same_arm c.visit_twig.ensures.same_slots c.visit_digit.ensures.visited))

pub visit_digit-returns-in-None-clause-visited : goal.visit_digit-returns-in-None-clause-visited
visit_digit-returns-in-None-clause-visited g t c = digit_last c.args.digit _ c.peel-first.ensures c.in-None.is (went c.in_ok-visit_twig.was c.visit_twig.ensures.visited)

pub visit_node-returns-then-height-eq0-clause-visited : goal.visit_node-returns-then-height-eq0-clause-visited
visit_node-returns-then-height-eq0-clause-visited g t c = node_flat _ c.if-height-eq0.true refl

pub visit_node-returns-in_err-visit_digit-clause-visited : goal.visit_node-returns-in_err-visit_digit-clause-visited
visit_node-returns-in_err-visit_digit-clause-visited g t c = node_stopped _ _ c.if-height-eq0.false c.visit_digit.ensures.visited (ap is_err c.in_err-visit_digit.was) c.from_residual.ensures.0

pub visit_node-returns-in_err-digit_value-clause-visited : goal.visit_node-returns-in_err-digit_value-clause-visited
visit_node-returns-in_err-digit_value-clause-visited g t c = node_visited _ c.if-height-eq0.false c.visit_digit.ensures.visited c.in_ok-visit_digit.was (rw c.visit_digit.ensures.same_slots at c.digit_value.ensures) (none_found _ c.in_err-digit_value.was c.from_residual-in_err-digit_value.ensures.0)

pub visit_node-returns-clause-visited : goal.visit_node-returns-clause-visited
visit_node-returns-clause-visited g t c = node_visited _ c.if-height-eq0.false c.visit_digit.ensures.visited c.in_ok-visit_digit.was (rw c.visit_digit.ensures.same_slots at c.digit_value.ensures) (found_same c.in_ok-digit_value.was c.confirm.ensures)

pub visit_twig-returns-in_err-row-clause-visited : goal.visit_twig-returns-in_err-row-clause-visited
visit_twig-returns-in_err-row-clause-visited g t c = twig_shut _ c.enter.ensures c.in_err-row.was c.from_residual.ensures.0

pub visit_twig-returns-then-height-gt0-clause-visited : goal.visit_twig-returns-then-height-gt0-clause-visited
visit_twig-returns-then-height-gt0-clause-visited g t c = twig_not _ c.enter.ensures c.in_ok-row.was c.in-Leaf.is (λ z. omega arith) refl

pub visit_twig-returns-in_err-weight-in-Leaf-clause-visited : goal.visit_twig-returns-in_err-weight-in-Leaf-clause-visited
visit_twig-returns-in_err-weight-in-Leaf-clause-visited g t c =
    leaf_bad _ c.enter.ensures c.in_ok-row.was c.in-Leaf.is c.if-height-gt0.false c.check.ensures.judged c.in_err-weight-in-Leaf.was c.check.ensures.stays c.check.ensures.steps c.from_residual-in_err-weight-in-Leaf.ensures.0

pub visit_twig-returns-in_ok-weight-in-Leaf-clause-visited : goal.visit_twig-returns-in_ok-weight-in-Leaf-clause-visited
visit_twig-returns-in_ok-weight-in-Leaf-clause-visited g t c =
    leaf_judged _ c.enter.ensures c.in_ok-row.was c.in-Leaf.is c.if-height-gt0.false c.check.ensures.judged c.in_ok-weight-in-Leaf.was c.check.ensures.stays c.check.ensures.steps c.spend.ensures

pub visit_twig-returns-in-Node2-clause-visited : goal.visit_twig-returns-in-Node2-clause-visited
visit_twig-returns-in-Node2-clause-visited g t c = twig_node _ c.enter.ensures c.in_ok-row.was (ap Ok (sym c.in-Node2.is)) c.visit_node.ensures.visited

pub visit_twig-returns-in-Node3-clause-visited : goal.visit_twig-returns-in-Node3-clause-visited
visit_twig-returns-in-Node3-clause-visited g t c = twig_node _ c.enter.ensures c.in_ok-row.was (ap Ok (sym c.in-Node3.is)) c.visit_node-in-Node3.ensures.visited

pub visit_twig-returns-in-Free-clause-visited : goal.visit_twig-returns-in-Free-clause-visited
visit_twig-returns-in-Free-clause-visited g t c = ⊎_elim (λ h. twig_not _ c.enter.ensures c.in_ok-row.was h.1 (λ z. z) refl) (λ h. twig_not _ c.enter.ensures c.in_ok-row.was h.4 (λ z. z) refl) c.in-Free.is
