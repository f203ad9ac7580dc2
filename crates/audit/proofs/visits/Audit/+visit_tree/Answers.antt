use Rattle.std.proofs.Common.{is_err, refl, ap}
use Rattle.audit.proofs.Steps.{found_same, none_found}
use Rattle.audit.proofs.Fingers.{tree_deep, tree_nil, tree_one, tree_shut, tree_not, front_stopped, middle_stopped, back_stopped, level_visited}
use Rattle.audit.proofs.visits.Audit.+visit_tree.Goals as goal

pub returns-then-height-gt-DEEPEST-clause-visited : goal.returns-then-height-gt-DEEPEST-clause-visited
returns-then-height-gt-DEEPEST-clause-visited g t c = tree_deep _ c.if-height-gt-DEEPEST.true refl

pub returns-in-Empty-clause-visited : goal.returns-in-Empty-clause-visited
returns-in-Empty-clause-visited g t c = tree_nil c.in-Empty.is c.if-height-gt-DEEPEST.false

pub returns-in-Single-clause-visited : goal.returns-in-Single-clause-visited
returns-in-Single-clause-visited g t c = tree_one _ c.in-Single.is c.if-height-gt-DEEPEST.false c.visit_twig.ensures.visited

pub returns-in_err-front-in-Deep-clause-visited : goal.returns-in_err-front-in-Deep-clause-visited
returns-in_err-front-in-Deep-clause-visited g t c = tree_shut _ c.in-Deep.is c.enter.ensures c.in_err-front-in-Deep.was c.from_residual.ensures.0

pub returns-in_default : goal.returns-in_default
returns-in_default g t c = record { visited = tree_not _ c.in-Deep.is c.enter.ensures c.in_ok-front-in-Deep.was c.in_default.not-Level refl; same_slots = refl; same_marks = refl; same_source = refl }

pub returns-in_err-visit_digit-in-Deep-clause-visited : goal.returns-in_err-visit_digit-in-Deep-clause-visited
returns-in_err-visit_digit-in-Deep-clause-visited g t c = front_stopped c.in-Deep.is c.enter.ensures c.in_ok-front-in-Deep.was c.in-Level.is c.visit_digit.ensures.visited _ (ap is_err c.in_err-visit_digit-in-Deep.was) c.from_residual-in_err-visit_digit-in-Deep.ensures.0

pub returns-in_err-visit_tree-in-Deep-clause-visited : goal.returns-in_err-visit_tree-in-Deep-clause-visited
returns-in_err-visit_tree-in-Deep-clause-visited g t c =
    middle_stopped c.in-Deep.is c.enter.ensures c.in_ok-front-in-Deep.was c.in-Level.is c.visit_digit.ensures.visited c.in_ok-visit_digit-in-Deep.was c.visit_digit.ensures.same_slots c.visit_tree.ensures.visited _ (ap is_err c.in_err-visit_tree-in-Deep.was) c.from_residual-in_err-visit_tree-in-Deep.ensures.0

pub returns-in_err-visit_digit-in-Deep-2-clause-visited : goal.returns-in_err-visit_digit-in-Deep-2-clause-visited
returns-in_err-visit_digit-in-Deep-2-clause-visited g t c =
    back_stopped c.in-Deep.is c.enter.ensures c.in_ok-front-in-Deep.was c.in-Level.is c.visit_digit.ensures.visited c.in_ok-visit_digit-in-Deep.was c.visit_digit.ensures.same_slots c.visit_tree.ensures.visited c.in_ok-visit_tree-in-Deep.was c.visit_tree.ensures.same_slots c.visit_digit-in-Deep.ensures.visited _ (ap is_err c.in_err-visit_digit-in-Deep-2.was) c.from_residual-in_err-visit_digit-in-Deep-2.ensures.0

pub returns-in_err-level_value-in-Deep-clause-visited : goal.returns-in_err-level_value-in-Deep-clause-visited
returns-in_err-level_value-in-Deep-clause-visited g t c =
    level_visited c.in-Deep.is c.enter.ensures c.in_ok-front-in-Deep.was c.in-Level.is c.visit_digit.ensures.visited c.in_ok-visit_digit-in-Deep.was c.visit_digit.ensures.same_slots c.visit_tree.ensures.visited c.in_ok-visit_tree-in-Deep.was c.visit_tree.ensures.same_slots c.visit_digit-in-Deep.ensures.visited _ c.in_ok-visit_digit-in-Deep-2.was c.visit_digit-in-Deep.ensures.same_slots c.level_value.ensures (none_found _ c.in_err-level_value-in-Deep.was c.from_residual-in_err-level_value-in-Deep.ensures.0)

pub returns-in_ok-level_value-in-Deep-clause-visited : goal.returns-in_ok-level_value-in-Deep-clause-visited
returns-in_ok-level_value-in-Deep-clause-visited g t c =
    level_visited c.in-Deep.is c.enter.ensures c.in_ok-front-in-Deep.was c.in-Level.is c.visit_digit.ensures.visited c.in_ok-visit_digit-in-Deep.was c.visit_digit.ensures.same_slots c.visit_tree.ensures.visited c.in_ok-visit_tree-in-Deep.was c.visit_tree.ensures.same_slots c.visit_digit-in-Deep.ensures.visited _ c.in_ok-visit_digit-in-Deep-2.was c.visit_digit-in-Deep.ensures.same_slots c.level_value.ensures (found_same c.in_ok-level_value-in-Deep.was c.confirm.ensures)
