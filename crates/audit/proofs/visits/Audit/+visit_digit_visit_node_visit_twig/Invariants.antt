use Rattle.std.proofs.Common.{Some, ◌+◌, ◌*◌}
use Rattle.slots.specs.Sides.{count}
use Rattle.audit.proofs.visits.Audit.+visit_digit_visit_node_visit_twig.Given as goal

abbrev pub decreases-visit_digit : goal.decreases-visit_digit
decreases-visit_digit g l = (8 * l.height + 1) + count (Some l.digit)

abbrev pub decreases-visit_node : goal.decreases-visit_node
decreases-visit_node g l = 8 * l.height

abbrev pub decreases-visit_twig : goal.decreases-visit_twig
decreases-visit_twig g l = 8 * l.height + 1
