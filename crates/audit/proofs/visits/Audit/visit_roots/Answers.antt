use Rattle.std.proofs.Common.{is_err, ap, ◌∙◌}
use Rattle.std.proofs.lemmas.List.{drop_more, drop_all}
use Rattle.audit.specs.Words.{Empty}
use Rattle.audit.proofs.Fingers.{same_tree}
use Rattle.audit.proofs.Roots.{roots_end, roots_more, roots_stop}
use Rattle.audit.proofs.visits.Audit.visit_roots.Goals as goal

pub returns-in_err-visit_tree-clause-visited : goal.returns-in_err-visit_tree-clause-visited
returns-in_err-visit_tree-clause-visited g c = roots_stop c.loop-root.invariant.remains (drop_more c.args.roots.now c.loop-root.root-index Empty c.loop-root-test.true) _ _ (same_tree c.loop-root.invariant.same_slots c.visit_tree.ensures.visited) (ap is_err c.in_err-visit_tree.was) c.from_residual.ensures.0

pub loop-root-preserved : goal.loop-root-preserved
loop-root-preserved g c = record {
  remains = roots_more c.loop-root.invariant.remains (drop_more c.args.roots.now c.loop-root.root-index Empty c.loop-root-test.true) (same_tree c.loop-root.invariant.same_slots c.visit_tree.ensures.visited) c.in_ok-visit_tree.was;
  same_slots = c.visit_tree.ensures.same_slots ∙ c.loop-root.invariant.same_slots;
  same_marks = c.visit_tree.ensures.same_marks ∙ c.loop-root.invariant.same_marks;
  same_source = c.visit_tree.ensures.same_source ∙ c.loop-root.invariant.same_source;
}

pub returns-clause-visited : goal.returns-clause-visited
returns-clause-visited g c = roots_end c.loop-root.invariant.remains (drop_all c.loop-root.root-index c.args.roots.now c.loop-root-test.false)
