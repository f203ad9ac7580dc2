use Rattle.std.proofs.Common.{◌≡◌, drop}
use Rattle.audit.specs.Checks.{rules}
use Rattle.audit.specs.Visits.{moment}
use Rattle.audit.proofs.Roots.{Remains}
use Rattle.audit.proofs.visits.Audit.visit_roots.Given as goal

abbrev pub invariant-loop-root : goal.invariant-loop-root
invariant-loop-root g l = record {
  remains :
      Remains (rules g.M.Item.Weigh.weight g.M.Measure.means g.L.LeafCheck.items g.L.LeafCheck.good g.L.LeafCheck.checks) l.initial.self.slots.now
      l.roots (moment l.initial.self.marks.now l.initial.self.budget l.initial.self.source.now) (drop l.root-index l.roots) (moment l.self.marks.now l.self.budget l.self.source.now);
  same_slots : l.self.slots.now ≡ l.initial.self.slots.now;
  same_marks : l.self.marks.ghost_name ≡ l.initial.self.marks.ghost_name;
  same_source : l.self.source.ghost_name ≡ l.initial.self.source.ghost_name;
}
