use Rattle.std.proofs.Common.{◌≡◌, ◌≤◌, take}
use Rattle.measures.specs.Law.{weights, heaviest}
use Rattle.measures.proofs.scan.measured.Given as goal

abbrev pub invariant-loop-item : goal.invariant-loop-item
invariant-loop-item g l = weights g.M.Item.Weigh.weight l.items ≤ heaviest → l.all ≡ g.M.Measure.means (take l.item-index l.items)
