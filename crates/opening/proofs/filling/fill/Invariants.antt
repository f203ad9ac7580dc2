use Rattle.std.proofs.Common.{◌≡◌}
use Rattle.opening.proofs.FilledTrees.{Filling}
use Rattle.opening.proofs.filling.fill.Given as goal

abbrev pub invariant-loop-block : goal.invariant-loop-block
invariant-loop-block g l =
    Filling g.M.Measure.means g.S.Store.contents l.initial.store l.store l.initial.arena.slots.now l.arena.slots.now l.initial.arena.free l.arena.free l.text l.block
    × (l.arena.slots.ghost_name ≡ l.initial.arena.slots.ghost_name)
