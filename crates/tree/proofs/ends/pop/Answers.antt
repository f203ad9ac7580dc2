use Rattle.std.proofs.Common.{rules, sym}
use Rattle.tree.proofs.Shrinking.{pops_first, popped_at}
use Rattle.tree.proofs.ends.pop.Goals as goal

pub returns : goal.returns
returns g c =
    let same = sym c.pop_down-popped.ensures.same in
    popped_at {rs₁ = c.pop_down-popped.new.arena.slots.now} (search rules) (pops_first c.pop_down-popped.ensures.pops)
