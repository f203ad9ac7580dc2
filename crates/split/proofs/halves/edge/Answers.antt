use Rattle.std.proofs.Common.{rules, sym}
use Rattle.split.proofs.Edges.{edged_at}
use Rattle.split.proofs.halves.edge.Goals as goal

pub returns : goal.returns
returns g c =
    let same = sym c.edge_in-made.ensures.same in
    edged_at {rs₁ = c.edge_in-made.new.arena.slots.now} (search rules) c.edge_in-made.ensures.edged
