use Rattle.std.proofs.Common.{rules, sym}
use Rattle.split.proofs.Edges.{rejoined_at}
use Rattle.split.proofs.halves.rejoin.Goals as goal

pub returns : goal.returns
returns g c =
    let same = sym c.rejoin_in-made.ensures.same in
    rejoined_at {rs₁ = c.rejoin_in-made.new.arena.slots.now} (search rules) c.rejoin_in-made.ensures.rejoined
