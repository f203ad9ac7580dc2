use Rattle.std.proofs.Common.{rules, sym}
use Rattle.concat.proofs.Melting.{concats, concats_at}
use Rattle.concat.proofs.joins.concat.Goals as goal

pub returns : goal.returns
returns g c =
    let same = sym c.concat_down-made.ensures.same in
    concats_at {rs₁ = c.concat_down-made.new.arena.slots.now} (search rules) (concats c.concat_down-made.ensures.melted)
