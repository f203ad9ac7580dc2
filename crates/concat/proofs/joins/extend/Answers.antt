use Rattle.std.proofs.Common.{rules, sym}
use Rattle.concat.proofs.Melting.{extends, extends_at}
use Rattle.concat.proofs.joins.extend.Goals as goal

pub returns : goal.returns
returns g c =
    let same = sym c.extend_down-made.ensures.same in
    extends_at {rs₁ = c.extend_down-made.new.arena.slots.now} (search rules) (extends c.extend_down-made.ensures.extended)
