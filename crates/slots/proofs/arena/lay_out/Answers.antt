use Rattle.std.proofs.Common.{◌≡◌, ◌+◌, ◌-◌, ◌<◌, length, refl, subst, arith}
use Rattle.slots.specs.Post.{watched}
use Rattle.slots.proofs.Laying.{Laying, laying_none, laying_more, laid_out}
use Rattle.slots.proofs.arena.lay_out.Goals as goal

pub loop-i-init : goal.loop-i-init
loop-i-init g c = laying_none _ _ c.watched-i.ensures

pub loop-i-preserved : goal.loop-i-preserved
loop-i-preserved g c =
    let lt : c.loop-i.i - 1 < length c.loop-i.slots = omega (arith, c.loop-i.invariant.till, c.loop-i.invariant.len, c.loop-i-test.true) in
    let e : c.loop-i.i ≡ (c.loop-i.i - 1) + 1 = omega (arith, c.loop-i-test.true) in
    laying_more (c.loop-i.i - 1) lt (subst (λ q. Laying c.args.slots.now c.loop-i.slots c.loop-i.free q (watched (length c.args.slots.now))) e c.loop-i.invariant)

pub returns : goal.returns
returns g c = laid_out refl c.loop-i-test.false c.loop-i.invariant
