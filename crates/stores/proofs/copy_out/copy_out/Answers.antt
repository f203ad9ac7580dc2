use Rattle.std.proofs.Common.{ℕ, List, length, length-take, take, ap, ◌∙◌, arith}
use Rattle.stores.proofs.Holdings.{copied_more}
use Rattle.stores.proofs.copy_out.copy_out.Goals as goal
use Rattle.stores.proofs.copy_out.copy_out.Goals.{in-Some, in_default}

pub loop-i-preserved : goal.loop-i-preserved
loop-i-preserved g c =
    let v = c.loop-i.invariant in
    let i : ℕ = c.loop-i.i in
    let bytes : List ℕ = (g.S.Store.contents c.args.store.now).bytes in
    let old : List ℕ = take c.min-count.result c.args.buffer.now in
    let fits = length-take c.min-count.result c.args.buffer.now in
    let same = ap (λ (t : List ℕ). length t) v.same_bytes in
    record {
      same_bytes = c.read.ensures.same_bytes ∙ v.same_bytes;
      same_capacity = c.read.ensures.same_capacity ∙ v.same_capacity;
      counts = omega arith;
      copied =
          elim c.match-read.branch [
            | in-Some w ↦ w.place-items-is ∙ copied_more bytes (g.S.Store.contents c.loop-i.store).bytes old c.loop-i.place-items c.args.from i _ w.in-Some.byte v.same_bytes (omega arith) w.in-Some.ensures.gives (omega arith) v.copied
            | in_default w ↦ absurd (omega (arith, w.in_default.ensures.gives))
          ];
    }
