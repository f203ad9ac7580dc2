use Rattle.std.proofs.Common.{◌≡◌, ◌++◌, take, drop}
use Rattle.stores.specs.Stores.{summed}
use Rattle.stores.proofs.copy_out.copy_out.Given as goal

abbrev pub invariant-loop-i : goal.invariant-loop-i
invariant-loop-i g l = record {
  same_bytes : (g.S.Store.contents l.store).bytes ≡ (g.S.Store.contents l.initial.store).bytes;
  same_capacity : (g.S.Store.contents l.store).capacity ≡ (g.S.Store.contents l.initial.store).capacity;
  counts : (g.S.Store.contents l.store).reads ≡ summed (g.S.Store.contents l.initial.store).reads l.i;
  copied : l.place-items ≡ take l.i (drop l.from (g.S.Store.contents l.initial.store).bytes) ++ drop l.i l.initial.place-items;
}
