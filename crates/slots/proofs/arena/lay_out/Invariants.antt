use Rattle.std.proofs.Common.{length}
use Rattle.slots.specs.Post.{watched}
use Rattle.slots.proofs.Laying.{Laying}
use Rattle.slots.proofs.arena.lay_out.Given as goal

abbrev pub invariant-loop-i : goal.invariant-loop-i
invariant-loop-i g l = Laying l.initial.slots l.slots l.free l.i (watched (length l.initial.slots))
