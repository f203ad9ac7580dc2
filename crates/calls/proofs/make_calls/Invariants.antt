use Rattle.calls.specs.Calls.{plain_calls}
use Rattle.calls.specs.Claim.{moment}
use Rattle.calls.proofs.Traces.{MadeSoFar}
use Rattle.calls.proofs.make_calls.Given as goal

abbrev pub invariant-loop-i : goal.invariant-loop-i
invariant-loop-i g l =
    MadeSoFar g.A.Measure.means g.S.Store.contents
    (moment l.initial.text l.initial.slots l.initial.marks l.initial.store l.initial.scratch) (plain_calls l.calls) l.initial.replies l.replies l.i
    (moment l.text l.slots l.marks l.store l.scratch)
