use Rattle.std.proofs.Common.{◌≡◌, ◌++◌, drop, vec_items}
use Rattle.call_script.specs.Listed.{all_inserted}
use Rattle.call_script.proofs.Collected.{meant_all}
use Rattle.call_script.proofs.collecting.decode_calls.Given as goal

abbrev pub invariant-loop-call : goal.invariant-loop-call
invariant-loop-call l =
    vec_items l.out ++ all_inserted (meant_all (drop l.call-index l.calls)) ≡ vec_items l.initial.out ++ all_inserted (meant_all l.calls)
