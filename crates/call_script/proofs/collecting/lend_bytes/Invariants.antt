use Rattle.std.proofs.Common.{◌≡◌, ◌++◌, drop, vec_items}
use Rattle.calls.specs.Calls.{plain_calls}
use Rattle.call_script.specs.Listed.{all_inserted}
use Rattle.call_script.proofs.Collected.{meant_all}
use Rattle.call_script.proofs.collecting.lend_bytes.Given as goal

abbrev pub invariant-loop-call : goal.invariant-loop-call
invariant-loop-call l =
    (plain_calls (vec_items l.lent) ++ meant_all (drop l.call-index l.calls) ≡ meant_all l.calls)
    × (l.rest ≡ all_inserted (meant_all (drop l.call-index l.calls)))
