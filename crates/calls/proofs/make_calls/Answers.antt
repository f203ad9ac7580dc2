use Rattle.std.proofs.Common.{◌<◌, length, arith, length-take}
use Rattle.std.proofs.lemmas.List.{get_or-take}
use lib.ListN.{length-map}
use Rattle.calls.specs.Calls.{plain_call, plain_calls}
use Rattle.calls.proofs.Traces.{none_made, next_made, all_made}
use Rattle.calls.proofs.make_calls.Goals as goal

pub loop-i-init : goal.loop-i-init
loop-i-init g c = none_made g.A.Measure.means g.S.Store.contents _ (plain_calls c.args.calls.now) c.args.replies.now

pub loop-i-preserved : goal.loop-i-preserved
loop-i-preserved g c =
    let within : c.loop-i.i < c.min-count.result = omega (arith, length-take c.min-count.result c.args.calls.now) in
    let here : c.loop-i.i < length c.loop-i.replies = omega arith in
    next_made g.A.Measure.means g.S.Store.contents c.args.calls.now c.loop-i.replies c.put_reply.new.replies c.loop-i.i _ c.make_call-next.result.1 _ (omega arith) here
    c.loop-i.auto.slots c.loop-i.auto.marks c.loop-i.auto.scratch (rw (get_or-take c.min-count.result c.args.calls.now c.loop-i.i _ within) at c.make_call-next.ensures) (c.put_reply.ensures here) c.loop-i.invariant

pub returns : goal.returns
returns g c =
    all_made g.A.Measure.means g.S.Store.contents (omega (arith, length-map c.args.calls.now plain_call, length-take c.min-count.result c.args.calls.now)) c.loop-i.auto.replies c.loop-i.invariant
