use Rattle.std.proofs.Common.{arith}
use lib.ListN.{length-map}
use Rattle.calls.specs.Calls.{plain_call, plain_calls}
use Rattle.calls.proofs.WholeRuns.{err_is, few_places, short_scratch, unopened, was_run}
use Rattle.calls.proofs.run.Goals as goal

pub returns-then-replies-calls : goal.returns-then-replies-calls
returns-then-replies-calls g c = few_places g.A.Measure.means g.S.Store.contents (plain_calls c.args.calls.now) c.args.slots.now c.args.marks.now c.args.store.now c.args.scratch.now c.args.replies.now (omega (arith, length-map c.args.calls.now plain_call))

pub returns-then-scratch-from : goal.returns-then-scratch-from
returns-then-scratch-from g c = short_scratch g.A.Measure.means g.S.Store.contents (plain_calls c.args.calls.now) c.args.slots.now c.args.marks.now c.args.store.now c.args.scratch.now c.args.replies.now (omega (arith, length-map c.args.calls.now plain_call)) (omega arith)

pub returns : goal.returns
returns g c =
    was_run g.A.Measure.means g.S.Store.contents (plain_calls c.args.calls.now) c.args.slots.now c.args.marks.now c.args.store.now c.args.scratch.now c.args.replies.now (omega (arith, length-map c.args.calls.now plain_call)) (omega arith)
    c.open.new.slots c.make_calls-text.new.slots c.settle.new.slots c.open.new.marks c.make_calls-text.new.marks c.open.new.store c.make_calls-text.new.store c.make_calls-text.new.scratch c.make_calls-text.new.replies
    c.in_ok-whole.whole c.settle.result c.make_calls-text.result c.open.auto.slots c.open.auto.marks c.in_ok-whole.ensures c.make_calls-text.ensures c.settle.ensures

pub returns-in_err-whole : goal.returns-in_err-whole
returns-in_err-whole g c = unopened g.A.Measure.means g.S.Store.contents (plain_calls c.args.calls.now) c.args.slots.now c.args.marks.now c.args.store.now c.args.scratch.now c.args.replies.now (omega (arith, length-map c.args.calls.now plain_call)) (omega arith) c.open.new.slots c.open.new.marks c.open.new.store c.in_err-whole.ensures (err_is c.from_residual.ensures.1)
