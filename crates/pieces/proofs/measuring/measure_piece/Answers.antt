use Rattle.std.proofs.Common.{ap, ◌∙◌}
use Rattle.std.specs.Result.{result_ok}
use Rattle.pieces.proofs.PartRead.{partly_none, partly_more, partly_all, partly_stop}
use Rattle.pieces.proofs.measuring.measure_piece.Goals as goal

pub returns-in_err-byte : goal.returns-in_err-byte
returns-in_err-byte g c =
    partly_stop c.loop-i-test.true c.loop-i.invariant (rw (c.from.ensures, c.ok_or.ensures.ok_part ∙ ap result_ok c.in_err-byte.was) at c.read.ensures)

pub loop-i-init : goal.loop-i-init
loop-i-init g c = partly_none (g.S.Store.lawful.stops c.args.store.now) c.empty-value.ensures

pub loop-i-preserved : goal.loop-i-preserved
loop-i-preserved g c =
    partly_more c.loop-i-test.true c.loop-i.invariant (rw (c.from.ensures, c.ok_or.ensures.ok_part ∙ ap result_ok c.in_ok-byte.was) at c.read.ensures) c.add.ensures

pub returns : goal.returns
returns g c = partly_all c.loop-i-test.false c.loop-i.auto.i-end c.loop-i.invariant
