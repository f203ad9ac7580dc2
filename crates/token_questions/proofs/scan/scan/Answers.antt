use Rattle.std.proofs.Common.{ap, ◌∙◌}
use Rattle.std.specs.Result.{result_ok}
use Rattle.token_questions.proofs.Scanning.{scanning_none, scanning_more, scanning_stops, scanning_past, scanning_all}
use Rattle.token_questions.proofs.scan.scan.Goals as goal

pub loop-i-init : goal.loop-i-init
loop-i-init g c = scanning_none (g.S.Store.lawful.stops c.args.store.now)

pub loop-i-preserved : goal.loop-i-preserved
loop-i-preserved g c =
    scanning_more c.loop-i-test.true c.args.piece.short c.loop-i.invariant
    (rw (c.from-index.ensures, c.ok_or.ensures.ok_part ∙ ap result_ok c.in_ok-byte.was) at c.read.ensures)
    c.and_byte-after.ensures (rw c.from-index.ensures at c.is_reached.ensures) c.if-is_reached.false

pub returns-then-is_reached : goal.returns-then-is_reached
returns-then-is_reached g c =
    rw c.from-index.ensures
    (scanning_stops c.loop-i-test.true c.args.piece.short c.loop-i.invariant
    (rw (c.from-index.ensures, c.ok_or.ensures.ok_part ∙ ap result_ok c.in_ok-byte.was) at c.read.ensures)
    c.and_byte-after.ensures (rw c.from-index.ensures at c.is_reached.ensures) c.if-is_reached.true)

pub returns-in_err-byte : goal.returns-in_err-byte
returns-in_err-byte g c =
    scanning_past c.loop-i-test.true c.args.piece.short c.loop-i.invariant
    (rw (c.from-index.ensures, c.ok_or.ensures.ok_part ∙ ap result_ok c.in_err-byte.was) at c.read.ensures)

pub returns : goal.returns
returns g c = scanning_all c.loop-i-test.false c.loop-i.auto.i-end c.args.piece.some c.args.piece.short c.loop-i.invariant
