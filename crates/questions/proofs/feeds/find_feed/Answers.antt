use Rattle.std.proofs.Common.{ap, ◌∙◌}
use Rattle.std.specs.Result.{result_ok}
use Rattle.questions.proofs.FeedScan.{scan_on, scan_met, scan_found, scan_stop}
use Rattle.questions.proofs.feeds.find_feed.Goals as goal
use Rattle.questions.proofs.feeds.find_feed.Goals.{then-byte-eq-FEED+else-met-number, else-byte-eq-FEED}

pub returns-in_err-byte : goal.returns-in_err-byte
returns-in_err-byte g c =
    scan_stop c.args.piece.short c.loop-i-test.true c.loop-i.invariant (rw (c.from.ensures, c.ok_or.ensures.ok_part ∙ ap result_ok c.in_err-byte.was) at c.read.ensures)

pub returns-then-met-number : goal.returns-then-met-number
returns-then-met-number g c =
    let read = rw (c.from.ensures, c.ok_or.ensures.ok_part ∙ ap result_ok c.in_ok-byte.was) at c.read.ensures in
    rw c.from-then-met-number.ensures (scan_found c.args.piece.short c.loop-i-test.true c.loop-i.invariant read c.if-byte-eq-FEED.true c.if-met-number.true)

pub loop-i-preserved : goal.loop-i-preserved
loop-i-preserved g c =
    let read = rw (c.from.ensures, c.ok_or.ensures.ok_part ∙ ap result_ok c.in_ok-byte.was) at c.read.ensures in
    elim c.if-byte-eq-FEED.branch [
      | then-byte-eq-FEED+else-met-number w ↦ scan_met c.args.piece.short c.loop-i-test.true c.loop-i.invariant read w.if-byte-eq-FEED.true w.if-met-number.false w.met-is
      | else-byte-eq-FEED w ↦ scan_on c.args.piece.short c.loop-i-test.true c.loop-i.invariant read w.if-byte-eq-FEED.false w.met-is
    ]
