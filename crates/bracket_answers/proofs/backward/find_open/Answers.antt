use Rattle.std.proofs.Common.{ap, ◌∙◌}
use Rattle.std.specs.Result.{result_ok}
use Rattle.lexer.specs.Numbers.{number_bound}
use Rattle.bracket_answers.proofs.Openings.{opening_none, opening_more, opening_past, opening_all}
use Rattle.bracket_answers.proofs.backward.find_open.Goals as goal

pub loop-i-init : goal.loop-i-init
loop-i-init g c = (c.into-begun.result, c.into-begun.ensures, opening_none c.start-row.ensures)

pub loop-i-preserved : goal.loop-i-preserved
loop-i-preserved g c =
    let kept = c.loop-i.invariant in (
      kept.0,
      kept.1,
      opening_more (number_bound kept.0) c.loop-i-test.true c.args.piece.short kept.2 (rw (c.from.ensures, c.ok_or.ensures.ok_part ∙ ap result_ok c.in_ok-byte.was) at c.read.ensures) c.and_byte-next.ensures
          (rw c.from-in-loop-i.ensures at c.keep-met.ensures),
    )

pub returns-in_err-byte : goal.returns-in_err-byte
returns-in_err-byte g c =
    let kept = c.loop-i.invariant in
    (kept.0, kept.1, opening_past c.loop-i-test.true c.args.piece.short kept.2 (rw (c.from.ensures, c.ok_or.ensures.ok_part ∙ ap result_ok c.in_err-byte.was) at c.read.ensures))

pub returns : goal.returns
returns g c =
    let kept = c.loop-i.invariant in
    (kept.0, kept.1, opening_all c.loop-i-test.false c.loop-i.auto.i-end c.args.piece.short kept.2)
