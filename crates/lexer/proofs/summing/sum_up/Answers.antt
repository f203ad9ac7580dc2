use Rattle.std.proofs.Common.{ap, ◌∙◌}
use Rattle.lexer.specs.Summing.{summed}
use Rattle.lexer.proofs.WholeText.{summed_by, summed_whole}
use Rattle.lexer.proofs.summing.sum_up.Goals as goal

pub returns : goal.returns
returns c =
    let v = c.args.totals.now in
    let r = c.whole-read.result in
    let by = summed_by v r _ c.saturating_add.ensures in
    record {
      value = by ∙ ap (summed v) c.whole-read.ensures.value;
      law = λ bs light e f. by ∙ summed_whole v r bs light e (c.whole-read.ensures.law bs f);
    }
