use Rattle.std.proofs.Common.{sym, subst, ◌∙◌, arith}
use Rattle.lexer.specs.Reading.{Whole}
use Rattle.lexer.specs.RowValues.{row_at_lem}
use Rattle.lexer.proofs.WholeText.{whole_read}
use Rattle.lexer.proofs.tokens.whole.Goals as goal

pub returns : goal.returns
returns c = record {
  value = c.row_of.ensures;
  law = λ bs e. subst (Whole bs) (sym (c.row_of.ensures ∙ row_at_lem c.args.rows.now bs 0 (omega arith) e)) (whole_read bs);
}
