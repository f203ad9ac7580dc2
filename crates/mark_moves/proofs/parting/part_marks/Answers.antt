use Rattle.std.proofs.Common.{Ok, ap, ◌∙◌}
use Rattle.mark_moves.proofs.MarkParts.{no_split, all_before, no_row, apart_at}
use Rattle.mark_moves.proofs.parting.part_marks.Goals as goal

pub returns-in_err-found : goal.returns-in_err-found
returns-in_err-found c = no_split c.args.at c.split.ensures c.in_err-found.was

pub returns-in_default : goal.returns-in_default
returns-in_default c = all_before c.args.at c.split.ensures (c.in_ok-found.was ∙ ap Ok c.in_default.is)

pub returns-in_err-row : goal.returns-in_err-row
returns-in_err-row c = no_row c.args.at c.split.ensures (c.in_ok-found.was ∙ ap Ok c.in-Some.is) c.row_at.ensures c.in_err-row.was

pub returns : goal.returns
returns c = apart_at c.args.at c.split.ensures (c.in_ok-found.was ∙ ap Ok c.in-Some.is) c.row_at.ensures c.in_ok-row.was
