use Rattle.mark_moves.proofs.MarkParts.{no_write, moved_joined}
use Rattle.mark_moves.proofs.parting.join_moved.Goals as goal

pub returns-in_err-set_mark : goal.returns-in_err-set_mark
returns-in_err-set_mark c = no_write c.args.halves c.args.gap c.set_mark.ensures c.in_err-set_mark.was

pub returns : goal.returns
returns c = moved_joined c.args.halves c.args.gap c.set_mark.ensures c.concat.ensures
