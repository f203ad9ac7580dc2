use Rattle.head_edits.proofs.Removals.{cut_no_text, cut_no_marks, cut_both}
use Rattle.head_edits.proofs.cutting.cut_all.Goals as goal

pub returns-in_err-parts : goal.returns-in_err-parts
returns-in_err-parts g c = cut_no_text g.S.Store.lawful c.args.head c.args.pieces c.args.from c.args.to c.cut_text.ensures c.in_err-parts.was

pub returns-in_err-closed : goal.returns-in_err-closed
returns-in_err-closed g c = cut_no_marks g.S.Store.lawful c.args.head c.args.pieces c.args.from c.args.to c.cut_text.ensures c.close_marks.ensures c.in_err-closed.was

pub returns : goal.returns
returns g c = cut_both g.S.Store.lawful c.args.head c.args.pieces c.args.from c.args.to c.cut_text.ensures c.close_marks.ensures c.in_ok-parts.was c.in_ok-closed.was
