use Rattle.head_edits.proofs.Removals.{delete_no_text, delete_no_marks, delete_both}
use Rattle.head_edits.proofs.deleting.delete_all.Goals as goal

pub returns-in_err-left : goal.returns-in_err-left
returns-in_err-left g c = delete_no_text g.S.Store.lawful c.args.head c.args.from c.args.to c.delete_text.ensures c.in_err-left.was

pub returns-in_err-closed : goal.returns-in_err-closed
returns-in_err-closed g c = delete_no_marks g.S.Store.lawful c.args.head c.args.from c.args.to c.delete_text.ensures c.close_marks.ensures c.in_err-closed.was

pub returns : goal.returns
returns g c = delete_both g.S.Store.lawful c.args.head c.args.from c.args.to c.delete_text.ensures c.close_marks.ensures c.in_ok-left.was c.in_ok-closed.was
