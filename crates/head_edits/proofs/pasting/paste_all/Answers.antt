use Rattle.head_edits.proofs.Pastings.{paste_no_size, paste_no_text, paste_no_marks, paste_both}
use Rattle.head_edits.proofs.pasting.paste_all.Goals as goal

pub returns-in_err-length : goal.returns-in_err-length
returns-in_err-length g c = paste_no_size g.S.Store.lawful c.args.head c.args.at c.args.pieces c.size_of.ensures c.in_err-length.was

pub returns-in_err-text : goal.returns-in_err-text
returns-in_err-text g c = paste_no_text g.S.Store.lawful c.args.head c.args.at c.args.pieces c.size_of.ensures c.in_ok-length.was c.paste_text.ensures c.in_err-text.was

pub returns-in_err-moved : goal.returns-in_err-moved
returns-in_err-moved g c = paste_no_marks g.S.Store.lawful c.args.head c.args.at c.args.pieces c.size_of.ensures c.in_ok-length.was c.paste_text.ensures c.grow_marks.ensures c.in_err-moved.was

pub returns : goal.returns
returns g c = paste_both g.S.Store.lawful c.args.head c.args.at c.args.pieces c.size_of.ensures c.in_ok-length.was c.paste_text.ensures c.grow_marks.ensures c.in_ok-text.was c.in_ok-moved.was
