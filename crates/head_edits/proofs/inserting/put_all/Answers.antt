use Rattle.head_edits.proofs.Insertions.{put_no_text, put_no_marks, put_both}
use Rattle.head_edits.proofs.inserting.put_all.Goals as goal

pub returns-in_err-text : goal.returns-in_err-text
returns-in_err-text g c = put_no_text g.S.Store.lawful c.args.head c.args.at c.args.pieces c.args.bytes.now c.min-length.ensures c.measured-value.ensures c.put_text.ensures c.in_err-text.was

pub returns-in_err-moved : goal.returns-in_err-moved
returns-in_err-moved g c = put_no_marks g.S.Store.lawful c.args.head c.args.at c.args.pieces c.args.bytes.now c.min-length.ensures c.measured-value.ensures c.put_text.ensures c.grow_marks.ensures c.in_err-moved.was

pub returns : goal.returns
returns g c = put_both g.S.Store.lawful c.args.head c.args.at c.args.pieces c.args.bytes.now c.min-length.ensures c.measured-value.ensures c.put_text.ensures c.grow_marks.ensures c.in_ok-text.was c.in_ok-moved.was
