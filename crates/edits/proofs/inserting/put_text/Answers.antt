use Rattle.edits.proofs.PutText.{put_no_parts, put_no_leaf, put_no_two, put_no_all, put_made}
use Rattle.edits.proofs.inserting.put_text.Goals as goal

pub returns-in_err-parts : goal.returns-in_err-parts
returns-in_err-parts g c = put_no_parts c.part_at.ensures c.args.row c.args.value c.in_err-parts.was

pub returns-in_err-i : goal.returns-in_err-i
returns-in_err-i g c = put_no_leaf c.part_at.ensures c.args.row c.args.value c.in_ok-parts.was c.put_leaf.ensures c.in_err-i.was

pub returns-in_err-some : goal.returns-in_err-some
returns-in_err-some g c = put_no_two c.part_at.ensures c.args.row c.args.value c.in_ok-parts.was c.put_leaf.ensures c.in_ok-i.was c.append.ensures c.in_err-some.was

pub returns-in_err-all : goal.returns-in_err-all
returns-in_err-all g c = put_no_all c.part_at.ensures c.args.row c.args.value c.in_ok-parts.was c.put_leaf.ensures c.in_ok-i.was c.append.ensures c.in_ok-some.was c.append_one.ensures c.in_err-all.was

pub returns : goal.returns
returns g c = put_made c.part_at.ensures c.args.row c.args.value c.in_ok-parts.was c.put_leaf.ensures c.in_ok-i.was c.append.ensures c.in_ok-some.was c.append_one.ensures c.in_ok-all.was c.concat.ensures
