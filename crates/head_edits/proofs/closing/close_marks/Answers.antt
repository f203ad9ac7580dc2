use Rattle.head_edits.proofs.Removals.{close_no_marks, close_no_count, closed}
use Rattle.head_edits.proofs.closing.close_marks.Goals as goal

pub returns-in_err-tree : goal.returns-in_err-tree
returns-in_err-tree c = close_no_marks c.shrink_marks.ensures c.in_err-tree.was

pub returns-in_err-count : goal.returns-in_err-count
returns-in_err-count c = close_no_count c.shrink_marks.ensures c.in_ok-tree.was c.count_marks.ensures c.in_err-count.was

pub returns : goal.returns
returns c = closed c.shrink_marks.ensures c.in_ok-tree.was c.count_marks.ensures c.in_ok-count.was
