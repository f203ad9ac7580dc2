use Rattle.mark_moves.proofs.MarkDesk.{counted}
use Rattle.mark_moves.proofs.counting.count_marks.Goals as goal

pub returns : goal.returns
returns c = counted c.tree_value.ensures c.in_ok-value.was
