use Rattle.pieces.proofs.CutLeaves.{part_no_slot, part_put}
use Rattle.pieces.proofs.leaves.put_part.Goals as goal

pub returns-in_err-i : goal.returns-in_err-i
returns-in_err-i g c = part_no_slot c.measure_row.ensures c.in_ok-value.was c.put_leaf.ensures c.if-row-eq0.false c.in_err-i.was

pub returns : goal.returns
returns g c = part_put c.measure_row.ensures c.in_ok-value.was c.put_leaf.ensures c.if-row-eq0.false c.in_ok-i.was
