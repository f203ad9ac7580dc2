use Rattle.pieces.proofs.CutLeaves.{all_behind, all_before, no_front, no_back, both_put}
use Rattle.pieces.proofs.leaves.keep_ends.Goals as goal

pub returns-then-j-eq0 : goal.returns-then-j-eq0
returns-then-j-eq0 g c = all_behind c.if-j-eq0.true

pub returns-then-k-row : goal.returns-then-k-row
returns-then-k-row g c = all_before c.row_at.ensures c.in_ok-row.was c.if-k-row.true

pub returns-in_err-front : goal.returns-in_err-front
returns-in_err-front g c = no_front c.row_at.ensures c.in_ok-row.was c.if-j-eq0.false c.if-k-row.false c.give_slot.ensures c.put_part.ensures c.in_err-front.was

pub returns-in_err-back : goal.returns-in_err-back
returns-in_err-back g c = no_back c.row_at.ensures c.in_ok-row.was c.if-j-eq0.false c.if-k-row.false c.give_slot.ensures c.put_part.ensures c.in_ok-front.was c.saturating_add.ensures c.saturating_sub.ensures c.put_part-2.ensures c.in_err-back.was

pub returns : goal.returns
returns g c = both_put c.row_at.ensures c.in_ok-row.was c.if-j-eq0.false c.if-k-row.false c.give_slot.ensures c.put_part.ensures c.in_ok-front.was c.saturating_add.ensures c.saturating_sub.ensures c.put_part-2.ensures c.in_ok-back.was
