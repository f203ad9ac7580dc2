use Rattle.excisions.proofs.TakeFrom.{inside_no_ends, inside_no_leaf, inside_made, across_no_ends, across_no_parts, across_made}
use Rattle.excisions.proofs.cutting.take_from.Goals as goal

pub returns-in_err-ends : goal.returns-in_err-ends
returns-in_err-ends g c = inside_no_ends c.args.spot c.args.n c.saturating_add-end.ensures c.if-end-spot.true c.keep_ends.ensures c.in_err-ends.was

pub returns-in_err-only : goal.returns-in_err-only
returns-in_err-only g c = inside_no_leaf c.args.spot c.args.n c.saturating_add-end.ensures c.if-end-spot.true c.keep_ends.ensures c.in_ok-ends.was c.saturating_add.ensures c.put_part.ensures c.in_err-only.was

pub returns-then-end-spot : goal.returns-then-end-spot
returns-then-end-spot g c = inside_made c.args.spot c.args.n c.saturating_add-end.ensures c.if-end-spot.true c.keep_ends.ensures c.in_ok-ends.was c.saturating_add.ensures c.put_part.ensures c.in_ok-only.was

pub returns-in_err-ends-2 : goal.returns-in_err-ends-2
returns-in_err-ends-2 g c = across_no_ends c.args.spot c.args.n c.saturating_add-end.ensures c.if-end-spot.false c.keep_ends-2.ensures c.in_err-ends-2.was

pub returns-in_err-parts : goal.returns-in_err-parts
returns-in_err-parts g c = across_no_parts c.args.spot c.args.n c.saturating_add-end.ensures c.if-end-spot.false c.keep_ends-2.ensures c.in_ok-ends-2.was c.part_at.ensures c.in_err-parts.was

pub returns : goal.returns
returns g c = across_made c.args.spot c.args.n c.saturating_add-end.ensures c.if-end-spot.false c.keep_ends-2.ensures c.in_ok-ends-2.was c.part_at.ensures c.in_ok-parts.was
