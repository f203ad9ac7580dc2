use Rattle.excisions.proofs.DropFrom.{within_no_ends, within_made, beyond_no_ends, beyond_no_rest, beyond_made}
use Rattle.excisions.proofs.deleting.drop_from.Goals as goal

pub returns-in_err-ends : goal.returns-in_err-ends
returns-in_err-ends g c = within_no_ends c.args.spot c.args.n c.saturating_add-end.ensures c.if-end-spot.true c.keep_ends.ensures c.in_err-ends.was

pub returns-then-end-spot : goal.returns-then-end-spot
returns-then-end-spot g c = within_made c.args.spot c.args.n c.saturating_add-end.ensures c.if-end-spot.true c.keep_ends.ensures c.in_ok-ends.was

pub returns-in_err-first : goal.returns-in_err-first
returns-in_err-first g c = beyond_no_ends c.args.spot c.args.n c.saturating_add-end.ensures c.if-end-spot.false c.keep_ends-2.ensures c.in_err-first.was

pub returns-in_err-rest : goal.returns-in_err-rest
returns-in_err-rest g c = beyond_no_rest c.args.spot c.args.n c.saturating_add-end.ensures c.if-end-spot.false c.keep_ends-2.ensures c.in_ok-first.was c.drop_front.ensures c.in_err-rest.was

pub returns : goal.returns
returns g c = beyond_made c.args.spot c.args.n c.saturating_add-end.ensures c.if-end-spot.false c.keep_ends-2.ensures c.in_ok-first.was c.drop_front.ensures c.in_ok-rest.was c.saturating_add.ensures
