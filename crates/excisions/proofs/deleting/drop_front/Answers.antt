use Rattle.std.proofs.Common.{Ok, ap, ◌∙◌}
use Rattle.excisions.proofs.DropFront.{drop_no_open, drop_no_release, drop_all, drop_no_ends, drop_no_before, drop_made}
use Rattle.excisions.proofs.deleting.drop_front.Goals as goal

pub returns-in_err-spot : goal.returns-in_err-spot
returns-in_err-spot g c = drop_no_open c.open_at.ensures c.in_err-spot.was

pub returns-in_err-all : goal.returns-in_err-all
returns-in_err-all g c = drop_no_release c.open_at.ensures (c.in_ok-spot.was ∙ ap Ok c.in_default.is) c.release.ensures c.in_err-all.was

pub returns-in_default : goal.returns-in_default
returns-in_default g c = drop_all c.open_at.ensures (c.in_ok-spot.was ∙ ap Ok c.in_default.is) c.release.ensures c.in_ok-all.was

pub returns-in_err-ends : goal.returns-in_err-ends
returns-in_err-ends g c = drop_no_ends c.open_at.ensures (c.in_ok-spot.was ∙ ap Ok c.in-Some.is) c.keep_ends.ensures c.in_err-ends.was

pub returns-in_err-before : goal.returns-in_err-before
returns-in_err-before g c = drop_no_before c.open_at.ensures (c.in_ok-spot.was ∙ ap Ok c.in-Some.is) c.keep_ends.ensures c.in_ok-ends.was c.release-2.ensures c.in_err-before.was

pub returns : goal.returns
returns g c = drop_made c.open_at.ensures (c.in_ok-spot.was ∙ ap Ok c.in-Some.is) c.keep_ends.ensures c.in_ok-ends.was c.release-2.ensures c.in_ok-before.was c.saturating_add.ensures
