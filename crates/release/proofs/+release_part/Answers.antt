use Rattle.release.proofs.Releasing.{part_no_fuel, part_no_twig, part_no_gift, part_no_below, part_no_rest, part_freed}
use Rattle.release.proofs.+release_part.Goals as goal

pub returns-then-fuel-eq0 : goal.returns-then-fuel-eq0
returns-then-fuel-eq0 g t c = part_no_fuel c.in-Some.is c.if-fuel-eq0.true

pub returns-in_err-below : goal.returns-in_err-below
returns-in_err-below g t c = part_no_twig c.in-Some.is c.peel-first.ensures c.below_at.ensures c.in_err-below.was

pub returns-in_err-give_slot : goal.returns-in_err-give_slot
returns-in_err-give_slot g t c = part_no_gift c.in-Some.is c.peel-first.ensures c.below_at.ensures c.give_slot.ensures c.in_ok-below.was c.in_err-give_slot.was

pub returns-in_err-under : goal.returns-in_err-under
returns-in_err-under g t c = part_no_below c.in-Some.is c.peel-first.ensures c.below_at.ensures c.give_slot.ensures c.in_ok-below.was c.release_part.ensures c.in_err-under.was

pub returns-in_err-others : goal.returns-in_err-others
returns-in_err-others g t c = part_no_rest c.in-Some.is c.peel-first.ensures c.below_at.ensures c.give_slot.ensures c.in_ok-below.was c.release_part.ensures c.release_part-2.ensures c.in_err-others.was

pub returns : goal.returns
returns g t c = part_freed c.in-Some.is c.peel-first.ensures c.below_at.ensures c.give_slot.ensures c.in_ok-below.was c.release_part.ensures c.release_part-2.ensures c.in_ok-under.was c.in_ok-others.was c.leaves.ensures c.saturating_add.ensures
