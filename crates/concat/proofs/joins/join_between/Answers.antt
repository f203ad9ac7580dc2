use Rattle.slots.proofs.Joined.{join_both}
use Rattle.concat.proofs.Melting.{between_none, between_some, between_no_first, between_no_part}
use Rattle.concat.proofs.joins.join_between.Goals as goal

pub returns-in_err-first : goal.returns-in_err-first
returns-in_err-first g c = between_no_first c.in_err-first.ensures

pub returns-in-None : goal.returns-in-None
returns-in-None g c = between_none c.in-None.is c.in_ok-first.ensures c.join_on.ensures

pub returns-in_err-digit_value-in-Some : goal.returns-in_err-digit_value-in-Some
returns-in_err-digit_value-in-Some g c = between_no_part c.in-Some.is c.in_err-digit_value-in-Some.ensures

pub returns-in_ok-digit_value-in-Some : goal.returns-in_ok-digit_value-in-Some
returns-in_ok-digit_value-in-Some g c = between_some c.in-Some.is c.in_ok-first.ensures c.in_ok-digit_value-in-Some.ensures (join_both c.join-left.ensures) c.join_on-in-Some.ensures
