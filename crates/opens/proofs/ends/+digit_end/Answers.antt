use Rattle.opens.proofs.Placing.{digit_endless, digit_ends_one, digit_ends_more}
use Rattle.opens.proofs.ends.+digit_end.Goals as goal

pub returns-in_err-next : goal.returns-in_err-next
returns-in_err-next g t c = digit_endless c.slot_end.ensures c.peel-first.ensures c.in_err-next.was

pub returns-in-None : goal.returns-in-None
returns-in-None g t c = digit_ends_one c.slot_end.ensures c.peel-first.ensures c.in_ok-next.was c.in-None.is

pub returns-in-Some : goal.returns-in-Some
returns-in-Some g t c = digit_ends_more c.slot_end.ensures c.peel-first.ensures c.in_ok-next.was c.in-Some.is c.digit_end.ensures
