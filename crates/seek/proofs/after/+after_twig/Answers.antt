use Rattle.seek.proofs.Onward.{after_leaf, after_no_parts, after_err, after_none, after_some, digit_then_stopped}
use Rattle.seek.proofs.after.+after_twig.Goals as goal

pub returns-then-height-eq0 : goal.returns-then-height-eq0
returns-then-height-eq0 g t c = after_leaf c.if-height-eq0.true

pub returns-in_err-parts : goal.returns-in_err-parts
returns-in_err-parts g t c = after_no_parts c.if-height-eq0.false c.parts_at.ensures c.in_err-parts.was

pub returns-in_err-pick : goal.returns-in_err-pick
returns-in_err-pick g t c = after_err c.if-height-eq0.false c.parts_at.ensures c.in_ok-parts.was c.pick.ensures c.in_err-pick.was

pub returns-in_err-cut : goal.returns-in_err-cut
returns-in_err-cut g t c = after_none c.if-height-eq0.false c.parts_at.ensures c.in_ok-parts.was c.pick.ensures c.in_ok-pick.was c.in_err-cut.ensures.ok_part

pub returns-in_err-found : goal.returns-in_err-found
returns-in_err-found g t c = after_some c.if-height-eq0.false c.parts_at.ensures c.in_ok-parts.was c.pick.ensures c.in_ok-pick.was c.in_ok-cut.ensures.ok_part c.in_err-found.ensures digit_then_stopped

pub returns : goal.returns
returns g t c = after_some c.if-height-eq0.false c.parts_at.ensures c.in_ok-parts.was c.pick.ensures c.in_ok-pick.was c.in_ok-cut.ensures.ok_part c.in_ok-found.ensures c.then_digit.ensures
