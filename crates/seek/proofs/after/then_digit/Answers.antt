use Rattle.std.proofs.Common.{refl}
use Rattle.seek.proofs.Onward.{digit_then_found, digit_then_none, digit_then_some}
use Rattle.seek.proofs.after.then_digit.Goals as goal

pub returns-then-is_some : goal.returns-then-is_some
returns-then-is_some g c = digit_then_found refl c.is_some.ensures c.if-is_some.true

pub returns-in-Some : goal.returns-in-Some
returns-in-Some g c = digit_then_some refl c.is_some.ensures c.if-is_some.false c.in-Some.is c.search_digit.ensures

pub returns-in-None : goal.returns-in-None
returns-in-None g c = digit_then_none refl c.is_some.ensures c.if-is_some.false c.in-None.is
