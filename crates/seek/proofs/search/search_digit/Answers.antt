use Rattle.seek.proofs.Finding.{digit_none, digit_err, digit_found, digit_lost}
use Rattle.seek.proofs.search.search_digit.Goals as goal

pub returns-in_err-cut : goal.returns-in_err-cut
returns-in_err-cut g c = digit_err c.pick.ensures c.in_err-cut.was

pub returns-in_default : goal.returns-in_default
returns-in_default g c = digit_none c.pick.ensures c.in_ok-cut.was c.in_default.is

pub returns-in_err-leaf : goal.returns-in_err-leaf
returns-in_err-leaf g c = digit_lost c.pick.ensures c.in_ok-cut.was c.in-Some.is c.search_twig.ensures c.in_err-leaf.was

pub returns : goal.returns
returns g c = digit_found c.pick.ensures c.in_ok-cut.was c.in-Some.is c.search_twig.ensures c.in_ok-leaf.was
