use Rattle.std.proofs.Common.{◌++◌, arith}
use Rattle.digit_sum.specs.DigitLaws.{sum_append, sum_bound}
use Rattle.digit_sum.proofs.digits.DigitSumMeasure.join.Goals as goal

pub returns : goal.returns
returns c = record { joins = λ xs ys light a-is b-is. omega (arith, c.saturating_add.ensures, sum_append xs ys, sum_bound (xs ++ ys)) }
