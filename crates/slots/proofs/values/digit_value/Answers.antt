use Rattle.std.proofs.Common.{sym}
use Rattle.slots.proofs.Joined.{join_stopped, digit_one, digit_two, digit_three, digit_four}
use Rattle.slots.proofs.values.digit_value.Goals as goal

pub returns-in-One : goal.returns-in-One
returns-in-One g c = digit_one _ c.in-One.is c.value_at.ensures

pub returns-in_ok-value_ref-in-Two : goal.returns-in_ok-value_ref-in-Two
returns-in_ok-value_ref-in-Two g c = digit_two _ c.in-Two.is (sym c.in_ok-value_ref-in-Two.ensures) c.join_on.ensures

pub returns-in_err-two-in-Three : goal.returns-in_err-two-in-Three
returns-in_err-two-in-Three g c = digit_three _ c.in-Three.is (sym c.in_ok-value_ref-in-Three.ensures) c.in_err-two-in-Three.ensures join_stopped

pub returns-in_ok-two-in-Three : goal.returns-in_ok-two-in-Three
returns-in_ok-two-in-Three g c = digit_three _ c.in-Three.is (sym c.in_ok-value_ref-in-Three.ensures) c.in_ok-two-in-Three.ensures c.join_on-in-Three-2.ensures

pub returns-in_err-two-in-Four : goal.returns-in_err-two-in-Four
returns-in_err-two-in-Four g c = digit_four _ c.in-Four.is (sym c.in_ok-value_ref-in-Four.ensures) c.in_err-two-in-Four.ensures join_stopped join_stopped

pub returns-in_err-three-in-Four : goal.returns-in_err-three-in-Four
returns-in_err-three-in-Four g c = digit_four _ c.in-Four.is (sym c.in_ok-value_ref-in-Four.ensures) c.in_ok-two-in-Four.ensures c.in_err-three-in-Four.ensures join_stopped

pub returns-in_ok-three-in-Four : goal.returns-in_ok-three-in-Four
returns-in_ok-three-in-Four g c = digit_four _ c.in-Four.is (sym c.in_ok-value_ref-in-Four.ensures) c.in_ok-two-in-Four.ensures c.in_ok-three-in-Four.ensures c.join_on-in-Four-3.ensures
