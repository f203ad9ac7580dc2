use Rattle.std.proofs.Common.{refl}
use Rattle.opens.proofs.Judging.{visit_found, visit_no_value, visit_skip, visit_split, visit_over, visit_holds, visit_pass}
use Rattle.opens.proofs.walk.Walk.visit.Goals as goal

pub returns-in_err-value : goal.returns-in_err-value
returns-in_err-value g c = visit_no_value c.value_at.ensures c.in_err-value.was

pub returns-in_default : goal.returns-in_default
returns-in_default g c = visit_found c.in_default.not-Before

pub returns-then-start-self : goal.returns-then-start-self
returns-then-start-self g c = visit_skip c.in-Before.is c.if-start-self.true

pub returns-then-inside : goal.returns-then-inside
returns-then-inside g c = visit_split c.in-Before.is c.if-start-self.false c.value_at.ensures c.in_ok-value.was c.part_from-part.ensures c.if-inside.true c.if-part-self.true

pub returns-then-part-self : goal.returns-then-part-self
returns-then-part-self g c = visit_over c.in-Before.is c.if-start-self.false c.value_at.ensures c.in_ok-value.was c.part_from-part.ensures c.if-part-self.true

pub returns-then-part-closes : goal.returns-then-part-closes
returns-then-part-closes g c = visit_holds c.in-Before.is c.if-start-self.false c.value_at.ensures c.in_ok-value.was c.part_from-part.ensures c.if-part-self.false c.if-part-closes.true refl

pub returns : goal.returns
returns g c = visit_pass c.in-Before.is c.if-start-self.false c.value_at.ensures c.in_ok-value.was c.part_from-part.ensures c.if-part-self.false c.if-part-closes.false c.saturating_add-left.ensures
