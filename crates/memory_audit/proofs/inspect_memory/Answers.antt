use Rattle.memory_audit.proofs.WholeMemory.{no_text, no_marks, mark_past_end, all_sound}
use Rattle.memory_audit.proofs.inspect_memory.Goals as goal

pub returns-in_err-size : goal.returns-in_err-size
returns-in_err-size g c = no_text c.inspect_text.ensures _ c.in_err-size.was c.from_residual.ensures.0

pub returns-in_err-last : goal.returns-in_err-last
returns-in_err-last g c = no_marks c.inspect_text.ensures c.inspect_text.auto.scratch c.inspect_marks.ensures _ c.in_err-last.was c.from_residual-in_err-last.ensures.0

pub returns-then-last-size : goal.returns-then-last-size
returns-then-last-size g c = mark_past_end c.inspect_text.ensures c.inspect_text.auto.scratch c.inspect_marks.ensures c.in_ok-size.was c.in_ok-last.was c.if-last-size.true

pub returns : goal.returns
returns g c = all_sound c.inspect_text.ensures c.inspect_text.auto.scratch c.inspect_marks.ensures c.in_ok-size.was c.in_ok-last.was c.if-last-size.false
