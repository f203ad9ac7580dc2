use Rattle.memory_audit.proofs.MarkParts.{marks_unsound, marks_no_value, marks_passed}
use Rattle.memory_audit.proofs.inspecting.inspect_marks.Goals as goal

pub returns-in_err-inspect : goal.returns-in_err-inspect
returns-in_err-inspect c = marks_unsound c.args.head.now c.inspect.ensures _ c.in_err-inspect.was c.from_residual.ensures.0

pub returns-in_err-value : goal.returns-in_err-value
returns-in_err-value c = marks_no_value c.args.head.now c.inspect.ensures c.in_ok-inspect.was c.tree_value.ensures _ c.in_err-value.was

pub returns : goal.returns
returns c = marks_passed c.args.head.now c.inspect.ensures c.in_ok-inspect.was c.tree_value.ensures c.in_ok-value.was c.last_offset.ensures.value
