use Rattle.memory_audit.proofs.TextParts.{text_unsound, text_no_value, text_passed}
use Rattle.memory_audit.proofs.inspecting.inspect_text.Goals as goal

pub returns-in_err-inspect : goal.returns-in_err-inspect
returns-in_err-inspect g c = text_unsound c.args.head.now c.inspect.ensures _ c.in_err-inspect.was c.from_residual.ensures.0

pub returns-in_err-value : goal.returns-in_err-value
returns-in_err-value g c = text_no_value c.args.head.now c.inspect.ensures c.in_ok-inspect.was c.tree_value.ensures _ c.in_err-value.was

pub returns : goal.returns
returns g c = text_passed c.args.head.now c.inspect.ensures c.in_ok-inspect.was c.tree_value.ensures g.S.Store.lawful.stops c.in_ok-value.was
