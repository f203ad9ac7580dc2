use Rattle.std.proofs.Common.{rules, Some, ap, ◌∙◌}
use Rattle.plain.specs.declared.calls.Request.TheVariants as request
use Rattle.lines.specs.Bytes.{bytes_of}
use Rattle.lines.specs.Requests.{map_call}
use Rattle.script.proofs.Steps.{no_call_printed, whole_printed}
use Rattle.script.proofs.early.OpenedTextReplies.reply.Goals as goal

pub returns-in_err-read_call : goal.returns-in_err-read_call
returns-in_err-read_call c i more =
    let e = no_call_printed c.args.self.now.text.now i c.args.line.now more c.in_err-read_call.field-0.0 c.in_err-read_call.ensures in
    search rules

pub returns-in-Whole : goal.returns-in-Whole
returns-in-Whole c i more =
    let asked = c.in_ok-read_call.ensures ∙ ap (λ q. Some (request.Call (map_call bytes_of q))) c.in-Whole.is in
    let e = whole_printed c.args.self.now.text.now i c.args.line.now more asked in
    search rules
