use Rattle.std.proofs.Common.{rules}
use Rattle.call_script.proofs.Replying.{no_call_printed}
use Rattle.call_script.proofs.answering.LeftReplies.reply.Goals as goal

pub returns-in_err-read_call : goal.returns-in_err-read_call
returns-in_err-read_call c i more =
    let e = no_call_printed i c.args.line.now more c.in_err-read_call.field-0.0 c.args.self.now.replies.now c.in_err-read_call.ensures in
    search rules
