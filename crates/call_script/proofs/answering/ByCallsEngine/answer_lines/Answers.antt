use Rattle.std.proofs.Common.{ap, ◌∙◌}
use Rattle.std.proofs.lemmas.List.{with_items_is}
use Rattle.plain.specs.Script.{lines_of}
use Rattle.calls.specs.Calls.{plain_calls}
use Rattle.script.specs.Engines.{opened}
use Rattle.call_script.specs.Replied.{replies_from}
use Rattle.call_script.proofs.Collected.{meant_all}
use Rattle.call_script.proofs.Printing.{replies_printed, made_printed}
use Rattle.call_script.proofs.answering.ByCallsEngine.answer_lines.Goals as goal

pub returns : goal.returns
returns c =
    let rest = c.args.lines.rest.now in
    let i = c.args.lines.number in
    let calls = ap plain_calls c.as_slice-4.ensures.value ∙ c.in_ok-calls.ensures ∙ ap meant_all c.as_slice-2.ensures.value ∙ c.in_ok-read.ensures in
    let same = replies_printed i (opened c.args.text.now) rest (plain_calls c.as_slice-4.result.now) c.reply_to_calls.new.replies calls c.reply_to_calls.ensures in
    let refilled = with_items_is c.in_ok-replies.replies c.reply_to_calls.new.replies (c.reply_to_calls.auto.replies ∙ c.as_mut_slice.ensures.len) in
    made_printed c.print_replies.result _ _ (replies_from i c.as_slice-5.result.now (lines_of rest)) _
    (ap (λ a. replies_from i a (lines_of rest)) (c.as_slice-5.ensures.value ∙ refilled) ∙ same) c.print_replies.ensures
