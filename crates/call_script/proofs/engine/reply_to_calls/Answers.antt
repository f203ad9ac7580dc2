use Rattle.std.proofs.Common.{refl, arith}
use lib.ListN.{length-map}
use Rattle.stores.specs.Kinds.{joined_contents}
use Rattle.calls.specs.Calls.{plain_call, plain_calls}
use Rattle.call_script.proofs.Running.{all_replied}
use Rattle.call_script.proofs.engine.reply_to_calls.Goals as goal

pub returns : goal.returns
returns c =
    all_replied joined_contents
    (plain_calls c.args.calls.now) _ c.run.new.slots _ c.run.new.marks c.join_space-store.result c.run.new.store _ c.run.new.scratch c.args.replies.now c.run.new.replies c.run.result
    c.args.text.now c.requires.small c.join_space-store.ensures.bytes c.join_space-store.ensures.capacity (omega (arith, c.requires.places, length-map c.args.calls.now plain_call)) refl refl refl c.run.ensures
