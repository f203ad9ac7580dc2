use Rattle.std.proofs.Common.{◌∙◌}
use Rattle.text.specs.Texts.{watched_of}
use Rattle.text.proofs.Edited.{edits_slots}
use Rattle.text.proofs.Held.discard.Goals as goal

pub returns : goal.returns
returns g c = record {
  edits = λ ms s. edits_slots c.args.slots.now c.from-lent.result c.discard.new.slots ms (c.from-lent.ensures ∙ c.watched.ensures) c.discard.auto.slots (c.discard.ensures.edits (watched_of ms) s);
  no_clip = c.discard.ensures.clip;
}
