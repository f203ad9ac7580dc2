use Rattle.std.proofs.Common.{◌∙◌}
use Rattle.text.proofs.Edited.{edits_marks}
use Rattle.text.proofs.Whole.mark.Goals as goal

pub returns : goal.returns
returns g c = record {
  edits = λ s. edits_marks c.args.slots.now c.args.marks.now c.from-lent_marks.result c.mark.new.marks (c.from-lent_marks.ensures ∙ c.watched.ensures) c.mark.auto.marks (rw c.watched_part.ensures at (c.mark.ensures.edits s));
  stays = c.mark.ensures.stays;
}
