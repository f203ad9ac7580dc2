use Rattle.std.proofs.Common.{◌∙◌}
use Rattle.text.proofs.Edited.{edits_both}
use Rattle.text.proofs.Whole.delete.Goals as goal

pub returns : goal.returns
returns g c = record {
  edits = edits_both c.args.slots.now c.from-lent.result c.delete.new.slots c.args.marks.now c.from-lent_marks.result c.delete.new.marks (c.from-lent.ensures ∙ c.watched.ensures) c.delete.auto.slots (c.from-lent_marks.ensures ∙ c.watched-2.ensures) c.delete.auto.marks c.delete.ensures.edits;
  stays = c.delete.ensures.stays;
}
