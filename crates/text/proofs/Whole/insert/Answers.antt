use Rattle.std.proofs.Common.{◌∙◌}
use Rattle.text.proofs.Edited.{edits_both}
use Rattle.text.proofs.Whole.insert.Goals as goal

pub returns : goal.returns
returns g c = record {
  edits = edits_both c.args.slots.now c.from-lent.result c.insert.new.slots c.args.marks.now c.from-lent_marks.result c.insert.new.marks (c.from-lent.ensures ∙ c.watched.ensures) c.insert.auto.slots (c.from-lent_marks.ensures ∙ c.watched-2.ensures) c.insert.auto.marks c.insert.ensures.edits;
  stays = c.insert.ensures.stays;
}
