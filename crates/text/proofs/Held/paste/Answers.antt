use Rattle.std.proofs.Common.{◌∙◌}
use Rattle.text.proofs.Edited.{edits_both}
use Rattle.text.proofs.Held.paste.Goals as goal

pub returns-in-Ok : goal.returns-in-Ok
returns-in-Ok g c = record {
  edits = edits_both c.args.slots.now c.from-lent.result c.paste.new.slots c.args.marks.now c.from-lent_marks.result c.paste.new.marks (c.from-lent.ensures ∙ c.watched.ensures) c.paste.auto.slots (c.from-lent_marks.ensures ∙ c.watched-2.ensures) c.paste.auto.marks c.in-Ok.ensures.edits;
  stays = tt;
}

pub returns-in-Err : goal.returns-in-Err
returns-in-Err g c = record {
  edits = edits_both c.args.slots.now c.from-lent.result c.paste.new.slots c.args.marks.now c.from-lent_marks.result c.paste.new.marks (c.from-lent.ensures ∙ c.watched.ensures) c.paste.auto.slots (c.from-lent_marks.ensures ∙ c.watched-2.ensures) c.paste.auto.marks c.in-Err.ensures.edits;
  stays = c.in-Err.ensures.stays;
}
