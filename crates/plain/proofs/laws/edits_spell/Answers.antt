-- The edits change the text as they should.
use Rattle.plain.proofs.Spelling.{text_insert, text_delete, text_cut, text_paste}
use Rattle.plain.proofs.laws.edits_spell.Goals as goal

pub returns : goal.returns
returns c = record { inserted = text_insert; deleted = text_delete; clip = text_cut; pasted = text_paste }
