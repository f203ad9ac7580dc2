use Rattle.edits.proofs.PasteText.{paste_no_parts, paste_no_first, paste_made}
use Rattle.edits.proofs.pasting.paste_text.Goals as goal

pub returns-in_err-parts : goal.returns-in_err-parts
returns-in_err-parts g c = paste_no_parts c.part_at.ensures c.args.clip c.in_err-parts.was

pub returns-in_err-first : goal.returns-in_err-first
returns-in_err-first g c = paste_no_first c.part_at.ensures c.args.clip c.in_ok-parts.was c.concat.ensures c.in_err-first.was

pub returns : goal.returns
returns g c = paste_made c.part_at.ensures c.args.clip c.in_ok-parts.was c.concat.ensures c.in_ok-first.was c.concat-2.ensures
