use Rattle.std.proofs.Common.{refl, rules}
use Rattle.head_edits.proofs.Deciding.{kept, not_kept, stays_so}
use Rattle.head_edits.proofs.Pastings.{paste_shut, paste_made}
use Rattle.head_edits.proofs.pasting.paste.Goals as goal

pub returns-in_err-pieces : goal.returns-in_err-pieces
returns-in_err-pieces g c = record {
  edits = paste_shut c.paste_door.ensures c.in_err-pieces.was (search rules);
  stays = stays_so c.from_residual.result refl;
}

pub returns-in_err-head : goal.returns-in_err-head
returns-in_err-head g c = record {
  edits = paste_made c.paste_door.ensures c.in_ok-pieces.was c.paste_all.ensures (not_kept c.in_err-head.was);
  stays = stays_so c.from_residual-in_err-head.result refl;
}

pub returns : goal.returns
returns g c = record {
  edits = paste_made c.paste_door.ensures c.in_ok-pieces.was c.paste_all.ensures (kept c.in_ok-head.was);
  stays = tt;
}
