use Rattle.std.proofs.Common.{refl, rules}
use Rattle.head_edits.proofs.Deciding.{kept, not_kept, stays_so}
use Rattle.head_edits.proofs.Removals.{cut_shut, cut_made}
use Rattle.head_edits.proofs.cutting.cut.Goals as goal

pub returns-in_err-pieces : goal.returns-in_err-pieces
returns-in_err-pieces g c = record {
  edits = cut_shut c.cut_door.ensures c.in_err-pieces.was (search rules);
  stays = stays_so c.from_residual.result refl;
}

pub returns-in_err-head : goal.returns-in_err-head
returns-in_err-head g c = record {
  edits = cut_made c.cut_door.ensures c.in_ok-pieces.was c.cut_all.ensures (not_kept c.in_err-head.was);
  stays = stays_so c.from_residual-in_err-head.result refl;
}

pub returns : goal.returns
returns g c = record {
  edits = cut_made c.cut_door.ensures c.in_ok-pieces.was c.cut_all.ensures (kept c.in_ok-head.was);
  stays = tt;
}
