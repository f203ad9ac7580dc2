use Rattle.std.proofs.Common.{refl, rules}
use Rattle.head_edits.proofs.Deciding.{kept, not_kept, stays_so}
use Rattle.head_edits.proofs.Removals.{delete_shut, delete_made}
use Rattle.head_edits.proofs.deleting.delete.Goals as goal

pub returns-in_err-delete_door : goal.returns-in_err-delete_door
returns-in_err-delete_door g c = record {
  edits = delete_shut c.delete_door.ensures c.in_err-delete_door.was (search rules);
  stays = stays_so c.from_residual.result refl;
}

pub returns-in_err-head : goal.returns-in_err-head
returns-in_err-head g c = record {
  edits = delete_made c.delete_door.ensures c.in_ok-delete_door.was c.delete_all.ensures (not_kept c.in_err-head.was);
  stays = stays_so c.from_residual-in_err-head.result refl;
}

pub returns : goal.returns
returns g c = record {
  edits = delete_made c.delete_door.ensures c.in_ok-delete_door.was c.delete_all.ensures (kept c.in_ok-head.was);
  stays = tt;
}
