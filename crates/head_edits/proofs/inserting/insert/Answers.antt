use Rattle.std.proofs.Common.{refl, rules}
use Rattle.head_edits.proofs.Deciding.{kept, not_kept, stays_so}
use Rattle.head_edits.proofs.Insertions.{insert_shut, insert_full, insert_made}
use Rattle.head_edits.proofs.inserting.insert.Goals as goal

pub returns-in_err-pieces : goal.returns-in_err-pieces
returns-in_err-pieces g c = record {
  edits = insert_shut c.insert_door.ensures c.in_err-pieces.was (search rules);
  stays = stays_so c.from_residual.result refl;
}

pub returns-in_err-address : goal.returns-in_err-address
returns-in_err-address g c =
    let e = c.in_err-address.ensures in
    record {
      edits = insert_full c.insert_door.ensures c.in_ok-pieces.was e.outcome e.same_capacity e.same_reads (search rules);
      stays = stays_so c.from_residual-in_err-address.result refl;
    }

pub returns-in_err-head : goal.returns-in_err-head
returns-in_err-head g c =
    let e = c.in_ok-address.ensures in
    record {
      edits = insert_made c.insert_door.ensures c.in_ok-pieces.was e.outcome e.same_capacity e.same_reads c.put_all.ensures (not_kept c.in_err-head.was);
      stays = stays_so c.from_residual-in_err-head.result refl;
    }

pub returns : goal.returns
returns g c =
    let e = c.in_ok-address.ensures in
    record {
      edits = insert_made c.insert_door.ensures c.in_ok-pieces.was e.outcome e.same_capacity e.same_reads c.put_all.ensures (kept c.in_ok-head.was);
      stays = tt;
    }
