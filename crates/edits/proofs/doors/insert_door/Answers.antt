use Rattle.edits.proofs.Doorsteps.{door_no_spot, insert_told}
use Rattle.edits.proofs.doors.insert_door.Goals as goal

pub returns-in_err-spot : goal.returns-in_err-spot
returns-in_err-spot g c = door_no_spot c.spot_at.ensures c.in_err-spot.was

pub returns : goal.returns
returns g c =
    let all = rw (c.saturating_add.ensures, c.from.ensures) at c.saturating_add-all.ensures in
    insert_told c.spot_at.ensures c.in_ok-spot.was c.limit.ensures c.args.count all c.decide_insert.ensures
