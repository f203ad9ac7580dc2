use Rattle.edits.proofs.Doorsteps.{door_no_spot, cut_told}
use Rattle.edits.proofs.doors.cut_door.Goals as goal

pub returns-in_err-first : goal.returns-in_err-first
returns-in_err-first g c = door_no_spot c.spot_at.ensures c.in_err-first.was

pub returns-in_err-second : goal.returns-in_err-second
returns-in_err-second g c = door_no_spot c.spot_at-2.ensures c.in_err-second.was

pub returns : goal.returns
returns g c =
    let all = rw (c.saturating_add.ensures, c.from.ensures, c.from-2.ensures) at c.saturating_add-all.ensures in
    cut_told c.spot_at.ensures c.in_ok-first.was c.limit.ensures c.spot_at-2.ensures c.in_ok-second.was all c.decide_cut.ensures
