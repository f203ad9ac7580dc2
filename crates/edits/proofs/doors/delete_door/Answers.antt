use Rattle.edits.proofs.Doorsteps.{door_no_spot, door_no_one, delete_told}
use Rattle.edits.proofs.doors.delete_door.Goals as goal

pub returns-in_err-spot : goal.returns-in_err-spot
returns-in_err-spot g c = door_no_spot c.spot_at.ensures c.in_err-spot.was

pub returns-in_err-one : goal.returns-in_err-one
returns-in_err-one g c = door_no_one c.in_one_piece.ensures c.in_err-one.was

pub returns : goal.returns
returns g c = delete_told c.spot_at.ensures c.in_ok-spot.was c.limit.ensures c.in_one_piece.ensures c.in_ok-one.was c.decide_delete.ensures
