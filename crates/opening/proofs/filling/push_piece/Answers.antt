use Rattle.opening.proofs.PushedPieces.{push_no_value, push_no_leaf, piece_pushed}
use Rattle.opening.proofs.filling.push_piece.Goals as goal

pub returns-in_err-value-clause-pushed : goal.returns-in_err-value-clause-pushed
returns-in_err-value-clause-pushed g c = push_no_value (g.S.Store.lawful.within _, g.S.Store.lawful.small _) c.measure_row.ensures c.in_err-value.was

pub returns-in_err-i-clause-pushed : goal.returns-in_err-i-clause-pushed
returns-in_err-i-clause-pushed g c = push_no_leaf (g.S.Store.lawful.within _, g.S.Store.lawful.small _) c.measure_row.ensures c.in_ok-value.was c.put_leaf.ensures.put c.in_err-i.was

pub returns-clause-pushed : goal.returns-clause-pushed
returns-clause-pushed g c = piece_pushed (g.S.Store.lawful.within _, g.S.Store.lawful.small _) c.measure_row.ensures c.in_ok-value.was c.put_leaf.ensures.put c.in_ok-i.was c.push_down.ensures.pushed
