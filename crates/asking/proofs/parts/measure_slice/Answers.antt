use Rattle.asking.proofs.PartPaths.{slice_lost, slice_empty, slice_read}
use Rattle.asking.proofs.parts.measure_slice.Goals as goal

pub returns-in_err-piece : goal.returns-in_err-piece
returns-in_err-piece g c = slice_lost c.args.from c.args.to g.S.Store.lawful c.in_err-piece.ensures

pub returns-in-Some : goal.returns-in-Some
returns-in-Some g c = slice_read c.args.from c.args.to c.in_ok-piece.ensures c.in-Some.ensures c.measure_piece.ensures

pub returns-in-None : goal.returns-in-None
returns-in-None g c = slice_empty c.args.from c.args.to c.in_ok-piece.ensures c.in-None.ensures c.empty.ensures
