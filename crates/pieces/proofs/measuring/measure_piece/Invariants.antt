use Rattle.pieces.proofs.PartRead.{Partly}
use Rattle.pieces.proofs.measuring.measure_piece.Given as goal

abbrev pub invariant-loop-i : goal.invariant-loop-i
invariant-loop-i g l = Partly g.M.Measure.means g.S.Store.contents l.initial.store l.piece.address l.piece.length l.i l.value l.store
