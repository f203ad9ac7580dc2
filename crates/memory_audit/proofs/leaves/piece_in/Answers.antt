use Rattle.memory_audit.proofs.PieceChecks.{inside_or_not}
use Rattle.memory_audit.proofs.leaves.piece_in.Goals as goal

pub returns : goal.returns
returns g c = inside_or_not _ _ c.in_ok-piece.ensures c.from.ensures c.len.ensures c.then_some.ensures
