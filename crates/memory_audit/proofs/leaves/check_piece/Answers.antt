use Rattle.std.proofs.Common.{ap, ◌∙◌}
use Rattle.std.specs.Result.{result_ok}
use Rattle.std.proofs.lemmas.Option.{MatchOption-at_some}
use Rattle.memory_audit.proofs.PieceChecks.{same_value_lem}
use Rattle.memory_audit.proofs.leaves.check_piece.Goals as goal

pub returns-then-same : goal.returns-then-same
returns-then-same g c = same_value_lem {p = c.in_ok-piece.piece} (MatchOption-at_some _ _ c.in_ok-piece.piece (c.ok_or.ensures.ok_part ∙ ap result_ok c.in_ok-piece.was) c.piece_in.ensures) c.measure_piece.ensures c.in_ok-found.was c.from.ensures (c.same.ensures.sound c.if-same.true)
