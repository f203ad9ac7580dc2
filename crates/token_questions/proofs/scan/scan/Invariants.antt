use Rattle.token_questions.proofs.Scanning.{Scanning}
use Rattle.token_questions.proofs.scan.scan.Given as goal

abbrev pub invariant-loop-i : goal.invariant-loop-i
invariant-loop-i g l = Scanning g.S.Store.contents l.initial.store l.store l.piece.address l.piece.length l.i l.initial.before l.before l.goal
