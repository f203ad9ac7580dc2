use Rattle.lexer.specs.Numbers.{number_of}
use Rattle.lexer.specs.declared.states.State.{State}
use Rattle.bracket_answers.proofs.Openings.{Opening}
use Rattle.bracket_answers.proofs.backward.find_open.Given as goal

abbrev pub invariant-loop-i : goal.invariant-loop-i
invariant-loop-i g l =
    (s : State) × g.N.Into.converts l.fn.state s
    × Opening g.S.Store.contents l.initial.store l.store l.piece.address l.piece.length l.i (number_of s) l.rank l.row l.met
