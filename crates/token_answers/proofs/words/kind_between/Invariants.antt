use Rattle.token_answers.proofs.WordPaths.{Spelt}
use Rattle.token_answers.proofs.words.kind_between.Given as goal

abbrev pub invariant-loop-i : goal.invariant-loop-i
invariant-loop-i g l = Spelt g.A.Measure.means g.S.Store.contents l.slots l.text l.initial.store l.store l.start l.end l.i l.word
