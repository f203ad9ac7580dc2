use Rattle.std.proofs.Common.{rules}
use Rattle.std.proofs.lemmas.Slice.Eq.{slice_eq-Decides}
use Rattle.lexer.proofs.tokens.TokensMeasure.same.Goals as goal

pub returns-clause-sound : goal.returns-clause-sound
returns-clause-sound c = (slice_eq-Decides (search rules) _ _ _ c.eq.ensures).0

pub returns-clause-full : goal.returns-clause-full
returns-clause-full c = (slice_eq-Decides (search rules) _ _ _ c.eq.ensures).1
