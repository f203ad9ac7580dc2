use Rattle.std.proofs.Common.{rules}
use Rattle.std.proofs.lemmas.Slice.Eq.{slice_eq-Decides, compares_Decides}
use Rattle.std.proofs.lemmas.Bool.Decides.{same_from_decides, Decides-eqb}
use Rattle.plain.specs.Lists.{same}
use Rattle.lexer.proofs.kinds.reads.Goals as goal

pub returns : goal.returns
returns c =
    same_from_decides _ _
    (slice_eq-Decides Decides-eqb c.args.word.now c.args.key.now _ c.eq.ensures)
    (compares_Decides same (search rules) c.args.word.now c.args.key.now)
