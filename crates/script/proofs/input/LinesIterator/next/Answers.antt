use Rattle.std.proofs.Common.{◌<◌, ◌∷◌, length, sym, refl, ap, ◌∙◌, arith}
use Rattle.std.proofs.lemmas.Bool.Decides.{nat_tests}
use Rattle.plain.specs.Script.{lines_of}
use Rattle.script.proofs.Splitting.{first_line}
use Rattle.script.proofs.input.LinesIterator.next.Goals as goal

pub returns-clause-steps : goal.returns-clause-steps
returns-clause-steps c =
    let t = c.args.self.now.rest in
    let some : 0 < length t.now = grind (arith, nat_tests) in
    let e = first_line t.now t _ c.split_once.result some refl refl c.split_once.ensures.parts in
    (refl, refl, e ∙ ap (λ p. p.0.now ∷ lines_of p.1.now) (sym c.unwrap_or.ensures))
