use Rattle.std.proofs.Common.{◌≡◌, [], min, ap, ◌∙◌, arith}
use Rattle.lexer.specs.Numbers.{number_state}
use Rattle.lexer.specs.Reading.{read_from}
use Rattle.lexer.specs.RowSteps.{start}
use Rattle.lexer.specs.RowValues.{rows_all}
use Rattle.lexer.specs.declared.states.State.TheVariants.{Bad}
use Rattle.lexer.proofs.tokens.TokensMeasure.empty.Goals as goal

pub returns : goal.returns
returns c =
    rows_all [] c.map.result c.map.ensures.items.long
    (λ k h.
    let same : min k 12 ≡ k = omega arith in
    (c.map.ensures.items.at k Bad (start 0) h).2.met ∙ ap (λ s. read_from s []) (number_state k ∙ same))
