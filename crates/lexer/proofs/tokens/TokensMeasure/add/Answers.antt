use Rattle.std.proofs.Common.{[], ◌∷◌, ◌++◌, length, ◌<◌, arith, length-append}
use Rattle.measures.specs.Law.{heaviest}
use Rattle.measures.specs.Weights.{weights_bytes}
use Rattle.lexer.specs.RowValues.{rows_all}
use Rattle.lexer.proofs.tokens.TokensMeasure.add.Goals as goal

pub returns : goal.returns
returns c = record {
  adds = λ bs light e.
      let more = bs ++ (c.args.item ∷ []) in
      let small : length bs < heaviest = omega (arith, weights_bytes more, length-append bs (c.args.item ∷ [])) in
      rows_all more c.loop-row.a c.loop-row.invariant.0 (λ k h. c.loop-row.invariant.1 k (omega arith) bs small e);
}
