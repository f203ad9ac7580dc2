use Rattle.std.proofs.Common.{◌≤◌, ◌++◌, length, arith}
use Rattle.measures.specs.Law.{heaviest}
use Rattle.measures.specs.Weights.{weights_bytes}
use Rattle.lexer.specs.RowValues.{rows_all}
use Rattle.lexer.proofs.tokens.TokensMeasure.join.Goals as goal

pub returns : goal.returns
returns c = record {
  joins = λ xs ys light e f.
      let small : length (xs ++ ys) ≤ heaviest = omega (arith, weights_bytes (xs ++ ys)) in
      rows_all (xs ++ ys) c.loop-row.row-items c.loop-row.invariant.0 (λ k h. c.loop-row.invariant.1 k (omega arith) xs ys small e f);
}
