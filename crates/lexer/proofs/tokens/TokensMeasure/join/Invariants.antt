use Rattle.std.proofs.Common.{◌≡◌, ℕ, ◌<◌, ◌≤◌, List, ◌++◌, length, get_or}
use Rattle.measures.specs.Law.{heaviest}
use Rattle.lexer.specs.Reading.{read_from, reading}
use Rattle.lexer.specs.RowSteps.{start}
use Rattle.lexer.proofs.tokens.TokensMeasure.join.Given as goal

abbrev pub invariant-loop-row : goal.invariant-loop-row
invariant-loop-row l =
    (length l.row-items ≡ 13)
    × ((k : ℕ) → k < l.row-index → (xs ys : List ℕ) → length (xs ++ ys) ≤ heaviest → l.a ≡ reading xs → l.b ≡ reading ys → get_or l.row-items k (start 0) ≡ read_from k (xs ++ ys))
    × ((k : ℕ) → l.row-index ≤ k → get_or l.row-items k (start 0) ≡ get_or l.a k (start 0))
