use Rattle.std.proofs.Common.{◌≡◌, ℕ, ◌<◌, ◌≤◌, List, [], ◌∷◌, ◌++◌, length, get_or}
use Rattle.measures.specs.Law.{heaviest}
use Rattle.lexer.specs.Reading.{read_from, reading}
use Rattle.lexer.specs.RowSteps.{start}
use Rattle.lexer.proofs.tokens.TokensMeasure.add.Given as goal

abbrev pub invariant-loop-row : goal.invariant-loop-row
invariant-loop-row l =
    (length l.a ≡ 13)
    × ((k : ℕ) → k < l.row-index → (bs : List ℕ) → length bs < heaviest → l.initial.a ≡ reading bs → get_or l.a k (start 0) ≡ read_from k (bs ++ (l.item ∷ [])))
    × ((k : ℕ) → l.row-index ≤ k → get_or l.a k (start 0) ≡ get_or l.initial.a k (start 0))
