-- What is printed, column by column.
use Rattle.std.specs.Prelude.{◌≡◌, ℕ, List, ◌++◌, length, take, decimal, Result, MatchResult}
use Rattle.lines.specs.declared.columns.Column.{Column}
use Rattle.lines.specs.declared.columns.Column.TheVariants.{Word, Number}

abbrev pub column_bytes : Column → List ℕ
column_bytes (Word w) = w.now
column_bytes (Number n) = decimal n

-- Where there is memory, all of `more` stands after `old`; else perhaps some, and `old` is still there.
abbrev pub Appends : {T E : Type 0} → Result T E → List ℕ → List ℕ → List ℕ → Type 0
Appends r old more new = MatchResult r (λ _. new ≡ old ++ more) (λ _. take (length old) new ≡ old)
