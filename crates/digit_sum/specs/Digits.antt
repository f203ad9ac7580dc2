-- The sum of the digits in a list of bytes.
use Rattle.std.specs.Prelude.{ℕ, ◌+◌, ◌-◌, cond, List, [], ◌∷◌}
use Rattle.plain.specs.Tokens.{digit}

abbrev pub decimal_of : ℕ → ℕ
decimal_of b = cond (digit b) (b - 0x30) 0

abbrev pub digit_sum_of : List ℕ → ℕ
digit_sum_of [] = 0
digit_sum_of (b ∷ bs) = decimal_of b + digit_sum_of bs
