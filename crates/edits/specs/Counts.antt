-- Where offsets fall among pieces.
use Rattle.std.specs.Prelude.{ℕ, ◌+◌, ◌-◌, Bool, cond, List, [], ◌∷◌, ◌==◌, nat_le, nat_lt}
use Rattle.plain.specs.Pieces.{Piece}

-- 1 if p is strictly inside a piece, else 0
unfoldable pub inside : ℕ → List Piece → ℕ
inside p [] = 0
inside p (x ∷ xs) = let rest = inside (p - x.size) xs in cond (nat_le x.size p) rest (cond (p == 0) 0 1)

-- whether p is strictly inside a piece
abbrev pub is_inside : ℕ → List Piece → Bool
is_inside p g = nat_lt 0 (inside p g)

-- where the piece starts in which p lies
unfoldable pub start : ℕ → List Piece → ℕ
start p [] = 0
start p (x ∷ xs) = let rest = start (p - x.size) xs in cond (nat_le x.size p) (x.size + rest) 0
