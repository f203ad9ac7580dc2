-- A text is spelled by pieces of the store's bytes.
use Rattle.std.specs.Prelude.{ℕ, zero, suc, ◌+◌, ◌-◌, cond, List, [], ◌∷◌, ◌++◌, take, drop, ◌==◌, nat_le}

-- the bytes of a store at an address, so many
pub record Piece : Type 0 where
  pub address : ℕ
  pub size : ℕ

abbrev pub piece : ℕ → ℕ → Piece
piece a n = record { address = a; size = n }

abbrev pub spell : List ℕ → List Piece → List ℕ
spell s [] = []
spell s (x ∷ xs) = take x.size (drop x.address s) ++ spell s xs

-- The pieces before offset p, and those from p on: one with p strictly inside is halved.
abbrev pub before : ℕ → List Piece → List Piece
before p [] = []
before p (x ∷ xs) =
    let rest = before (p - x.size) xs in
    cond (nat_le x.size p) (x ∷ rest) (cond (p == 0) [] (piece x.address p ∷ []))

abbrev pub after : ℕ → List Piece → List Piece
after p [] = []
after p (x ∷ xs) =
    let rest = after (p - x.size) xs in
    cond (nat_le x.size p) rest (piece (x.address + p) (x.size - p) ∷ xs)

-- the pieces from a to b
abbrev pub between : ℕ → ℕ → List Piece → List Piece
between a b g = after a (before b g)

-- k pieces of 256 bytes from address a on, and one of r bytes if any are left
abbrev pub blocks : ℕ → ℕ → ℕ → List Piece
blocks a zero r = cond (r == 0) [] (piece a r ∷ [])
blocks a (suc k) r = piece a 256 ∷ blocks (a + 256) k r
