-- Rows of pieces, what they stand for in a store, and what reading them gives.
use Rattle.std.specs.Prelude.{◌≡◌, ℕ, ◌+◌, ◌-◌, ◌≤◌, cond, List, [], ◌∷◌, map, length, take, drop, Ok, Result, ◌==◌, nat_le}
use Rattle.plain.specs.Pieces.{Piece, piece}
use Rattle.plain.specs.Laws as laws
use Rattle.stores.specs.Stores.{Contents, largest, summed}
use Rattle.slots.specs.declared.records.Unsound.{Unsound}
use Rattle.pieces.specs.declared.rows.PieceRow.{PieceRow}
use Rattle.pieces.specs.declared.piece.Piece as code

-- the row's numbers are within a piece's bounds
pub record Makes (x : PieceRow) : Type 0 where
  pub some : 1 ≤ x.length
  pub short : x.length ≤ 256
  pub ends : x.address + x.length ≤ largest

pub record SamePiece (x : PieceRow) (p : code.Piece) : Type 0 where
  pub address_is : p.address ≡ x.address
  pub length_is : p.length ≡ x.length
  pub makes : Makes x

abbrev pub row : ℕ → ℕ → PieceRow
row a n = record { address = a; length = n }

-- the piece of the plain machine, and the bytes in the store B
abbrev pub piece_of : PieceRow → Piece
piece_of x = piece x.address x.length

abbrev pub bytes_of : List ℕ → PieceRow → List ℕ
bytes_of B x = take x.length (drop x.address B)

-- the row makes a piece that lies inside the store
abbrev pub Good : List ℕ → PieceRow → Type 0
Good B x = laws.Good B (piece_of x)

abbrev pub AllGood : List ℕ → List PieceRow → Type 0
AllGood B xs = laws.AllGood B (map piece_of xs)

-- the first k bytes of a row, and the others; no row where there are none
abbrev pub front_of : ℕ → PieceRow → List PieceRow
front_of k x = cond (k == 0) [] (row x.address k ∷ [])

abbrev pub rest_of : ℕ → PieceRow → List PieceRow
rest_of k x = cond (nat_le x.length k) [] (row (x.address + k) (x.length - k) ∷ [])

abbrev pub sizes : List PieceRow → ℕ
sizes [] = 0
sizes (x ∷ xs) = x.length + sizes xs

module _ {S V : Type 0} (means : List ℕ → V) (contents : S → Contents) where
  -- from s to s' by reading n bytes at address a, each once
  pub record Measured (s : S) (a n : ℕ) (r : Result V Unsound) (s' : S) : Type 0 where
    pub value : n ≤ 256 → a + n ≤ length (contents s).bytes → r ≡ Ok (means (take n (drop a (contents s).bytes)))
    pub counts : a + n ≤ length (contents s).bytes → (contents s').reads ≡ summed (contents s).reads n
    pub few : (contents s').reads ≤ (contents s).reads + n
    pub same_bytes : (contents s').bytes ≡ (contents s).bytes
    pub same_capacity : (contents s').capacity ≡ (contents s).capacity

  pub record RowMeasured (s : S) (x : PieceRow) (r : Result V Unsound) (s' : S) : Type 0 where
    pub value : (contents s).capacity ≤ largest → length (contents s).bytes ≤ (contents s).capacity → Good (contents s).bytes x → r ≡ Ok (means (bytes_of (contents s).bytes x))
    pub counts : (contents s).capacity ≤ largest → length (contents s).bytes ≤ (contents s).capacity → Good (contents s).bytes x → (contents s').reads ≡ summed (contents s).reads x.length
    pub few : (contents s').reads ≤ (contents s).reads + x.length
    pub most : (contents s').reads ≤ (contents s).reads + 256
    pub same_bytes : (contents s').bytes ≡ (contents s).bytes
    pub same_capacity : (contents s').capacity ≡ (contents s).capacity
