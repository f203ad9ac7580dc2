-- What the check of a piece promises.
use Rattle.std.specs.Prelude.{◌≡◌, ℕ, List, Result}
use Rattle.stores.specs.Stores.{Contents, summed}
use Rattle.slots.specs.declared.records.Unsound.{Unsound}
use Rattle.audit.specs.Checks.{Judged}
use Rattle.pieces.specs.Rows.{bytes_of, Good}
use Rattle.pieces.specs.declared.rows.PieceRow.{PieceRow}
use Rattle.pieces.specs.declared.piece.Piece as code

-- p is the piece that the row makes, and it lies inside the store B
pub record InStore (B : List ℕ) (x : PieceRow) (p : code.Piece) : Type 0 where
  pub address_is : p.address ≡ x.address
  pub length_is : p.length ≡ x.length
  pub good : Good B x

module _ {S : Type 0} (contents : S → Contents) where
  -- from s to s' by the check of a row: each byte of a good one is read once
  pub record PieceRead (s : S) (x : PieceRow) (s' : S) : Type 0 where
    pub counts : Good (contents s).bytes x → (contents s').reads ≡ summed (contents s).reads x.length
    pub same_bytes : (contents s').bytes ≡ (contents s).bytes
    pub same_capacity : (contents s').capacity ≡ (contents s).capacity

module _ {S V : Type 0} (means : List ℕ → V) (contents : S → Contents) where
  pub record PieceChecked (s : S) (x : PieceRow) (v : V) (r : Result ℕ Unsound) (s' : S) : Type 0 where
    pub judged : Judged (λ _. 1) means (bytes_of (contents s).bytes) (Good (contents s).bytes) x v r
    pub read_once : PieceRead contents s x s'
