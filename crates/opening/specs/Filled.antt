-- What cutting a store into the leaves of a tree promises.
use Rattle.std.specs.Prelude.{◌≡◌, ℕ, ◌*◌, ◌/◌, ◌%◌, ◌<◌, ◌≤◌, List, [], ◌∷◌, ◌++◌, map, length, Ok, Result}
use Rattle.plain.specs.Pieces.{Piece, blocks}
use Rattle.plain.specs.Machine.{limit}
use Rattle.stores.specs.Stores.{Contents, summed}
use Rattle.slots.specs.Ghost.{Finger, nil, tree_of, rows}
use Rattle.slots.specs.Values.{mean}
use Rattle.slots.specs.declared.records.Unsound.{Unsound}
use Rattle.slots.specs.Words.{Link}
use Rattle.slots.specs.declared.records.Tree.{Tree}
use Rattle.slots.specs.declared.records.Tree.TheVariants.{Empty}
use Rattle.slots.specs.declared.records.Record.{Record}
use Rattle.pieces.specs.Rows.{piece_of, bytes_of, Good, AllGood}
use Rattle.pieces.specs.Sound.{Laid}
use Rattle.pieces.specs.declared.rows.PieceRow.{PieceRow}

module _ {V : Type 0} (means : List ℕ → V) (B : List ℕ) where
  -- The slots hold the tree t, of pieces of the store's bytes B, beside the chain fs and nothing else.
  pub record Holding (rs : List (Record PieceRow V)) (f : Link) (tr : Tree) (t : Finger PieceRow V) (fs : List ℕ) : Type 0 where
    pub laid : Laid (mean means (bytes_of B)) rs f tr t fs
    pub good : AllGood B (rows t)

  -- The records rs became rs', which hold a tree of the pieces gs.
  pub record Built (rs rs' : List (Record PieceRow V)) (f' : Link) (r : Result Tree Unsound) (gs : List Piece) : Type 0 where
    pub t : Finger PieceRow V
    pub fs : List ℕ
    pub ok : r ≡ Ok (tree_of t)
    pub pieces_are : map piece_of (rows t) ≡ gs
    pub holding : Holding rs' f' (tree_of t) t fs
    pub len : length rs' ≡ length rs

module _ {S V : Type 0} (means : List ℕ → V) (contents : S → Contents) where
  -- one piece more at the back of a tree that has room for it
  pub record PiecePushed (s s' : S) (rs rs' : List (Record PieceRow V)) (f f' : Link) (tr : Tree) (x : PieceRow) (r : Result Tree Unsound) : Type 0 where
    pub pushes : (t : Finger PieceRow V) (fs : List ℕ) → Holding means (contents s).bytes rs f tr t fs → Good (contents s).bytes x → length (rows t) < limit (length rs)
        → Built means (contents s).bytes rs rs' f' r (map piece_of (rows t) ++ (piece_of x ∷ []))
    pub counts : Good (contents s).bytes x → (contents s').reads ≡ summed (contents s).reads x.length
    pub same_bytes : (contents s').bytes ≡ (contents s).bytes
    pub same_capacity : (contents s').capacity ≡ (contents s).capacity

  -- no tree, and bytes that the slots have room for
  pub record Fillable (s : S) (rs : List (Record PieceRow V)) (f : Link) (fs : List ℕ) : Type 0 where
    pub holding : Holding means (contents s).bytes rs f Empty nil fs
    pub room : length (contents s).bytes ≤ 256 * limit (length rs)

  -- all bytes in pieces of 256, the last perhaps shorter, each byte read once
  pub record Filled (s s' : S) (rs rs' : List (Record PieceRow V)) (f f' : Link) (r : Result Tree Unsound) : Type 0 where
    pub fills : (fs : List ℕ) → Fillable s rs f fs → Built means (contents s).bytes rs rs' f' r (blocks 0 (length (contents s).bytes / 256) (length (contents s).bytes % 256))
    pub counts : (fs : List ℕ) → Fillable s rs f fs → (contents s').reads ≡ summed (contents s).reads (length (contents s).bytes)
    pub same_bytes : (contents s').bytes ≡ (contents s).bytes
    pub same_capacity : (contents s').capacity ≡ (contents s).capacity
