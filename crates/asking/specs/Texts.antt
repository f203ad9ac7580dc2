-- A text in slots, and what reading it gives.
use Rattle.std.specs.Prelude.{◌≡◌, ℕ, ◌+◌, ◌-◌, ◌<◌, ◌≤◌, min, List, length, Ok, Result}
use Rattle.plain.specs.Lists.{slice}
use Rattle.stores.specs.Stores.{Contents}
use Rattle.slots.specs.Ghost.{Finger, tree_of, rows, Fit}
use Rattle.slots.specs.Holds.{most}
use Rattle.slots.specs.Values.{flat}
use Rattle.slots.specs.declared.records.Record.{Record}
use Rattle.slots.specs.declared.records.Tree.{Tree}
use Rattle.slots.specs.declared.records.Unsound.{Unsound}
use Rattle.pieces.specs.Rows.{bytes_of, Good, AllGood}
use Rattle.pieces.specs.Sound.{TextValue, text_mean}
use Rattle.pieces.specs.declared.piece.Piece.{Piece}
use Rattle.pieces.specs.declared.rows.PieceRow.{PieceRow}

-- At the root tr the slots hold a tree whose rows stand for the text T in a store of the bytes B.
pub record TextAt {A : Type 0} (am : List ℕ → A) (B : List ℕ) (rs : List (Record PieceRow (TextValue A))) (tr : Tree) (T : List ℕ) : Type 0 where
  pub t : Finger PieceRow (TextValue A)
  pub tree : tree_of t ≡ tr
  pub fit : Fit (text_mean am B) rs t 0
  pub good : AllGood B (rows t)
  pub few : length (rows t) ≤ most
  pub spells : flat (bytes_of B) (rows t) ≡ T

-- q is the part of the piece p from one offset up to another, or up to its end
pub record PartOf (p : Piece) (from to : ℕ) (q : Piece) : Type 0 where
  pub some : from < min to p.length
  pub address_is : q.address ≡ p.address + from
  pub length_is : q.length ≡ min to p.length - from

module _ {S : Type 0} (contents : S → Contents) where
  -- from s to s' by at most so many reads
  pub record Reads (most : ℕ) (s s' : S) : Type 0 where
    pub few : (contents s').reads ≤ (contents s).reads + most
    pub same_bytes : (contents s').bytes ≡ (contents s).bytes
    pub same_capacity : (contents s').capacity ≡ (contents s).capacity

  -- a row that may be empty
  pub record PartMeasured {V : Type 0} (means : List ℕ → V) (s s' : S) (x : PieceRow) (r : Result V Unsound) : Type 0 where
    pub value : x.length ≤ 256 → x.address + x.length ≤ length (contents s).bytes → r ≡ Ok (means (bytes_of (contents s).bytes x))
    pub reading : Reads 256 s s'

  -- of a row's bytes, those from one offset up to another
  pub record SliceMeasured {V : Type 0} (means : List ℕ → V) (s s' : S) (x : PieceRow) (from to : ℕ) (r : Result V Unsound) : Type 0 where
    pub value : Good (contents s).bytes x → r ≡ Ok (means (slice (bytes_of (contents s).bytes x) from to))
    pub reading : Reads 256 s s'

  -- what a reading of the text answers, if the text allows it
  pub record Answered {A X : Type 0} (most : ℕ) (am : List ℕ → A) (rs : List (Record PieceRow (TextValue A))) (tr : Tree) (Allows : List ℕ → Type 0) (answer : List ℕ → X) (s s' : S) (r : Result X Unsound) : Type 0 where
    pub tells : (T : List ℕ) → TextAt am (contents s).bytes rs tr T → Allows T → r ≡ Ok (answer T)
    pub reading : Reads most s s'
