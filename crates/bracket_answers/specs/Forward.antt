-- From an open on to its close.
use Rattle.std.specs.Prelude.{◌≡◌, ℕ, suc, ◌+◌, ◌<◌, ◌≤◌, ◌⊎◌, List, [], ◌∷◌, ◌++◌, length, drop, Some, None, Ok, Option, Result}
use Rattle.lexer.specs.Reading.{read_from}
use Rattle.stores.specs.Stores.{Contents}
use Rattle.slots.specs.Ghost.{rows}
use Rattle.slots.specs.Values.{flat}
use Rattle.slots.specs.declared.records.Record.{Record}
use Rattle.slots.specs.declared.records.Tree.{Tree}
use Rattle.slots.specs.declared.records.Unsound.{Unsound}
use Rattle.pieces.specs.Rows.{bytes_of, Good, sizes}
use Rattle.pieces.specs.Sound.{TextValue}
use Rattle.pieces.specs.declared.rows.PieceRow.{PieceRow}
use Rattle.asking.specs.Texts.{TextAt, Reads}
use Rattle.bracket_answers.specs.Spots.{StandsAt}
use Rattle.bracket_answers.specs.declared.spot.Spot.{Spot}
use Rattle.bracket_answers.specs.declared.spot.Other.{Other}
use Rattle.bracket_answers.specs.declared.forward.Reach.{Reach}

-- The first stray close of the list Z, read from state 6, lies in this row.
pub record ReachIs (B Z : List ℕ) (h : Reach) : Type 0 where
  pub front : List ℕ
  pub back : List ℕ
  pub text : Z ≡ front ++ (bytes_of B h.row ++ back)
  pub good : Good B h.row
  pub offset : h.offset ≡ length front
  pub before : h.before ≡ read_from 6 front
  pub quiet : (read_from 6 front).strays ≡ 0
  pub close : 1 ≤ (read_from 6 (front ++ bytes_of B h.row)).strays

-- It is this byte, which stands at offset i + length us.
pub record StrayIs (Z : List ℕ) (i : ℕ) (y : Other) : Type 0 where
  pub us : List ℕ
  pub vs : List ℕ
  pub text : Z ≡ us ++ (y.byte ∷ vs)
  pub offset : y.offset ≡ i + length us
  pub quiet : (read_from 6 us).strays ≡ 0
  pub close : 1 ≤ (read_from 6 (us ++ (y.byte ∷ []))).strays

module _ {S : Type 0} (contents : S → Contents) where
  -- the bytes after the open are those of the row `rest`, and then those of the rows after the one in which it lies
  pub record CloseReached {A : Type 0} (am : List ℕ → A) (rs : List (Record PieceRow (TextValue A))) (tr : Tree) (p : ℕ) (rest : PieceRow) (s s' : S) (r : Result (Option Reach) Unsound) : Type 0 where
    pub reaches : (T : List ℕ) (X : TextAt am (contents s).bytes rs tr T) (xs : List PieceRow) (x : PieceRow) (ys : List PieceRow) → rows X.t ≡ xs ++ (x ∷ ys) → sizes xs ≤ p → p < sizes xs + x.length
        → rest.length < x.length → rest.address + rest.length ≤ length (contents s).bytes
        → ((r ≡ Ok None) × ((read_from 6 (bytes_of (contents s).bytes rest ++ flat (bytes_of (contents s).bytes) ys)).strays ≡ 0))
        ⊎ ((h : Reach) × (r ≡ Ok (Some h)) × ReachIs (contents s).bytes (bytes_of (contents s).bytes rest ++ flat (bytes_of (contents s).bytes) ys) h)
    pub reading : Reads contents 256 s s'

  pub record CloseTold {A : Type 0} (am : List ℕ → A) (rs : List (Record PieceRow (TextValue A))) (tr : Tree) (p : ℕ) (x : Spot) (s s' : S) (r : Result (Option Other) Unsound) : Type 0 where
    pub tells : (T : List ℕ) (X : TextAt am (contents s).bytes rs tr T) → StandsAt (contents s).bytes (rows X.t) p x
        → ((r ≡ Ok None) × ((read_from 6 (drop (suc p) T)).strays ≡ 0)) ⊎ ((y : Other) × (r ≡ Ok (Some y)) × StrayIs (drop (suc p) T) (suc p) y)
    pub reading : Reads contents 512 s s'
