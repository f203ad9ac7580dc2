-- What measuring a part of the text promises.
use Rattle.std.specs.Prelude.{◌≡◌, ℕ, ◌+◌, ◌<◌, ◌≤◌, List, ◌∷◌, ◌++◌, take, Ok, Result}
use Rattle.stores.specs.Stores.{Contents}
use Rattle.slots.specs.Ghost.{rows}
use Rattle.slots.specs.Values.{flat}
use Rattle.slots.specs.declared.records.Record.{Record}
use Rattle.slots.specs.declared.records.Tree.{Tree}
use Rattle.slots.specs.declared.records.Unsound.{Unsound}
use Rattle.pieces.specs.Rows.{bytes_of, sizes}
use Rattle.pieces.specs.Sound.{TextValue}
use Rattle.pieces.specs.declared.rows.PieceRow.{PieceRow}
use Rattle.asking.specs.Texts.{TextAt, Reads}

module _ {S : Type 0} (contents : S → Contents) where
  -- the first bytes, so many, after the row in which an offset lies
  pub record RestMeasured {A : Type 0} (am : List ℕ → A) (rs : List (Record PieceRow (TextValue A))) (tr : Tree) (offset many : ℕ) (s s' : S) (r : Result A Unsound) : Type 0 where
    pub value : (T : List ℕ) (X : TextAt am (contents s).bytes rs tr T) (xs : List PieceRow) (x : PieceRow) (ys : List PieceRow) → rows X.t ≡ xs ++ (x ∷ ys) → sizes xs ≤ offset → offset < sizes xs + x.length → many ≤ sizes ys
        → r ≡ Ok (am (take many (flat (bytes_of (contents s).bytes) ys)))
    pub reading : Reads contents 256 s s'
