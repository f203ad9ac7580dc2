-- What putting the clip's tree into the text's promises.
use Rattle.std.specs.Prelude.{◌≡◌, ℕ, ◌+◌, ◌≤◌, List, ◌++◌, map, length, Result}
use Rattle.plain.specs.Machine.{limit}
use Rattle.plain.specs.Pieces.{before, after}
use Rattle.stores.specs.Stores.{Contents}
use Rattle.slots.specs.Ghost.{Finger, rows}
use Rattle.slots.specs.declared.records.Unsound.{Unsound}
use Rattle.slots.specs.Words.{Link}
use Rattle.slots.specs.declared.records.Tree.{Tree}
use Rattle.slots.specs.declared.records.Record.{Record}
use Rattle.pieces.specs.Leaves.{Bounded}
use Rattle.pieces.specs.Rows.{piece_of, AllGood}
use Rattle.pieces.specs.Sound.{TextValue, text_mean, LaidTwo}
use Rattle.pieces.specs.declared.rows.PieceRow.{PieceRow}
use Rattle.edits.specs.Inserting.{TextMade}

module _ {A S : Type 0} (am : List ℕ → A) (contents : S → Contents) where
  pub record PastedInto (s s' : S) (rs rs' : List (Record PieceRow (TextValue A))) (f f' : Link) (tr kr : Tree) (p : ℕ) (r : Result Tree Unsound) : Type 0 where
    pub pastes : (t k : Finger PieceRow (TextValue A)) (fs : List ℕ) → Bounded contents s → AllGood (contents s).bytes (rows t) → AllGood (contents s).bytes (rows k) → LaidTwo (text_mean am (contents s).bytes) rs f tr kr t k fs
        → length (before p (map piece_of (rows t)) ++ (map piece_of (rows k) ++ after p (map piece_of (rows t)))) ≤ limit (length rs)
        → TextMade am (contents s).bytes rs rs' f' r (before p (map piece_of (rows t)) ++ (map piece_of (rows k) ++ after p (map piece_of (rows t)))) 8 2
    pub few_reads : (t k : Finger PieceRow (TextValue A)) (fs : List ℕ) → Bounded contents s → AllGood (contents s).bytes (rows t) → LaidTwo (text_mean am (contents s).bytes) rs f tr kr t k fs → (contents s').reads ≤ (contents s).reads + 256
    pub same_bytes : (contents s').bytes ≡ (contents s).bytes
    pub same_capacity : (contents s').capacity ≡ (contents s).capacity
