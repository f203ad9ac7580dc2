-- Laws of memory that spells a text.
use Rattle.std.specs.Prelude.{◌≡◌, ℕ, ◌≤◌, List, [], ◌∷◌, length, Some, Ok, Result}
use Rattle.plain.specs.Marks.{mark_at}
use Rattle.plain.specs.Pieces.{piece}
use Rattle.plain.specs.Machine.{Machine}
use Rattle.plain.specs.declared.faults.TextFault.{TextFault}
use Rattle.measures.specs.declared.mark_totals.MarkRow.{MarkRow}
use Rattle.measures.specs.declared.mark_totals.MarkTotals.{MarkTotals}
use Rattle.stores.specs.Stores.{Contents}
use Rattle.slots.specs.declared.records.Record.{Record}
use Rattle.pieces.specs.Sound.{TextValue, Mode, held, Spells}
use Rattle.pieces.specs.declared.rows.PieceRow.{PieceRow}
use Rattle.pieces.specs.declared.head.Head.{Head}

-- One memory over one store, in one mode, spells one machine.
pub record OneText (A : Type 0) : Type 0 where
  pub same : (am : List ℕ → A) (mode : Mode) (B : List ℕ) (c : ℕ) (rs : List (Record PieceRow (TextValue A))) (ms : List (Record MarkRow MarkTotals)) (h : Head) (m m' : Machine)
      → Spells am mode B c rs ms h m → Spells am mode B c rs ms h m' → m ≡ m'

-- the bytes "ab": the first in the text, with a mark behind it, the second in the clip
abbrev pub parted : ℕ → Machine
parted capacity = record {
  bytes = 97 ∷ 98 ∷ [];
  capacity = capacity;
  text_slots = 132;
  mark_slots = 130;
  pieces = piece 0 1 ∷ [];
  clip = Some (piece 1 1 ∷ []);
  marks = mark_at 1 7 ∷ [];
}

-- Over an empty store with room for two bytes, and slots that held anything, memory spells that text in the end.
pub record Holds {A S : Type 0} (am : List ℕ → A) (contents : S → Contents) (s s' : S) (rs rs' : List (Record PieceRow (TextValue A))) (ms ms' : List (Record MarkRow MarkTotals)) (r : Result Head TextFault) : Type 0 where
  pub spells : length rs ≡ 132 → length ms ≡ 130 → (contents s).bytes ≡ [] → 2 ≤ (contents s).capacity → (h : Head) × (r ≡ Ok h) × Spells am held (contents s').bytes (contents s').capacity rs' ms' h (parted (contents s).capacity)
