-- What an edit that nothing refuses makes of memory, before its head is kept.
use Rattle.std.specs.Prelude.{◌≡◌, ℕ, ◌+◌, List, ◌++◌, length, None, Ok, Result}
use Rattle.plain.specs.Lists.{first_no}
use Rattle.plain.specs.Machine.{Machine, Call, clipped, asked, accepted}
use Rattle.plain.specs.declared.calls.Call.TheVariants as call
use Rattle.measures.specs.declared.mark_totals.MarkRow.{MarkRow}
use Rattle.measures.specs.declared.mark_totals.MarkTotals.{MarkTotals}
use Rattle.stores.specs.Stores.{Contents}
use Rattle.slots.specs.declared.records.Record.{Record}
use Rattle.slots.specs.declared.records.Unsound.{Unsound}
use Rattle.pieces.specs.Edited.{Accepted}
use Rattle.pieces.specs.Sound.{TextValue, Mode, whole, Spells}
use Rattle.pieces.specs.declared.rows.PieceRow.{PieceRow}
use Rattle.pieces.specs.declared.head.Head.{Head}

-- the pieces of text and clip
abbrev pub all_pieces : Machine → ℕ
all_pieces m = length m.pieces + length (clipped m)

-- so many they are
abbrev pub Counts : ℕ → Machine → Type 0
Counts n m = n ≡ all_pieces m

-- nothing is known of it
abbrev pub Any : Machine → Type 0
Any m = Unit {0}

module _ {A S : Type 0} (am : List ℕ → A) (contents : S → Contents) where
  -- a head was made, with which memory spells the machine m'
  pub record Makes (s s' : S) (rs rs' : List (Record PieceRow (TextValue A))) (ms ms' : List (Record MarkRow MarkTotals)) (mode' : Mode) (m' : Machine) (r : Result Head Unsound) : Type 0 where
    pub h' : Head
    pub ok : r ≡ Ok h'
    pub done : Accepted am contents s s' rs rs' ms ms' h' mode' m'

  -- The call c on memory that spells a machine which does not refuse it; `Given` is known of the machine after it.
  pub record Performs (c : Call) (mode mode' : Mode) (Given : Machine → Type 0) (s s' : S) (rs rs' : List (Record PieceRow (TextValue A))) (ms ms' : List (Record MarkRow MarkTotals)) (h : Head) (r : Result Head Unsound) : Type 0 where
    pub makes : (m : Machine) → Spells am mode (contents s).bytes (contents s).capacity rs ms h m → first_no (asked m c) ≡ None → Given (accepted am m c).0
        → Makes s s' rs rs' ms ms' mode' (accepted am m c).0 r
    pub same_bytes : (contents s').bytes ≡ (contents s).bytes
    pub same_capacity : (contents s').capacity ≡ (contents s).capacity

  -- The same of an insert, once the store has the new bytes x at the address a, after the bytes B.
  pub record Inserts (p : ℕ) (x : List ℕ) (n a : ℕ) (s s' : S) (rs rs' : List (Record PieceRow (TextValue A))) (ms ms' : List (Record MarkRow MarkTotals)) (h : Head) (r : Result Head Unsound) : Type 0 where
    pub makes : (B : List ℕ) (m : Machine) → Spells am whole B (contents s).capacity rs ms h m → (contents s).bytes ≡ B ++ x → a ≡ length B → first_no (asked m (call.Insert p x)) ≡ None
        → n ≡ all_pieces (accepted am m (call.Insert p x)).0 → Makes s s' rs rs' ms ms' whole (accepted am m (call.Insert p x)).0 r
    pub same_bytes : (contents s').bytes ≡ (contents s).bytes
    pub same_capacity : (contents s').capacity ≡ (contents s).capacity
