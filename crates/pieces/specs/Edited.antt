-- What an edit promises on memory that spells a machine.
use Rattle.std.specs.Prelude.{◌≡◌, ℕ, ◌+◌, ◌*◌, ◌≤◌, max, ◌⊎◌, List, [], ◌++◌, length, Some, None, Ok, Err, Option, Result, slice_index_or}
use Rattle.plain.specs.Lists.{first_no}
use Rattle.plain.specs.Machine.{Machine, Call, asked, accepted}
use Rattle.plain.specs.declared.calls.Call.TheVariants as call
use Rattle.plain.specs.declared.faults.TextFault.{TextFault}
use Rattle.measures.specs.declared.mark_totals.MarkRow.{MarkRow}
use Rattle.measures.specs.declared.mark_totals.MarkTotals.{MarkTotals}
use Rattle.stores.specs.Stores.{Contents}
use Rattle.slots.specs.Ghost.{occ_list, none, levels}
use Rattle.slots.specs.Words.{Link}
use Rattle.slots.specs.declared.records.Record.{Record}
use Rattle.slots.specs.declared.records.Record.TheVariants.{Free}
use Rattle.pieces.specs.Sound.{TextValue, Mode, Spells}
use Rattle.pieces.specs.declared.rows.PieceRow.{PieceRow}
use Rattle.pieces.specs.declared.head.Head.{Head}

-- The records rs became rs', and outside at most 9d + 4 slots each is now free or as it was.
pub record Fresh {R V : Type 0} (rs rs' : List (Record R V)) (d : ℕ) : Type 0 where
  pub js : List ℕ
  pub few : length js ≤ 9 * d + 4
  pub others : (i : ℕ) → occ_list js i ≡ 0 → ((n : Link) × (slice_index_or rs' i none ≡ Free n)) ⊎ (slice_index_or rs' i none ≡ slice_index_or rs i none)

-- the bytes that a call brings along
abbrev pub brought : Call → List ℕ
brought (call.Insert p s) = s
brought (call.Delete a b) = []
brought (call.Cut a b) = []
brought (call.Paste p) = []
brought call.Discard = []
brought (call.Mark q l) = []
brought (call.LineOf p) = []
brought (call.StartOf k) = []
brought (call.TokenAt p) = []
brought (call.TokenNumber k) = []
brought (call.BracketAt p) = []
brought (call.MarkFrom q) = []
brought (call.Range a b) = []
brought call.Whole = []
brought (call.Audit n) = []

module _ {A S : Type 0} (am : List ℕ → A) (contents : S → Contents) where
  -- An accepted edit: memory spells the machine m'. In each slice d is the most levels of a tree there, after the edit.
  pub record Accepted (s s' : S) (rs rs' : List (Record PieceRow (TextValue A))) (ms ms' : List (Record MarkRow MarkTotals)) (h' : Head) (mode : Mode) (m' : Machine) : Type 0 where
    pub spells : Spells am mode (contents s').bytes (contents s').capacity rs' ms' h' m'
    pub text_fresh : Fresh rs rs' (max (levels spells.sound.t) (levels spells.sound.k))
    pub mark_fresh : Fresh ms ms' (levels spells.sound.u)
    pub few_reads : (contents s').reads ≤ (contents s).reads + 512

  -- A refused one changes nothing.
  pub record Unchanged (s s' : S) (rs rs' : List (Record PieceRow (TextValue A))) (ms ms' : List (Record MarkRow MarkTotals)) (h h' : Head) : Type 0 where
    pub head : h' ≡ h
    pub slots : rs' ≡ rs
    pub marks : ms' ≡ ms
    pub same_bytes : (contents s').bytes ≡ (contents s).bytes
    pub same_capacity : (contents s').capacity ≡ (contents s).capacity
    pub same_reads : (contents s').reads ≡ (contents s).reads

  -- The outcome by the machine's own refusal.
  abbrev pub Outcome : Option TextFault → S → S → List (Record PieceRow (TextValue A)) → List (Record PieceRow (TextValue A)) → List (Record MarkRow MarkTotals) → List (Record MarkRow MarkTotals) → Head → Head → Mode → Machine → Result (Unit {0}) TextFault → Type 0
  Outcome None s s' rs rs' ms ms' h h' mode m' r = (r ≡ Ok tt) × Accepted s s' rs rs' ms ms' h' mode m'
  Outcome (Some f) s s' rs rs' ms ms' h h' mode m' r = (r ≡ Err f) × Unchanged s s' rs rs' ms ms' h h'

  -- The edit c of a text in one mode, which an accepted one leaves in another: on memory that spells a machine, what the machine does.
  -- Whatever memory holds, the store's bytes are as they were or have those that the call brings appended.
  pub record Edits (c : Call) (mode mode' : Mode) (s s' : S) (rs rs' : List (Record PieceRow (TextValue A))) (ms ms' : List (Record MarkRow MarkTotals)) (h h' : Head) (r : Result (Unit {0}) TextFault) : Type 0 where
    pub outcome : (m : Machine) → Spells am mode (contents s).bytes (contents s).capacity rs ms h m → Outcome (first_no (asked m c)) s s' rs rs' ms ms' h h' mode' (accepted am m c).0 r
    pub store : ((contents s').bytes ≡ (contents s).bytes) ⊎ ((contents s').bytes ≡ (contents s).bytes ++ brought c)
    pub same_capacity : (contents s').capacity ≡ (contents s).capacity
