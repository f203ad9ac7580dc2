-- What the calls on a text promise over whole slices, of which only the watched slots count.
use Rattle.std.specs.Prelude.{◌≡◌, ℕ, List, length, take, drop, Some, None, Ok, Err, Option, Result}
use Rattle.plain.specs.Lists.{first_no}
use Rattle.plain.specs.Machine.{Call, fresh, open_asked}
use Rattle.plain.specs.declared.faults.TextFault.{TextFault}
use Rattle.stores.specs.Stores.{Contents, summed}
use Rattle.measures.specs.declared.mark_totals.MarkRow.{MarkRow}
use Rattle.measures.specs.declared.mark_totals.MarkTotals.{MarkTotals}
use Rattle.slots.specs.declared.records.Record.{Record}
use Rattle.pieces.specs.Sound.{TextValue, Mode, whole, Spells}
use Rattle.pieces.specs.Edited.{Edits}
use Rattle.pieces.specs.declared.rows.PieceRow.{PieceRow}
use Rattle.pieces.specs.declared.head.Head.{Head}
use Rattle.text.specs.declared.Whole.{Whole}
use Rattle.text.specs.declared.Held.{Held}
use Rattle.text.specs.declared.Refused.{Refused}

-- the slots of a slice that are watched
abbrev pub watched_of : {X : Type 0} → List X → List X
watched_of rs = take 8316 rs

-- Later slots are as they were.
pub record LaterKept {X Y : Type 0} (rs rs' : List X) (ms ms' : List Y) : Type 0 where
  pub slots : drop 8316 rs' ≡ drop 8316 rs
  pub marks : drop 8316 ms' ≡ drop 8316 ms

-- the head of the text that a cut, and a paste, gives or hands back
abbrev pub cut_head : Result Held (Refused Whole) → Head
cut_head (Ok t) = t.head
cut_head (Err x) = x.text.head

abbrev pub paste_head : Result Whole (Refused Held) → Head
paste_head (Ok t) = t.head
paste_head (Err x) = x.text.head

-- whether it was done, and if not, why
abbrev pub outcome_of : {T U : Type 0} → Result T (Refused U) → Result (Unit {0}) TextFault
outcome_of (Ok t) = Ok tt
outcome_of (Err x) = Err x.fault

module _ {A S : Type 0} (am : List ℕ → A) (contents : S → Contents) where
  -- An edit, as it promises of the watched slots.
  pub record EditsText (c : Call) (mode mode' : Mode) (s s' : S) (rs rs' : List (Record PieceRow (TextValue A))) (ms ms' : List (Record MarkRow MarkTotals)) (h h' : Head) (r : Result (Unit {0}) TextFault) : Type 0 where
    pub edits : Edits am contents c mode mode' s s' (watched_of rs) (watched_of rs') (watched_of ms) (watched_of ms') h h' r
    pub later : LaterKept rs rs' ms ms'

  -- Opened: memory spells the fresh machine of the store and of the slices that were lent; each byte was read once.
  pub record Opened (s s' : S) (rs rs' : List (Record PieceRow (TextValue A))) (ms ms' : List (Record MarkRow MarkTotals)) (w : Whole) : Type 0 where
    pub spells : Spells am whole (contents s').bytes (contents s').capacity (watched_of rs') (watched_of ms') w.head (fresh (contents s).bytes (contents s).capacity (length rs) (length ms))
    pub each_once : (contents s').reads ≡ summed (contents s).reads (length (contents s).bytes)

  -- Refused: nothing was touched.
  pub record Untouched (s s' : S) (rs rs' : List (Record PieceRow (TextValue A))) (ms ms' : List (Record MarkRow MarkTotals)) : Type 0 where
    pub slots : rs' ≡ rs
    pub marks : ms' ≡ ms
    pub same_reads : (contents s').reads ≡ (contents s).reads

  abbrev pub OpenOutcome : Option TextFault → S → S → List (Record PieceRow (TextValue A)) → List (Record PieceRow (TextValue A)) → List (Record MarkRow MarkTotals) → List (Record MarkRow MarkTotals) → Result Whole TextFault → Type 0
  OpenOutcome None s s' rs rs' ms ms' r = (w : Whole) × (r ≡ Ok w) × Opened s s' rs rs' ms ms' w
  OpenOutcome (Some f) s s' rs rs' ms ms' r = (r ≡ Err f) × Untouched s s' rs rs' ms ms'

  -- Opening, by the machine's own refusal.
  pub record OpensText (s s' : S) (rs rs' : List (Record PieceRow (TextValue A))) (ms ms' : List (Record MarkRow MarkTotals)) (r : Result Whole TextFault) : Type 0 where
    pub outcome : OpenOutcome (first_no (open_asked (contents s).bytes (length rs) (length ms))) s s' rs rs' ms ms' r
    pub same_bytes : (contents s').bytes ≡ (contents s).bytes
    pub same_capacity : (contents s').capacity ≡ (contents s).capacity
    pub later : LaterKept rs rs' ms ms'
