-- What opening a text promises.
use Rattle.std.specs.Prelude.{◌≡◌, ℕ, ◌*◌, ◌<◌, ◌≤◌, ◌⊎◌, List, length, Some, None, Ok, Err, Option, Result}
use Rattle.plain.specs.Lists.{first_no}
use Rattle.plain.specs.Faults.{text_number}
use Rattle.plain.specs.Machine.{limit, watched, fresh, open_asked}
use Rattle.plain.specs.declared.faults.TextFault.{TextFault}
use Rattle.stores.specs.Stores.{Contents, summed}
use Rattle.measures.specs.declared.mark_totals.MarkRow.{MarkRow}
use Rattle.measures.specs.declared.mark_totals.MarkTotals.{MarkTotals}
use Rattle.slots.specs.declared.records.Record.{Record}
use Rattle.pieces.specs.Sound.{TextValue, whole, Spells}
use Rattle.pieces.specs.declared.rows.PieceRow.{PieceRow}
use Rattle.pieces.specs.declared.head.Head.{Head}

-- a slice has no slots beyond those that are watched
abbrev pub Watched : {X : Type 0} → List X → Type 0
Watched rs = length rs ≤ 8316

-- refused by this number
abbrev pub Refused : ℕ → Result Head TextFault → Type 0
Refused n r = (f : TextFault) × (r ≡ Err f) × (text_number f ≡ n)

module _ {A S : Type 0} (am : List ℕ → A) (contents : S → Contents) where
  -- Memory spells the fresh machine of the store, of which each byte was read once.
  pub record Accepted (s s' : S) (rs rs' : List (Record PieceRow (TextValue A))) (ms ms' : List (Record MarkRow MarkTotals)) (h : Head) : Type 0 where
    pub spells : Spells am whole (contents s').bytes (contents s').capacity rs' ms' h (fresh (contents s).bytes (contents s).capacity (length rs) (length ms))
    pub each_once : (contents s').reads ≡ summed (contents s).reads (length (contents s).bytes)

  pub record Unchanged (s s' : S) (rs rs' : List (Record PieceRow (TextValue A))) (ms ms' : List (Record MarkRow MarkTotals)) : Type 0 where
    pub slots : rs' ≡ rs
    pub marks : ms' ≡ ms
    pub same_reads : (contents s').reads ≡ (contents s).reads

  -- The outcome by the machine's own refusal.
  abbrev pub Outcome : Option TextFault → S → S → List (Record PieceRow (TextValue A)) → List (Record PieceRow (TextValue A)) → List (Record MarkRow MarkTotals) → List (Record MarkRow MarkTotals) → Result Head TextFault → Type 0
  Outcome None s s' rs rs' ms ms' r = Watched rs → Watched ms → (h : Head) × (r ≡ Ok h) × Accepted s s' rs rs' ms ms' h
  Outcome (Some f) s s' rs rs' ms ms' r = (r ≡ Err f) × Unchanged s s' rs rs' ms ms'

  -- The last three say the same without the machine: which slices and stores are refused, and that all others open.
  pub record Opens (s s' : S) (rs rs' : List (Record PieceRow (TextValue A))) (ms ms' : List (Record MarkRow MarkTotals)) (r : Result Head TextFault) : Type 0 where
    pub outcome : Outcome (first_no (open_asked (contents s).bytes (length rs) (length ms))) s s' rs rs' ms ms' r
    pub same_bytes : (contents s').bytes ≡ (contents s).bytes
    pub same_capacity : (contents s').capacity ≡ (contents s).capacity
    pub few_slots : (length rs < 130) ⊎ (length ms < 130) → Refused 1 r
    pub many_bytes : 130 ≤ length rs → 130 ≤ length ms → 256 * limit (watched (length rs)) < length (contents s).bytes → Refused 2 r
    pub within : 130 ≤ length rs → 130 ≤ length ms → length (contents s).bytes ≤ 256 * limit (watched (length rs)) → Watched rs → Watched ms
        → (h : Head) × (r ≡ Ok h) × ((contents s').reads ≡ summed (contents s).reads (length (contents s).bytes))
