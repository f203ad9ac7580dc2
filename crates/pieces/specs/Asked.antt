-- What a question promises on memory that spells a machine.
use Rattle.std.specs.Prelude.{◌≡◌, ℕ, ◌+◌, ◌≤◌, List, Some, None, Ok, Err, Option, Result}
use Rattle.plain.specs.Lists.{first_no}
use Rattle.plain.specs.Machine.{Machine, Call, asked}
use Rattle.plain.specs.declared.faults.TextFault.{TextFault}
use Rattle.measures.specs.declared.mark_totals.MarkRow.{MarkRow}
use Rattle.measures.specs.declared.mark_totals.MarkTotals.{MarkTotals}
use Rattle.stores.specs.Stores.{Contents}
use Rattle.slots.specs.declared.records.Record.{Record}
use Rattle.pieces.specs.Sound.{TextValue, Mode, Spells}
use Rattle.pieces.specs.declared.rows.PieceRow.{PieceRow}
use Rattle.pieces.specs.declared.head.Head.{Head}

-- the machine's own answer, or its own refusal
abbrev pub result_of : {T : Type 0} → Option TextFault → T → Result T TextFault
result_of None x = Ok x
result_of (Some f) x = Err f

-- a refusal reads nothing
abbrev pub most_reads : Option TextFault → ℕ
most_reads None = 1024
most_reads (Some f) = 0

-- A question that reads no byte: the call c, with the plain answer.
pub record Told {A T : Type 0} (am : List ℕ → A) (B : List ℕ) (rs : List (Record PieceRow (TextValue A))) (ms : List (Record MarkRow MarkTotals)) (h : Head) (c : Call) (answer : Machine → T) (r : Result T TextFault) : Type 0 where
  pub tells : (mode : Mode) (capacity : ℕ) (m : Machine) → Spells am mode B capacity rs ms h m → r ≡ result_of (first_no (asked m c)) (answer m)

-- One that reads bytes of the store, from s to s'.
pub record ToldBy {A S T : Type 0} (am : List ℕ → A) (contents : S → Contents) (rs : List (Record PieceRow (TextValue A))) (ms : List (Record MarkRow MarkTotals)) (h : Head) (c : Call) (answer : Machine → T) (s s' : S) (r : Result T TextFault) : Type 0 where
  pub tells : (mode : Mode) (m : Machine) → Spells am mode (contents s).bytes (contents s).capacity rs ms h m → r ≡ result_of (first_no (asked m c)) (answer m)
  pub few_reads : (mode : Mode) (m : Machine) → Spells am mode (contents s).bytes (contents s).capacity rs ms h m → (contents s').reads ≤ (contents s).reads + most_reads (first_no (asked m c))
  pub same_bytes : (contents s').bytes ≡ (contents s).bytes
  pub same_capacity : (contents s').capacity ≡ (contents s).capacity
