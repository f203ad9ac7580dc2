-- What the audit of a whole memory promises.
use Rattle.std.specs.Prelude.{◌≡◌, ℕ, ◌+◌, ◌<◌, max, List, length, Ok, Err, Result}
use Rattle.plain.specs.declared.faults.TextFault.{TextFault}
use Rattle.plain.specs.declared.faults.TextFault.TheVariants as fault
use Rattle.stores.specs.Stores.{Contents, summed}
use Rattle.measures.specs.declared.mark_totals.MarkRow.{MarkRow}
use Rattle.measures.specs.declared.mark_totals.MarkTotals.{MarkTotals}
use Rattle.slots.specs.Ghost.{rows}
use Rattle.slots.specs.declared.records.Record.{Record}
use Rattle.audit.specs.Post.{Zeroed}
use Rattle.pieces.specs.Rows.{sizes}
use Rattle.pieces.specs.Sound.{TextValue, Sound}
use Rattle.pieces.specs.declared.rows.PieceRow.{PieceRow}
use Rattle.pieces.specs.declared.head.Head.{Head}

-- The slots rs and ms with the head h, over a store that went from s to s'.
module _ {A S : Type 0} (am : List ℕ → A) (contents : S → Contents) (s s' : S) (rs : List (Record PieceRow (TextValue A))) (ms : List (Record MarkRow MarkTotals)) (h : Head) where
  -- Memory is sound, and each byte of text and clip was read once.
  pub record Passed : Type 0 where
    pub sound : Sound am (contents s).bytes rs ms h
    pub each_once : (so : Sound am (contents s).bytes rs ms h) → (contents s').reads ≡ summed (contents s).reads (sizes (rows so.t) + sizes (rows so.k))

  -- The scratch has fewer bytes than the larger slice has slots: nothing was read or changed.
  pub record TooShort (scratch scratch' : List ℕ) : Type 0 where
    pub short : length scratch < max (length rs) (length ms)
    pub same_scratch : scratch' ≡ scratch
    pub same_store : s' ≡ s

  -- The answer is yes exactly if memory can be read as sound.
  abbrev pub Outcome : List ℕ → List ℕ → Result (Unit {0}) TextFault → Type 0
  Outcome scratch scratch' (Ok u) = Zeroed (max (length rs) (length ms)) scratch scratch' × Passed
  Outcome scratch scratch' (Err fault.Unsound) = Zeroed (max (length rs) (length ms)) scratch scratch' × (Sound am (contents s).bytes rs ms h → ⊥)
  Outcome scratch scratch' (Err fault.Slots) = TooShort scratch scratch'
  Outcome scratch scratch' (Err fault.Pieces) = ⊥
  Outcome scratch scratch' (Err fault.Length) = ⊥
  Outcome scratch scratch' (Err fault.Offset) = ⊥
  Outcome scratch scratch' (Err (fault.Store f)) = ⊥
  Outcome scratch scratch' (Err fault.Marks) = ⊥

  pub record MemoryAudited (scratch scratch' : List ℕ) (r : Result (Unit {0}) TextFault) : Type 0 where
    pub outcome : Outcome scratch scratch' r
    pub same_bytes : (contents s').bytes ≡ (contents s).bytes
    pub same_capacity : (contents s').capacity ≡ (contents s).capacity
