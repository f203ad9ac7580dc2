-- What the parts of a list of calls promise.
use Rattle.std.specs.Prelude.{◌≡◌, ℕ, ◌≤◌, min, max, List, ◌++◌, length, take, drop, Result}
use Rattle.plain.specs.Machine.{Machine, Call, Outcome, size, refusal, step, run, discard}
use Rattle.plain.specs.declared.faults.TextFault.{TextFault}
use Rattle.measures.specs.declared.mark_totals.MarkRow.{MarkRow}
use Rattle.measures.specs.declared.mark_totals.MarkTotals.{MarkTotals}
use Rattle.stores.specs.Stores.{Contents}
use Rattle.slots.specs.declared.records.Record.{Record}
use Rattle.pieces.specs.Sound.{TextValue, Mode, whole, Spells}
use Rattle.pieces.specs.declared.rows.PieceRow.{PieceRow}
use Rattle.pieces.specs.declared.head.Head.{Head}
use Rattle.memory_audit.specs.MemoryAudited.{MemoryAudited}
use Rattle.text.specs.Texts.{watched_of, LaterKept}
use Rattle.text.specs.declared.Whole.{Whole}
use Rattle.calls.specs.Calls.{kind_of, head_of, mode_of}
use Rattle.calls.specs.Claim.{Moment, SpellsAt, Effect, Step, Ran}
use Rattle.calls.specs.declared.texts.Reply.{Reply}
use Rattle.calls.specs.declared.texts.Text.{Text}

-- the scratch has a byte for each slot of the larger slice
abbrev pub Enough : {X Y : Type 0} → List X → List Y → List ℕ → Type 0
Enough rs ms z = max (length (watched_of rs)) (length (watched_of ms)) ≤ length z

-- the size of the text that memory spells, whatever marks and store there are
pub record SizeTold {A : Type 0} (am : List ℕ → A) (rs : List (Record PieceRow (TextValue A))) (h : Head) (n : ℕ) : Type 0 where
  pub tells : (mode : Mode) (B : List ℕ) (c : ℕ) (ms : List (Record MarkRow MarkTotals)) (m : Machine) → Spells am mode B c rs ms h m → n ≡ size m

module _ {A S : Type 0} (am : List ℕ → A) (contents : S → Contents) where
  -- An audit that is lent the first n bytes of the scratch, or all if it has fewer.
  pub record AuditLent (s s' : S) (rs : List (Record PieceRow (TextValue A))) (ms : List (Record MarkRow MarkTotals)) (h : Head) (z z' : List ℕ) (n : ℕ) (r : Result (Unit {0}) TextFault) : Type 0 where
    pub lent : List ℕ
    pub audited : MemoryAudited am contents s s' rs ms h (take (min n (length z)) z) lent r
    pub others : z' ≡ lent ++ drop (min n (length z)) z

  -- A step, but for the size of the text.
  pub record Performed (m : Machine) (x : Moment A S) (c : Call) (o : Outcome A) (y : Moment A S) : Type 0 where
    pub answer : o ≡ (step am m c).1
    pub spells : SpellsAt am contents y (step am m c).0
    pub effect : Effect am contents (kind_of c) (refusal m c) m x y spells.sound
    pub later : LaterKept x.slots y.slots x.marks y.marks
    pub same_capacity : (contents y.store).capacity ≡ (contents x.store).capacity

  abbrev pub Performs : Moment A S → Call → Outcome A → Moment A S → Type 0
  Performs x c o y = (m : Machine) → SpellsAt am contents x m → Performed m x c o y

  abbrev pub Makes : Moment A S → Call → Reply A → Moment A S → Type 0
  Makes x c a y = (m : Machine) → SpellsAt am contents x m → Step am contents m x c a y

  -- A list of calls, for as many as there are replies.
  pub record MakesAll (x : Moment A S) (cs : List Call) (ans ans' : List (Reply A)) (z : Moment A S) : Type 0 where
    pub ran : (m : Machine) → SpellsAt am contents x m → Enough x.slots x.marks x.scratch → Ran am contents x m (take (length ans) cs) (take (length cs) ans') z
    pub ends : (m : Machine) → SpellsAt am contents x m → Enough x.slots x.marks x.scratch → SpellsAt am contents z (run am m (take (length ans) cs)).0
    pub others : drop (length cs) ans' ≡ drop (length cs) ans

-- A clip that is left is discarded, whatever marks and store there are; a whole text stays as it is.
pub record Settles {A : Type 0} (am : List ℕ → A) (t : Text) (rs : List (Record PieceRow (TextValue A))) (w : Whole) (rs' : List (Record PieceRow (TextValue A))) : Type 0 where
  pub ends : (B : List ℕ) (c : ℕ) (ms : List (Record MarkRow MarkTotals)) (m : Machine) → Spells am (mode_of t) B c (watched_of rs) (watched_of ms) (head_of t) m → Spells am whole B c (watched_of rs') (watched_of ms) w.head (discard m)
  pub later : drop 8316 rs' ≡ drop 8316 rs
