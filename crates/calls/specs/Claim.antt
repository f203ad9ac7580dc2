-- The claim about whole lists of calls, step by step: what each call of a list does to the text and to all that was lent.
-- specs/Runs.antt has the whole, from the opening to the end, and says what it shuts out.
use Rattle.std.specs.Prelude.{◌≡◌, ℕ, ◌+◌, ◌-◌, ◌^◌, ◌<◌, ◌≤◌, max, List, [], ◌∷◌, ◌++◌, length, drop, replicate, Some, None, Option}
use Rattle.plain.specs.Pieces.{spell}
use Rattle.plain.specs.Machine.{Machine, Call, size, clipped, refusal, step}
use Rattle.plain.specs.declared.faults.CallFault.{CallFault}
use Rattle.stores.specs.Stores.{Contents, summed}
use Rattle.measures.specs.declared.mark_totals.MarkRow.{MarkRow}
use Rattle.measures.specs.declared.mark_totals.MarkTotals.{MarkTotals}
use Rattle.slots.specs.Ghost.{occ_list, occ, rows, levels}
use Rattle.slots.specs.declared.records.Record.{Record}
use Rattle.pieces.specs.Sound.{TextValue, Sound, Spells}
use Rattle.pieces.specs.Edited.{Fresh}
use Rattle.pieces.specs.declared.rows.PieceRow.{PieceRow}
use Rattle.text.specs.Texts.{watched_of, LaterKept}
use Rattle.calls.specs.Calls.{Kind, edits, questions, audits, kind_of, head_of, mode_of}
use Rattle.calls.specs.declared.texts.Text.{Text}
use Rattle.calls.specs.declared.texts.Reply.{Reply}

-- What there is between two calls: the text, both slices of slots, the store, and the scratch that audits are lent.
pub record Moment (A S : Type 0) : Type 0 where
  pub text : Text
  pub slots : List (Record PieceRow (TextValue A))
  pub marks : List (Record MarkRow MarkTotals)
  pub store : S
  pub scratch : List ℕ

abbrev pub moment : {A S : Type 0} → Text → List (Record PieceRow (TextValue A)) → List (Record MarkRow MarkTotals) → S → List ℕ → Moment A S
moment t rs ms s z = record { text = t; slots = rs; marks = ms; store = s; scratch = z }

abbrev pub last_of : {W : Type 0} → W → List W → W
last_of x [] = x
last_of x (y ∷ ys) = last_of y ys

-- am is the added measure; of a store its bytes, its capacity, and the count of its reads are known.
module _ {A S : Type 0} (am : List ℕ → A) (contents : S → Contents) where
  -- Memory at the moment x is sound,
  abbrev pub SoundAt : Moment A S → Type 0
  SoundAt x = Sound am (contents x.store).bytes (watched_of x.slots) (watched_of x.marks) (head_of x.text)

  -- and spells the plain machine m.
  abbrev pub SpellsAt : Moment A S → Machine → Type 0
  SpellsAt x m = Spells am (mode_of x.text) (contents x.store).bytes (contents x.store).capacity (watched_of x.slots) (watched_of x.marks) (head_of x.text) m

  -- Each watched slot is in use by a tree or free, and that once; a tree of d levels has at least 2^(d+1) - 2 elements.
  pub record InOrder (x : Moment A S) (so : SoundAt x) : Type 0 where
    pub slots_once : (i : ℕ) → i < length (watched_of x.slots) → occ so.t i + (occ so.k i + occ_list so.fs i) ≡ 1
    pub marks_once : (i : ℕ) → i < length (watched_of x.marks) → occ so.u i + occ_list so.gs i ≡ 1
    pub text_elements : 2 ^ (levels so.t + 1) - 2 ≤ length (rows so.t)
    pub clip_elements : 2 ^ (levels so.k + 1) - 2 ≤ length (rows so.k)
    pub mark_elements : 2 ^ (levels so.u + 1) - 2 ≤ length (rows so.u)

  -- Text, slots and bytes are as they were.
  pub record Kept (x y : Moment A S) : Type 0 where
    pub text : y.text ≡ x.text
    pub slots : y.slots ≡ x.slots
    pub marks : y.marks ≡ x.marks
    pub same_bytes : (contents y.store).bytes ≡ (contents x.store).bytes

  -- A refused call changes nothing and reads nothing.
  pub record Refused (x y : Moment A S) : Type 0 where
    pub kept : Kept x y
    pub no_reads : (contents y.store).reads ≤ (contents x.store).reads
    pub same_scratch : y.scratch ≡ x.scratch

  -- An accepted edit: in each slice, outside at most 9d + 4 slots, every watched slot is now free or as it was, where d is
  -- the most levels of a tree in that slice, after the edit. At most 512 bytes were read.
  pub record Edited (x y : Moment A S) (so : SoundAt y) : Type 0 where
    pub fresh_slots : Fresh (watched_of x.slots) (watched_of y.slots) (max (levels so.t) (levels so.k))
    pub fresh_marks : Fresh (watched_of x.marks) (watched_of y.marks) (levels so.u)
    pub few_reads : (contents y.store).reads ≤ (contents x.store).reads + 512
    pub same_scratch : y.scratch ≡ x.scratch

  -- An answered question: nothing changed, and at most 1,024 bytes were read.
  pub record Answered (x y : Moment A S) : Type 0 where
    pub kept : Kept x y
    pub few_reads : (contents y.store).reads ≤ (contents x.store).reads + 1024
    pub same_scratch : y.scratch ≡ x.scratch

  -- An audit with enough scratch: nothing changed but a byte of scratch for each slot of the larger slice, which is zero
  -- now, and each byte of text and clip was read once.
  pub record Audited (m : Machine) (x y : Moment A S) : Type 0 where
    pub kept : Kept x y
    pub each_byte_once : (contents y.store).reads ≡ summed (contents x.store).reads (size m + length (spell m.bytes (clipped m)))
    pub zeroed : y.scratch ≡ replicate (max m.text_slots m.mark_slots) 0 ++ drop (max m.text_slots m.mark_slots) x.scratch

  -- by the kind of the call, and the machine's own refusal
  abbrev pub Effect : Kind → Option CallFault → Machine → (x y : Moment A S) → SoundAt y → Type 0
  Effect edits None m x y so = Edited x y so
  Effect questions None m x y so = Answered x y
  Effect audits None m x y so = Audited m x y
  Effect edits (Some f) m x y so = Refused x y
  Effect questions (Some f) m x y so = Refused x y
  Effect audits (Some f) m x y so = Refused x y

  -- The call c on memory that spells m leads from the moment x to the moment y, with the reply a: it is the plain machine's
  -- own, with the size of the machine's text after the call, and memory spells the machine after the call.
  pub record Step (m : Machine) (x : Moment A S) (c : Call) (a : Reply A) (y : Moment A S) : Type 0 where
    pub answer : a.outcome ≡ (step am m c).1
    pub size_told : a.size ≡ size (step am m c).0
    pub spells : SpellsAt y (step am m c).0
    pub in_order : InOrder y spells.sound
    pub effect : Effect (kind_of c) (refusal m c) m x y spells.sound
    pub later : LaterKept x.slots y.slots x.marks y.marks
    pub same_capacity : (contents y.store).capacity ≡ (contents x.store).capacity

  -- Call by call, and moment by moment.
  abbrev pub Runs : Moment A S → Machine → List (Moment A S) → List Call → List (Reply A) → Type 0
  Runs x m [] [] [] = Unit {0}
  Runs x m [] [] (a ∷ ans) = ⊥
  Runs x m [] (c ∷ cs) ans = ⊥
  Runs x m (y ∷ ys) [] ans = ⊥
  Runs x m (y ∷ ys) (c ∷ cs) [] = ⊥
  Runs x m (y ∷ ys) (c ∷ cs) (a ∷ ans) = Step m x c a y × Runs y (step am m c).0 ys cs ans

  -- Some trace of moments leads from x to z.
  pub record Ran (x : Moment A S) (m : Machine) (cs : List Call) (ans : List (Reply A)) (z : Moment A S) : Type 0 where
    pub trace : List (Moment A S)
    pub runs : Runs x m trace cs ans
    pub ends : last_of x trace ≡ z
