-- The plain machine: what every call does, with no word of trees, slots or caches.
use Rattle.std.specs.Prelude.{ℕ, ◌+◌, ◌-◌, ◌*◌, ◌/◌, ◌%◌, min, max, Bool, true, cond, not, ◌&&◌, List, [], ◌∷◌, ◌++◌, length, is_some, Some, None, Ok, Err, Option, Result, nat_le, nat_lt}
use Rattle.std.specs.Option.{option_map, unwrap_or}
use Rattle.plain.specs.Lists.{first_no, slice}
use Rattle.plain.specs.Pieces.{Piece, piece, spell, before, after, between, blocks}
use Rattle.plain.specs.Marks.{grown, shrunk, marked}
use Rattle.plain.specs.Questions.{line_of_offset, start_of_line, token_of_offset, token_of_number, bracket_of_offset, mark_of_offset, summary}
use Rattle.plain.specs.declared.answers.Mark.{Mark}
use Rattle.plain.specs.declared.answers.Answer.{Answer}
use Rattle.plain.specs.declared.answers.Answer.TheVariants as answer
use Rattle.plain.specs.declared.calls.Call.TheVariants as call
use Rattle.plain.specs.declared.calls.Call as calls
use Rattle.plain.specs.declared.faults.StoreFull.{StoreFull}
use Rattle.plain.specs.declared.faults.TextFault.{TextFault}
use Rattle.plain.specs.declared.faults.TextFault.TheVariants.{Slots, Pieces, Length, Offset, Store, Marks}
use Rattle.plain.specs.declared.faults.CallFault.{CallFault}
use Rattle.plain.specs.declared.faults.CallFault.TheVariants.{NotAllowed, Text}

abbrev pub Call : Type 0
Call = calls.Call (List ℕ)

-- A text is whole without a clip, and held with one. `text_slots` and `mark_slots` are the watched slots.
pub record Machine : Type 0 where
  pub bytes : List ℕ
  pub capacity : ℕ
  pub text_slots : ℕ
  pub mark_slots : ℕ
  pub pieces : List Piece
  pub clip : Option (List Piece)
  pub marks : List Mark

abbrev pub text : Machine → List ℕ
text m = spell m.bytes m.pieces

abbrev pub size : Machine → ℕ
size m = length (text m)

abbrev pub spare : Machine → ℕ
spare m = m.capacity - length m.bytes

-- of a slice of slots, those that are watched
abbrev pub watched : ℕ → ℕ
watched slots = min slots 8316

-- the most elements that so many watched slots have room for
abbrev pub limit : ℕ → ℕ
limit w = (w - 128) / 2

abbrev pub clipped : Machine → List Piece
clipped m = unwrap_or m.clip []

-- the machine m with other bytes, pieces, clip and marks
abbrev pub with : Machine → List ℕ → List Piece → Option (List Piece) → List Mark → Machine
with m s g k h = record {
  bytes = s;
  capacity = m.capacity;
  text_slots = m.text_slots;
  mark_slots = m.mark_slots;
  pieces = g;
  clip = k;
  marks = h;
}

-- The edits.
abbrev pub insert : ℕ → List ℕ → Machine → Machine
insert p s m = with m (m.bytes ++ s)
    (before p m.pieces ++ (piece (length m.bytes) (length s) ∷ after p m.pieces))
    m.clip (grown p (length s) m.marks)

abbrev pub delete : ℕ → ℕ → Machine → Machine
delete a b m =
    with m m.bytes (before a m.pieces ++ after b m.pieces) m.clip (shrunk a b m.marks)

abbrev pub cut : ℕ → ℕ → Machine → Machine
cut a b m = with m m.bytes
    (before a m.pieces ++ after b m.pieces)
    (Some (between a b m.pieces)) (shrunk a b m.marks)

abbrev pub paste : ℕ → Machine → Machine
paste p m = with m m.bytes
    (before p m.pieces ++ (clipped m ++ after p m.pieces))
    None (grown p (length (spell m.bytes (clipped m))) m.marks)

abbrev pub discard : Machine → Machine
discard m = with m m.bytes m.pieces None m.marks

abbrev pub mark : ℕ → ℕ → Machine → Machine
mark q l m = with m m.bytes m.pieces m.clip (marked q l m.marks)

-- A whole text allows all but paste and discard, a held one only these, questions and audit.
abbrev pub allowed : Machine → Call → Bool
allowed m (call.Insert p s) = not (is_some m.clip)
allowed m (call.Delete a b) = not (is_some m.clip)
allowed m (call.Cut a b) = not (is_some m.clip)
allowed m (call.Paste p) = is_some m.clip
allowed m call.Discard = is_some m.clip
allowed m (call.Mark q l) = not (is_some m.clip)
allowed m (call.LineOf p) = true
allowed m (call.StartOf k) = true
allowed m (call.TokenAt p) = true
allowed m (call.TokenNumber k) = true
allowed m (call.BracketAt p) = true
allowed m (call.MarkFrom q) = true
allowed m (call.Range a b) = true
allowed m call.Whole = true
allowed m (call.Audit n) = true

-- the pieces of text and clip together are within the limit
abbrev pub roomy : Machine → Bool
roomy m = nat_le (length m.pieces + length (clipped m)) (limit m.text_slots)

abbrev pub full : Machine → StoreFull
full m = record { length = length m.bytes; spare = spare m }

-- What is asked before a call, in this order, and the fault at a no.
abbrev pub asked : Machine → Call → List (Bool × TextFault)
asked m (call.Insert p s) =
    (nat_le 1 (length s) && nat_le (length s) 256, Length)
    ∷ (nat_le p (size m), Offset)
    ∷ (roomy (insert p s m), Pieces)
    ∷ (nat_le (length s) (spare m), Store (full m))
    ∷ []
asked m (call.Delete a b) = (nat_lt a b && nat_le b (size m), Offset) ∷ (roomy (delete a b m), Pieces) ∷ []
asked m (call.Cut a b) = (nat_lt a b && nat_le b (size m), Offset) ∷ (roomy (cut a b m), Pieces) ∷ []
asked m (call.Paste p) = (nat_le p (size m), Offset) ∷ (roomy (paste p m), Pieces) ∷ []
asked m call.Discard = []
asked m (call.Mark q l) =
    (nat_le q (size m), Offset) ∷ (nat_lt (length m.marks) (limit m.mark_slots), Marks) ∷ []
asked m (call.LineOf p) = (nat_le p (size m), Offset) ∷ []
asked m (call.StartOf k) = []
asked m (call.TokenAt p) = (nat_lt p (size m), Offset) ∷ []
asked m (call.TokenNumber k) = []
asked m (call.BracketAt p) = (nat_lt p (size m), Offset) ∷ []
asked m (call.MarkFrom q) = (nat_le q (size m), Offset) ∷ []
asked m (call.Range a b) = (nat_le a b && nat_le b (size m), Offset) ∷ []
asked m call.Whole = []
asked m (call.Audit n) = (nat_le (max m.text_slots m.mark_slots) n, Slots) ∷ []

abbrev pub refusal : Machine → Call → Option CallFault
refusal m c = cond (allowed m c) (option_map Text (first_no (asked m c))) (Some NotAllowed)

-- What an accepted call does and answers; M is the added measure.
abbrev pub accepted : {V : Type 0} → (List ℕ → V) → Machine → Call → Machine × Answer V
accepted M m (call.Insert p s) = (insert p s m, answer.Done)
accepted M m (call.Delete a b) = (delete a b m, answer.Done)
accepted M m (call.Cut a b) = (cut a b m, answer.Done)
accepted M m (call.Paste p) = (paste p m, answer.Done)
accepted M m call.Discard = (discard m, answer.Done)
accepted M m (call.Mark q l) = (mark q l m, answer.Done)
accepted M m (call.LineOf p) = (m, answer.Line (line_of_offset (text m) p))
accepted M m (call.StartOf k) = (m, answer.Start (start_of_line (text m) k))
accepted M m (call.TokenAt p) = (m, answer.Token (token_of_offset (text m) p))
accepted M m (call.TokenNumber k) = (m, answer.Token (token_of_number (text m) k))
accepted M m (call.BracketAt p) = (m, answer.Bracket (bracket_of_offset (text m) p))
accepted M m (call.MarkFrom q) = (m, answer.Mark (mark_of_offset m.marks q))
accepted M m (call.Range a b) = (m, answer.Range (M (slice (text m) a b)))
accepted M m call.Whole = (m, answer.Whole (summary (text m)))
accepted M m (call.Audit n) = (m, answer.Sound)

-- A call: the machine after it, and what it gives. A refusal changes nothing.
abbrev pub Outcome : Type 0 → Type 0
Outcome V = Result (Answer V) CallFault

abbrev pub step : {V : Type 0} → (List ℕ → V) → Machine → Call → Machine × Outcome V
step M m c = elim (refusal m c) [
  | None ↦ ((accepted M m c).0, Ok (accepted M m c).1)
  | Some f ↦ (m, Err f)
]

-- A list of calls, one after the other: the machine at the end, and what each gave.
abbrev pub run : {V : Type 0} → (List ℕ → V) → Machine → List Call → Machine × List (Outcome V)
run M m [] = (m, [])
run M m (c ∷ cs) = let x = step M m c in let y = run M x.0 cs in (y.0, x.1 ∷ y.1)

-- Opening a store of bytes s and capacity c, with slices of u and v slots lent.
abbrev pub fresh : List ℕ → ℕ → ℕ → ℕ → Machine
fresh s c u v = record {
  bytes = s;
  capacity = c;
  text_slots = watched u;
  mark_slots = watched v;
  pieces = blocks 0 (length s / 256) (length s % 256);
  clip = None;
  marks = [];
}

abbrev pub open_asked : List ℕ → ℕ → ℕ → List (Bool × TextFault)
open_asked s u v =
    (nat_le 130 u && nat_le 130 v, Slots) ∷ (nat_le (length s) (256 * limit (watched u)), Pieces) ∷ []

abbrev pub opening : List ℕ → ℕ → ℕ → ℕ → Result Machine TextFault
opening s c u v = elim (first_no (open_asked s u v)) [ None ↦ Ok (fresh s c u v) | Some f ↦ Err f ]
