-- Laws above the definitions, in the subject's words.
use Rattle.std.specs.Prelude.{◌≡◌, ℕ, suc, ◌+◌, ◌<◌, ◌≤◌, ◌⊎◌, List, [], ◌∷◌, ◌++◌, map, length, take, drop, Some, Ok, Err}
use mathlib.Core.List.{tail}
use Rattle.plain.specs.Tokens.{tokens}
use Rattle.plain.specs.Questions.{token_of_offset}
use Rattle.plain.specs.Brackets.{Settled, pair, stray, unmet, closed, brackets}
use Rattle.plain.specs.Pieces.{Piece, spell}
use Rattle.plain.specs.Machine.{
  Machine,
  Call,
  text,
  size,
  clipped,
  limit,
  insert,
  delete,
  cut,
  paste,
  step,
  run,
  opening,
}
use Rattle.plain.specs.declared.answers.Kind.{Kind}
use Rattle.plain.specs.declared.answers.Kind.TheVariants as kind
use Rattle.plain.specs.declared.answers.Token.{Token}
use Rattle.plain.specs.declared.answers.Mark.{Mark}
use Rattle.plain.specs.declared.faults.CallFault.{CallFault}

-- Pieces have 1 to 256 bytes and lie inside the store.
abbrev pub Good : List ℕ → Piece → Type 0
Good s x = (1 ≤ x.size) × (x.size ≤ 256) × (x.address + x.size ≤ length s)

abbrev pub AllGood : List ℕ → List Piece → Type 0
AllGood s [] = Unit {0}
AllGood s (x ∷ xs) = Good s x × AllGood s xs

-- Marks stand in order, from offset a on, and none past n.
abbrev pub Ordered : ℕ → ℕ → List Mark → Type 0
Ordered a n [] = Unit {0}
Ordered a n (m ∷ ms) = (a ≤ m.offset) × (m.offset ≤ n) × Ordered m.offset n ms

-- What no call ever breaks.
pub record Proper (m : Machine) : Type 0 where
  pub pieces : AllGood m.bytes m.pieces
  pub clip : AllGood m.bytes (clipped m)
  pub store : length m.bytes ≤ m.capacity
  pub few : length m.pieces + length (clipped m) ≤ limit m.text_slots
  pub few_marks : length m.marks ≤ limit m.mark_slots
  pub marks : Ordered 0 (size m) m.marks

-- What the edits mean for the text, with no word of pieces.
pub record EditsSpell : Type 0 where
  pub inserted : (p : ℕ) (s : List ℕ) (m : Machine) → Proper m →
      text (insert p s m) ≡ take p (text m) ++ (s ++ drop p (text m))
  pub deleted : (a b : ℕ) (m : Machine) → Proper m → text (delete a b m) ≡ take a (text m) ++ drop b (text m)
  pub clip : (a b : ℕ) (m : Machine) → Proper m →
      spell m.bytes (clipped (cut a b m)) ≡ drop a (take b (text m))
  pub pasted : (p : ℕ) (m : Machine) → Proper m →
      text (paste p m) ≡ take p (text m) ++ (spell m.bytes (clipped m) ++ drop p (text m))

-- An opened text is the store's bytes, and proper; every list of calls, with any measure, keeps it so.
pub record RunsKeep (V : Type 0) : Type 0 where
  pub opened : (s : List ℕ) (c u v : ℕ) (m : Machine) → length s ≤ c → opening s c u v ≡ Ok m → (text m ≡ s) × Proper m
  pub kept : (M : List ℕ → V) (cs : List Call) (m : Machine) → Proper m → Proper (run M m cs).0
  pub refused : (M : List ℕ → V) (c : Call) (m m' : Machine) (f : CallFault) → step M m c ≡ (m', Err f) → m' ≡ m

-- Tokens follow one another without a gap from a to n, numbered from k, and none is empty.
abbrev pub Covers : ℕ → ℕ → ℕ → List Token → Type 0
Covers a k n [] = a ≡ n
Covers a k n (x ∷ xs) = (x.start ≡ a) × (a < x.end) × (x.number ≡ k) × Covers x.end (suc k) n xs

-- The brackets again, by tokens: a token of kind open waits, one of kind close settles the nearest that waits.
abbrev pub taken_in : Kind → ℕ → List ℕ → List ℕ × List Settled
taken_in kind.Start i os = (os, [])
taken_in kind.Blank i os = (os, [])
taken_in kind.Line i os = (os, [])
taken_in kind.Word i os = (os, [])
taken_in kind.Number i os = (os, [])
taken_in kind.Sign i os = (os, [])
taken_in kind.Open i os = (i ∷ os, [])
taken_in kind.Close i os = (tail os, closed os i ∷ [])
taken_in kind.Unfinished i os = (os, [])
taken_in kind.String i os = (os, [])
taken_in kind.Comment i os = (os, [])
taken_in kind.Bad i os = (os, [])
taken_in kind.Key i os = (os, [])

abbrev pub pairing : List ℕ → List Token → List Settled
pairing os [] = map unmet os
pairing os (x ∷ xs) = let y = taken_in x.kind x.start os in y.1 ++ pairing y.0 xs

-- x lies outside the pair of o and c
abbrev pub Beyond : ℕ → ℕ → ℕ → Type 0
Beyond o c x = (x < o) ⊎ (c < x)

abbrev pub Outside : ℕ → ℕ → Settled → Type 0
Outside o c (pair a b) = Beyond o c a × (c < b)
Outside o c (stray b) = c < b
Outside o c (unmet a) = Beyond o c a

abbrev pub AllOutside : ℕ → ℕ → List Settled → Type 0
AllOutside o c [] = Unit {0}
AllOutside o c (x ∷ xs) = Outside o c x × AllOutside o c xs

-- An open stands before its close, and what is settled later than a pair lies outside it.
abbrev pub Nested : List Settled → Type 0
Nested [] = Unit {0}
Nested (pair o c ∷ xs) = (o < c) × AllOutside o c xs × Nested xs
Nested (stray c ∷ xs) = Nested xs
Nested (unmet o ∷ xs) = Nested xs

pub record TokensCover : Type 0 where
  pub covers : (t : List ℕ) → Covers 0 1 (length t) (tokens t)
  pub found : (t : List ℕ) (p : ℕ) → p < length t → (x : Token) × (token_of_offset t p ≡ Some x) × (x.start ≤ p) × (p < x.end)
  pub paired : (t : List ℕ) → brackets t ≡ pairing [] (tokens t)
  pub nested : (t : List ℕ) → Nested (brackets t)
