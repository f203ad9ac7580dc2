-- When memory is sound, and which text of the plain machine it spells.
use Rattle.std.specs.Prelude.{◌≡◌, ℕ, ◌+◌, ◌≤◌, List, [], ◌∷◌, map, length, Some, None, Option}
use Rattle.plain.specs.Pieces.{Piece}
use Rattle.plain.specs.Machine.{Machine, limit}
use Rattle.measures.specs.Totals.{totals}
use Rattle.measures.specs.Pairs.{both}
use Rattle.measures.specs.MarkTotals.{gaps, totals_of_marks, placed}
use Rattle.measures.specs.declared.totals.Totals.{Totals}
use Rattle.measures.specs.declared.pair.Pair.{Pair}
use Rattle.measures.specs.declared.mark_totals.MarkRow.{MarkRow}
use Rattle.measures.specs.declared.mark_totals.MarkTotals.{MarkTotals}
use Rattle.lexer.specs.Reading.{reading}
use Rattle.lexer.specs.declared.tokens.TokenRow.{TokenRow}
use Rattle.slots.specs.Ghost.{Finger, named, occ_list, head_of, tree_of, rows, occ, Fit, Chain}
use Rattle.slots.specs.Values.{mean}
use Rattle.slots.specs.declared.records.Record.{Record}
use Rattle.slots.specs.Words.{Link}
use Rattle.slots.specs.declared.records.Tree.{Tree}
use Rattle.slots.specs.declared.records.Tree.TheVariants.{Empty}
use Rattle.pieces.specs.Rows.{piece_of, bytes_of, AllGood, sizes}
use Rattle.pieces.specs.declared.rows.PieceRow.{PieceRow}
use Rattle.pieces.specs.declared.head.Head.{Head}

-- The values of a text's tree: totals and tokens, beside the added measure's.
abbrev pub TextValue : Type 0 → Type 0
TextValue A = Pair (Pair Totals (List TokenRow)) A

abbrev pub text_means : {A : Type 0} → (List ℕ → A) → List ℕ → TextValue A
text_means am bs = both (both (totals bs) (reading bs)) (am bs)

abbrev pub text_mean : {A : Type 0} → (List ℕ → A) → List ℕ → List PieceRow → TextValue A
text_mean am B = mean (text_means am) (bytes_of B)

-- a mark stands for itself
abbrev pub itself : MarkRow → List MarkRow
itself x = x ∷ []

abbrev pub mark_mean : List MarkRow → MarkTotals
mark_mean = mean totals_of_marks itself

-- A slice has from 130 to 8,316 watched slots. It holds the tree t and the chain fs, and each slot is named once.
pub record Laid {R V : Type 0} (mn : List R → V) (rs : List (Record R V)) (f : Link) (tr : Tree) (t : Finger R V) (fs : List ℕ) : Type 0 where
  pub tree : tree_of t ≡ tr
  pub first : head_of fs ≡ f
  pub fit : Fit mn rs t 0
  pub chain : Chain rs fs
  pub once : (i : ℕ) → occ t i + occ_list fs i ≡ named (length rs) i
  pub few : length (rows t) ≤ limit (length rs)
  pub least : 130 ≤ length rs
  pub most : length rs ≤ 8316

-- The same of two trees: text and clip share a slice.
pub record LaidTwo {R V : Type 0} (mn : List R → V) (rs : List (Record R V)) (f : Link) (tr kr : Tree) (t k : Finger R V) (fs : List ℕ) : Type 0 where
  pub tree : tree_of t ≡ tr
  pub clip : tree_of k ≡ kr
  pub first : head_of fs ≡ f
  pub fit : Fit mn rs t 0
  pub fit_clip : Fit mn rs k 0
  pub chain : Chain rs fs
  pub once : (i : ℕ) → occ t i + (occ k i + occ_list fs i) ≡ named (length rs) i
  pub few : length (rows t) + length (rows k) ≤ limit (length rs)
  pub least : 130 ≤ length rs
  pub most : length rs ≤ 8316

-- Memory over a store of the bytes B is sound: its trees and chains are right, and so are the counts; the rows of
-- text and clip make pieces inside the store, and the marks do not pass the text's end.
pub record Sound {A : Type 0} (am : List ℕ → A) (B : List ℕ) (rs : List (Record PieceRow (TextValue A))) (ms : List (Record MarkRow MarkTotals)) (h : Head) : Type 0 where
  pub t : Finger PieceRow (TextValue A)
  pub k : Finger PieceRow (TextValue A)
  pub fs : List ℕ
  pub u : Finger MarkRow MarkTotals
  pub gs : List ℕ
  pub text : LaidTwo (text_mean am B) rs h.free h.text h.clip t k fs
  pub marks : Laid mark_mean ms h.free_marks h.marks u gs
  pub good : AllGood B (rows t)
  pub good_clip : AllGood B (rows k)
  pub pieces : h.pieces ≡ length (rows t) + length (rows k)
  pub count : h.mark_count ≡ length (rows u)
  pub ends : gaps (rows u) ≤ sizes (rows t)

-- A text is whole, or held with a clip.
pub data Mode : Type 0 where
  whole held : Mode

-- the clip of the machine, and the tree of a text without one
abbrev pub clip_in : Mode → List Piece → Option (List Piece)
clip_in whole g = None
clip_in held g = Some g

abbrev pub ClipIs : Mode → Tree → Type 0
ClipIs whole tr = tr ≡ Empty
ClipIs held tr = Unit {0}

abbrev pub machine_of : Mode → List ℕ → ℕ → ℕ → ℕ → List PieceRow → List PieceRow → List MarkRow → Machine
machine_of mode B c v w xs ys us = record {
  bytes = B;
  capacity = c;
  text_slots = v;
  mark_slots = w;
  pieces = map piece_of xs;
  clip = clip_in mode (map piece_of ys);
  marks = placed 0 us;
}

-- Sound memory spells the plain machine m; c is the store's capacity.
pub record Spells {A : Type 0} (am : List ℕ → A) (mode : Mode) (B : List ℕ) (c : ℕ) (rs : List (Record PieceRow (TextValue A))) (ms : List (Record MarkRow MarkTotals)) (h : Head) (m : Machine) : Type 0 where
  pub sound : Sound am B rs ms h
  pub clipped : ClipIs mode h.clip
  pub machine : m ≡ machine_of mode B c (length rs) (length ms) (rows sound.t) (rows sound.k) (rows sound.u)
