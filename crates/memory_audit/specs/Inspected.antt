-- What the functions below the audit of a memory promise of its parts.
use Rattle.std.specs.Prelude.{◌≡◌, ℕ, ◌+◌, ◌≤◌, max, List, length, Ok, Err, Result}
use Rattle.plain.specs.Machine.{limit}
use Rattle.stores.specs.Stores.{Contents, summed}
use Rattle.measures.specs.Law.{heaviest}
use Rattle.measures.specs.MarkTotals.{gaps}
use Rattle.measures.specs.declared.mark_totals.MarkRow.{MarkRow}
use Rattle.measures.specs.declared.mark_totals.MarkTotals.{MarkTotals}
use Rattle.slots.specs.Ghost.{Finger, rows}
use Rattle.slots.specs.declared.records.Unsound.{Unsound}
use Rattle.slots.specs.Words.{Link}
use Rattle.slots.specs.declared.records.Tree.{Tree}
use Rattle.slots.specs.declared.records.Record.{Record}
use Rattle.audit.specs.Checks.{Rules, Run}
use Rattle.audit.specs.Sound.{rows_trees}
use Rattle.audit.specs.Post.{SoundTo}
use Rattle.pieces.specs.Rows.{AllGood, sizes}
use Rattle.pieces.specs.Sound.{TextValue, text_mean, mark_mean, Laid, LaidTwo, Sound}
use Rattle.pieces.specs.declared.rows.PieceRow.{PieceRow}
use Rattle.pieces.specs.declared.head.Head.{Head}
use Rattle.memory_audit.specs.MemoryAudited.{Passed}

module _ {R I V S : Type 0} (w : Rules R I V S) (s : S) (rs : List (Record R V)) (roots : List Tree) (free : Link) (count : ℕ) where
  -- The trees are sound in as many slots as a text may be lent, and have so many elements.
  pub record Counted : Type 0 where
    pub sound : SoundTo w s rs roots free (limit (length rs))
    pub least : 130 ≤ length rs
    pub most : length rs ≤ 8316
    pub all : count ≡ length (rows_trees sound.trees)

  abbrev pub Verdict : List R → Result (Unit {0}) Unsound → Type 0
  Verdict checked (Ok u) = (c : Counted) × (checked ≡ rows_trees c.sound.trees)
  Verdict checked (Err e) = Counted → ⊥

  pub record Inspected (s' : S) (scratch : List ℕ) (r : Result (Unit {0}) Unsound) : Type 0 where
    pub checked : List R
    pub ran : Run w.checks s checked s'
    pub says : length rs ≤ length scratch → Verdict checked r

-- What sound memory says of the slots of text and clip.
pub record TextSound {A : Type 0} (am : List ℕ → A) (B : List ℕ) (rs : List (Record PieceRow (TextValue A))) (h : Head) : Type 0 where
  pub t : Finger PieceRow (TextValue A)
  pub k : Finger PieceRow (TextValue A)
  pub fs : List ℕ
  pub laid : LaidTwo (text_mean am B) rs h.free h.text h.clip t k fs
  pub good : AllGood B (rows t)
  pub good_clip : AllGood B (rows k)
  pub pieces : h.pieces ≡ length (rows t) + length (rows k)

-- What it says of those of the marks.
pub record MarksSound (ms : List (Record MarkRow MarkTotals)) (h : Head) : Type 0 where
  pub u : Finger MarkRow MarkTotals
  pub gs : List ℕ
  pub laid : Laid mark_mean ms h.free_marks h.marks u gs
  pub count : h.mark_count ≡ length (rows u)

module _ {A S : Type 0} (am : List ℕ → A) (contents : S → Contents) (s s' : S) (rs : List (Record PieceRow (TextValue A))) (h : Head) where
  -- n is the size of the text
  pub record TextPassed (n : ℕ) : Type 0 where
    pub sound : TextSound am (contents s).bytes rs h
    pub size : (x : TextSound am (contents s).bytes rs h) → n ≡ sizes (rows x.t)
    pub each_once : (x : TextSound am (contents s).bytes rs h) → (contents s').reads ≡ summed (contents s).reads (sizes (rows x.t) + sizes (rows x.k))

  abbrev pub TextVerdict : Result ℕ Unsound → Type 0
  TextVerdict (Ok n) = TextPassed n
  TextVerdict (Err e) = TextSound am (contents s).bytes rs h → ⊥

  pub record TextInspected (scratch : List ℕ) (r : Result ℕ Unsound) : Type 0 where
    pub says : length rs ≤ length scratch → TextVerdict r
    pub same_bytes : (contents s').bytes ≡ (contents s).bytes
    pub same_capacity : (contents s').capacity ≡ (contents s).capacity

module _ (ms : List (Record MarkRow MarkTotals)) (h : Head) where
  -- n is the offset of the last mark
  pub record MarksPassed (n : ℕ) : Type 0 where
    pub sound : MarksSound ms h
    pub last : (x : MarksSound ms h) → n ≡ gaps (rows x.u)

  -- marks that lie too far off for any text are not sound either
  abbrev pub MarksVerdict : Result ℕ Unsound → Type 0
  MarksVerdict (Ok n) = MarksPassed n
  MarksVerdict (Err e) = (x : MarksSound ms h) → gaps (rows x.u) + length (rows x.u) ≤ heaviest → ⊥

  pub record MarksInspected (scratch : List ℕ) (r : Result ℕ Unsound) : Type 0 where
    pub says : length ms ≤ length scratch → MarksVerdict r

module _ {A S : Type 0} (am : List ℕ → A) (contents : S → Contents) (s s' : S) (rs : List (Record PieceRow (TextValue A))) (ms : List (Record MarkRow MarkTotals)) (h : Head) where
  abbrev pub MemoryVerdict : Result (Unit {0}) Unsound → Type 0
  MemoryVerdict (Ok u) = Passed am contents s s' rs ms h
  MemoryVerdict (Err e) = Sound am (contents s).bytes rs ms h → ⊥

  pub record MemoryInspected (scratch : List ℕ) (r : Result (Unit {0}) Unsound) : Type 0 where
    pub says : max (length rs) (length ms) ≤ length scratch → MemoryVerdict r
    pub same_bytes : (contents s').bytes ≡ (contents s).bytes
    pub same_capacity : (contents s').capacity ≡ (contents s).capacity
