-- What is known of memory that spells a machine, and of the machine after an edit.
use Rattle.std.proofs.Common.{◌≡◌, ℕ, ◌+◌, ◌≤◌, Bool, true, cond, List, [], ◌∷◌, map, length, Some, None, Ok, Err, Option, unwrap_or, sym, refl, ap, ◌∙◌, subst, ap₂, arith}
use Rattle.std.specs.Option.{option_map}
use Rattle.plain.specs.Lists.{first_no}
use Rattle.plain.specs.Pieces.{spell}
use Rattle.plain.specs.Machine.{Machine, Call, Outcome, size, allowed, asked, refusal, accepted}
use Rattle.plain.specs.Laws.{Ordered, Proper}
use Rattle.plain.specs.declared.faults.CallFault.{CallFault}
use Rattle.plain.specs.declared.faults.CallFault.TheVariants.{NotAllowed, Text}
use Rattle.plain.specs.declared.faults.TextFault.{TextFault}
use Rattle.plain.proofs.Keeping.{proper_step}
use Rattle.measures.specs.MarkTotals.{gaps, placed}
use Rattle.measures.specs.declared.mark_totals.MarkRow.{MarkRow}
use Rattle.measures.specs.declared.mark_totals.MarkTotals.{MarkTotals}
use Rattle.slots.specs.Ghost.{Finger, tree_of, rows, occ}
use Rattle.slots.specs.Words.{Link}
use Rattle.slots.specs.declared.records.Tree.{Tree}
use Rattle.slots.specs.declared.records.Tree.TheVariants.{Empty}
use Rattle.slots.specs.declared.records.Record.{Record}
use Rattle.slots.proofs.Shapes.{tree_empty}
use Rattle.pieces.specs.Rows.{piece_of, AllGood, sizes}
use Rattle.pieces.specs.Sound.{TextValue, Laid, LaidTwo, Sound, Mode, whole, held, clip_in, ClipIs, machine_of}
use Rattle.pieces.specs.declared.rows.PieceRow.{PieceRow}
use Rattle.pieces.specs.declared.head.Head.{Head}
use Rattle.pieces.proofs.RowParts.{length_map, spells, flat_size}

-- how many bytes good rows spell
pub spelled_size : (B : List ℕ) (xs : List PieceRow) → AllGood B xs → length (spell B (map piece_of xs)) ≡ sizes xs
spelled_size B xs g = ap length (sym (spells B xs)) ∙ flat_size B xs g

-- marks in order, by their gaps
pub ordered_placed : (a n : ℕ) (xs : List MarkRow) → a + gaps xs ≤ n → Ordered a n (placed a xs)
ordered_placed a n [] h = tt
ordered_placed a n (x ∷ xs) h = (omega arith, omega arith, ordered_placed (a + x.gap) n xs (omega arith))

pub placed_ends : (a n : ℕ) (xs : List MarkRow) → a ≤ n → Ordered a n (placed a xs) → a + gaps xs ≤ n
placed_ends a n [] h o = omega arith
placed_ends a n (x ∷ xs) h o = omega (arith, placed_ends (a + x.gap) n xs o.1 o.2)

pub length_placed : (a : ℕ) (xs : List MarkRow) → length (placed a xs) ≡ length xs
length_placed a [] = refl
length_placed a (x ∷ xs) = omega (arith, length_placed (a + x.gap) xs)

module _ {R V : Type 0} where
  -- no slot is in an empty tree
  pub no_slot : (k : Finger R V) → tree_of k ≡ Empty → (i : ℕ) → occ k i ≡ 0
  no_slot k e = tree_empty (λ k. (i : ℕ) → occ k i ≡ 0) (λ i. refl) k e

  pub no_rows : (k : Finger R V) → tree_of k ≡ Empty → rows k ≡ []
  no_rows k e = tree_empty (λ k. rows k ≡ []) refl k e

  -- a text without a clip is alone in its slice
  pub laid_alone : {mn : List R → V} {rs : List (Record R V)} {f : Link} {tr kr : Tree} {t k : Finger R V} {fs : List ℕ} → kr ≡ Empty → LaidTwo mn rs f tr kr t k fs → Laid mn rs f tr t fs
  laid_alone {k = k} e L = record {
    tree = L.tree;
    first = L.first;
    fit = L.fit;
    chain = L.chain;
    once = λ i. omega (arith, L.once i, no_slot k (L.clip ∙ e) i);
    few = omega (arith, L.few);
    least = L.least;
    most = L.most;
  }

-- how many pieces the machine's clip has
pub clip_count : {V : Type 0} (mode : Mode) (k : Finger PieceRow V) {kr : Tree} → tree_of k ≡ kr → ClipIs mode kr → length (unwrap_or (clip_in mode (map piece_of (rows k))) []) ≡ length (rows k)
clip_count whole k e i = sym (ap length (no_rows k (e ∙ i)))
clip_count held k e i = length_map piece_of (rows k)

clip_good : (B : List ℕ) (mode : Mode) (xs : List PieceRow) → AllGood B xs → Rattle.plain.specs.Laws.AllGood B (unwrap_or (clip_in mode (map piece_of xs)) [])
clip_good B whole xs g = tt
clip_good B held xs g = g

module _ {A : Type 0} {am : List ℕ → A} {B : List ℕ} {rs : List (Record PieceRow (TextValue A))} {ms : List (Record MarkRow MarkTotals)} {h : Head} (mode : Mode) (c : ℕ) (K : Sound am B rs ms h) where
  -- the machine that sound memory spells
  abbrev pub spelled_by : Machine
  spelled_by = machine_of mode B c (length rs) (length ms) (rows K.t) (rows K.k) (rows K.u)

  pub text_size : size spelled_by ≡ sizes (rows K.t)
  text_size = spelled_size B (rows K.t) K.good

  pub in_order : Ordered 0 (size spelled_by) (placed 0 (rows K.u))
  in_order = ordered_placed 0 (size spelled_by) (rows K.u) (omega (arith, K.ends, text_size))

  pub proper_of : ClipIs mode h.clip → length B ≤ c → Proper spelled_by
  proper_of i le = record {
    pieces = K.good;
    clip = clip_good B mode (rows K.k) K.good_clip;
    store = le;
    few = omega (arith, K.text.few, length_map piece_of (rows K.t), clip_count mode K.k K.text.clip i);
    few_marks = omega (arith, K.marks.few, length_placed 0 (rows K.u));
    marks = in_order;
  }

-- an accepted call leaves a proper machine
pub proper_after : {V : Type 0} (M : List ℕ → V) (m : Machine) (c : Call) → Proper m → allowed m c ≡ true → first_no (asked m c) ≡ None → Proper (accepted M m c).0
proper_after {V} M m c i al passes = subst Proper (ap (λ (o : Option CallFault). (elim o as (λ _. Machine × Outcome V) [ None ↦ ((accepted M m c).0, Ok (accepted M m c).1) | Some f ↦ (m, Err f) ]).0) none) (proper_step M m c i)
  where
    none : refusal m c ≡ None
    none = ap₂ (λ (b : Bool) (o : Option TextFault). cond b (option_map Text o) (Some NotAllowed)) al passes
