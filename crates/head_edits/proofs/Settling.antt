-- Both slices after an edit, and what they make together: memory that spells the machine after it.
use Rattle.std.proofs.Common.{◌≡◌, ℕ, ◌+◌, ◌*◌, ◌≤◌, max, List, [], map, length, get_or, None, Ok, Option, Result, unwrap_or, sym, refl, ap, ◌∙◌, subst, ap₂, inr, arith}
use Rattle.plain.specs.Pieces.{Piece}
use Rattle.plain.specs.Machine.{Machine, size, clipped}
use Rattle.plain.specs.Laws.{Ordered}
use Rattle.plain.specs.declared.answers.Mark.{Mark}
use Rattle.measures.specs.MarkTotals.{placed}
use Rattle.measures.specs.declared.mark_totals.MarkRow.{MarkRow}
use Rattle.measures.specs.declared.mark_totals.MarkTotals.{MarkTotals}
use Rattle.stores.specs.Stores.{Contents}
use Rattle.slots.specs.Ghost.{Finger, nil, named, occ_list, none, rows, levels, occ, Calm}
use Rattle.slots.specs.declared.records.Unsound.{Unsound}
use Rattle.slots.specs.Words.{Link}
use Rattle.slots.specs.declared.records.Tree.{Tree}
use Rattle.slots.specs.declared.records.Tree.TheVariants.{Empty}
use Rattle.slots.specs.declared.records.Record.{Record}
use Rattle.slots.proofs.Shapes.{ok_same}
use Rattle.pieces.specs.Edited.{Fresh, Accepted}
use Rattle.pieces.specs.Rows.{piece_of, AllGood, sizes}
use Rattle.pieces.specs.Sound.{TextValue, text_mean, mark_mean, Laid, LaidTwo, Sound, Mode, whole, clip_in, ClipIs}
use Rattle.pieces.specs.declared.rows.PieceRow.{PieceRow}
use Rattle.pieces.specs.declared.head.Head.{Head}
use Rattle.pieces.proofs.Bench.{Bench, bench_fresh}
use Rattle.pieces.proofs.RowParts.{length_map}
use Rattle.edits.specs.Inserting.{TextMade}
use Rattle.mark_moves.specs.Moved.{MarksMade}
use Rattle.head_edits.proofs.Standing.{spelled_size, placed_ends, length_placed, clip_count}

-- The text's slice holds the pieces G and the clip C.
pub record TextSettled {A : Type 0} (am : List ℕ → A) (B : List ℕ) (rs rs' : List (Record PieceRow (TextValue A))) (f' : Link) (mode : Mode) (tr kr : Tree) (G : List Piece) (C : Option (List Piece)) : Type 0 where
  pub t : Finger PieceRow (TextValue A)
  pub k : Finger PieceRow (TextValue A)
  pub fs : List ℕ
  pub laid : LaidTwo (text_mean am B) rs' f' tr kr t k fs
  pub clip_is : ClipIs mode kr
  pub len : length rs' ≡ length rs
  pub pieces : map piece_of (rows t) ≡ G
  pub clip : clip_in mode (map piece_of (rows k)) ≡ C
  pub good : AllGood B (rows t)
  pub good_clip : AllGood B (rows k)
  pub fresh : Fresh rs rs' (max (levels t) (levels k))

-- The marks' slice holds the marks H.
pub record MarksSettled (ms ms' : List (Record MarkRow MarkTotals)) (f' : Link) (ur : Tree) (H : List Mark) : Type 0 where
  pub u : Finger MarkRow MarkTotals
  pub gs : List ℕ
  pub laid : Laid mark_mean ms' f' ur u gs
  pub len : length ms' ≡ length ms
  pub marks : placed 0 (rows u) ≡ H
  pub fresh : Fresh ms ms' (levels u)

-- nothing fresh in a slice that is as it was
pub none_fresh : {R V : Type 0} (rs : List (Record R V)) (d : ℕ) → Fresh rs rs d
none_fresh rs d = record { js = []; few = omega arith; others = λ i z. inr refl }

-- a text's slice that is as it was
pub text_same : {A : Type 0} {am : List ℕ → A} {B : List ℕ} {rs : List (Record PieceRow (TextValue A))} {ms : List (Record MarkRow MarkTotals)} {h : Head} (mode : Mode) (K : Sound am B rs ms h) → ClipIs mode h.clip
    → TextSettled am B rs rs h.free mode h.text h.clip (map piece_of (rows K.t)) (clip_in mode (map piece_of (rows K.k)))
text_same {rs = rs} mode K i = record {
  t = K.t;
  k = K.k;
  fs = K.fs;
  laid = K.text;
  clip_is = i;
  len = refl;
  pieces = refl;
  clip = refl;
  good = K.good;
  good_clip = K.good_clip;
  fresh = none_fresh rs (max (levels K.t) (levels K.k));
}

-- marks that are as they were
pub marks_same : {A : Type 0} {am : List ℕ → A} {B : List ℕ} {rs : List (Record PieceRow (TextValue A))} {ms : List (Record MarkRow MarkTotals)} {h : Head} (K : Sound am B rs ms h)
    → MarksSettled ms ms h.free_marks h.marks (placed 0 (rows K.u))
marks_same {ms = ms} K = record { u = K.u; gs = K.gs; laid = K.marks; len = refl; marks = refl; fresh = none_fresh ms (levels K.u) }

-- a slice of two trees, with the slots js new beside the levels
pub two_fresh : {R V : Type 0} {mn : List R → V} {rs rs' : List (Record R V)} {f' : Link} {tr kr : Tree} {t k : Finger R V} {fs : List ℕ} (js : List ℕ) (d : ℕ) → LaidTwo mn rs' f' tr kr t k fs → length rs' ≡ length rs
    → ((i : ℕ) → occ_list js i ≡ 0 → Calm (get_or rs i none) (get_or rs' i none)) → length js + (levels t + levels k) ≤ 9 * d + 4 → Fresh rs rs' d
two_fresh {mn = mn} {rs} {rs'} {f'} {t = t} {k = k} {fs = fs} js d L len fresh le =
    let b : Bench rs rs' f' (λ i. occ t i + occ k i) fs js = record {
      len = len;
      first = L.first;
      chain = L.chain;
      kept = λ i. omega (arith, L.once i, ap (λ (n : ℕ). named n i) len);
      fresh = fresh;
    } in
    bench_fresh mn t k d b L.fit L.fit_clip le

-- one tree is two of which one is empty
pub beside_none : {R V : Type 0} {mn : List R → V} {rs : List (Record R V)} {f : Link} {tr : Tree} {t : Finger R V} {fs : List ℕ} → Laid mn rs f tr t fs → LaidTwo mn rs f tr Empty t nil fs
beside_none L = record {
  tree = L.tree;
  clip = refl;
  first = L.first;
  fit = L.fit;
  fit_clip = tt;
  chain = L.chain;
  once = λ i. omega (arith, L.once i);
  few = omega (arith, L.few);
  least = L.least;
  most = L.most;
}

-- a text's tree that was made, with no clip beside it
pub text_settled : {A : Type 0} {am : List ℕ → A} {B : List ℕ} {rs rs' : List (Record PieceRow (TextValue A))} {f' : Link} {r : Result Tree Unsound} {tr : Tree} {G : List Piece} {nodes leaves : ℕ}
    → ((d : ℕ) → nodes * d + leaves ≤ 8 * d + 4) → r ≡ Ok tr → TextMade am B rs rs' f' r G nodes leaves → TextSettled am B rs rs' f' whole tr Empty G None
text_settled {am = am} {B} {rs} {rs'} {f'} le got M =
    let L : LaidTwo (text_mean am B) rs' f' _ Empty M.t' nil M.fs' = beside_none M.laid in
    record {
      t = M.t';
      k = nil;
      fs = M.fs';
      laid = subst (λ (q : Tree). LaidTwo (text_mean am B) rs' f' q Empty M.t' nil M.fs') (ok_same M.ok got) L;
      clip_is = refl;
      len = M.len;
      pieces = M.pieces;
      clip = refl;
      good = M.good;
      good_clip = tt;
      fresh = two_fresh M.js (max (levels M.t') 0) L M.len M.fresh (omega (arith, M.few, le (levels M.t')));
    }

pub marks_settled : {ms ms' : List (Record MarkRow MarkTotals)} {f' : Link} {r : Result Tree Unsound} {ur : Tree} {H : List Mark} {leaves : ℕ} → leaves ≤ 4 → r ≡ Ok ur → MarksMade ms ms' f' r H leaves → MarksSettled ms ms' f' ur H
marks_settled {ms} {ms'} {f'} le got M = record {
  u = M.u';
  gs = M.gs';
  laid = subst (λ (q : Tree). Laid mark_mean ms' f' q M.u' M.gs') (ok_same M.ok got) M.laid;
  len = M.len;
  marks = M.marks;
  fresh = two_fresh M.js (levels M.u') (beside_none M.laid) M.len M.fresh (omega (arith, M.few));
}

machines : {B B' : List ℕ} {c c' u u' v v' : ℕ} {g g' : List Piece} {k k' : Option (List Piece)} {h h' : List Mark} → B ≡ B' → c ≡ c' → u ≡ u' → v ≡ v' → g ≡ g' → k ≡ k' → h ≡ h'
    → ◌≡◌ {A = Machine} (record { bytes = B; capacity = c; text_slots = u; mark_slots = v; pieces = g; clip = k; marks = h }) (record { bytes = B'; capacity = c'; text_slots = u'; mark_slots = v'; pieces = g'; clip = k'; marks = h' })
machines a b c d e f g = cc

-- Both slices, with a head over them, spell the machine m'.
module _ {A S : Type 0} {am : List ℕ → A} {contents : S → Contents} {s s' : S} {rs rs' : List (Record PieceRow (TextValue A))} {ms ms' : List (Record MarkRow MarkTotals)} {mode : Mode} {m' : Machine} where
  pub both_settled : {tr kr ur : Tree} {f' e' : Link} {n c : ℕ} → Ordered 0 (size m') m'.marks → m'.bytes ≡ (contents s').bytes → m'.capacity ≡ (contents s').capacity → m'.text_slots ≡ length rs → m'.mark_slots ≡ length ms
      → TextSettled am (contents s').bytes rs rs' f' mode tr kr m'.pieces m'.clip → MarksSettled ms ms' e' ur m'.marks
      → n ≡ length m'.pieces + length (clipped m') → c ≡ length m'.marks → (contents s').reads ≤ (contents s).reads + 512
      → Accepted am contents s s' rs rs' ms ms' (record { text = tr; clip = kr; free = f'; pieces = n; marks = ur; free_marks = e'; mark_count = c }) mode m'
  both_settled {tr} {kr} {ur} {f'} {e'} {n} {c} in_order is-bytes is-capacity is-slots is-marks T U is-n is_c few =
      let text-is : size m' ≡ sizes (rows T.t) =
      ap₂ (λ (B : List ℕ) (g : List Piece). length (Rattle.plain.specs.Pieces.spell B g)) is-bytes (sym T.pieces) ∙ spelled_size (contents s').bytes (rows T.t) T.good in
      let ordered : Ordered 0 (sizes (rows T.t)) (placed 0 (rows U.u)) =
      subst (λ (k : ℕ). Ordered 0 k (placed 0 (rows U.u))) text-is (subst (Ordered 0 (size m')) (sym U.marks) in_order) in
      record {
        spells = record {
          sound = record {
            t = T.t;
            k = T.k;
            fs = T.fs;
            u = U.u;
            gs = U.gs;
            text = T.laid;
            marks = U.laid;
            good = T.good;
            good_clip = T.good_clip;
            pieces = omega (arith, is-n, ap length T.pieces, length_map piece_of (rows T.t), ap (λ (q : Option (List Piece)). length (unwrap_or q [])) T.clip, clip_count mode T.k T.laid.clip T.clip_is);
            count = omega (arith, is_c, ap length U.marks, length_placed 0 (rows U.u));
            ends = omega (arith, placed_ends 0 (sizes (rows T.t)) (rows U.u) (omega arith) ordered);
          };
          clipped = T.clip_is;
          machine = machines is-bytes is-capacity (is-slots ∙ sym T.len) (is-marks ∙ sym U.len) (sym T.pieces) (sym T.clip) (sym U.marks);
        };
        text_fresh = T.fresh;
        mark_fresh = U.fresh;
        few_reads = few;
      }
