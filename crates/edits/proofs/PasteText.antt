-- The paths of putting the clip's tree into the text's.
use Rattle.std.proofs.Common.{◌≡◌, ℕ, ◌+◌, ◌*◌, ◌<◌, ◌≤◌, List, [], ◌∷◌, ◌++◌, map, length, get_or, Ok, Err, Option, Result, sym, refl, ap, ◌∙◌, subst, ap₂, append_assoc, arith, length-append}
use Rattle.plain.specs.Machine.{limit}
use Rattle.plain.specs.Pieces.{Piece, before, after}
use Rattle.stores.specs.Stores.{Contents}
use Rattle.slots.specs.Ghost.{Arm, Finger, named, occ_list, none, head_of, part_of, tree_of, rows_part, rows, levels, occ_part, occ, FitPart, Fit, Chain, Calm, Off}
use Rattle.slots.specs.Holds.{Holds, Beside}
use Rattle.slots.specs.Theorems.{total}
use Rattle.slots.specs.declared.records.Unsound.{Unsound}
use Rattle.slots.specs.Words.{Link}
use Rattle.slots.specs.declared.records.Tree.{Tree}
use Rattle.slots.specs.declared.records.Digit.{Digit}
use Rattle.slots.specs.declared.records.Record.{Record}
use Rattle.slots.proofs.Counts.{total_add, tree_count, part_count, named_le, supply}
use Rattle.slots.proofs.Frames.{off_more}
use Rattle.slots.proofs.Shapes.{ok_err, ok_same}
use Rattle.concat.specs.Post.{Melt, Concat}
use Rattle.pieces.specs.Leaves.{Bounded}
use Rattle.pieces.specs.Rows.{piece_of, bytes_of, AllGood}
use Rattle.pieces.specs.Sound.{TextValue, text_means, text_mean, LaidTwo}
use Rattle.pieces.specs.declared.rows.PieceRow.{PieceRow}
use Rattle.pieces.proofs.Bench.{Bench, bench_start, bench_by, bench_once, bench_step, bench_spare, stays_tree, stays_part}
use Rattle.pieces.proofs.RowParts.{map_append, length_map, all_append, all_left, all_right, light}
use Rattle.edits.specs.Inserting.{TextMade}
use Rattle.edits.specs.Parting.{Apart, PartedAt}
use Rattle.edits.specs.Pasting.{PastedInto}
use Rattle.edits.specs.declared.parting.Parts.{Parts}
use Rattle.edits.proofs.Supplies.{few_most, between_count}

-- one of the two trees, as calls on trees start from it
two_holds : {A : Type 0} {am : List ℕ → A} {B : List ℕ} {rs : List (Record PieceRow (TextValue A))} {f : Link} {tr kr : Tree} {t k : Finger PieceRow (TextValue A)} {fs : List ℕ}
    → AllGood B (rows t) → LaidTwo (text_mean am B) rs f tr kr t k fs → Holds (λ _. 1) (text_means am) (bytes_of B) rs f tr t fs
two_holds {B = B} {rs = rs} {t = t} {k = k} {fs = fs} g L =
    let small : length (rows t) ≤ 4100 = few_most (length (rows t)) (length rs) (omega (arith, L.few)) L.most in record {
      tree = L.tree;
      first = L.first;
      fit = L.fit;
      chain = L.chain;
      once = λ i. omega (arith, L.once i, named_le (length rs) i);
      light = light B (rows t) g small;
      small = small;
      long = omega (
        arith,
        supply (length rs) (2 * (length (rows t) + length (rows k))) (λ i. occ t i + occ k i) fs (λ i. omega (arith, L.once i))
            (omega (arith, total_add (length rs) (occ t) (occ k), tree_count (length rs) t, tree_count (length rs) k)),
        L.few,
        L.least,
      );
    }

module _ {A S : Type 0} {am : List ℕ → A} {contents : S → Contents} {s s' : S} {rs rs₁ : List (Record PieceRow (TextValue A))} {f f₁ : Link} {tr : Tree} {p : ℕ} {rp : Result Parts Unsound}
    (K : PartedAt am contents s s' rs rs₁ f f₁ tr p rp) (kr : Tree) where
  abbrev mn : List PieceRow → TextValue A
  mn = text_mean am (contents s).bytes

  abbrev G₀ : Finger PieceRow (TextValue A) → Finger PieceRow (TextValue A) → List Piece
  G₀ t k = before p (map piece_of (rows t)) ++ (map piece_of (rows k) ++ after p (map piece_of (rows t)))

  few_paste : (t k : Finger PieceRow (TextValue A)) (fs : List ℕ) → Bounded contents s → AllGood (contents s).bytes (rows t) → LaidTwo mn rs f tr kr t k fs → (contents s').reads ≤ (contents s).reads + 256
  few_paste t k fs b g L = K.few_reads t fs b g (two_holds g L)

  pub paste_no_parts : {e : Unsound} {r : Result Tree Unsound} → rp ≡ Err e → PastedInto am contents s s' rs rs₁ f f₁ tr kr p r
  paste_no_parts bad = record {
    pastes = λ t k fs b g gk L few. absurd (ok_err (K.parts t fs b g (two_holds g L)).ok bad);
    few_reads = few_paste;
    same_bytes = K.same_bytes;
    same_capacity = K.same_capacity;
  }

  module _ {q : Parts} (got : rp ≡ Ok q) {rs₂ : List (Record PieceRow (TextValue A))} {f₂ : Link} {r₁ : Result Tree Unsound} (C₁ : Concat (λ _. 1) (text_means am) rs₁ rs₂ f₁ f₂ q.left q.front kr r₁) where
    -- the text's front and the clip are one tree
    record Joined (t k : Finger PieceRow (TextValue A)) (fs : List ℕ) : Type 0 where
      pub D : Apart am contents (contents s).bytes rs rs₁ f₁ p rp t fs
      pub M : Melt (λ _. 1) (text_means am) (bytes_of (contents s).bytes) rs₁ rs₂ f₂ r₁ D.l D.F k D.fs' 0
      pub bench : Bench rs rs₂ f₂ (λ i. occ M.made.t' i + (occ_part D.G i + occ D.q i)) M.made.fs' (D.js ++ M.made.js)
      pub fit_g : FitPart mn rs₂ D.G 0
      pub fit_q : Fit mn rs₂ D.q 0
      pub all : List PieceRow
      pub all_is : all ≡ (rows D.l ++ rows_part D.F) ++ (rows k ++ (rows_part D.G ++ rows D.q))
      pub good : AllGood (contents s).bytes all
      pub pieces : map piece_of all ≡ G₀ t k
      pub count : length all ≤ limit (length rs)

    joined : (t k : Finger PieceRow (TextValue A)) (fs : List ℕ) → Bounded contents s → AllGood (contents s).bytes (rows t) → AllGood (contents s).bytes (rows k) → LaidTwo mn rs f tr kr t k fs → length (G₀ t k) ≤ limit (length rs) → Joined t k fs
    joined t k fs b g gk L few =
        let H = two_holds g L in
        let D = K.parts t fs b g H in
        let all : List PieceRow = (rows D.l ++ rows_part D.F) ++ (rows k ++ (rows_part D.G ++ rows D.q)) in
        let good : AllGood (contents s).bytes all = all_append (contents s).bytes (rows D.l ++ rows_part D.F) (rows k ++ (rows_part D.G ++ rows D.q)) D.good_before (all_append (contents s).bytes (rows k) (rows_part D.G ++ rows D.q) gk D.good_after) in
        let pieces : map piece_of all ≡ G₀ t k =
        map_append piece_of (rows D.l ++ rows_part D.F) (rows k ++ (rows_part D.G ++ rows D.q))
        ∙ ap₂ (λ (x y : List Piece). x ++ y) D.before_is (map_append piece_of (rows k) (rows_part D.G ++ rows D.q) ∙ ap (λ (y : List Piece). map piece_of (rows k) ++ y) D.after_is) in
        let count : length all ≤ limit (length rs) = omega (arith, few, length_map piece_of all, ap length pieces) in
        let q-is = ok_same got D.ok in
        let σ : ℕ → ℕ = λ i. occ_part D.G i + occ D.q i in
        let b₀ : Bench rs rs f (λ i. occ t i + occ k i) fs [] = bench_start L.first L.chain (λ i. omega (arith, L.once i)) in
        let b₁ = bench_step (occ t) (occ k) b₀ D.frame (λ i. occ D.l i + (occ_part D.F i + (occ_part D.G i + occ D.q i))) D.fs' D.js D.first D.chain (λ i. omega (arith, D.kept i)) D.fresh in
        let fit-k : Fit mn rs₁ k 0 = stays_tree (occ t) (occ k) b₀ D.frame mn k 0 (λ i. omega arith) L.fit_clip in
        let bench₁ : Bench rs rs₁ f₁ (λ i. (occ D.l i + (occ_part D.F i + occ k i)) + (occ_part D.G i + occ D.q i)) D.fs' D.js = bench_by (λ i. (occ D.l i + (occ_part D.F i + occ k i)) + (occ_part D.G i + occ D.q i)) (λ i. omega arith) b₁ in
        let xs : List PieceRow = rows D.l ++ (rows_part D.F ++ rows k) in
        let gx : AllGood (contents s).bytes xs = subst (AllGood (contents s).bytes) (append_assoc (rows D.l) (rows_part D.F) (rows k)) (all_append (contents s).bytes (rows D.l ++ rows_part D.F) (rows k) D.good_before gk) in
        let len-x : length xs + length (rows_part D.G ++ rows D.q) ≡ length all =
        omega (arith, ap length (append_assoc (rows D.l) (rows_part D.F) (rows k)), length-append (rows D.l ++ rows_part D.F) (rows k), length-append (rows D.l ++ rows_part D.F) (rows k ++ (rows_part D.G ++ rows D.q)), length-append (rows k) (rows_part D.G ++ rows D.q)) in
        let small : length xs ≤ 4100 = few_most (length xs) (length rs) (omega (arith, count)) L.most in
        let used : total (length rs) (λ i. (occ D.l i + (occ_part D.F i + occ k i)) + (occ_part D.G i + occ D.q i)) ≤ 2 * length all =
        omega (arith, total_add (length rs) (λ i. occ D.l i + (occ_part D.F i + occ k i)) (λ i. occ_part D.G i + occ D.q i), between_count (length rs) D.l D.F k, total_add (length rs) (occ_part D.G) (occ D.q), part_count (length rs) D.G, tree_count (length rs) D.q, length-append (rows_part D.G) (rows D.q)) in
        let spare = bench_spare (2 * length all) bench₁ used in
        let M : Melt (λ _. 1) (text_means am) (bytes_of (contents s).bytes) rs₁ rs₂ f₂ r₁ D.l D.F k D.fs' 0 = C₁.melts (bytes_of (contents s).bytes) D.l D.F k D.fs' (record {
          left = sym (ap (λ (y : Parts). y.left) q-is);
          between = sym (ap (λ (y : Parts). y.front) q-is);
          right = L.clip;
          first = D.first;
          fit_l = D.fit_l;
          fit_q = D.fit_f;
          fit_r = fit-k;
          chain = D.chain;
          once = λ i. omega (arith, bench_once bench₁ i);
          light = light (contents s).bytes xs gx small;
          small = small;
          long = omega (arith, count, L.least);
        }) in
        let off : Off rs₁ rs₂ (λ i. (occ D.l i + (occ_part D.F i + occ k i)) + occ_list D.fs' i) = off_more (λ i. (occ D.l i + (occ_part D.F i + occ k i)) + occ_list D.fs' i) (λ i z. omega arith) M.made.frame in
        record {
          D = D;
          M = M;
          bench = bench_step (λ i. occ D.l i + (occ_part D.F i + occ k i)) (λ i. occ_part D.G i + occ D.q i) bench₁ off (occ M.made.t') M.made.fs' M.made.js M.made.first M.made.chain (λ i. omega (arith, M.made.kept i)) M.made.fresh;
          fit_g = stays_part (λ i. occ D.l i + (occ_part D.F i + occ k i)) (λ i. occ_part D.G i + occ D.q i) bench₁ off mn D.G 0 (λ i. omega arith) D.fit_g;
          fit_q = stays_tree (λ i. occ D.l i + (occ_part D.F i + occ k i)) (λ i. occ_part D.G i + occ D.q i) bench₁ off mn D.q 0 (λ i. omega arith) D.fit_q;
          all = all;
          all_is = refl;
          good = good;
          pieces = pieces;
          count = count;
        }

    pub paste_no_first : {e : Unsound} {r : Result Tree Unsound} → r₁ ≡ Err e → PastedInto am contents s s' rs rs₂ f f₂ tr kr p r
    paste_no_first bad = record {
      pastes = λ t k fs b g gk L few. absurd (ok_err (joined t k fs b g gk L few).M.made.ok bad);
      few_reads = few_paste;
      same_bytes = K.same_bytes;
      same_capacity = K.same_capacity;
    }

    module _ {d : Tree} (got-d : r₁ ≡ Ok d) {rs₃ : List (Record PieceRow (TextValue A))} {f₃ : Link} {r : Result Tree Unsound} (C₂ : Concat (λ _. 1) (text_means am) rs₂ rs₃ f₂ f₃ d q.back q.right r) where
      pub paste_made : PastedInto am contents s s' rs rs₃ f f₃ tr kr p r
      paste_made = record {
        pastes = λ t k fs b g gk L few. made t k fs b g gk L few;
        few_reads = few_paste;
        same_bytes = K.same_bytes;
        same_capacity = K.same_capacity;
      }
        where
          made : (t k : Finger PieceRow (TextValue A)) (fs : List ℕ) → Bounded contents s → AllGood (contents s).bytes (rows t) → AllGood (contents s).bytes (rows k) → LaidTwo mn rs f tr kr t k fs → length (G₀ t k) ≤ limit (length rs)
              → TextMade am (contents s).bytes rs rs₃ f₃ r (G₀ t k) 8 2
          made t k fs b g gk L few =
              let J = joined t k fs b g gk L few in
              let D = J.D in
              let Y = J.M.made in
              let xs : List PieceRow = rows Y.t' ++ (rows_part D.G ++ rows D.q) in
              let regroup : xs ≡ J.all =
              ap (λ (l : List PieceRow). l ++ (rows_part D.G ++ rows D.q)) (Y.text ∙ sym (append_assoc (rows D.l) (rows_part D.F) (rows k)))
              ∙ append_assoc (rows D.l ++ rows_part D.F) (rows k) (rows_part D.G ++ rows D.q) ∙ sym J.all_is in
              let good : AllGood (contents s).bytes xs = subst (AllGood (contents s).bytes) (sym regroup) J.good in
              let count : length xs ≤ limit (length rs) = omega (arith, J.count, ap length regroup) in
              let small : length xs ≤ 4100 = few_most (length xs) (length rs) count L.most in
              let q-is = ok_same got D.ok in
              let bench : Bench rs rs₂ f₂ (λ i. (occ Y.t' i + (occ_part D.G i + occ D.q i)) + 0) Y.fs' (D.js ++ Y.js) = bench_by (λ i. (occ Y.t' i + (occ_part D.G i + occ D.q i)) + 0) (λ i. omega arith) J.bench in
              let spare = bench_spare (2 * length xs) J.bench (between_count (length rs) Y.t' D.G D.q) in
              let N : Melt (λ _. 1) (text_means am) (bytes_of (contents s).bytes) rs₂ rs₃ f₃ r Y.t' D.G D.q Y.fs' 0 = C₂.melts (bytes_of (contents s).bytes) Y.t' D.G D.q Y.fs' (record {
                left = ok_same Y.ok got-d;
                between = sym (ap (λ (y : Parts). y.back) q-is);
                right = sym (ap (λ (y : Parts). y.right) q-is);
                first = Y.first;
                fit_l = Y.fit;
                fit_q = J.fit_g;
                fit_r = J.fit_q;
                chain = Y.chain;
                once = λ i. omega (arith, bench_once J.bench i);
                light = light (contents s).bytes xs good small;
                small = small;
                long = omega (arith, count, L.least);
              }) in
              let Z = N.made in
              let last : Bench rs rs₃ f₃ (λ i. occ Z.t' i + 0) Z.fs' ((D.js ++ Y.js) ++ Z.js) =
              bench_step (λ i. occ Y.t' i + (occ_part D.G i + occ D.q i)) (λ _. 0) bench
              (off_more (λ i. (occ Y.t' i + (occ_part D.G i + occ D.q i)) + occ_list Y.fs' i) (λ i z. omega arith) Z.frame)
              (occ Z.t') Z.fs' Z.js Z.first Z.chain (λ i. omega (arith, Z.kept i)) Z.fresh in
              record {
                t' = Z.t';
                fs' = Z.fs';
                js = (D.js ++ Y.js) ++ Z.js;
                ok = Z.ok;
                laid = record {
                  tree = refl;
                  first = Z.first;
                  fit = Z.fit;
                  chain = Z.chain;
                  once = λ i. omega (arith, last.kept i, ap (λ (n : ℕ). named n i) last.len);
                  few = omega (arith, count, ap length Z.text, ap limit last.len);
                  least = omega (arith, L.least, last.len);
                  most = omega (arith, L.most, last.len);
                };
                len = last.len;
                pieces = ap (map piece_of) (Z.text ∙ regroup) ∙ J.pieces;
                good = subst (AllGood (contents s).bytes) (sym Z.text) good;
                few = omega (arith, J.M.few, N.few, N.low_l, D.few, length-append (D.js ++ Y.js) Z.js, length-append D.js Y.js);
                fresh = last.fresh;
              }
