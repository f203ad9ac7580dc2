-- The paths of putting a piece into the text's tree.
use Rattle.std.proofs.Common.{◌≡◌, ℕ, ◌+◌, ◌*◌, ◌<◌, ◌≤◌, ◌⊎◌, List, [], ◌∷◌, ◌++◌, map, length, get_or, set, Some, None, Ok, Err, Option, Result, sym, refl, ap, ◌∙◌, subst, ap₂, inl, inr, append_assoc, arith, length-append}
use Rattle.plain.specs.Machine.{limit}
use Rattle.plain.specs.Pieces.{Piece, before, after}
use Rattle.stores.specs.Stores.{Contents}
use Rattle.slots.specs.Ghost.{Twig, leaf, two, three, Arm, a1, a2, a3, a4, Finger, root, same, named, occ_list, none, head_of, part_of, tree_of, rows_part, rows, size_part, levels, occ_part, occ, At, FitPart, Fit, Chain, Calm, Off}
use Rattle.slots.specs.Holds.{Holds, Beside}
use Rattle.slots.specs.Post.{LeafPut}
use Rattle.slots.specs.declared.records.Unsound.{Unsound}
use Rattle.slots.specs.Words.{Link}
use Rattle.slots.specs.declared.records.Tree.{Tree}
use Rattle.slots.specs.declared.records.Digit.{Digit}
use Rattle.slots.specs.declared.records.Record.{Record}
use Rattle.slots.specs.declared.records.Record.TheVariants.{Leaf}
use Rattle.slots.proofs.Frames.{occ_list_append, off_more, Put, put, frame_chain}
use Rattle.slots.proofs.Shapes.{ok_err, ok_same}
use Rattle.concat.specs.Post.{added, Melt, Concat}
use Rattle.pieces.specs.Leaves.{Bounded}
use Rattle.pieces.specs.Rows.{piece_of, bytes_of, Good, AllGood}
use Rattle.pieces.specs.Sound.{TextValue, text_means, text_mean, Laid}
use Rattle.pieces.specs.declared.rows.PieceRow.{PieceRow}
use Rattle.pieces.proofs.Bench.{Bench, bench_start, bench_by, bench_once, bench_step, bench_spare, stays_tree, stays_part}
use Rattle.pieces.proofs.RowParts.{map_append, length_map, all_append, light}
use Rattle.edits.specs.Inserting.{added_one, TextMade, PutInto}
use Rattle.edits.specs.Parting.{Apart, PartedAt}
use Rattle.edits.specs.declared.parting.Parts.{Parts}
use Rattle.edits.proofs.Supplies.{few_most, text_holds, between_count}

-- a leaf between two parts of at most one each
pub record Three {R V : Type 0} (mn : List R → V) (rs : List (Record R V)) (F G : Option (Arm R V)) (i : ℕ) (x : R) (v : V) : Type 0 where
  pub some : Option Digit
  pub Q : Option (Arm R V)
  pub two_are : added (part_of F) i ≡ Ok some
  pub all_are : added_one some (part_of G) ≡ Ok (part_of Q)
  pub rows_are : rows_part Q ≡ rows_part F ++ (x ∷ rows_part G)
  pub occs : (j : ℕ) → occ_part Q j ≡ occ_part F j + (same i j + occ_part G j)
  pub fits : FitPart mn rs F 0 → FitPart mn rs G 0 → At rs i (Leaf x v) → v ≡ mn (x ∷ []) → FitPart mn rs Q 0

-- a part of at most one is none, or a leaf
small : {R V : Type 0} (mn : List R → V) (rs : List (Record R V)) (P : Option (Arm R V) → Type 0) → P None → ((a : ℕ) (y : R) (u : V) → P (Some (a1 (leaf a y u))))
    → (F : Option (Arm R V)) → FitPart mn rs F 0 → size_part F ≤ 1 → P F
small mn rs P n o None f s = n
small mn rs P n o (Some (a1 (leaf a y u))) f s = o a y u
small mn rs P n o (Some (a1 (two a u l r))) f s = absurd f
small mn rs P n o (Some (a1 (three a u l m r))) f s = absurd f
small mn rs P n o (Some (a2 a b)) f s = absurd (omega arith)
small mn rs P n o (Some (a3 a b c)) f s = absurd (omega arith)
small mn rs P n o (Some (a4 a b c d)) f s = absurd (omega arith)

pub three_of : {R V : Type 0} (mn : List R → V) (rs : List (Record R V)) (F G : Option (Arm R V)) (i : ℕ) (x : R) (v : V) → FitPart mn rs F 0 → FitPart mn rs G 0 → size_part F ≤ 1 → size_part G ≤ 1 → Three mn rs F G i x v
three_of mn rs F G i x v ff fg sf sg = small mn rs (λ F. Three mn rs F G i x v)
    (small mn rs (λ G. Three mn rs None G i x v)
    (record { some = _; Q = Some (a1 (leaf i x v)); two_are = refl; all_are = refl; rows_are = refl; occs = λ j. omega arith; fits = λ f g at e. (at, e) })
    (λ b z w. record { some = _; Q = Some (a2 (leaf i x v) (leaf b z w)); two_are = refl; all_are = refl; rows_are = refl; occs = λ j. omega arith; fits = λ f g at e. ((at, e), g) })
    G fg sg)
    (λ a y u. small mn rs (λ G. Three mn rs (Some (a1 (leaf a y u))) G i x v)
    (record { some = _; Q = Some (a2 (leaf a y u) (leaf i x v)); two_are = refl; all_are = refl; rows_are = refl; occs = λ j. omega arith; fits = λ f g at e. (f, (at, e)) })
    (λ b z w. record { some = _; Q = Some (a3 (leaf a y u) (leaf i x v) (leaf b z w)); two_are = refl; all_are = refl; rows_are = refl; occs = λ j. omega arith; fits = λ f g at e. (f, (at, e), g) })
    G fg sg)
    F ff sf

-- What is known at each step of a put: the tree t was taken apart, and the row x has a leaf.
module _ {A S : Type 0} {am : List ℕ → A} {contents : S → Contents} {s s' : S} {rs rs₁ : List (Record PieceRow (TextValue A))} {f f₁ : Link} {tr : Tree} {p : ℕ} {rp : Result Parts Unsound}
    (K : PartedAt am contents s s' rs rs₁ f f₁ tr p rp) (x : PieceRow) (v : TextValue A) where
  abbrev mn : List PieceRow → TextValue A
  mn = text_mean am (contents s).bytes

  abbrev G₀ : Finger PieceRow (TextValue A) → List Piece
  G₀ t = before p (map piece_of (rows t)) ++ (piece_of x ∷ after p (map piece_of (rows t)))

  pub few_put : (t : Finger PieceRow (TextValue A)) (fs : List ℕ) → Bounded contents s → AllGood (contents s).bytes (rows t) → Laid mn rs f tr t fs → (contents s').reads ≤ (contents s).reads + 256
  few_put t fs b g L = K.few_reads t fs b g (text_holds g L)

  pub put_no_parts : {e : Unsound} {r : Result Tree Unsound} → rp ≡ Err e → PutInto am contents s s' rs rs₁ f f₁ tr p x v r
  put_no_parts bad = record {
    puts = λ t fs b g L gx ev few. absurd (ok_err (K.parts t fs b g (text_holds g L)).ok bad);
    few_reads = few_put;
    same_bytes = K.same_bytes;
    same_capacity = K.same_capacity;
  }

  module _ {q : Parts} (got : rp ≡ Ok q) {rs₂ : List (Record PieceRow (TextValue A))} {f₂ : Link} {ri : Result ℕ Unsound} (L₁ : LeafPut rs₁ rs₂ f₁ f₂ x v ri) where
    -- the new leaf
    pub record Leafed (t : Finger PieceRow (TextValue A)) (fs : List ℕ) (b : Bounded contents s) (g : AllGood (contents s).bytes (rows t)) (L : Laid mn rs f tr t fs) : Type 0 where
      pub D : Apart am contents (contents s).bytes rs rs₁ f₁ p rp t fs
      pub n : ℕ
      pub ns : List ℕ
      pub leaf_is : ri ≡ Ok n
      pub at : At rs₂ n (Leaf x v)
      pub bench : Bench rs rs₂ f₂ (λ i. same n i + (occ D.l i + (occ_part D.F i + (occ_part D.G i + occ D.q i)))) ns (D.js ++ (n ∷ []))
      pub fit_l : Fit mn rs₂ D.l 0
      pub fit_f : FitPart mn rs₂ D.F 0
      pub fit_g : FitPart mn rs₂ D.G 0
      pub fit_q : Fit mn rs₂ D.q 0

    leafed : (t : Finger PieceRow (TextValue A)) (fs : List ℕ) (b : Bounded contents s) (g : AllGood (contents s).bytes (rows t)) (L : Laid mn rs f tr t fs) → Leafed t fs b g L
    leafed t fs b g L = from_chain D.fs' refl
      where
        H : Holds (λ _. 1) (text_means am) (bytes_of (contents s).bytes) rs f tr t fs
        H = text_holds g L

        D : Apart am contents (contents s).bytes rs rs₁ f₁ p rp t fs
        D = K.parts t fs b g H

        τ : ℕ → ℕ
        τ i = occ D.l i + (occ_part D.F i + (occ_part D.G i + occ D.q i))

        b₁ : Bench rs rs₁ f₁ (λ i. (occ D.l i + (occ_part D.F i + (occ_part D.G i + occ D.q i))) + 0) D.fs' ([] ++ D.js)
        b₁ = bench_step (occ t) (λ _. 0) (bench_by (λ i. occ t i + 0) (λ i. omega arith) (bench_start L.first L.chain L.once)) D.frame
            (λ i. occ D.l i + (occ_part D.F i + (occ_part D.G i + occ D.q i))) D.fs' D.js D.first D.chain (λ i. omega (arith, D.kept i)) D.fresh

        from_chain : (c : List ℕ) → D.fs' ≡ c → Leafed t fs b g L
        from_chain [] e = absurd (omega (arith, ap length e, D.spent, H.long))
        from_chain (n ∷ ns) e =
            let first : head_of (n ∷ ns) ≡ f₁ = ap head_of (sym e) ∙ D.first in
            let chain : Chain rs₁ (n ∷ ns) = subst (Chain rs₁) e D.chain in
            let o = L₁.puts n ns (sym first) chain in
            let w : Put rs₁ rs₂ n (Leaf x v) = put chain.0.within o.2 in
            let bench₁ : Bench rs rs₁ f₁ (λ i. 0 + (occ D.l i + (occ_part D.F i + (occ_part D.G i + occ D.q i)))) (n ∷ ns) D.js =
            subst (λ (c : List ℕ). Bench rs rs₁ f₁ (λ i. 0 + (occ D.l i + (occ_part D.F i + (occ_part D.G i + occ D.q i)))) c D.js) e (bench_by (λ i. 0 + (occ D.l i + (occ_part D.F i + (occ_part D.G i + occ D.q i)))) (λ i. omega arith) b₁) in
            let off : Off rs₁ rs₂ (λ i. 0 + occ_list (n ∷ ns) i) = off_more (λ i. 0 + occ_list (n ∷ ns) i) (λ i z. omega arith) w.off in
            let once : (i : ℕ) → occ_list (n ∷ ns) i ≤ 1 = λ i. omega (arith, bench_once bench₁ i) in
            record {
              D = D;
              n = n;
              ns = ns;
              leaf_is = o.0;
              at = w.at;
              bench = bench_step (λ _. 0) (λ i. occ D.l i + (occ_part D.F i + (occ_part D.G i + occ D.q i))) bench₁ off (same n) ns (n ∷ []) (sym o.1)
                  (frame_chain w.off ns (λ i. omega (arith, once i)) chain.1) (λ i. omega arith) (λ i z. inr (w.off.reads i (omega arith)));
              fit_l = stays_tree (λ _. 0) (λ i. occ D.l i + (occ_part D.F i + (occ_part D.G i + occ D.q i))) bench₁ off mn D.l 0 (λ i. omega arith) D.fit_l;
              fit_f = stays_part (λ _. 0) (λ i. occ D.l i + (occ_part D.F i + (occ_part D.G i + occ D.q i))) bench₁ off mn D.F 0 (λ i. omega arith) D.fit_f;
              fit_g = stays_part (λ _. 0) (λ i. occ D.l i + (occ_part D.F i + (occ_part D.G i + occ D.q i))) bench₁ off mn D.G 0 (λ i. omega arith) D.fit_g;
              fit_q = stays_tree (λ _. 0) (λ i. occ D.l i + (occ_part D.F i + (occ_part D.G i + occ D.q i))) bench₁ off mn D.q 0 (λ i. omega arith) D.fit_q;
            }

    pub put_no_leaf : {e : Unsound} {r : Result Tree Unsound} → ri ≡ Err e → PutInto am contents s s' rs rs₂ f f₂ tr p x v r
    put_no_leaf bad = record {
      puts = λ t fs b g L gx ev few. absurd (ok_err (leafed t fs b g L).leaf_is bad);
      few_reads = few_put;
      same_bytes = K.same_bytes;
      same_capacity = K.same_capacity;
    }

    module _ {i : ℕ} (got-i : ri ≡ Ok i) {ra : Result (Option Digit) Unsound} (is-a : ra ≡ added q.front i) where
      threes : (t : Finger PieceRow (TextValue A)) (fs : List ℕ) (b : Bounded contents s) (g : AllGood (contents s).bytes (rows t)) (L : Laid mn rs f tr t fs)
          → Three mn rs₂ (leafed t fs b g L).D.F (leafed t fs b g L).D.G i x v
      threes t fs b g L = let E = leafed t fs b g L in three_of mn rs₂ E.D.F E.D.G i x v E.fit_f E.fit_g E.D.small_f E.D.small_g

      front_is : (t : Finger PieceRow (TextValue A)) (fs : List ℕ) (b : Bounded contents s) (g : AllGood (contents s).bytes (rows t)) (L : Laid mn rs f tr t fs)
          → q ≡ (let D = (leafed t fs b g L).D in record { left = tree_of D.l; front = part_of D.F; back = part_of D.G; right = tree_of D.q })
      front_is t fs b g L = ok_same got (leafed t fs b g L).D.ok

      pub put_no_two : {e : Unsound} {r : Result Tree Unsound} → ra ≡ Err e → PutInto am contents s s' rs rs₂ f f₂ tr p x v r
      put_no_two bad = record {
        puts = λ t fs b g L gx ev few.
            let T = threes t fs b g L in
            absurd (ok_err (is-a ∙ ap (λ (y : Parts). added y.front i) (front_is t fs b g L) ∙ T.two_are) bad);
        few_reads = few_put;
        same_bytes = K.same_bytes;
        same_capacity = K.same_capacity;
      }

      module _ {u : Option Digit} (got-a : ra ≡ Ok u) {rb : Result (Option Digit) Unsound} (is_b : rb ≡ added_one u q.back) where
        all_is : (t : Finger PieceRow (TextValue A)) (fs : List ℕ) (b : Bounded contents s) (g : AllGood (contents s).bytes (rows t)) (L : Laid mn rs f tr t fs) → rb ≡ Ok (part_of (threes t fs b g L).Q)
        all_is t fs b g L =
            let T = threes t fs b g L in
            let u-is : u ≡ T.some = ok_same got-a (is-a ∙ ap (λ (y : Parts). added y.front i) (front_is t fs b g L) ∙ T.two_are) in
            is_b ∙ ap₂ added_one u-is (ap (λ (y : Parts). y.back) (front_is t fs b g L)) ∙ T.all_are

        pub put_no_all : {e : Unsound} {r : Result Tree Unsound} → rb ≡ Err e → PutInto am contents s s' rs rs₂ f f₂ tr p x v r
        put_no_all bad = record {
          puts = λ t fs b g L gx ev few. absurd (ok_err (all_is t fs b g L) bad);
          few_reads = few_put;
          same_bytes = K.same_bytes;
          same_capacity = K.same_capacity;
        }

        module _ {d : Option Digit} (got-b : rb ≡ Ok d) {rs₃ : List (Record PieceRow (TextValue A))} {f₃ : Link} {r : Result Tree Unsound}
            (C : Concat (λ _. 1) (text_means am) rs₂ rs₃ f₂ f₃ q.left d q.right r) where
          pub put_made : PutInto am contents s s' rs rs₃ f f₃ tr p x v r
          put_made = record {
            puts = λ t fs b g L gx ev few. made t fs b g L gx ev few;
            few_reads = few_put;
            same_bytes = K.same_bytes;
            same_capacity = K.same_capacity;
          }
            where
              made : (t : Finger PieceRow (TextValue A)) (fs : List ℕ) (b : Bounded contents s) (g : AllGood (contents s).bytes (rows t)) (L : Laid mn rs f tr t fs) → Good (contents s).bytes x → v ≡ mn (x ∷ []) → length (G₀ t) ≤ limit (length rs)
                  → TextMade am (contents s).bytes rs rs₃ f₃ r (G₀ t) 4 3
              made t fs b g L gx ev few =
                  let E = leafed t fs b g L in
                  let D = E.D in
                  let T = threes t fs b g L in
                  let n-is : E.n ≡ i = ok_same E.leaf_is got-i in
                  let xs : List PieceRow = rows D.l ++ (rows_part T.Q ++ rows D.q) in
                  let regroup : xs ≡ (rows D.l ++ rows_part D.F) ++ (x ∷ (rows_part D.G ++ rows D.q)) =
                  ap (λ (l : List PieceRow). rows D.l ++ (l ++ rows D.q)) T.rows_are
                  ∙ ap (λ (l : List PieceRow). rows D.l ++ l) (append_assoc (rows_part D.F) (x ∷ rows_part D.G) (rows D.q))
                  ∙ sym (append_assoc (rows D.l) (rows_part D.F) (x ∷ (rows_part D.G ++ rows D.q))) in
                  let pieces : map piece_of xs ≡ G₀ t =
                  ap (map piece_of) regroup
                  ∙ map_append piece_of (rows D.l ++ rows_part D.F) (x ∷ (rows_part D.G ++ rows D.q))
                  ∙ ap₂ (λ (l k : List Piece). l ++ (piece_of x ∷ k)) D.before_is D.after_is in
                  let good : AllGood (contents s).bytes xs = subst (AllGood (contents s).bytes) (sym regroup) (all_append (contents s).bytes (rows D.l ++ rows_part D.F) (x ∷ (rows_part D.G ++ rows D.q)) D.good_before (gx, D.good_after)) in
                  let count : length xs ≤ limit (length rs) = omega (arith, few, length_map piece_of xs, ap length pieces) in
                  let small : length xs ≤ 4100 = few_most (length xs) (length rs) count L.most in
                  let occs : (j : ℕ) → same E.n j + (occ D.l j + (occ_part D.F j + (occ_part D.G j + occ D.q j))) ≡ (occ D.l j + (occ_part T.Q j + occ D.q j)) + 0 =
                  λ j. omega (arith, T.occs j, ap (λ (k : ℕ). same k j) n-is) in
                  let bench : Bench rs rs₂ f₂ (λ j. (occ D.l j + (occ_part T.Q j + occ D.q j)) + 0) E.ns (D.js ++ (E.n ∷ [])) = bench_by (λ j. (occ D.l j + (occ_part T.Q j + occ D.q j)) + 0) occs E.bench in
                  let at : At rs₂ i (Leaf x v) = subst (λ (k : ℕ). At rs₂ k (Leaf x v)) n-is E.at in
                  let q-is = front_is t fs b g L in
                  let spare : length rs ≤ 2 * length xs + length E.ns = bench_spare (2 * length xs) (bench_by (λ j. occ D.l j + (occ_part T.Q j + occ D.q j)) (λ j. omega arith) bench) (between_count (length rs) D.l T.Q D.q) in
                  let M : Melt (λ _. 1) (text_means am) (bytes_of (contents s).bytes) rs₂ rs₃ f₃ r D.l T.Q D.q E.ns 0 = C.melts (bytes_of (contents s).bytes) D.l T.Q D.q E.ns (record {
                    left = sym (ap (λ (y : Parts). y.left) q-is);
                    between = ok_same (all_is t fs b g L) got-b;
                    right = sym (ap (λ (y : Parts). y.right) q-is);
                    first = bench.first;
                    fit_l = E.fit_l;
                    fit_q = T.fits E.fit_f E.fit_g at ev;
                    fit_r = E.fit_q;
                    chain = bench.chain;
                    once = λ j. omega (arith, bench_once bench j);
                    light = light (contents s).bytes xs good small;
                    small = small;
                    long = omega (arith, count, L.least);
                  }) in
                  let Z = M.made in
                  let last : Bench rs rs₃ f₃ (λ j. occ Z.t' j + 0) Z.fs' ((D.js ++ (E.n ∷ [])) ++ Z.js) =
                  bench_step (λ j. occ D.l j + (occ_part T.Q j + occ D.q j)) (λ _. 0) bench
                  (off_more (λ j. (occ D.l j + (occ_part T.Q j + occ D.q j)) + occ_list E.ns j) (λ j z. omega arith) Z.frame)
                  (occ Z.t') Z.fs' Z.js Z.first Z.chain (λ j. omega (arith, Z.kept j)) Z.fresh in
                  record {
                    t' = Z.t';
                    fs' = Z.fs';
                    js = (D.js ++ (E.n ∷ [])) ++ Z.js;
                    ok = Z.ok;
                    laid = record {
                      tree = refl;
                      first = Z.first;
                      fit = Z.fit;
                      chain = Z.chain;
                      once = λ j. omega (arith, last.kept j, ap (λ (k : ℕ). named k j) last.len);
                      few = omega (arith, count, ap length Z.text, ap limit last.len);
                      least = omega (arith, L.least, last.len);
                      most = omega (arith, L.most, last.len);
                    };
                    len = last.len;
                    pieces = ap (map piece_of) Z.text ∙ pieces;
                    good = subst (AllGood (contents s).bytes) (sym Z.text) good;
                    few = omega (arith, M.few, D.few, length-append (D.js ++ (E.n ∷ [])) Z.js, length-append D.js (E.n ∷ []));
                    fresh = last.fresh;
                  }
