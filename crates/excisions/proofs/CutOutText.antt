-- The paths of cutting a part out of the text.
use Rattle.std.proofs.Common.{◌≡◌, ℕ, ◌+◌, ◌-◌, ◌*◌, ◌<◌, ◌≤◌, ◌⊎◌, List, [], ◌++◌, map, length, Some, None, Ok, Err, Option, Result, sym, refl, ap, ◌∙◌, subst, ap₂, ⊎_elim, append_assoc, append-nil, arith, length-append}
use Rattle.plain.specs.Machine.{limit}
use Rattle.plain.specs.Pieces.{Piece, before, after, between}
use Rattle.stores.specs.Stores.{Contents}
use Rattle.slots.specs.Ghost.{Finger, same, named, occ_list, rows_part, rows, occ_part, occ, FitPart, Fit}
use Rattle.slots.specs.Theorems.{total}
use Rattle.slots.specs.declared.records.Unsound.{Unsound}
use Rattle.slots.specs.Words.{Link}
use Rattle.slots.specs.declared.records.Tree.{Tree}
use Rattle.slots.specs.declared.records.Side.TheVariants.{Front, Back}
use Rattle.slots.specs.declared.records.Record.{Record}
use Rattle.slots.proofs.Counts.{total_add, tree_count, part_count, named_le, supply}
use Rattle.slots.proofs.Frames.{frame, frame_part}
use Rattle.slots.proofs.Shapes.{ok_err, ok_same}
use Rattle.concat.specs.Post.{Extension, Extends}
use Rattle.pieces.specs.Leaves.{Bounded}
use Rattle.pieces.specs.Rows.{piece_of, bytes_of, AllGood, sizes}
use Rattle.pieces.specs.Sound.{TextValue, text_means, text_mean, Laid}
use Rattle.pieces.specs.declared.rows.PieceRow.{PieceRow}
use Rattle.pieces.proofs.RowParts.{map_append, length_map, all_append, all_right, front_good, light}
use Rattle.edits.proofs.Supplies.{few_most, text_holds}
use Rattle.excisions.specs.Moves.{Moved}
use Rattle.excisions.specs.Spots.{OpenedAt}
use Rattle.excisions.specs.Ends.{Closing, Closed}
use Rattle.excisions.specs.Cutting.{Took, TakenFrom, TwoMade, CutOut}
use Rattle.excisions.specs.declared.spots.Spot.{Spot}
use Rattle.excisions.specs.declared.cutting.Taken.{Taken}
use Rattle.excisions.specs.declared.cutting.CutText.{CutText}
use Rattle.excisions.proofs.Moving.{moved_of, moved_then}
use Rattle.excisions.proofs.AtText.{sides_count, Spotted, spotted, spot_before, spot_after, spot_between, spot_within}
use Rattle.excisions.proofs.Optional.{none_some}

cut_same : {a a' c c' : Tree} → a ≡ a' → c ≡ c' → ◌≡◌ {A = Result CutText Unsound} (Ok (record { text = a; clip = c })) (Ok (record { text = a'; clip = c' }))
cut_same e f = cc

module _ {A : Type 0} {am : List ℕ → A} {rs rs₁ : List (Record PieceRow (TextValue A))} {f f₁ : Link} {tr : Tree} {a : ℕ} {rf : Result (Option Spot) Unsound} (O : OpenedAt am rs rs₁ f f₁ tr a rf) (b : ℕ) where
  pub cut_no_open : {S : Type 0} {contents : S → Contents} {s : S} {e : Unsound} {r : Result CutText Unsound} → rf ≡ Err e → CutOut am contents s s rs rs₁ f f₁ tr a b r
  cut_no_open {contents = contents} {s = s} bad = record {
    cuts = λ t fs bd g L lt le few. ⊎_elim (λ u. absurd (ok_err u.1 bad)) (λ q. absurd (ok_err q.ok bad)) (O.opens (contents s).bytes t fs g (text_holds g L));
    few_reads = λ t fs bd g L lt le. omega arith;
    same_bytes = refl;
    same_capacity = refl;
  }

  pub cut_none : {S : Type 0} {contents : S → Contents} {s : S} {r : Result CutText Unsound} → rf ≡ Ok None → CutOut am contents s s rs rs₁ f f₁ tr a b r
  cut_none {contents = contents} {s = s} got = record {
    cuts = λ t fs bd g L lt le few. ⊎_elim (λ u. absurd (omega (arith, u.0))) (λ q. absurd (none_some (ok_same got q.ok))) (O.opens (contents s).bytes t fs g (text_holds g L));
    few_reads = λ t fs bd g L lt le. omega arith;
    same_bytes = refl;
    same_capacity = refl;
  }

  module _ {h : Spot} (got : rf ≡ Ok (Some h)) {S : Type 0} {contents : S → Contents} {s s' : S} {m : ℕ} {rs₂ : List (Record PieceRow (TextValue A))} {f₂ : Link} {rt : Result Taken Unsound}
      (m-is : m ≡ b - a) (T : TakenFrom am contents s s' rs₁ rs₂ f₁ f₂ h m rt) where
    abbrev mn : List PieceRow → TextValue A
    mn = text_mean am (contents s).bytes

    abbrev G₀ : Finger PieceRow (TextValue A) → List Piece
    G₀ t = before a (map piece_of (rows t)) ++ after b (map piece_of (rows t))

    abbrev H₀ : Finger PieceRow (TextValue A) → List Piece
    H₀ t = between a b (map piece_of (rows t))

    few_cut : (t : Finger PieceRow (TextValue A)) (fs : List ℕ) → Bounded contents s → AllGood (contents s).bytes (rows t) → Laid mn rs f tr t fs → a < b → b ≤ sizes (rows t) → (contents s').reads ≤ (contents s).reads + 512
    few_cut t fs bd g L lt le = let X = spotted t fs O got bd g L in T.few_reads X.v X.q X.fs' X.behind (omega (arith, m-is)) (spot_within X b m m-is lt le)

    -- the text in parts, of the clip and of what stays
    record Begun (t : Finger PieceRow (TextValue A)) (fs : List ℕ) : Type 0 where
      pub X : Spotted am contents s rs rs₁ f₁ a h t fs
      pub K : Took am contents (contents s).bytes rs₁ rs₂ f₂ h m rt X.q X.fs'
      pub moved : Moved rs rs₂ f₂ (occ t) (λ j. (occ K.m j + occ_part K.D j) + (occ_part K.C j + (occ X.l j + (occ_part K.F j + (occ_part K.G j + occ K.q' j))))) fs K.fs' K.js
      pub fit_l : Fit mn rs₂ X.l 0

    begun : (t : Finger PieceRow (TextValue A)) (fs : List ℕ) → Bounded contents s → AllGood (contents s).bytes (rows t) → Laid mn rs f tr t fs → a < b → b ≤ sizes (rows t) → Begun t fs
    begun t fs bd g L lt le =
        let X = spotted t fs O got bd g L in
        let K = T.takes X.v X.q X.fs' X.behind (omega (arith, m-is)) (spot_within X b m m-is lt le) in
        record {
          X = X;
          K = K;
          moved = moved_then (occ X.l) (λ j. (occ K.m j + occ_part K.D j) + (occ_part K.C j + (occ X.l j + (occ_part K.F j + (occ_part K.G j + occ K.q' j))))) X.moved (λ j. omega arith) K.moved (λ j. omega arith);
          fit_l = frame K.moved.frame mn X.l 0 (λ j. omega (arith, X.once j)) X.fit_l;
        }

    pub cut_no_parts : {e : Unsound} {r : Result CutText Unsound} → rt ≡ Err e → CutOut am contents s s' rs rs₂ f f₂ tr a b r
    cut_no_parts bad = record {
      cuts = λ t fs bd g L lt le few. absurd (ok_err (begun t fs bd g L lt le).K.ok bad);
      few_reads = few_cut;
      same_bytes = T.same_bytes;
      same_capacity = T.same_capacity;
    }

    -- the same as rows
    record Known (t : Finger PieceRow (TextValue A)) (fs : List ℕ) (W : Begun t fs) : Type 0 where
      pub pieces : map piece_of (rows W.X.l ++ (rows_part W.K.F ++ (rows_part W.K.G ++ rows W.K.q'))) ≡ G₀ t
      pub clipped : map piece_of (rows_part W.K.C ++ (rows W.K.m ++ rows_part W.K.D)) ≡ H₀ t
      pub good : AllGood (contents s).bytes (rows W.X.l ++ (rows_part W.K.F ++ (rows_part W.K.G ++ rows W.K.q')))
      pub count : length (rows W.X.l ++ (rows_part W.K.F ++ (rows_part W.K.G ++ rows W.K.q'))) + length (rows_part W.K.C ++ (rows W.K.m ++ rows_part W.K.D)) ≤ limit (length rs)
      pub clip_len : length (rows_part W.K.C ++ (rows W.K.m ++ rows_part W.K.D)) ≡ length (rows_part W.K.C) + (length (rows W.K.m) + length (rows_part W.K.D))

    known : (t : Finger PieceRow (TextValue A)) (fs : List ℕ) (W : Begun t fs) → a < b → length (G₀ t) + length (H₀ t) ≤ limit (length rs) → Known t fs W
    known t fs W lt few =
        let X = W.X in
        let K = W.K in
        let xs : List PieceRow = rows X.l ++ (rows_part K.F ++ (rows_part K.G ++ rows K.q')) in
        let zs : List PieceRow = rows_part K.C ++ (rows K.m ++ rows_part K.D) in
        let pieces : map piece_of xs ≡ G₀ t =
        ap (map piece_of) (sym (append_assoc (rows X.l) (rows_part K.F) (rows_part K.G ++ rows K.q'))) ∙ map_append piece_of (rows X.l ++ rows_part K.F) (rows_part K.G ++ rows K.q')
        ∙ ap₂ (λ (x z : List Piece). x ++ z) (ap (λ (z : List PieceRow). map piece_of (rows X.l ++ z)) K.front_is ∙ sym (spot_before X)) (K.after_is ∙ sym (spot_after X b m m-is lt)) in
        let clipped : map piece_of zs ≡ H₀ t = K.between_is ∙ sym (spot_between X b m m-is lt) in
        let good-f : AllGood (contents s).bytes (rows_part K.F) = subst (AllGood (contents s).bytes) (sym K.front_is) (front_good (contents s).bytes h.into h.row (omega (arith, X.behind.into)) X.behind.good.0) in
        record {
          pieces = pieces;
          clipped = clipped;
          good = all_append (contents s).bytes (rows X.l) (rows_part K.F ++ (rows_part K.G ++ rows K.q')) X.good_l (all_append (contents s).bytes (rows_part K.F) (rows_part K.G ++ rows K.q') good-f K.good_after);
          count = omega (arith, few, length_map piece_of xs, ap length pieces, length_map piece_of zs, ap length clipped);
          clip_len = omega (arith, length-append (rows_part K.C) (rows K.m ++ rows_part K.D), length-append (rows K.m) (rows_part K.D));
        }

    module _ {y : Taken} (got-y : rt ≡ Ok y) {rs₃ : List (Record PieceRow (TextValue A))} {f₃ : Link} {r₁ : Result Tree Unsound} (E₁ : Extends (λ _. 1) (text_means am) rs₂ rs₃ f₂ f₃ Back y.middle y.last r₁) where
      -- the last part is in the clip's tree
      record Longer (t : Finger PieceRow (TextValue A)) (fs : List ℕ) : Type 0 where
        pub W : Begun t fs
        pub N : Known t fs W
        pub ext : Extension (λ _. 1) (text_means am) (bytes_of (contents s).bytes) rs₂ rs₃ f₃ Back r₁ W.K.m W.K.D W.K.fs'
        pub moved : Moved rs rs₃ f₃ (occ t) (λ j. (occ ext.made.t' j + occ_part W.K.C j) + (occ W.X.l j + (occ_part W.K.F j + (occ_part W.K.G j + occ W.K.q' j)))) fs ext.made.fs' (W.K.js ++ ext.made.js)
        pub fit_c : FitPart mn rs₃ W.K.C 0
        pub fit_l : Fit mn rs₃ W.X.l 0
        pub fit_f : FitPart mn rs₃ W.K.F 0
        pub fit_g : FitPart mn rs₃ W.K.G 0
        pub fit_q : Fit mn rs₃ W.K.q' 0

      longer : (t : Finger PieceRow (TextValue A)) (fs : List ℕ) → Bounded contents s → AllGood (contents s).bytes (rows t) → Laid mn rs f tr t fs → a < b → b ≤ sizes (rows t) → length (G₀ t) + length (H₀ t) ≤ limit (length rs) → Longer t fs
      longer t fs bd g L lt le few =
          let W = begun t fs bd g L lt le in
          let N = known t fs W lt few in
          let X = W.X in
          let K = W.K in
          let y-is = ok_same K.ok got-y in
          let σ : ℕ → ℕ = λ j. occ X.l j + (occ_part K.F j + (occ_part K.G j + occ K.q' j)) in
          let once : (j : ℕ) → ((occ K.m j + occ_part K.D j) + (occ_part K.C j + (occ X.l j + (occ_part K.F j + (occ_part K.G j + occ K.q' j))))) + occ_list K.fs' j ≤ 1 = λ j. omega (arith, W.moved.kept j, L.once j, named_le (length rs) j) in
          let xs : List PieceRow = rows X.l ++ (rows_part K.F ++ (rows_part K.G ++ rows K.q')) in
          let zs : List PieceRow = rows_part K.C ++ (rows K.m ++ rows_part K.D) in
          let used : total (length rs) (λ j. (occ K.m j + occ_part K.D j) + (occ_part K.C j + (occ X.l j + (occ_part K.F j + (occ_part K.G j + occ K.q' j))))) ≤ 2 * (length xs + length zs) = omega (
            arith,
            total_add (length rs) (λ j. occ K.m j + occ_part K.D j) (λ j. occ_part K.C j + (occ X.l j + (occ_part K.F j + (occ_part K.G j + occ K.q' j)))),
            total_add (length rs) (occ K.m) (occ_part K.D),
            total_add (length rs) (occ_part K.C) (λ j. occ X.l j + (occ_part K.F j + (occ_part K.G j + occ K.q' j))),
            tree_count (length rs) K.m,
            part_count (length rs) K.D,
            part_count (length rs) K.C,
            sides_count (length rs) X.l K.F K.G K.q',
            N.clip_len,
          ) in
          let free = supply (length rs) (2 * (length xs + length zs)) (λ j. (occ K.m j + occ_part K.D j) + (occ_part K.C j + (occ X.l j + (occ_part K.F j + (occ_part K.G j + occ K.q' j))))) K.fs' (λ j. W.moved.kept j ∙ L.once j) used in
          let good : AllGood (contents s).bytes (rows K.m ++ (rows_part K.D ++ [])) = subst (λ (z : List PieceRow). AllGood (contents s).bytes (rows K.m ++ z)) (sym (append-nil (rows_part K.D))) (all_right (contents s).bytes (rows_part K.C) (rows K.m ++ rows_part K.D) K.good_between) in
          let len : length (rows K.m ++ (rows_part K.D ++ [])) ≡ length (rows K.m) + length (rows_part K.D) = omega (arith, length-append (rows K.m) (rows_part K.D ++ []), length-append (rows_part K.D) []) in
          let small : length (rows K.m ++ (rows_part K.D ++ [])) ≤ 4100 = few_most (length (rows K.m ++ (rows_part K.D ++ []))) (length rs) (omega (arith, N.count, N.clip_len)) L.most in
          let ext : Extension (λ _. 1) (text_means am) (bytes_of (contents s).bytes) rs₂ rs₃ f₃ Back r₁ K.m K.D K.fs' = E₁.extends (bytes_of (contents s).bytes) K.m K.D K.fs' (record {
            left = ap (λ (z : Taken). z.middle) y-is;
            between = ap (λ (z : Taken). z.last) y-is;
            right = refl;
            first = K.moved.first;
            fit_l = K.fit_m;
            fit_q = K.fit_d;
            fit_r = tt;
            chain = K.moved.chain;
            once = λ j. omega (arith, once j);
            light = light (contents s).bytes (rows K.m ++ (rows_part K.D ++ [])) good small;
            small = small;
            long = omega (arith, N.count, L.least);
          }) in
          let Z = ext.made in
          let step : Moved rs₂ rs₃ f₃ (λ j. occ K.m j + occ_part K.D j) (occ Z.t') K.fs' Z.fs' Z.js = moved_of (λ j. occ K.m j + occ_part K.D j) (occ Z.t') K.fs' Z.fs' Z.js Z.first Z.chain Z.kept Z.frame Z.fresh (λ j. omega arith) in
          record {
            W = W;
            N = N;
            ext = ext;
            moved = moved_then (λ j. occ_part K.C j + (occ X.l j + (occ_part K.F j + (occ_part K.G j + occ K.q' j)))) (λ j. (occ Z.t' j + occ_part K.C j) + (occ X.l j + (occ_part K.F j + (occ_part K.G j + occ K.q' j)))) W.moved (λ j. refl) step (λ j. omega arith);
            fit_c = frame_part step.frame mn K.C 0 (λ j. omega (arith, once j)) K.fit_c;
            fit_l = frame step.frame mn X.l 0 (λ j. omega (arith, once j)) W.fit_l;
            fit_f = frame_part step.frame mn K.F 0 (λ j. omega (arith, once j)) K.fit_f;
            fit_g = frame_part step.frame mn K.G 0 (λ j. omega (arith, once j)) K.fit_g;
            fit_q = frame step.frame mn K.q' 0 (λ j. omega (arith, once j)) K.fit_q;
          }

      pub cut_no_last : {e : Unsound} {r : Result CutText Unsound} → r₁ ≡ Err e → CutOut am contents s s' rs rs₃ f f₃ tr a b r
      cut_no_last bad = record {
        cuts = λ t fs bd g L lt le few. absurd (ok_err (longer t fs bd g L lt le few).ext.made.ok bad);
        few_reads = few_cut;
        same_bytes = T.same_bytes;
        same_capacity = T.same_capacity;
      }

      module _ {u : Tree} (got-u : r₁ ≡ Ok u) {rs₄ : List (Record PieceRow (TextValue A))} {f₄ : Link} {r₂ : Result Tree Unsound} (E₂ : Extends (λ _. 1) (text_means am) rs₃ rs₄ f₃ f₄ Front u y.first r₂) where
        -- the clip's tree is whole
        record Clip (t : Finger PieceRow (TextValue A)) (fs : List ℕ) : Type 0 where
          pub V : Longer t fs
          pub ext : Extension (λ _. 1) (text_means am) (bytes_of (contents s).bytes) rs₃ rs₄ f₄ Front r₂ V.ext.made.t' V.W.K.C V.ext.made.fs'
          pub text : rows ext.made.t' ≡ rows_part V.W.K.C ++ (rows V.W.K.m ++ rows_part V.W.K.D)
          pub moved : Moved rs rs₄ f₄ (occ t) (λ j. (occ V.W.X.l j + (occ_part V.W.K.F j + (occ_part V.W.K.G j + occ V.W.K.q' j))) + occ ext.made.t' j) fs ext.made.fs' ((V.W.K.js ++ V.ext.made.js) ++ ext.made.js)
          pub fit_l : Fit mn rs₄ V.W.X.l 0
          pub fit_f : FitPart mn rs₄ V.W.K.F 0
          pub fit_g : FitPart mn rs₄ V.W.K.G 0
          pub fit_q : Fit mn rs₄ V.W.K.q' 0

        clip_of : (t : Finger PieceRow (TextValue A)) (fs : List ℕ) → Bounded contents s → AllGood (contents s).bytes (rows t) → Laid mn rs f tr t fs → a < b → b ≤ sizes (rows t) → length (G₀ t) + length (H₀ t) ≤ limit (length rs) → Clip t fs
        clip_of t fs bd g L lt le few =
            let V = longer t fs bd g L lt le few in
            let X = V.W.X in
            let K = V.W.K in
            let N = V.N in
            let Y = V.ext.made in
            let y-is = ok_same K.ok got-y in
            let once : (j : ℕ) → ((occ Y.t' j + occ_part K.C j) + (occ X.l j + (occ_part K.F j + (occ_part K.G j + occ K.q' j)))) + occ_list Y.fs' j ≤ 1 = λ j. omega (arith, V.moved.kept j, L.once j, named_le (length rs) j) in
            let xs : List PieceRow = rows X.l ++ (rows_part K.F ++ (rows_part K.G ++ rows K.q')) in
            let zs : List PieceRow = rows_part K.C ++ (rows K.m ++ rows_part K.D) in
            let back-text : rows Y.t' ≡ rows K.m ++ rows_part K.D = Y.text in
            let same_rows : rows_part K.C ++ rows Y.t' ≡ zs = ap (λ (z : List PieceRow). rows_part K.C ++ z) back-text in
            let len : length (rows Y.t') ≡ length (rows K.m) + length (rows_part K.D) = ap length back-text ∙ length-append (rows K.m) (rows_part K.D) in
            let used : total (length rs) (λ j. (occ Y.t' j + occ_part K.C j) + (occ X.l j + (occ_part K.F j + (occ_part K.G j + occ K.q' j)))) ≤ 2 * (length xs + length zs) = omega (
              arith,
              total_add (length rs) (λ j. occ Y.t' j + occ_part K.C j) (λ j. occ X.l j + (occ_part K.F j + (occ_part K.G j + occ K.q' j))),
              total_add (length rs) (occ Y.t') (occ_part K.C),
              tree_count (length rs) Y.t',
              part_count (length rs) K.C,
              sides_count (length rs) X.l K.F K.G K.q',
              N.clip_len,
            ) in
            let free = supply (length rs) (2 * (length xs + length zs)) (λ j. (occ Y.t' j + occ_part K.C j) + (occ X.l j + (occ_part K.F j + (occ_part K.G j + occ K.q' j)))) Y.fs' (λ j. V.moved.kept j ∙ L.once j) used in
            let good : AllGood (contents s).bytes (rows_part K.C ++ rows Y.t') = subst (AllGood (contents s).bytes) (sym same_rows) K.good_between in
            let small : length (rows_part K.C ++ rows Y.t') ≤ 4100 = few_most (length (rows_part K.C ++ rows Y.t')) (length rs) (omega (arith, N.count, ap length same_rows)) L.most in
            let ext : Extension (λ _. 1) (text_means am) (bytes_of (contents s).bytes) rs₃ rs₄ f₄ Front r₂ Y.t' K.C Y.fs' = E₂.extends (bytes_of (contents s).bytes) Y.t' K.C Y.fs' (record {
              left = refl;
              between = ap (λ (z : Taken). z.first) y-is;
              right = ok_same Y.ok got-u;
              first = Y.first;
              fit_l = tt;
              fit_q = V.fit_c;
              fit_r = Y.fit;
              chain = Y.chain;
              once = λ j. omega (arith, once j);
              light = light (contents s).bytes (rows_part K.C ++ rows Y.t') good small;
              small = small;
              long = omega (arith, N.count, L.least);
            }) in
            let Z = ext.made in
            let step : Moved rs₃ rs₄ f₄ (λ j. occ Y.t' j + occ_part K.C j) (occ Z.t') Y.fs' Z.fs' Z.js = moved_of (λ j. occ Y.t' j + occ_part K.C j) (occ Z.t') Y.fs' Z.fs' Z.js Z.first Z.chain Z.kept Z.frame Z.fresh (λ j. omega arith) in
            record {
              V = V;
              ext = ext;
              text = Z.text ∙ same_rows;
              moved = moved_then (λ j. occ X.l j + (occ_part K.F j + (occ_part K.G j + occ K.q' j))) (λ j. (occ X.l j + (occ_part K.F j + (occ_part K.G j + occ K.q' j))) + occ Z.t' j) V.moved (λ j. refl) step (λ j. omega arith);
              fit_l = frame step.frame mn X.l 0 (λ j. omega (arith, once j)) V.fit_l;
              fit_f = frame_part step.frame mn K.F 0 (λ j. omega (arith, once j)) V.fit_f;
              fit_g = frame_part step.frame mn K.G 0 (λ j. omega (arith, once j)) V.fit_g;
              fit_q = frame step.frame mn K.q' 0 (λ j. omega (arith, once j)) V.fit_q;
            }

        pub cut_no_clip : {e : Unsound} {r : Result CutText Unsound} → r₂ ≡ Err e → CutOut am contents s s' rs rs₄ f f₄ tr a b r
        cut_no_clip bad = record {
          cuts = λ t fs bd g L lt le few. absurd (ok_err (clip_of t fs bd g L lt le few).ext.made.ok bad);
          few_reads = few_cut;
          same_bytes = T.same_bytes;
          same_capacity = T.same_capacity;
        }

        module _ {k : Tree} (got-k : r₂ ≡ Ok k) {rs₅ : List (Record PieceRow (TextValue A))} {f₅ : Link} {rc : Result Tree Unsound} (Z : Closed am rs₄ rs₅ f₄ f₅ h.left y.front y.back y.right rc) where
          closing : (t : Finger PieceRow (TextValue A)) (fs : List ℕ) → Laid mn rs f tr t fs → (U : Clip t fs) → Closing am (contents s).bytes rs₄ rs₅ f₅ rc U.V.W.X.l U.V.W.K.F U.V.W.K.G U.V.W.K.q' U.ext.made.fs'
          closing t fs L U =
              let X = U.V.W.X in
              let K = U.V.W.K in
              let N = U.V.N in
              let Y = U.ext.made in
              let y-is = ok_same K.ok got-y in
              let xs : List PieceRow = rows X.l ++ (rows_part K.F ++ (rows_part K.G ++ rows K.q')) in
              let used : total (length rs) (λ j. (occ X.l j + (occ_part K.F j + (occ_part K.G j + occ K.q' j))) + occ Y.t' j) ≤ 2 * (length xs + length (rows Y.t')) = omega (
                arith,
                total_add (length rs) (λ j. occ X.l j + (occ_part K.F j + (occ_part K.G j + occ K.q' j))) (occ Y.t'),
                tree_count (length rs) Y.t',
                sides_count (length rs) X.l K.F K.G K.q',
              ) in
              let free = supply (length rs) (2 * (length xs + length (rows Y.t'))) (λ j. (occ X.l j + (occ_part K.F j + (occ_part K.G j + occ K.q' j))) + occ Y.t' j) Y.fs' (λ j. U.moved.kept j ∙ L.once j) used in
              Z.closes (contents s).bytes X.l K.F K.G K.q' Y.fs' (record {
                left = X.left_is;
                front = ap (λ (z : Taken). z.front) y-is;
                back = ap (λ (z : Taken). z.back) y-is;
                right = ap (λ (z : Taken). z.right) y-is;
                small_f = K.small_f;
                small_g = K.small_g;
                first = Y.first;
                fit_l = U.fit_l;
                fit_f = U.fit_f;
                fit_g = U.fit_g;
                fit_q = U.fit_q;
                chain = Y.chain;
                once = λ j. omega (arith, U.moved.kept j, L.once j, named_le (length rs) j);
                good = N.good;
                small = few_most (length xs) (length rs) (omega (arith, N.count)) L.most;
                long = omega (arith, N.count, ap length U.text, L.least);
              })

          pub cut_no_text : {e : Unsound} {r : Result CutText Unsound} → rc ≡ Err e → CutOut am contents s s' rs rs₅ f f₅ tr a b r
          cut_no_text bad = record {
            cuts = λ t fs bd g L lt le few. absurd (ok_err (closing t fs L (clip_of t fs bd g L lt le few)).ok bad);
            few_reads = few_cut;
            same_bytes = T.same_bytes;
            same_capacity = T.same_capacity;
          }

          pub cut_made : {x : Tree} → rc ≡ Ok x → CutOut am contents s s' rs rs₅ f f₅ tr a b (Ok (record { text = x; clip = k }))
          cut_made {x} got-x = record {
            cuts = λ t fs bd g L lt le few. made t fs L (clip_of t fs bd g L lt le few);
            few_reads = few_cut;
            same_bytes = T.same_bytes;
            same_capacity = T.same_capacity;
          }
            where
              made : (t : Finger PieceRow (TextValue A)) (fs : List ℕ) → Laid mn rs f tr t fs → Clip t fs → TwoMade am (contents s).bytes rs rs₅ f₅ (Ok (record { text = x; clip = k })) (G₀ t) (H₀ t)
              made t fs L U =
                  let K = U.V.W.K in
                  let N = U.V.N in
                  let P = U.V.ext in
                  let Y = U.ext.made in
                  let Q = closing t fs L U in
                  let js₀ : List ℕ = (K.js ++ P.made.js) ++ Y.js in
                  let last : Moved rs rs₅ f₅ (occ t) (λ j. occ Q.t' j + occ Y.t' j) fs Q.fs' (((K.js ++ P.made.js) ++ Y.js) ++ Q.js) = moved_then (occ Y.t') (λ j. occ Q.t' j + occ Y.t' j) U.moved (λ j. refl) Q.moved (λ j. refl) in
                  let len : length rs₅ ≡ length rs = last.frame.len in
                  record {
                    t' = Q.t';
                    k' = Y.t';
                    fs' = Q.fs';
                    js = ((K.js ++ P.made.js) ++ Y.js) ++ Q.js;
                    ok = cut_same (ok_same got-x Q.ok) (ok_same got-k Y.ok);
                    laid = record {
                      tree = refl;
                      clip = refl;
                      first = Q.moved.first;
                      fit = Q.fit;
                      fit_clip = frame Q.moved.frame mn Y.t' 0 (λ j. omega (arith, U.moved.kept j, L.once j, named_le (length rs) j)) Y.fit;
                      chain = Q.moved.chain;
                      once = λ j. omega (arith, last.kept j, L.once j, ap (λ (n : ℕ). named n j) len);
                      few = omega (arith, N.count, ap length Q.text, ap length U.text, ap limit len);
                      least = omega (arith, L.least, len);
                      most = omega (arith, L.most, len);
                    };
                    len = len;
                    pieces = ap (map piece_of) Q.text ∙ N.pieces;
                    clipped = ap (map piece_of) U.text ∙ N.clipped;
                    good = subst (AllGood (contents s).bytes) (sym Q.text) N.good;
                    good_clip = subst (AllGood (contents s).bytes) (sym U.text) K.good_between;
                    few = omega (
                      arith,
                      K.few,
                      P.fewer (omega (arith, K.small_d)),
                      U.ext.fewer (omega (arith, K.small_c)),
                      U.ext.low,
                      Q.few,
                      length-append ((K.js ++ P.made.js) ++ Y.js) Q.js,
                      length-append (K.js ++ P.made.js) Y.js,
                      length-append K.js P.made.js,
                    );
                    fresh = last.fresh;
                  }
