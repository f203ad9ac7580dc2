-- The paths of taking bytes out from a spot on.
use Rattle.std.proofs.Common.{◌≡◌, ℕ, ◌+◌, ◌-◌, ◌<◌, ◌≤◌, min, List, [], ◌∷◌, ◌++◌, map, length, None, Ok, Err, Option, Result, sym, refl, ap, ◌∙◌, subst, ap₂, inr, arith, length-append}
use Rattle.stores.specs.Stores.{Contents, largest}
use Rattle.plain.specs.Pieces.{Piece}
use Rattle.slots.specs.Ghost.{Finger, nil, same, rows_part, rows, occ_part, occ}
use Rattle.slots.specs.declared.records.Unsound.{Unsound}
use Rattle.slots.specs.Words.{Link}
use Rattle.slots.specs.declared.records.Tree.{Tree}
use Rattle.slots.specs.declared.records.Tree.TheVariants.{Empty}
use Rattle.slots.specs.declared.records.Digit.{Digit}
use Rattle.slots.specs.declared.records.Record.{Record}
use Rattle.slots.proofs.Frames.{frame, frame_part}
use Rattle.slots.proofs.Shapes.{ok_err, ok_same}
use Rattle.pieces.specs.Leaves.{PartPut, Cut, EndsKept}
use Rattle.pieces.specs.Rows.{row, piece_of, Good, AllGood, sizes}
use Rattle.pieces.specs.Sound.{TextValue, text_means, text_mean}
use Rattle.pieces.specs.declared.rows.PieceRow.{PieceRow}
use Rattle.pieces.specs.declared.leaves.Ends.{Ends}
use Rattle.pieces.proofs.RowParts.{map_append, all_append, rest_good, after_at}
use Rattle.pieces.proofs.RowCuts.{middle_of, middle_good, between_within}
use Rattle.pieces.proofs.CutLeaves.{PartMade, part_made}
use Rattle.edits.specs.Parting.{Apart, PartedAt}
use Rattle.edits.specs.declared.parting.Parts.{Parts}
use Rattle.excisions.specs.Moves.{Moved}
use Rattle.excisions.specs.Spots.{Behind}
use Rattle.excisions.specs.Cutting.{Took, TakenFrom}
use Rattle.excisions.specs.declared.spots.Spot.{Spot}
use Rattle.excisions.specs.declared.cutting.Taken.{Taken}
use Rattle.excisions.proofs.Moving.{moved_of, moved_then, moved_aside}
use Rattle.excisions.proofs.Pasts.{after_past, between_first}
use Rattle.excisions.proofs.AtSpot.{bounded_by, end_at, cuttable, cut_moved, cut_stays, cut_holds}

taken_same : {a a' c c' d d' g g' : Option Digit} {m m' q q' : Tree} → a ≡ a' → c ≡ c' → m ≡ m' → d ≡ d' → g ≡ g' → q ≡ q'
    → ◌≡◌ {A = Result Taken Unsound} (Ok (record { front = a; first = c; middle = m; last = d; back = g; right = q })) (Ok (record { front = a'; first = c'; middle = m'; last = d'; back = g'; right = q' }))
taken_same e₁ e₂ e₃ e₄ e₅ e₆ = cc

-- all of it in the leaf
module _ {A S : Type 0} {am : List ℕ → A} {contents : S → Contents} {s s₁ : S} {rs rs₁ : List (Record PieceRow (TextValue A))} {f f₁ : Link} (spot : Spot) (n : ℕ) {en : ℕ} {re : Result Ends Unsound}
    (end_is : en ≡ min (spot.into + n) 4294967295) (low : en ≤ spot.row.length) (E : EndsKept (text_means am) contents s s₁ rs rs₁ f f₁ spot.at spot.into en re) where
  cut_in : (v : TextValue A) (q : Finger PieceRow (TextValue A)) (fs : List ℕ) → Behind am contents s rs f spot v q fs → 0 < n → spot.into + n ≤ sizes (spot.row ∷ rows q) → Cut (text_means am) contents s rs rs₁ f₁ spot.at spot.into en re spot.row fs
  cut_in v q fs K lt le = E.keeps spot.row v fs (cuttable K en (omega (arith, end_at K n le end_is)) low)

  few_in : (v : TextValue A) (q : Finger PieceRow (TextValue A)) (fs : List ℕ) → Behind am contents s rs f spot v q fs → 0 < n → spot.into + n ≤ sizes (spot.row ∷ rows q) → (contents s₁).reads ≤ (contents s).reads + 256
  few_in v q fs K lt le = E.few_reads spot.row v fs (cuttable K en (omega (arith, end_at K n le end_is)) low)

  pub inside_no_ends : {e : Unsound} {r : Result Taken Unsound} → re ≡ Err e → TakenFrom am contents s s₁ rs rs₁ f f₁ spot n r
  inside_no_ends bad = record {
    takes = λ v q fs K lt le. absurd (ok_err (cut_in v q fs K lt le).ok bad);
    few_reads = λ v q fs K lt le. omega (arith, few_in v q fs K lt le);
    same_bytes = E.same_bytes;
    same_capacity = E.same_capacity;
  }

  module _ {x : Ends} (got-x : re ≡ Ok x) {s₂ : S} {rs₂ : List (Record PieceRow (TextValue A))} {f₂ : Link} {ad : ℕ} {rp : Result (Option Digit) Unsound}
      (ad_is : ad ≡ min (spot.row.address + spot.into) 4294967295) (P : PartPut (text_means am) contents s₁ s₂ rs₁ rs₂ f₁ f₂ (row ad n) rp) where
    row_is : (v : TextValue A) (q : Finger PieceRow (TextValue A)) (fs : List ℕ) → Behind am contents s rs f spot v q fs → 0 < n → spot.into + n ≤ sizes (spot.row ∷ rows q) → row ad n ≡ middle_of spot.into en spot.row
    row_is v q fs K lt le =
        let inside : spot.row.address + spot.row.length ≤ length (contents s).bytes = K.good.0.2 in
        let held : length (contents s).bytes ≤ (contents s).capacity = K.bounded.0 in
        let most : (contents s).capacity ≤ largest = K.bounded.1 in
        let e : en ≡ spot.into + n = end_at K n le end_is in
        let at : ad ≡ spot.row.address + spot.into = omega (arith, K.into) in
        let len : n ≡ en - spot.into = omega arith in
        ap₂ row at len

    middle_fine : (v : TextValue A) (q : Finger PieceRow (TextValue A)) (fs : List ℕ) → Behind am contents s rs f spot v q fs → 0 < n → spot.into + n ≤ sizes (spot.row ∷ rows q) → Good (contents s).bytes (middle_of spot.into en spot.row)
    middle_fine v q fs K lt le = middle_good (contents s).bytes spot.into en spot.row (omega (arith, end_at K n le end_is)) low K.good.0

    only : (v : TextValue A) (q : Finger PieceRow (TextValue A)) (fs : List ℕ) (K : Behind am contents s rs f spot v q fs) (lt : 0 < n) (le : spot.into + n ≤ sizes (spot.row ∷ rows q)) → PartMade (text_means am) (contents s).bytes rs₁ rs₂ f₂ rp (middle_of spot.into en spot.row ∷ []) (cut_in v q fs K lt le).fs'
    only v q fs K lt le =
        let C = cut_in v q fs K lt le in
        let is = row_is v q fs K lt le in
        subst (λ (B : List ℕ). PartMade (text_means am) B rs₁ rs₂ f₂ rp (middle_of spot.into en spot.row ∷ []) C.fs') E.same_bytes
        (part_made (row ad n) P (bounded_by contents s s₁ E.same_bytes E.same_capacity K.bounded) (middle_of spot.into en spot.row ∷ [])
        (inr (subst (Good (contents s₁).bytes) (sym is) (subst (λ (B : List ℕ). Good B (middle_of spot.into en spot.row)) (sym E.same_bytes) (middle_fine v q fs K lt le)), ap (λ (y : PieceRow). y ∷ []) (sym is)))
        C.fs' C.first C.chain (λ i. omega (arith, C.kept i, K.once i)) (omega (arith, C.spent, K.long)))

    few_inside : (v : TextValue A) (q : Finger PieceRow (TextValue A)) (fs : List ℕ) → Behind am contents s rs f spot v q fs → 0 < n → spot.into + n ≤ sizes (spot.row ∷ rows q) → (contents s₂).reads ≤ (contents s).reads + 512
    few_inside v q fs K lt le =
        let short : spot.row.length ≤ 256 = K.good.0.1 in
        let more : (contents s₂).reads ≤ (contents s₁).reads + n = P.few in
        omega (arith, few_in v q fs K lt le, end_at K n le end_is)

    pub inside_no_leaf : {e : Unsound} {r : Result Taken Unsound} → rp ≡ Err e → TakenFrom am contents s s₂ rs rs₂ f f₂ spot n r
    inside_no_leaf bad = record {
      takes = λ v q fs K lt le. absurd (ok_err (only v q fs K lt le).ok bad);
      few_reads = few_inside;
      same_bytes = P.same_bytes ∙ E.same_bytes;
      same_capacity = P.same_capacity ∙ E.same_capacity;
    }

    pub inside_made : {d : Option Digit} → rp ≡ Ok d → TakenFrom am contents s s₂ rs rs₂ f f₂ spot n (Ok (record { front = x.front; first = d; middle = Empty; last = None; back = x.back; right = spot.right }))
    inside_made {d} got-d = record {
      takes = λ v q fs K lt le. made v q fs K lt le;
      few_reads = few_inside;
      same_bytes = P.same_bytes ∙ E.same_bytes;
      same_capacity = P.same_capacity ∙ E.same_capacity;
    }
      where
        made : (v : TextValue A) (q : Finger PieceRow (TextValue A)) (fs : List ℕ) → Behind am contents s rs f spot v q fs → 0 < n → spot.into + n ≤ sizes (spot.row ∷ rows q) → Took am contents (contents s).bytes rs rs₂ f₂ spot n (Ok (record { front = x.front; first = d; middle = Empty; last = None; back = x.back; right = spot.right })) q fs
        made v q fs K lt le =
            let C = cut_in v q fs K lt le in
            let Y = only v q fs K lt le in
            let mn : List PieceRow → TextValue A = text_mean am (contents s).bytes in
            let x-is = ok_same got-x C.ok in
            let e : en ≡ spot.into + n = end_at K n le end_is in
            let m₁ : Moved rs rs₁ f₁ (λ j. same spot.at j + occ q j) (λ j. occ_part C.F j + (occ_part C.G j + occ q j)) fs C.fs' C.js =
            moved_aside (occ q) (λ j. same spot.at j + occ q j) (λ j. occ_part C.F j + (occ_part C.G j + occ q j)) (cut_moved K C) (λ j. refl) (λ j. omega arith) in
            let m₂ : Moved rs₁ rs₂ f₂ (λ _. 0) (occ_part Y.Q) C.fs' Y.fs' Y.js =
            moved_of (λ _. 0) (occ_part Y.Q) C.fs' Y.fs' Y.js Y.first Y.chain Y.kept Y.frame Y.fresh (λ j. omega arith) in
            record {
              F = C.F;
              C = Y.Q;
              m = nil;
              D = None;
              G = C.G;
              q' = q;
              fs' = Y.fs';
              js = C.js ++ Y.js;
              ok = taken_same (ap (λ (z : Ends). z.front) x-is) (ok_same got-d Y.ok) refl refl (ap (λ (z : Ends). z.back) x-is) (sym K.tree);
              front_is = C.rows_front;
              between_is = ap (λ (y : List PieceRow). map piece_of (y ++ [])) Y.rows_are
                  ∙ sym (between_within (contents s).bytes [] spot.row spot.into spot.into (omega arith) K.into (rows q) (spot.into + n) en K.good (omega arith) (omega arith) low);
              after_is = ap (λ (y : List PieceRow). map piece_of (y ++ rows q)) C.rows_back
                  ∙ sym (after_at (contents s).bytes [] spot.row (rows q) (spot.into + n) en K.good (omega arith) low);
              small_f = C.small_front;
              small_c = Y.small;
              small_d = omega arith;
              small_g = C.small_back;
              good_between = subst (λ (y : List PieceRow). AllGood (contents s).bytes (y ++ [])) (sym Y.rows_are) (middle_fine v q fs K lt le, tt);
              good_after = all_append (contents s).bytes (rows_part C.G) (rows q) (subst (AllGood (contents s).bytes) (sym C.rows_back) (rest_good (contents s).bytes en spot.row K.good.0)) K.good.1;
              fit_f = frame_part Y.frame mn C.F 0 (λ j. omega (arith, C.kept j, K.once j)) C.fit_front;
              fit_c = Y.fit;
              fit_m = tt;
              fit_d = tt;
              fit_g = frame_part Y.frame mn C.G 0 (λ j. omega (arith, C.kept j, K.once j)) C.fit_back;
              fit_q = frame Y.frame mn q 0 (λ j. omega (arith, C.kept j, K.once j)) (cut_stays K C);
              moved = moved_then (λ j. occ_part C.F j + (occ_part C.G j + occ q j)) (λ j. occ_part C.F j + (occ_part Y.Q j + (0 + (0 + (occ_part C.G j + occ q j))))) m₁ (λ j. omega arith) m₂ (λ j. omega arith);
              few = omega (arith, C.few, Y.few, length-append C.js Y.js);
            }

-- on past the leaf
module _ {A S : Type 0} {am : List ℕ → A} {contents : S → Contents} {s s₁ : S} {rs rs₁ : List (Record PieceRow (TextValue A))} {f f₁ : Link} (spot : Spot) (n : ℕ) {en : ℕ} {re : Result Ends Unsound}
    (end_is : en ≡ min (spot.into + n) 4294967295) (high : spot.row.length < en) (E : EndsKept (text_means am) contents s s₁ rs rs₁ f f₁ spot.at spot.into spot.into re) where
  cut_at : (v : TextValue A) (q : Finger PieceRow (TextValue A)) (fs : List ℕ) → Behind am contents s rs f spot v q fs → Cut (text_means am) contents s rs rs₁ f₁ spot.at spot.into spot.into re spot.row fs
  cut_at v q fs K = E.keeps spot.row v fs (cuttable K spot.into (omega arith) (omega (arith, K.into)))

  few_at : (v : TextValue A) (q : Finger PieceRow (TextValue A)) (fs : List ℕ) → Behind am contents s rs f spot v q fs → (contents s₁).reads ≤ (contents s).reads + 256
  few_at v q fs K = E.few_reads spot.row v fs (cuttable K spot.into (omega arith) (omega (arith, K.into)))

  pub across_no_ends : {e : Unsound} {r : Result Taken Unsound} → re ≡ Err e → TakenFrom am contents s s₁ rs rs₁ f f₁ spot n r
  across_no_ends bad = record {
    takes = λ v q fs K lt le. absurd (ok_err (cut_at v q fs K).ok bad);
    few_reads = λ v q fs K lt le. omega (arith, few_at v q fs K);
    same_bytes = E.same_bytes;
    same_capacity = E.same_capacity;
  }

  module _ {x : Ends} (got-x : re ≡ Ok x) {s₂ : S} {rs₂ : List (Record PieceRow (TextValue A))} {f₂ : Link} {rp : Result Parts Unsound}
      (D : PartedAt am contents s₁ s₂ rs₁ rs₂ f₁ f₂ spot.right (en - spot.row.length) rp) where
    behind_apart : (v : TextValue A) (q : Finger PieceRow (TextValue A)) (fs : List ℕ) (K : Behind am contents s rs f spot v q fs) → Apart am contents (contents s).bytes rs₁ rs₂ f₂ (en - spot.row.length) rp q (cut_at v q fs K).fs'
    behind_apart v q fs K =
        let C = cut_at v q fs K in
        subst (λ (B : List ℕ). Apart am contents B rs₁ rs₂ f₂ (en - spot.row.length) rp q C.fs') E.same_bytes
        (D.parts q C.fs' (bounded_by contents s s₁ E.same_bytes E.same_capacity K.bounded) (subst (λ (B : List ℕ). AllGood B (rows q)) (sym E.same_bytes) K.good.1) (cut_holds K C E.same_bytes))

    few_across : (v : TextValue A) (q : Finger PieceRow (TextValue A)) (fs : List ℕ) → Behind am contents s rs f spot v q fs → (contents s₂).reads ≤ (contents s).reads + 512
    few_across v q fs K =
        let C = cut_at v q fs K in
        let more : (contents s₂).reads ≤ (contents s₁).reads + 256 = D.few_reads q C.fs' (bounded_by contents s s₁ E.same_bytes E.same_capacity K.bounded) (subst (λ (B : List ℕ). AllGood B (rows q)) (sym E.same_bytes) K.good.1) (cut_holds K C E.same_bytes) in
        omega (arith, few_at v q fs K)

    pub across_no_parts : {e : Unsound} {r : Result Taken Unsound} → rp ≡ Err e → TakenFrom am contents s s₂ rs rs₂ f f₂ spot n r
    across_no_parts bad = record {
      takes = λ v q fs K lt le. absurd (ok_err (behind_apart v q fs K).ok bad);
      few_reads = λ v q fs K lt le. few_across v q fs K;
      same_bytes = D.same_bytes ∙ E.same_bytes;
      same_capacity = D.same_capacity ∙ E.same_capacity;
    }

    pub across_made : {y : Parts} → rp ≡ Ok y → TakenFrom am contents s s₂ rs rs₂ f f₂ spot n (Ok (record { front = x.front; first = x.back; middle = y.left; last = y.front; back = y.back; right = y.right }))
    across_made {y} got-y = record {
      takes = λ v q fs K lt le. made v q fs K le;
      few_reads = λ v q fs K lt le. few_across v q fs K;
      same_bytes = D.same_bytes ∙ E.same_bytes;
      same_capacity = D.same_capacity ∙ E.same_capacity;
    }
      where
        made : (v : TextValue A) (q : Finger PieceRow (TextValue A)) (fs : List ℕ) → Behind am contents s rs f spot v q fs → spot.into + n ≤ sizes (spot.row ∷ rows q)
            → Took am contents (contents s).bytes rs rs₂ f₂ spot n (Ok (record { front = x.front; first = x.back; middle = y.left; last = y.front; back = y.back; right = y.right })) q fs
        made v q fs K le =
            let C = cut_at v q fs K in
            let X = behind_apart v q fs K in
            let mn : List PieceRow → TextValue A = text_mean am (contents s).bytes in
            let x-is = ok_same got-x C.ok in
            let y-is = ok_same got-y X.ok in
            let e : en ≡ spot.into + n = end_at K n le end_is in
            let m₁ : Moved rs rs₁ f₁ (λ j. same spot.at j + occ q j) (λ j. occ q j + (occ_part C.F j + occ_part C.G j)) fs C.fs' C.js =
            moved_aside (occ q) (λ j. same spot.at j + occ q j) (λ j. occ q j + (occ_part C.F j + occ_part C.G j)) (cut_moved K C) (λ j. refl) (λ j. omega arith) in
            let m₂ : Moved rs₁ rs₂ f₂ (occ q) (λ j. occ X.l j + (occ_part X.F j + (occ_part X.G j + occ X.q j))) C.fs' X.fs' X.js =
            moved_of (occ q) (λ j. occ X.l j + (occ_part X.F j + (occ_part X.G j + occ X.q j))) C.fs' X.fs' X.js X.first X.chain (λ j. omega (arith, X.kept j)) X.frame X.fresh (λ j. refl) in
            record {
              F = C.F;
              C = C.G;
              m = X.l;
              D = X.F;
              G = X.G;
              q' = X.q;
              fs' = X.fs';
              js = C.js ++ X.js;
              ok = taken_same (ap (λ (z : Ends). z.front) x-is) (ap (λ (z : Ends). z.back) x-is) (ap (λ (z : Parts). z.left) y-is) (ap (λ (z : Parts). z.front) y-is) (ap (λ (z : Parts). z.back) y-is) (ap (λ (z : Parts). z.right) y-is);
              front_is = C.rows_front;
              between_is = map_append piece_of (rows_part C.G) (rows X.l ++ rows_part X.F)
                  ∙ ap₂ (λ (a b : List Piece). a ++ b) (ap (map piece_of) C.rows_back) X.before_is
                  ∙ sym (between_first spot.row (map piece_of (rows q)) spot.into (spot.into + n) (en - spot.row.length) K.into (omega arith));
              after_is = X.after_is ∙ sym (after_past (spot.row ∷ []) (map piece_of (rows q)) (spot.into + n) (en - spot.row.length) (omega arith));
              small_f = C.small_front;
              small_c = C.small_back;
              small_d = X.small_f;
              small_g = X.small_g;
              good_between = all_append (contents s).bytes (rows_part C.G) (rows X.l ++ rows_part X.F) (subst (AllGood (contents s).bytes) (sym C.rows_back) (rest_good (contents s).bytes spot.into spot.row K.good.0)) X.good_before;
              good_after = X.good_after;
              fit_f = frame_part X.frame mn C.F 0 (λ j. omega (arith, C.kept j, K.once j)) C.fit_front;
              fit_c = frame_part X.frame mn C.G 0 (λ j. omega (arith, C.kept j, K.once j)) C.fit_back;
              fit_m = X.fit_l;
              fit_d = X.fit_f;
              fit_g = X.fit_g;
              fit_q = X.fit_q;
              moved = moved_then (λ j. occ_part C.F j + occ_part C.G j) (λ j. occ_part C.F j + (occ_part C.G j + (occ X.l j + (occ_part X.F j + (occ_part X.G j + occ X.q j))))) m₁ (λ j. refl) m₂ (λ j. omega arith);
              few = omega (arith, C.few, X.few, length-append C.js X.js);
            }
