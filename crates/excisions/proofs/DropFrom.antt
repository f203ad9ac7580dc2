-- The paths of dropping bytes from a spot on.
use Rattle.std.proofs.Common.{◌≡◌, ℕ, ◌+◌, ◌-◌, ◌<◌, ◌≤◌, min, List, [], ◌∷◌, ◌++◌, map, Ok, Err, Option, Result, sym, refl, ap, ◌∙◌, subst, arith, length-append}
use Rattle.stores.specs.Stores.{Contents}
use Rattle.slots.specs.Ghost.{Finger, same, rows_part, rows, occ_part, occ}
use Rattle.slots.specs.declared.records.Unsound.{Unsound}
use Rattle.slots.specs.Words.{Link}
use Rattle.slots.specs.declared.records.Tree.{Tree}
use Rattle.slots.specs.declared.records.Digit.{Digit}
use Rattle.slots.specs.declared.records.Record.{Record}
use Rattle.slots.proofs.Frames.{frame_part}
use Rattle.slots.proofs.Shapes.{ok_err, ok_same}
use Rattle.pieces.specs.Leaves.{Cut, EndsKept}
use Rattle.pieces.specs.Rows.{piece_of, AllGood, sizes}
use Rattle.pieces.specs.Sound.{TextValue, text_means, text_mean}
use Rattle.pieces.specs.declared.rows.PieceRow.{PieceRow}
use Rattle.pieces.specs.declared.leaves.Ends.{Ends}
use Rattle.pieces.proofs.RowParts.{all_append, rest_good, after_at}
use Rattle.excisions.specs.Moves.{Moved}
use Rattle.excisions.specs.Spots.{Behind}
use Rattle.excisions.specs.Deleting.{Cleared, FrontDropped, DroppedFrom}
use Rattle.excisions.specs.declared.spots.Spot.{Spot}
use Rattle.excisions.specs.declared.deleting.Rest.{Rest}
use Rattle.excisions.specs.declared.deleting.Dropped.{Dropped}
use Rattle.excisions.proofs.Moving.{moved_then, moved_aside}
use Rattle.excisions.proofs.Pasts.{after_past}
use Rattle.excisions.proofs.AtSpot.{empty_part, no_rest, bounded_by, end_at, cuttable, cut_moved, cut_stays, cut_holds}

dropped_same : {a b c d : Option Digit} {m n : Tree} {g : ℕ} → a ≡ b → c ≡ d → m ≡ n
    → ◌≡◌ {A = Result Dropped Unsound} (Ok (record { front = a; rest = record { back = c; right = m; gone = g } })) (Ok (record { front = b; rest = record { back = d; right = n; gone = g } }))
dropped_same e f h = cc

-- all of it in the leaf
module _ {A S : Type 0} {am : List ℕ → A} {contents : S → Contents} {s s₁ : S} {rs rs₁ : List (Record PieceRow (TextValue A))} {f f₁ : Link} (spot : Spot) (n : ℕ) {en : ℕ} {re : Result Ends Unsound}
    (end_is : en ≡ min (spot.into + n) 4294967295) (low : en ≤ spot.row.length) (E : EndsKept (text_means am) contents s s₁ rs rs₁ f f₁ spot.at spot.into en re) where
  cut_in : (v : TextValue A) (q : Finger PieceRow (TextValue A)) (fs : List ℕ) → Behind am contents s rs f spot v q fs → spot.into + n ≤ sizes (spot.row ∷ rows q) → Cut (text_means am) contents s rs rs₁ f₁ spot.at spot.into en re spot.row fs
  cut_in v q fs K le = E.keeps spot.row v fs (cuttable K en (omega (arith, end_at K n le end_is)) low)

  few_in : (v : TextValue A) (q : Finger PieceRow (TextValue A)) (fs : List ℕ) → Behind am contents s rs f spot v q fs → spot.into + n ≤ sizes (spot.row ∷ rows q) → (contents s₁).reads ≤ (contents s).reads + 512
  few_in v q fs K le = omega (arith, E.few_reads spot.row v fs (cuttable K en (omega (arith, end_at K n le end_is)) low))

  pub within_no_ends : {e : Unsound} {r : Result Dropped Unsound} → re ≡ Err e → DroppedFrom am contents s s₁ rs rs₁ f f₁ spot n r
  within_no_ends bad = record {
    drops = λ v q fs K le. absurd (ok_err (cut_in v q fs K le).ok bad);
    few_reads = few_in;
    same_bytes = E.same_bytes;
    same_capacity = E.same_capacity;
  }

  pub within_made : {x : Ends} → re ≡ Ok x → DroppedFrom am contents s s₁ rs rs₁ f f₁ spot n (Ok (record { front = x.front; rest = record { back = x.back; right = spot.right; gone = 1 } }))
  within_made {x} got = record {
    drops = λ v q fs K le.
        let C = cut_in v q fs K le in
        let x-is = ok_same got C.ok in record {
          F = C.F;
          G = C.G;
          q' = q;
          gone = 1;
          fs' = C.fs';
          js = C.js;
          ok = dropped_same (ap (λ (y : Ends). y.front) x-is) (ap (λ (y : Ends). y.back) x-is) (sym K.tree);
          front_is = C.rows_front;
          after_is = ap (λ (y : List PieceRow). map piece_of (y ++ rows q)) C.rows_back
              ∙ sym (after_at (contents s).bytes [] spot.row (rows q) (spot.into + n) en K.good (omega (arith, end_at K n le end_is)) low);
          count = omega arith;
          small_f = C.small_front;
          small_g = C.small_back;
          good_after = all_append (contents s).bytes (rows_part C.G) (rows q) (subst (AllGood (contents s).bytes) (sym C.rows_back) (rest_good (contents s).bytes en spot.row K.good.0)) K.good.1;
          fit_f = C.fit_front;
          fit_g = C.fit_back;
          fit_q = cut_stays K C;
          moved = moved_aside (occ q) (λ j. same spot.at j + occ q j) (λ j. occ_part C.F j + (occ_part C.G j + occ q j)) (cut_moved K C) (λ j. refl) (λ j. omega arith);
          few = omega (arith, C.few);
        };
    few_reads = few_in;
    same_bytes = E.same_bytes;
    same_capacity = E.same_capacity;
  }

-- on past the leaf
module _ {A S : Type 0} {am : List ℕ → A} {contents : S → Contents} {s s₁ : S} {rs rs₁ : List (Record PieceRow (TextValue A))} {f f₁ : Link} (spot : Spot) (n : ℕ) {en : ℕ} {re : Result Ends Unsound}
    (end_is : en ≡ min (spot.into + n) 4294967295) (high : spot.row.length < en) (E : EndsKept (text_means am) contents s s₁ rs rs₁ f f₁ spot.at spot.into spot.row.length re) where
  cut_off : (v : TextValue A) (q : Finger PieceRow (TextValue A)) (fs : List ℕ) → Behind am contents s rs f spot v q fs → Cut (text_means am) contents s rs rs₁ f₁ spot.at spot.into spot.row.length re spot.row fs
  cut_off v q fs K = E.keeps spot.row v fs (cuttable K spot.row.length (omega (arith, K.into)) (omega arith))

  few_off : (v : TextValue A) (q : Finger PieceRow (TextValue A)) (fs : List ℕ) → Behind am contents s rs f spot v q fs → (contents s₁).reads ≤ (contents s).reads + 256
  few_off v q fs K = E.few_reads spot.row v fs (cuttable K spot.row.length (omega (arith, K.into)) (omega arith))

  pub beyond_no_ends : {e : Unsound} {r : Result Dropped Unsound} → re ≡ Err e → DroppedFrom am contents s s₁ rs rs₁ f f₁ spot n r
  beyond_no_ends bad = record {
    drops = λ v q fs K le. absurd (ok_err (cut_off v q fs K).ok bad);
    few_reads = λ v q fs K le. omega (arith, few_off v q fs K);
    same_bytes = E.same_bytes;
    same_capacity = E.same_capacity;
  }

  module _ {x : Ends} (got-x : re ≡ Ok x) {s₂ : S} {rs₂ : List (Record PieceRow (TextValue A))} {f₂ : Link} {rd : Result Rest Unsound}
      (D : FrontDropped am contents s₁ s₂ rs₁ rs₂ f₁ f₂ spot.right (en - spot.row.length) rd) where
    behind_gone : (v : TextValue A) (q : Finger PieceRow (TextValue A)) (fs : List ℕ) (K : Behind am contents s rs f spot v q fs) → Cleared am contents (contents s).bytes rs₁ rs₂ f₂ (en - spot.row.length) rd q (cut_off v q fs K).fs'
    behind_gone v q fs K =
        let C = cut_off v q fs K in
        subst (λ (B : List ℕ). Cleared am contents B rs₁ rs₂ f₂ (en - spot.row.length) rd q C.fs') E.same_bytes
        (D.drops q C.fs' (bounded_by contents s s₁ E.same_bytes E.same_capacity K.bounded) (subst (λ (B : List ℕ). AllGood B (rows q)) (sym E.same_bytes) K.good.1) (cut_holds K C E.same_bytes))

    few_both : (v : TextValue A) (q : Finger PieceRow (TextValue A)) (fs : List ℕ) → Behind am contents s rs f spot v q fs → (contents s₂).reads ≤ (contents s).reads + 512
    few_both v q fs K =
        let C = cut_off v q fs K in
        let more : (contents s₂).reads ≤ (contents s₁).reads + 256 = D.few_reads q C.fs' (bounded_by contents s s₁ E.same_bytes E.same_capacity K.bounded) (subst (λ (B : List ℕ). AllGood B (rows q)) (sym E.same_bytes) K.good.1) (cut_holds K C E.same_bytes) in
        omega (arith, few_off v q fs K)

    pub beyond_no_rest : {e : Unsound} {r : Result Dropped Unsound} → rd ≡ Err e → DroppedFrom am contents s s₂ rs rs₂ f f₂ spot n r
    beyond_no_rest bad = record {
      drops = λ v q fs K le. absurd (ok_err (behind_gone v q fs K).ok bad);
      few_reads = λ v q fs K le. few_both v q fs K;
      same_bytes = D.same_bytes ∙ E.same_bytes;
      same_capacity = D.same_capacity ∙ E.same_capacity;
    }

    pub beyond_made : {y : Rest} {gone : ℕ} → rd ≡ Ok y → gone ≡ min (y.gone + 1) 4294967295 → DroppedFrom am contents s s₂ rs rs₂ f f₂ spot n (Ok (record { front = x.front; rest = record { back = y.back; right = y.right; gone = gone } }))
    beyond_made {y} {gone} got-y gone-is = record {
      drops = λ v q fs K le.
          let C = cut_off v q fs K in
          let X = behind_gone v q fs K in
          let x-is = ok_same got-x C.ok in
          let y-is = ok_same got-y X.ok in
          let mn : List PieceRow → TextValue A = text_mean am (contents s).bytes in
          let none-behind = empty_part mn rs₁ C.G C.fit_back C.small_back (C.rows_back ∙ no_rest spot.row) in
          let gone-y : y.gone ≡ X.gone = ap (λ (z : Rest). z.gone) y-is in
          let m₁ : Moved rs rs₁ f₁ (λ j. same spot.at j + occ q j) (λ j. occ_part C.F j + occ q j) fs C.fs' C.js =
          moved_aside (occ q) (λ j. same spot.at j + occ q j) (λ j. occ_part C.F j + occ q j) (cut_moved K C) (λ j. refl) (λ j. omega (arith, none-behind j)) in
          record {
            F = C.F;
            G = X.G;
            q' = X.q;
            gone = gone;
            fs' = X.fs';
            js = C.js ++ X.js;
            ok = dropped_same (ap (λ (z : Ends). z.front) x-is) (ap (λ (z : Rest). z.back) y-is) (ap (λ (z : Rest). z.right) y-is);
            front_is = C.rows_front;
            after_is = X.after_is ∙ sym (after_past (spot.row ∷ []) (map piece_of (rows q)) (spot.into + n) (en - spot.row.length) (omega (arith, end_at K n le end_is)));
            count = omega (arith, X.count, K.small);
            small_f = C.small_front;
            small_g = X.small_g;
            good_after = X.good_after;
            fit_f = frame_part X.moved.frame mn C.F 0 (λ j. omega (arith, C.kept j, K.once j)) C.fit_front;
            fit_g = X.fit_g;
            fit_q = X.fit_q;
            moved = moved_then (occ_part C.F) (λ j. occ_part C.F j + (occ_part X.G j + occ X.q j)) m₁ (λ j. omega arith) X.moved (λ j. omega arith);
            few = omega (arith, C.few, X.few, length-append C.js X.js);
          };
      few_reads = λ v q fs K le. few_both v q fs K;
      same_bytes = D.same_bytes ∙ E.same_bytes;
      same_capacity = D.same_capacity ∙ E.same_capacity;
    }
