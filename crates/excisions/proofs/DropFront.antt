-- The paths of dropping the first bytes of a tree.
use Rattle.std.proofs.Common.{◌≡◌, ℕ, suc, ◌+◌, ◌≤◌, min, List, [], ◌∷◌, ◌++◌, map, length, Some, None, Ok, Err, Option, Result, sym, refl, ap, ◌∙◌, subst, ⊎_elim, arith, length-append}
use Rattle.plain.specs.Pieces.{after}
use Rattle.stores.specs.Stores.{Contents}
use Rattle.slots.specs.Ghost.{Finger, nil, At, same, occ_list, tree_of, rows_part, rows, occ_part, occ, Fit, Chain}
use Rattle.slots.specs.Holds.{Holds}
use Rattle.slots.specs.declared.records.Unsound.{Unsound}
use Rattle.slots.specs.Words.{Link}
use Rattle.slots.specs.declared.records.Tree.{Tree}
use Rattle.slots.specs.declared.records.Tree.TheVariants.{Empty}
use Rattle.slots.specs.declared.records.Digit.{Digit}
use Rattle.slots.specs.declared.records.Record.{Record}
use Rattle.slots.specs.declared.records.Record.TheVariants.{Leaf}
use Rattle.slots.proofs.Frames.{frame, frame_part}
use Rattle.slots.proofs.Shapes.{ok_err, ok_same}
use Rattle.release.specs.Post.{Back, Released}
use Rattle.pieces.specs.Leaves.{Bounded, Cuttable, Cut, EndsKept}
use Rattle.pieces.specs.Rows.{piece_of, bytes_of, AllGood, rest_of, sizes}
use Rattle.pieces.specs.Sound.{TextValue, text_means, text_mean}
use Rattle.pieces.specs.declared.rows.PieceRow.{PieceRow}
use Rattle.pieces.specs.declared.leaves.Ends.{Ends}
use Rattle.pieces.proofs.RowParts.{all_append, all_right, rest_good, after_at, after_all}
use Rattle.excisions.specs.Moves.{Moved}
use Rattle.excisions.specs.Spots.{Opened, OpenedAt}
use Rattle.excisions.specs.Deleting.{Cleared, FrontDropped}
use Rattle.excisions.specs.declared.spots.Spot.{Spot}
use Rattle.excisions.specs.declared.deleting.Rest.{Rest}
use Rattle.excisions.proofs.Moving.{moved_of, moved_then, moved_back}
use Rattle.excisions.proofs.AtSpot.{empty_part}
use Rattle.excisions.proofs.Optional.{none_some, some_same}

rest_same : {c d : Option Digit} {m n : Tree} {g : ℕ} → c ≡ d → m ≡ n → ◌≡◌ {A = Result Rest Unsound} (Ok (record { back = c; right = m; gone = g })) (Ok (record { back = d; right = n; gone = g }))
rest_same e f = cc

module _ {A : Type 0} {am : List ℕ → A} {rs rs₁ : List (Record PieceRow (TextValue A))} {f f₁ : Link} {tr : Tree} {n : ℕ} {rf : Result (Option Spot) Unsound} (O : OpenedAt am rs rs₁ f f₁ tr n rf) where
  pub drop_no_open : {S : Type 0} {contents : S → Contents} {s : S} {e : Unsound} {r : Result Rest Unsound} → rf ≡ Err e → FrontDropped am contents s s rs rs₁ f f₁ tr n r
  drop_no_open {contents = contents} {s = s} bad = record {
    drops = λ t fs b g H. ⊎_elim (λ u. absurd (ok_err u.1 bad)) (λ q. absurd (ok_err q.ok bad)) (O.opens (contents s).bytes t fs g H);
    few_reads = λ t fs b g H. omega arith;
    same_bytes = refl;
    same_capacity = refl;
  }

  -- everything goes
  module _ {rs₂ : List (Record PieceRow (TextValue A))} {f₂ : Link} {ra : Result ℕ Unsound} (got : rf ≡ Ok None) (R : Released rs₁ rs₂ f₁ f₂ tr ra) where
    record AllGone (B : List ℕ) (t : Finger PieceRow (TextValue A)) (fs : List ℕ) : Type 0 where
      pub over : sizes (rows t) ≤ n
      pub same_rs : rs₁ ≡ rs
      pub back : Back rs₁ rs₂ f₂ ra (occ t) (length (rows t)) fs

    all_gone : (B : List ℕ) (t : Finger PieceRow (TextValue A)) (fs : List ℕ) → AllGood B (rows t) → Holds (λ _. 1) (text_means am) (bytes_of B) rs f tr t fs → AllGone B t fs
    all_gone B t fs g H = ⊎_elim
        (λ u. record {
          over = u.0;
          same_rs = u.2;
          back = R.frees (text_mean am B) t fs H.tree (H.first ∙ sym u.3) (subst (λ (x : List (Record PieceRow (TextValue A))). Fit (text_mean am B) x t 0) (sym u.2) H.fit)
              (subst (λ (x : List (Record PieceRow (TextValue A))). Chain x fs) (sym u.2) H.chain) H.once H.small;
        })
        (λ q. absurd (none_some (ok_same got q.ok))) (O.opens B t fs g H)

    pub drop_no_release : {S : Type 0} {contents : S → Contents} {s : S} {e : Unsound} {r : Result Rest Unsound} → ra ≡ Err e → FrontDropped am contents s s rs rs₂ f f₂ tr n r
    drop_no_release {contents = contents} {s = s} bad = record {
      drops = λ t fs b g H. absurd (ok_err (all_gone (contents s).bytes t fs g H).back.ok bad);
      few_reads = λ t fs b g H. omega arith;
      same_bytes = refl;
      same_capacity = refl;
    }

    pub drop_all : {S : Type 0} {contents : S → Contents} {s : S} {all : ℕ} → ra ≡ Ok all → FrontDropped am contents s s rs rs₂ f f₂ tr n (Ok (record { back = None; right = Empty; gone = all }))
    drop_all {contents = contents} {s = s} {all} got-a = record {
      drops = λ t fs b g H.
          let X = all_gone (contents s).bytes t fs g H in
          let K = X.back in
          let all_is : all ≡ length (rows t) = ok_same got-a K.ok in record {
            G = None;
            q = nil;
            gone = all;
            fs' = K.fs';
            js = [];
            ok = refl;
            after_is = sym (after_all (rows t) n X.over);
            count = omega (arith, all_is);
            small_g = omega arith;
            good_after = tt;
            fit_g = tt;
            fit_q = tt;
            moved = subst (λ (x : List (Record PieceRow (TextValue A))). Moved x rs₂ f₂ (occ t) (λ j. 0) fs K.fs' []) X.same_rs (moved_back K);
            few = omega arith;
          };
      few_reads = λ t fs b g H. omega arith;
      same_bytes = refl;
      same_capacity = refl;
    }

  -- what is behind the offset stays
  module _ {h : Spot} (got : rf ≡ Ok (Some h)) {S : Type 0} {contents : S → Contents} {s s' : S} {rs₂ : List (Record PieceRow (TextValue A))} {f₂ : Link} {re : Result Ends Unsound}
      (E : EndsKept (text_means am) contents s s' rs₁ rs₂ f₁ f₂ h.at 0 h.into re) where
    abbrev mn : List PieceRow → TextValue A
    mn = text_mean am (contents s).bytes

    record Cutting (t : Finger PieceRow (TextValue A)) (fs : List ℕ) : Type 0 where
      pub O₁ : Opened am (contents s).bytes rs rs₁ f₁ n rf t fs
      pub left_is : tree_of O₁.l ≡ h.left
      pub at_is : O₁.i ≡ h.at
      pub into_is : O₁.k ≡ h.into
      pub right_is : tree_of O₁.q ≡ h.right
      pub once : (j : ℕ) → (occ O₁.l j + (same h.at j + occ O₁.q j)) + occ_list O₁.fs' j ≤ 1
      pub good : AllGood (contents s).bytes (O₁.x ∷ rows O₁.q)
      pub lens : length (rows t) ≡ length (rows O₁.l) + suc (length (rows O₁.q))
      pub cuttable : Cuttable (text_means am) contents s rs₁ f₁ h.at 0 h.into O₁.x O₁.v O₁.fs'

    cutting : (t : Finger PieceRow (TextValue A)) (fs : List ℕ) → Bounded contents s → AllGood (contents s).bytes (rows t) → Holds (λ _. 1) (text_means am) (bytes_of (contents s).bytes) rs f tr t fs → Cutting t fs
    cutting t fs b g H =
        let O₁ : Opened am (contents s).bytes rs rs₁ f₁ n rf t fs = ⊎_elim (λ u. absurd (none_some (sym (ok_same got u.1)))) (λ q. q) (O.opens (contents s).bytes t fs g H) in
        let h_is = some_same (ok_same O₁.ok got) in
        let at_is : O₁.i ≡ h.at = ap (λ (y : Spot). y.at) h_is in
        let into_is : O₁.k ≡ h.into = ap (λ (y : Spot). y.into) h_is in
        let good = all_right (contents s).bytes (rows O₁.l) (O₁.x ∷ rows O₁.q) (subst (AllGood (contents s).bytes) O₁.text g) in
        let once : (j : ℕ) → (occ O₁.l j + (same h.at j + occ O₁.q j)) + occ_list O₁.fs' j ≤ 1 = λ j. omega (arith, O₁.moved.kept j, H.once j, ap (λ (i : ℕ). same i j) at_is) in
        record {
          O₁ = O₁;
          left_is = ap (λ (y : Spot). y.left) h_is;
          at_is = at_is;
          into_is = into_is;
          right_is = ap (λ (y : Spot). y.right) h_is;
          once = once;
          good = good;
          lens = ap length O₁.text ∙ length-append (rows O₁.l) (O₁.x ∷ rows O₁.q);
          cuttable = record {
            bounded = b;
            at = subst (λ (i : ℕ). At rs₁ i (Leaf O₁.x O₁.v)) at_is O₁.at;
            value = O₁.value;
            good = good.0;
            order = omega arith;
            within = omega (arith, O₁.within, into_is);
            first = O₁.moved.first;
            chain = O₁.moved.chain;
            once = λ j. omega (arith, once j);
            long = omega (arith, O₁.spent, H.long);
          };
        }

    few_front : (t : Finger PieceRow (TextValue A)) (fs : List ℕ) → Bounded contents s → AllGood (contents s).bytes (rows t) → Holds (λ _. 1) (text_means am) (bytes_of (contents s).bytes) rs f tr t fs → (contents s').reads ≤ (contents s).reads + 256
    few_front t fs b g H = E.few_reads _ _ _ (cutting t fs b g H).cuttable

    pub drop_no_ends : {e : Unsound} {r : Result Rest Unsound} → re ≡ Err e → FrontDropped am contents s s' rs rs₂ f f₂ tr n r
    drop_no_ends bad = record {
      drops = λ t fs b g H. absurd (ok_err (E.keeps _ _ _ (cutting t fs b g H).cuttable).ok bad);
      few_reads = few_front;
      same_bytes = E.same_bytes;
      same_capacity = E.same_capacity;
    }

    module _ {x : Ends} (got-x : re ≡ Ok x) {rs₃ : List (Record PieceRow (TextValue A))} {f₃ : Link} {ra : Result ℕ Unsound} (R : Released rs₂ rs₃ f₂ f₃ h.left ra) where
      record Halved (t : Finger PieceRow (TextValue A)) (fs : List ℕ) : Type 0 where
        pub X : Cutting t fs
        pub C : Cut (text_means am) contents s rs₁ rs₂ f₂ h.at 0 h.into re X.O₁.x X.O₁.fs'
        pub none_before : (j : ℕ) → occ_part C.F j ≡ 0
        pub back : Back rs₂ rs₃ f₃ ra (occ X.O₁.l) (length (rows X.O₁.l)) C.fs'

      halved : (t : Finger PieceRow (TextValue A)) (fs : List ℕ) → Bounded contents s → AllGood (contents s).bytes (rows t) → Holds (λ _. 1) (text_means am) (bytes_of (contents s).bytes) rs f tr t fs → Halved t fs
      halved t fs b g H =
          let X = cutting t fs b g H in
          let C = E.keeps _ _ _ X.cuttable in
          let none_before = empty_part mn rs₂ C.F C.fit_front C.small_front C.rows_front in
          record {
            X = X;
            C = C;
            none_before = none_before;
            back = R.frees mn X.O₁.l C.fs' X.left_is C.first (frame C.frame mn X.O₁.l 0 (λ j. omega (arith, X.once j)) X.O₁.fit_l) C.chain
                (λ j. omega (arith, C.kept j, X.once j)) (omega (arith, X.lens, H.small));
          }

      pub drop_no_before : {e : Unsound} {r : Result Rest Unsound} → ra ≡ Err e → FrontDropped am contents s s' rs rs₃ f f₃ tr n r
      drop_no_before bad = record {
        drops = λ t fs b g H. absurd (ok_err (halved t fs b g H).back.ok bad);
        few_reads = few_front;
        same_bytes = E.same_bytes;
        same_capacity = E.same_capacity;
      }

      pub drop_made : {before gone : ℕ} → ra ≡ Ok before → gone ≡ min (before + 1) 4294967295 → FrontDropped am contents s s' rs rs₃ f f₃ tr n (Ok (record { back = x.back; right = h.right; gone = gone }))
      drop_made {before} {gone} got-b gone-is = record {
        drops = λ t fs b g H. made t fs b g H;
        few_reads = few_front;
        same_bytes = E.same_bytes;
        same_capacity = E.same_capacity;
      }
        where
          made : (t : Finger PieceRow (TextValue A)) (fs : List ℕ) → Bounded contents s → AllGood (contents s).bytes (rows t) → Holds (λ _. 1) (text_means am) (bytes_of (contents s).bytes) rs f tr t fs
              → Cleared am contents (contents s).bytes rs rs₃ f₃ n (Ok (record { back = x.back; right = h.right; gone = gone })) t fs
          made t fs b g H =
              let Y = halved t fs b g H in
              let X = Y.X in
              let C = Y.C in
              let K = Y.back in
              let l = X.O₁.l in
              let q = X.O₁.q in
              let k = X.O₁.k in
              let into_is : k ≡ h.into = X.into_is in
              let before_is : before ≡ length (rows l) = ok_same got-b K.ok in
              let x-is = ok_same C.ok got-x in
              let rows_g : rows_part C.G ≡ rest_of k X.O₁.x = C.rows_back ∙ ap (λ (i : ℕ). rest_of i X.O₁.x) (sym into_is) in
              let m₁ : Moved rs rs₂ f₂ (occ t) (λ j. occ_part C.G j + (occ l j + occ q j)) fs C.fs' ([] ++ C.js) =
              moved_then (λ j. occ l j + occ q j) (λ j. occ_part C.G j + (occ l j + occ q j)) X.O₁.moved (λ j. omega (arith, ap (λ (i : ℕ). same i j) X.at_is))
              (moved_of (same h.at) (occ_part C.G) X.O₁.fs' C.fs' C.js C.first C.chain (λ j. omega (arith, C.kept j, Y.none_before j)) C.frame C.fresh (λ j. refl)) (λ j. refl) in
              record {
                G = C.G;
                q = q;
                gone = gone;
                fs' = K.fs';
                js = C.js ++ [];
                ok = rest_same (ap (λ (y : Ends). y.back) (sym x-is)) (sym X.right_is);
                after_is = ap (λ (y : List PieceRow). map piece_of (y ++ rows q)) rows_g
                    ∙ sym (ap (λ (y : List PieceRow). after n (map piece_of y)) X.O₁.text ∙ after_at (contents s).bytes (rows l) X.O₁.x (rows q) n k X.good X.O₁.offset (omega (arith, X.O₁.within)));
                count = omega (arith, X.lens, H.small);
                small_g = C.small_back;
                good_after = all_append (contents s).bytes (rows_part C.G) (rows q) (subst (AllGood (contents s).bytes) (sym rows_g) (rest_good (contents s).bytes k X.O₁.x X.good.0)) X.good.1;
                fit_g = frame_part K.frame mn C.G 0 (λ j. omega (arith, C.kept j, X.once j)) C.fit_back;
                fit_q = frame K.frame mn q 0 (λ j. omega (arith, X.once j)) (frame C.frame mn q 0 (λ j. omega (arith, X.once j)) X.O₁.fit_q);
                moved = moved_then (λ j. occ_part C.G j + occ q j) (λ j. occ_part C.G j + occ q j) m₁ (λ j. omega arith) (moved_back K) (λ j. omega arith);
                few = omega (arith, C.few, length-append C.js []);
              }
