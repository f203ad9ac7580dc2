-- The paths of deleting a part of the text.
use Rattle.std.proofs.Common.{◌≡◌, ℕ, suc, ◌+◌, ◌-◌, ◌*◌, ◌<◌, ◌≤◌, min, List, ◌∷◌, ◌++◌, map, length, Some, None, Ok, Err, Option, Result, sym, refl, ap, ◌∙◌, subst, ap₂, ⊎_elim, append_assoc, arith, length-append}
use Rattle.plain.specs.Machine.{limit}
use Rattle.plain.specs.Pieces.{Piece, before, after}
use Rattle.stores.specs.Stores.{Contents}
use Rattle.slots.specs.Ghost.{Arm, Finger, named, part_of, rows_part, rows, size_part, occ_part, occ, FitPart}
use Rattle.slots.specs.declared.records.Unsound.{Unsound}
use Rattle.slots.specs.Words.{Link}
use Rattle.slots.specs.declared.records.Tree.{Tree}
use Rattle.slots.specs.declared.records.Record.{Record}
use Rattle.slots.proofs.Frames.{frame}
use Rattle.slots.proofs.Shapes.{ok_err, ok_same}
use Rattle.slots.proofs.Counts.{named_le, supply}
use Rattle.pieces.specs.Leaves.{Bounded}
use Rattle.pieces.specs.Rows.{piece_of, AllGood, sizes}
use Rattle.pieces.specs.Sound.{TextValue, text_mean, Laid}
use Rattle.pieces.specs.declared.rows.PieceRow.{PieceRow}
use Rattle.pieces.proofs.RowParts.{map_append, length_map, all_append, front_good}
use Rattle.edits.proofs.Supplies.{few_most, text_holds}
use Rattle.excisions.specs.Moves.{Moved}
use Rattle.excisions.specs.Spots.{OpenedAt}
use Rattle.excisions.specs.Ends.{Closing, Closed}
use Rattle.excisions.specs.Deleting.{one_part_of, Skipped, DroppedFrom, DeleteMade, DeletedFrom}
use Rattle.excisions.specs.declared.spots.Spot.{Spot}
use Rattle.excisions.specs.declared.deleting.Dropped.{Dropped}
use Rattle.excisions.specs.declared.deleting.Deleted.{Deleted}
use Rattle.excisions.proofs.Moving.{moved_then}
use Rattle.excisions.proofs.ClosingUp.{at_most_one}
use Rattle.excisions.proofs.AtText.{sides_count, Spotted, spotted, spot_before, spot_after, spot_within}
use Rattle.excisions.proofs.Optional.{none_some}

one_leaf : {R V : Type 0} (mn : List R → V) (rs : List (Record R V)) (F : Option (Arm R V)) → FitPart mn rs F 0 → size_part F ≤ 1 → length (rows_part F) ≡ one_part_of (part_of F)
one_leaf mn rs F fit small = at_most_one mn rs (λ F. length (rows_part F) ≡ one_part_of (part_of F)) refl (λ a y u. refl) F fit small

module _ {A : Type 0} {am : List ℕ → A} {rs rs₁ : List (Record PieceRow (TextValue A))} {f f₁ : Link} {tr : Tree} {a : ℕ} {rf : Result (Option Spot) Unsound} (O : OpenedAt am rs rs₁ f f₁ tr a rf) (n b : ℕ) where
  pub delete_no_open : {S : Type 0} {contents : S → Contents} {s : S} {e : Unsound} {r : Result Deleted Unsound} → rf ≡ Err e → DeletedFrom am contents s s rs rs₁ f f₁ tr n a b r
  delete_no_open {contents = contents} {s = s} bad = record {
    deletes = λ t fs bd g L en lt le few. ⊎_elim (λ u. absurd (ok_err u.1 bad)) (λ q. absurd (ok_err q.ok bad)) (O.opens (contents s).bytes t fs g (text_holds g L));
    few_reads = λ t fs bd g L lt le. omega arith;
    same_bytes = refl;
    same_capacity = refl;
  }

  pub delete_none : {S : Type 0} {contents : S → Contents} {s : S} {r : Result Deleted Unsound} → rf ≡ Ok None → DeletedFrom am contents s s rs rs₁ f f₁ tr n a b r
  delete_none {contents = contents} {s = s} got = record {
    deletes = λ t fs bd g L en lt le few. ⊎_elim (λ u. absurd (omega (arith, u.0))) (λ q. absurd (none_some (ok_same got q.ok))) (O.opens (contents s).bytes t fs g (text_holds g L));
    few_reads = λ t fs bd g L lt le. omega arith;
    same_bytes = refl;
    same_capacity = refl;
  }

  module _ {h : Spot} (got : rf ≡ Ok (Some h)) {S : Type 0} {contents : S → Contents} {s s' : S} {m : ℕ} {rs₂ : List (Record PieceRow (TextValue A))} {f₂ : Link} {rd : Result Dropped Unsound}
      (m-is : m ≡ b - a) (D : DroppedFrom am contents s s' rs₁ rs₂ f₁ f₂ h m rd) where
    abbrev mn : List PieceRow → TextValue A
    mn = text_mean am (contents s).bytes

    abbrev G₀ : Finger PieceRow (TextValue A) → List Piece
    G₀ t = before a (map piece_of (rows t)) ++ after b (map piece_of (rows t))

    found : (t : Finger PieceRow (TextValue A)) (fs : List ℕ) → Bounded contents s → AllGood (contents s).bytes (rows t) → Laid mn rs f tr t fs → Spotted am contents s rs rs₁ f₁ a h t fs
    found t fs bd g L = spotted t fs O got bd g L

    few_deleted : (t : Finger PieceRow (TextValue A)) (fs : List ℕ) → Bounded contents s → AllGood (contents s).bytes (rows t) → Laid mn rs f tr t fs → a < b → b ≤ sizes (rows t) → (contents s').reads ≤ (contents s).reads + 512
    few_deleted t fs bd g L lt le = let X = found t fs bd g L in D.few_reads X.v X.q X.fs' X.behind (spot_within X b m m-is lt le)

    skipped : (t : Finger PieceRow (TextValue A)) (fs : List ℕ) (bd : Bounded contents s) (g : AllGood (contents s).bytes (rows t)) (L : Laid mn rs f tr t fs) → a < b → b ≤ sizes (rows t)
        → Skipped am contents (contents s).bytes rs₁ rs₂ f₂ h m rd (found t fs bd g L).q (found t fs bd g L).fs'
    skipped t fs bd g L lt le = let X = found t fs bd g L in D.drops X.v X.q X.fs' X.behind (spot_within X b m m-is lt le)

    pub delete_no_parts : {e : Unsound} {r : Result Deleted Unsound} → rd ≡ Err e → DeletedFrom am contents s s' rs rs₂ f f₂ tr n a b r
    delete_no_parts bad = record {
      deletes = λ t fs bd g L en lt le few. absurd (ok_err (skipped t fs bd g L lt le).ok bad);
      few_reads = few_deleted;
      same_bytes = D.same_bytes;
      same_capacity = D.same_capacity;
    }

    module _ {y : Dropped} (got-y : rd ≡ Ok y) {rs₃ : List (Record PieceRow (TextValue A))} {f₃ : Link} {rc : Result Tree Unsound} (Z : Closed am rs₂ rs₃ f₂ f₃ h.left y.front y.rest.back y.rest.right rc) where
      -- what is left, as rows and as one tree
      record Shut (t : Finger PieceRow (TextValue A)) (fs : List ℕ) (l : Finger PieceRow (TextValue A)) (q : Finger PieceRow (TextValue A)) (F G : Option (Arm PieceRow (TextValue A))) (q' : Finger PieceRow (TextValue A)) (fs₂ js : List ℕ) : Type 0 where
        pub pieces : map piece_of (rows l ++ (rows_part F ++ (rows_part G ++ rows q'))) ≡ G₀ t
        pub good : AllGood (contents s).bytes (rows l ++ (rows_part F ++ (rows_part G ++ rows q')))
        pub count : length (rows l ++ (rows_part F ++ (rows_part G ++ rows q'))) ≤ limit (length rs)
        pub moved : Moved rs rs₂ f₂ (occ t) (λ j. occ l j + (occ_part F j + (occ_part G j + occ q' j))) fs fs₂ js
        pub closing : Closing am (contents s).bytes rs₂ rs₃ f₃ rc l F G q' fs₂

      shut : (t : Finger PieceRow (TextValue A)) (fs : List ℕ) (bd : Bounded contents s) (g : AllGood (contents s).bytes (rows t)) (L : Laid mn rs f tr t fs) (lt : a < b) (le : b ≤ sizes (rows t)) → length (G₀ t) ≤ limit (length rs)
          → (let X = found t fs bd g L in let K = skipped t fs bd g L lt le in Shut t fs X.l X.q K.F K.G K.q' K.fs' K.js)
      shut t fs bd g L lt le few =
          let X = found t fs bd g L in
          let K = skipped t fs bd g L lt le in
          let l = X.l in
          let F = K.F in
          let G = K.G in
          let q' = K.q' in
          let xs : List PieceRow = rows l ++ (rows_part F ++ (rows_part G ++ rows q')) in
          let apart : xs ≡ (rows l ++ rows_part F) ++ (rows_part G ++ rows q') = sym (append_assoc (rows l) (rows_part F) (rows_part G ++ rows q')) in
          let pieces : map piece_of xs ≡ G₀ t =
          ap (map piece_of) apart ∙ map_append piece_of (rows l ++ rows_part F) (rows_part G ++ rows q')
          ∙ ap₂ (λ (x z : List Piece). x ++ z) (ap (λ (z : List PieceRow). map piece_of (rows l ++ z)) K.front_is ∙ sym (spot_before X)) (K.after_is ∙ sym (spot_after X b m m-is lt)) in
          let good-f : AllGood (contents s).bytes (rows_part F) = subst (AllGood (contents s).bytes) (sym K.front_is) (front_good (contents s).bytes h.into h.row (omega (arith, X.behind.into)) X.behind.good.0) in
          let good : AllGood (contents s).bytes xs = all_append (contents s).bytes (rows l) (rows_part F ++ (rows_part G ++ rows q')) X.good_l (all_append (contents s).bytes (rows_part F) (rows_part G ++ rows q') good-f K.good_after) in
          let count : length xs ≤ limit (length rs) = omega (arith, few, length_map piece_of xs, ap length pieces) in
          let moved : Moved rs rs₂ f₂ (occ t) (λ j. occ l j + (occ_part F j + (occ_part G j + occ q' j))) fs K.fs' K.js =
          moved_then (occ l) (λ j. occ l j + (occ_part F j + (occ_part G j + occ q' j))) X.moved (λ j. omega arith) K.moved (λ j. omega arith) in
          let y-is = ok_same K.ok got-y in
          let free = supply (length rs) (2 * length xs) (λ j. occ l j + (occ_part F j + (occ_part G j + occ q' j))) K.fs' (λ j. moved.kept j ∙ L.once j) (sides_count (length rs) l F G q') in
          record {
            pieces = pieces;
            good = good;
            count = count;
            moved = moved;
            closing = Z.closes (contents s).bytes l F G q' K.fs' (record {
              left = X.left_is;
              front = ap (λ (z : Dropped). z.front) y-is;
              back = ap (λ (z : Dropped). z.rest.back) y-is;
              right = ap (λ (z : Dropped). z.rest.right) y-is;
              small_f = K.small_f;
              small_g = K.small_g;
              first = K.moved.first;
              fit_l = frame K.moved.frame mn l 0 (λ j. omega (arith, X.once j)) X.fit_l;
              fit_f = K.fit_f;
              fit_g = K.fit_g;
              fit_q = K.fit_q;
              chain = K.moved.chain;
              once = λ j. omega (arith, moved.kept j, L.once j, named_le (length rs) j);
              good = good;
              small = few_most (length xs) (length rs) count L.most;
              long = omega (arith, count, L.least);
            });
          }

      pub delete_no_tree : {e : Unsound} {r : Result Deleted Unsound} → rc ≡ Err e → DeletedFrom am contents s s' rs rs₃ f f₃ tr n a b r
      delete_no_tree bad = record {
        deletes = λ t fs bd g L en lt le few. absurd (ok_err (shut t fs bd g L lt le few).closing.ok bad);
        few_reads = few_deleted;
        same_bytes = D.same_bytes;
        same_capacity = D.same_capacity;
      }

      pub delete_made : {all : Tree} {kept one some two after : ℕ} → rc ≡ Ok all → kept ≡ n - y.rest.gone → one ≡ one_part_of y.front → some ≡ min (kept + one) 4294967295 → two ≡ one_part_of y.rest.back → after ≡ min (some + two) 4294967295
          → DeletedFrom am contents s s' rs rs₃ f f₃ tr n a b (Ok (record { text = all; pieces = after }))
      delete_made {all} {kept} {one} {some} {two} {after} got-c kept-is one-is some_is two_is after_is = record {
        deletes = λ t fs bd g L en lt le few. made t fs bd g L en lt le few;
        few_reads = few_deleted;
        same_bytes = D.same_bytes;
        same_capacity = D.same_capacity;
      }
        where
          deleted_same : {p p' : ℕ} → p ≡ p' → ◌≡◌ {A = Result Deleted Unsound} (Ok (record { text = all; pieces = p })) (Ok (record { text = all; pieces = p' }))
          deleted_same e = cc

          made : (t : Finger PieceRow (TextValue A)) (fs : List ℕ) → Bounded contents s → AllGood (contents s).bytes (rows t) → Laid mn rs f tr t fs → n ≡ length (rows t) → a < b → b ≤ sizes (rows t) → length (G₀ t) ≤ limit (length rs)
              → DeleteMade am (contents s).bytes rs rs₃ f₃ (Ok (record { text = all; pieces = after })) (G₀ t)
          made t fs bd g L en lt le few =
              let X = found t fs bd g L in
              let K = skipped t fs bd g L lt le in
              let W = shut t fs bd g L lt le few in
              let Q = W.closing in
              let last : Moved rs rs₃ f₃ (occ t) (occ Q.t') fs Q.fs' (K.js ++ Q.js) = moved_then (λ _. 0) (occ Q.t') W.moved (λ j. omega arith) Q.moved (λ j. omega arith) in
              let len : length rs₃ ≡ length rs = last.frame.len in
              let y-is = ok_same got-y K.ok in
              let gone-is : y.rest.gone ≡ K.gone = ap (λ (z : Dropped). z.rest.gone) y-is in
              let one-f : one ≡ length (rows_part K.F) = one-is ∙ ap (λ (z : Dropped). one_part_of z.front) y-is ∙ sym (one_leaf mn rs₂ K.F K.fit_f K.small_f) in
              let one-g : two ≡ length (rows_part K.G) = two_is ∙ ap (λ (z : Dropped). one_part_of z.rest.back) y-is ∙ sym (one_leaf mn rs₂ K.G K.fit_g K.small_g) in
              let total-is : length (rows Q.t') ≡ length (rows X.l) + (length (rows_part K.F) + (length (rows_part K.G) + length (rows K.q'))) = omega (
                arith,
                ap length Q.text,
                length-append (rows X.l) (rows_part K.F ++ (rows_part K.G ++ rows K.q')),
                length-append (rows_part K.F) (rows_part K.G ++ rows K.q'),
                length-append (rows_part K.G) (rows K.q'),
              ) in
              let before_is : n ≡ length (rows X.l) + suc (length (rows X.q)) = en ∙ ap length X.text ∙ length-append (rows X.l) (h.row ∷ rows X.q) in
              let small : n ≤ 4100 = omega (arith, few_most (length (rows t)) (length rs) L.few L.most) in
              let number : after ≡ length (rows Q.t') = omega (arith, K.count, K.small_f, K.small_g, W.count, L.most, ap length Q.text) in
              record {
                tree = all;
                made = record {
                  t' = Q.t';
                  fs' = Q.fs';
                  js = K.js ++ Q.js;
                  ok = ap Ok (ok_same got-c Q.ok);
                  laid = record {
                    tree = refl;
                    first = Q.moved.first;
                    fit = Q.fit;
                    chain = Q.moved.chain;
                    once = λ j. last.kept j ∙ L.once j ∙ ap (λ (k : ℕ). named k j) (sym len);
                    few = omega (arith, W.count, ap length Q.text, ap limit len);
                    least = omega (arith, L.least, len);
                    most = omega (arith, L.most, len);
                  };
                  len = len;
                  pieces = ap (map piece_of) Q.text ∙ W.pieces;
                  good = subst (AllGood (contents s).bytes) (sym Q.text) W.good;
                  few = omega (arith, K.few, Q.few, length-append K.js Q.js);
                  fresh = last.fresh;
                };
                ok = deleted_same number;
              }
