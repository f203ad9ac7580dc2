-- The paths of making one tree of what is left on both sides.
use Rattle.std.proofs.Common.{◌≡◌, ℕ, ◌+◌, ◌≤◌, List, ◌++◌, length, Some, None, Ok, Err, Option, Result, sym, refl, ap, ◌∙◌, subst, ap₂, append_assoc, arith}
use Rattle.slots.specs.Ghost.{leaf, two, three, Arm, a1, a2, a3, a4, Finger, part_of, rows_part, rows, size_part, occ_part, occ, FitPart}
use Rattle.slots.specs.Holds.{most}
use Rattle.slots.specs.declared.records.Unsound.{Unsound}
use Rattle.slots.specs.Words.{Link}
use Rattle.slots.specs.declared.records.Digit.{Digit}
use Rattle.slots.specs.declared.records.Tree.{Tree}
use Rattle.slots.specs.declared.records.Record.{Record}
use Rattle.slots.proofs.Shapes.{ok_err, ok_same}
use Rattle.concat.specs.Post.{Melt, Concat}
use Rattle.pieces.specs.Rows.{bytes_of, AllGood}
use Rattle.pieces.specs.Sound.{TextValue, text_means, text_mean}
use Rattle.pieces.specs.declared.rows.PieceRow.{PieceRow}
use Rattle.pieces.proofs.RowParts.{light}
use Rattle.edits.specs.Inserting.{added_one}
use Rattle.excisions.specs.Ends.{Sides, Closed}
use Rattle.excisions.proofs.Moving.{moved_of}

-- a part of at most one is none, or a leaf
pub at_most_one : {R V : Type 0} (mn : List R → V) (rs : List (Record R V)) (P : Option (Arm R V) → Type 0) → P None → ((a : ℕ) (y : R) (u : V) → P (Some (a1 (leaf a y u))))
    → (F : Option (Arm R V)) → FitPart mn rs F 0 → size_part F ≤ 1 → P F
at_most_one mn rs P n o None f s = n
at_most_one mn rs P n o (Some (a1 (leaf a y u))) f s = o a y u
at_most_one mn rs P n o (Some (a1 (two a u l r))) f s = absurd f
at_most_one mn rs P n o (Some (a1 (three a u l m r))) f s = absurd f
at_most_one mn rs P n o (Some (a2 a b)) f s = absurd (omega arith)
at_most_one mn rs P n o (Some (a3 a b c)) f s = absurd (omega arith)
at_most_one mn rs P n o (Some (a4 a b c d)) f s = absurd (omega arith)

-- two parts of at most one leaf as one
record Both {R V : Type 0} (mn : List R → V) (rs : List (Record R V)) (F G : Option (Arm R V)) : Type 0 where
  pub Q : Option (Arm R V)
  pub all_are : added_one (part_of F) (part_of G) ≡ Ok (part_of Q)
  pub rows_are : rows_part Q ≡ rows_part F ++ rows_part G
  pub occs : (j : ℕ) → occ_part Q j ≡ occ_part F j + occ_part G j
  pub fits : FitPart mn rs F 0 → FitPart mn rs G 0 → FitPart mn rs Q 0

both_of : {R V : Type 0} (mn : List R → V) (rs : List (Record R V)) (F G : Option (Arm R V)) → FitPart mn rs F 0 → FitPart mn rs G 0 → size_part F ≤ 1 → size_part G ≤ 1 → Both mn rs F G
both_of mn rs F G ff fg sf sg = at_most_one mn rs (λ F. Both mn rs F G)
    (at_most_one mn rs (λ G. Both mn rs None G)
    (record { Q = None; all_are = refl; rows_are = refl; occs = λ j. omega arith; fits = λ f g. tt })
    (λ b z w. record { Q = Some (a1 (leaf b z w)); all_are = refl; rows_are = refl; occs = λ j. omega arith; fits = λ f g. g })
    G fg sg)
    (λ a y u. at_most_one mn rs (λ G. Both mn rs (Some (a1 (leaf a y u))) G)
    (record { Q = Some (a1 (leaf a y u)); all_are = refl; rows_are = refl; occs = λ j. omega arith; fits = λ f g. f })
    (λ b z w. record { Q = Some (a2 (leaf a y u) (leaf b z w)); all_are = refl; rows_are = refl; occs = λ j. omega arith; fits = λ f g. (f, g) })
    G fg sg)
    F ff sf

module _ {A : Type 0} {am : List ℕ → A} {rs : List (Record PieceRow (TextValue A))} {f : Link} {tl : Tree} {d e : Option Digit} {tr : Tree} {ra : Result (Option Digit) Unsound} (is-a : ra ≡ added_one d e) where
  joint : (B : List ℕ) (l : Finger PieceRow (TextValue A)) (F G : Option (Arm PieceRow (TextValue A))) (q : Finger PieceRow (TextValue A)) (fs : List ℕ) → Sides am B rs f tl d e tr l F G q fs → Both (text_mean am B) rs F G
  joint B l F G q fs K = both_of (text_mean am B) rs F G K.fit_f K.fit_g K.small_f K.small_g

  part_is : (B : List ℕ) (l : Finger PieceRow (TextValue A)) (F G : Option (Arm PieceRow (TextValue A))) (q : Finger PieceRow (TextValue A)) (fs : List ℕ) (K : Sides am B rs f tl d e tr l F G q fs) → ra ≡ Ok (part_of (joint B l F G q fs K).Q)
  part_is B l F G q fs K = is-a ∙ ap₂ added_one (sym K.front) (sym K.back) ∙ (joint B l F G q fs K).all_are

  pub close_broken : {rs' : List (Record PieceRow (TextValue A))} {f' : Link} {x : Unsound} {r : Result Tree Unsound} → ra ≡ Err x → Closed am rs rs' f f' tl d e tr r
  close_broken bad = record { closes = λ B l F G q fs K. absurd (ok_err (part_is B l F G q fs K) bad) }

  pub close_made : {rs' : List (Record PieceRow (TextValue A))} {f' : Link} {u : Option Digit} {r : Result Tree Unsound} → ra ≡ Ok u → Concat (λ _. 1) (text_means am) rs rs' f f' tl u tr r → Closed am rs rs' f f' tl d e tr r
  close_made {rs'} {f'} {r = r} got C = record {
    closes = λ B l F G q fs K.
        let J = joint B l F G q fs K in
        let regroup : rows l ++ (rows_part J.Q ++ rows q) ≡ rows l ++ (rows_part F ++ (rows_part G ++ rows q)) =
        ap (λ (x : List PieceRow). rows l ++ x) (ap (λ (x : List PieceRow). x ++ rows q) J.rows_are ∙ append_assoc (rows_part F) (rows_part G) (rows q)) in
        let good : AllGood B (rows l ++ (rows_part J.Q ++ rows q)) = subst (AllGood B) (sym regroup) K.good in
        let small : length (rows l ++ (rows_part J.Q ++ rows q)) ≤ most = omega (arith, K.small, ap length regroup) in
        let M : Melt (λ _. 1) (text_means am) (bytes_of B) rs rs' f' r l J.Q q fs 0 = C.melts (bytes_of B) l J.Q q fs (record {
          left = K.left;
          between = ok_same (part_is B l F G q fs K) got;
          right = K.right;
          first = K.first;
          fit_l = K.fit_l;
          fit_q = J.fits K.fit_f K.fit_g;
          fit_r = K.fit_q;
          chain = K.chain;
          once = λ j. omega (arith, K.once j, J.occs j);
          light = light B (rows l ++ (rows_part J.Q ++ rows q)) good small;
          small = small;
          long = K.long;
        }) in
        let Z = M.made in
        record {
          t' = Z.t';
          fs' = Z.fs';
          js = Z.js;
          ok = Z.ok;
          text = Z.text ∙ regroup;
          fit = Z.fit;
          moved = moved_of (λ i. occ l i + (occ_part F i + (occ_part G i + occ q i))) (occ Z.t') fs Z.fs' Z.js Z.first Z.chain Z.kept Z.frame Z.fresh (λ j. omega (arith, J.occs j));
          few = M.few;
        };
  }
