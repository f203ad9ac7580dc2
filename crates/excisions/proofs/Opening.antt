-- The paths of finding the spot of an offset.
use Rattle.std.proofs.Common.{◌≡◌, ℕ, ◌+◌, ◌-◌, ◌≤◌, ◌⊎◌, List, [], ◌∷◌, ◌++◌, get_or, Some, None, Ok, Err, Option, Result, sym, refl, ap, ◌∙◌, subst, inl, inr, ⊎_elim, arith}
use Rattle.slots.specs.Ghost.{Finger, same, none, rows, occ}
use Rattle.slots.specs.Holds.{Holds}
use Rattle.slots.specs.Values.{row_in}
use Rattle.slots.specs.declared.records.Unsound.{Unsound}
use Rattle.slots.specs.Words.{Link}
use Rattle.slots.specs.declared.records.Tree.{Tree}
use Rattle.slots.specs.declared.records.Record.{Record}
use Rattle.slots.proofs.Shapes.{ok_err, ok_same}
use Rattle.pieces.specs.Rows.{bytes_of, AllGood, sizes}
use Rattle.pieces.specs.Sound.{TextValue, text_means}
use Rattle.pieces.specs.declared.rows.PieceRow.{PieceRow}
use Rattle.pieces.proofs.RowParts.{all_left, flat_size}
use Rattle.edits.proofs.Falling.{past, past_no, falls_at}
use Rattle.split.specs.Post.{Uncut, Parted, SplitAt}
use Rattle.split.specs.declared.halves.Halves.{Halves}
use Rattle.excisions.specs.Spots.{OpenedAt}
use Rattle.excisions.specs.declared.spots.Spot.{Spot}
use Rattle.excisions.proofs.Moving.{moved_of}
use Rattle.excisions.proofs.Optional.{none_some, some_same}

spot_same : {a b : Tree} {c d : ℕ} {u y : PieceRow} {k : ℕ} {m n : Tree} → a ≡ b → c ≡ d → u ≡ y → m ≡ n
    → ◌≡◌ {A = Result (Option Spot) Unsound} (Ok (Some (record { left = a; at = c; row = u; into = k; right = m }))) (Ok (Some (record { left = b; at = d; row = y; into = k; right = n })))
spot_same e f g i = cc

module _ {A : Type 0} {am : List ℕ → A} {rs rs₁ : List (Record PieceRow (TextValue A))} {f f₁ : Link} {tr : Tree} (p : ℕ) {v w : TextValue A} {rf : Result (Option Halves) Unsound}
    (start : v ≡ text_means am []) (Sp : SplitAt (λ _. 1) (text_means am) (past p) rs rs₁ f f₁ tr v w rf) where
  split_of : (B : List ℕ) (t : Finger PieceRow (TextValue A)) (fs : List ℕ) → Holds (λ _. 1) (text_means am) (bytes_of B) rs f tr t fs
      → (Uncut (λ _. 1) (text_means am) (past p) (bytes_of B) rs rs₁ f f₁ [] w rf t) ⊎ Parted (λ _. 1) (text_means am) (past p) (bytes_of B) rs rs₁ f₁ [] w rf t fs
  split_of B t fs H = ⊎_elim (λ u. inl u.0) (λ q. inr q) (Sp.splits (bytes_of B) [] t fs H H.light start)

  pub open_broken : {e : Unsound} {r : Result (Option Spot) Unsound} → rf ≡ Err e → OpenedAt am rs rs₁ f f₁ tr p r
  open_broken bad = record { opens = λ B t fs g H. ⊎_elim (λ u. absurd (ok_err u.0 bad)) (λ q. absurd (ok_err q.ok bad)) (split_of B t fs H) }

  pub open_none : rf ≡ Ok None → OpenedAt am rs rs₁ f f₁ tr p (Ok None)
  open_none got = record { opens = λ B t fs g H. ⊎_elim (λ u. inl (past_no am B p (rows t) g u.3.no, refl, u.1, u.2)) (λ q. absurd (none_some (ok_same got q.ok))) (split_of B t fs H) }

  module _ {h : Halves} (got : rf ≡ Ok (Some h)) {rr : Result PieceRow Unsound} (rd : rr ≡ row_in (get_or rs₁ h.at none)) where
    parted_of : (B : List ℕ) (t : Finger PieceRow (TextValue A)) (fs : List ℕ) → Holds (λ _. 1) (text_means am) (bytes_of B) rs f tr t fs → Parted (λ _. 1) (text_means am) (past p) (bytes_of B) rs rs₁ f₁ [] w rf t fs
    parted_of B t fs H = ⊎_elim (λ u. absurd (none_some (sym (ok_same got u.0)))) (λ q. q) (split_of B t fs H)

    row_read : (B : List ℕ) (t : Finger PieceRow (TextValue A)) (fs : List ℕ) (H : Holds (λ _. 1) (text_means am) (bytes_of B) rs f tr t fs) → rr ≡ Ok (parted_of B t fs H).row
    row_read B t fs H =
        let Q = parted_of B t fs H in
        let at_is : Q.i ≡ h.at = ap (λ (y : Halves). y.at) (some_same (ok_same Q.ok got)) in
        rd ∙ ap (λ (i : ℕ). row_in (get_or rs₁ i none)) (sym at_is) ∙ ap row_in Q.at.is

    pub open_no_row : {e : Unsound} {r : Result (Option Spot) Unsound} → rr ≡ Err e → OpenedAt am rs rs₁ f f₁ tr p r
    open_no_row bad = record { opens = λ B t fs g H. absurd (ok_err (row_read B t fs H) bad) }

    pub open_found : {y : PieceRow} {k : ℕ} → rr ≡ Ok y → k ≡ p - w.left.left.bytes → OpenedAt am rs rs₁ f f₁ tr p (Ok (Some (record { left = h.left; at = h.at; row = y; into = k; right = h.right })))
    unfolding falls_at
    open_found {y} {k} got-y k_is = record {
      opens = λ B t fs g H.
          let Q = parted_of B t fs H in
          let h_is = some_same (ok_same got Q.ok) in
          let good : AllGood B (rows Q.l ++ (Q.row ∷ rows Q.q)) = subst (AllGood B) Q.text g in
          let gl : AllGood B (rows Q.l) = all_left B (rows Q.l) (Q.row ∷ rows Q.q) good in
          let falls = falls_at am B p (rows t) (rows Q.l) Q.row (rows Q.q) g Q.text Q.past.no Q.yes in
          let low : sizes (rows Q.l) ≤ p = past_no am B p (rows Q.l) gl Q.past.no in
          let bytes_are : w.left.left.bytes ≡ sizes (rows Q.l) = ap (λ (x : TextValue A). x.left.left.bytes) Q.past.place ∙ flat_size B (rows Q.l) gl in
          let k-at : k ≡ p - sizes (rows Q.l) = omega arith in
          inr (record {
            l = Q.l;
            i = Q.i;
            x = Q.row;
            v = Q.value;
            k = k;
            q = Q.q;
            fs' = Q.fs';
            ok = spot_same (ap (λ (z : Halves). z.left) h_is) (ap (λ (z : Halves). z.at) h_is) (ok_same got-y (row_read B t fs H)) (ap (λ (z : Halves). z.right) h_is);
            text = Q.text;
            offset = omega (arith, k-at, low);
            within = omega (arith, falls.within);
            fit_l = Q.fit_l;
            at = Q.at;
            value = Q.right;
            fit_q = Q.fit_r;
            moved = moved_of (occ t) (λ j. occ Q.l j + (same Q.i j + occ Q.q j)) fs Q.fs' [] Q.first Q.chain (λ j. omega (arith, Q.kept j)) Q.frame (λ j z. Q.calm j) (λ j. refl);
            spent = Q.spent;
          });
    }
