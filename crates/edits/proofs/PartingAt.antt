-- The paths of taking the text's tree apart at an offset.
use Rattle.std.proofs.Common.{◌≡◌, ℕ, ◌+◌, ◌-◌, ◌<◌, ◌≤◌, Bool, true, false, ◌⊎◌, List, [], ◌∷◌, ◌++◌, map, length, get_or, Some, None, Ok, Err, Option, Result, sym, refl, ap, ◌∙◌, subst, inl, inr, ⊎_elim, append-nil, arith, length-append}
use Rattle.slots.specs.Ghost.{Arm, Finger, nil, At, same, occ_list, none, head_of, part_of, tree_of, rows_part, rows, occ_part, occ, Fit, Chain, Off}
use Rattle.slots.specs.Holds.{Holds}
use Rattle.slots.specs.declared.records.Unsound.{Unsound}
use Rattle.slots.specs.Words.{Link}
use Rattle.slots.specs.declared.records.Tree.{Tree}
use Rattle.slots.specs.declared.records.Tree.TheVariants.{Empty}
use Rattle.slots.specs.declared.records.Record.{Record}
use Rattle.slots.specs.declared.records.Record.TheVariants.{Leaf}
use Rattle.slots.specs.declared.records.Digit.{Digit}
use Rattle.plain.specs.Pieces.{before, after}
use Rattle.stores.specs.Stores.{Contents}
use Rattle.slots.proofs.Frames.{occ_list_append, calm_then, off_refl, off_then, off_more, frame}
use Rattle.slots.proofs.Shapes.{ok_err, ok_same}
use Rattle.pieces.specs.Leaves.{Bounded, Cuttable, Cut, EndsKept}
use Rattle.pieces.specs.Rows.{piece_of, bytes_of, Good, AllGood, front_of, rest_of, sizes}
use Rattle.pieces.specs.Sound.{TextValue, text_means, text_mean}
use Rattle.pieces.specs.declared.rows.PieceRow.{PieceRow}
use Rattle.pieces.specs.declared.leaves.Ends.{Ends}
use Rattle.pieces.proofs.RowParts.{all_append, all_left, all_right, front_good, rest_good, flat_size, before_at, after_at, before_all, after_all}
use Rattle.edits.specs.Edges.{Falls}
use Rattle.edits.specs.Parting.{Apart, PartedAt}
use Rattle.split.specs.Post.{Uncut, Parted, SplitAt}
use Rattle.split.specs.declared.halves.Halves.{Halves}
use Rattle.edits.specs.declared.parting.Parts.{Parts}
use Rattle.edits.proofs.Falling.{past, past_no, falls_at}

none_some : {X : Type 0} {x : X} → None ≡ Some x → ⊥
none_some e = let z : ◌≡◌ {A = ℕ} 0 1 = cc in omega arith

some_same : {X : Type 0} {x y : X} → Some x ≡ Some y → x ≡ y
some_same e = cc

abbrev Held : {A : Type 0} (am : List ℕ → A) (B : List ℕ) → List (Record PieceRow (TextValue A)) → Link → Tree → Finger PieceRow (TextValue A) → List ℕ → Type 0
Held am B rs f tr t fs = Holds (λ _. 1) (text_means am) (bytes_of B) rs f tr t fs

module _ {A : Type 0} {am : List ℕ → A} {rs rs₁ : List (Record PieceRow (TextValue A))} {f f₁ : Link} {tr : Tree} (p : ℕ) {v w : TextValue A} {rf : Result (Option Halves) Unsound}
    (start : v ≡ text_means am []) (Sp : SplitAt (λ _. 1) (text_means am) (past p) rs rs₁ f f₁ tr v w rf) where
  split_of : (B : List ℕ) (t : Finger PieceRow (TextValue A)) (fs : List ℕ) → Held am B rs f tr t fs
      → (Uncut (λ _. 1) (text_means am) (past p) (bytes_of B) rs rs₁ f f₁ [] w rf t) ⊎ Parted (λ _. 1) (text_means am) (past p) (bytes_of B) rs rs₁ f₁ [] w rf t fs
  split_of B t fs H = ⊎_elim (λ u. inl u.0) (λ q. inr q) (Sp.splits (bytes_of B) [] t fs H H.light start)

  pub no_split : {S : Type 0} {contents : S → Contents} {s : S} {e : Unsound} {r : Result Parts Unsound} → rf ≡ Err e → PartedAt am contents s s rs rs₁ f f₁ tr p r
  no_split {contents = contents} {s = s} bad = record {
    parts = λ t fs b g H. absurd (never t fs H);
    few_reads = λ t fs b g H. absurd (never t fs H);
    same_bytes = refl;
    same_capacity = refl;
  }
    where
      never : (t : Finger PieceRow (TextValue A)) (fs : List ℕ) → Held am (contents s).bytes rs f tr t fs → ⊥
      never t fs H = ⊎_elim (λ u. ok_err u.0 bad) (λ q. ok_err q.ok bad) (split_of (contents s).bytes t fs H)

  -- the offset is at the end
  pub all_left_of : {S : Type 0} {contents : S → Contents} {s : S} → rf ≡ Ok None → PartedAt am contents s s rs rs₁ f f₁ tr p (Ok (record { left = tr; front = None; back = None; right = Empty }))
  all_left_of {contents = contents} {s} got = record {
    parts = λ t fs b g H. ⊎_elim (λ u. whole t fs g H u) (λ q. absurd (none_some (ok_same got q.ok))) (split_of (contents s).bytes t fs H);
    few_reads = λ t fs b g H. omega arith;
    same_bytes = refl;
    same_capacity = refl;
  }
    where
      whole : (t : Finger PieceRow (TextValue A)) (fs : List ℕ) → AllGood (contents s).bytes (rows t) → Held am (contents s).bytes rs f tr t fs → Uncut (λ _. 1) (text_means am) (past p) (bytes_of (contents s).bytes) rs rs₁ f f₁ [] w rf t
          → Apart am contents (contents s).bytes rs rs₁ f₁ p (Ok (record { left = tr; front = None; back = None; right = Empty })) t fs
      whole t fs g H u =
          let over : sizes (rows t) ≤ p = past_no am (contents s).bytes p (rows t) g u.3.no in
          let same_rs : rs₁ ≡ rs = u.1 in record {
            l = t;
            F = None;
            G = None;
            q = nil;
            fs' = fs;
            js = [];
            ok = ap (λ (x : Tree). Ok (record { left = x; front = None; back = None; right = Empty })) (sym H.tree);
            first = H.first ∙ sym u.2;
            before_is = ap (map piece_of) (append-nil (rows t)) ∙ sym (before_all (rows t) p over);
            after_is = sym (after_all (rows t) p over);
            small_f = omega arith;
            small_g = omega arith;
            good_before = subst (AllGood (contents s).bytes) (sym (append-nil (rows t))) g;
            good_after = tt;
            fit_l = subst (λ x. Fit (text_mean am (contents s).bytes) x t 0) (sym same_rs) H.fit;
            fit_f = tt;
            fit_g = tt;
            fit_q = tt;
            chain = subst (λ x. Chain x fs) (sym same_rs) H.chain;
            kept = λ i. omega arith;
            frame = subst (λ x. Off rs x (λ i. occ t i + occ_list fs i)) (sym same_rs) off_refl;
            spent = omega arith;
            few = omega arith;
            fresh = λ i z. inr (ap (λ x. get_or x i none) same_rs);
          }

  module _ {S : Type 0} {contents : S → Contents} {s : S} {h : Halves} (got : rf ≡ Ok (Some h)) {s' : S} {rs₂ : List (Record PieceRow (TextValue A))} {f₂ : Link} {k : ℕ} {re : Result Ends Unsound}
      (is-k : k ≡ p - w.left.left.bytes) (E : EndsKept (text_means am) contents s s' rs₁ rs₂ f₁ f₂ h.at k k re) where
    parted_of : (t : Finger PieceRow (TextValue A)) (fs : List ℕ) → Held am (contents s).bytes rs f tr t fs → Parted (λ _. 1) (text_means am) (past p) (bytes_of (contents s).bytes) rs rs₁ f₁ [] w rf t fs
    parted_of t fs H = ⊎_elim (λ u. absurd (none_some (sym (ok_same got u.0)))) (λ q. q) (split_of (contents s).bytes t fs H)

    -- what keep_ends starts from
    record Ready (t : Finger PieceRow (TextValue A)) (fs : List ℕ) (H : Held am (contents s).bytes rs f tr t fs) : Type 0 where
      pub falls : Falls p (rows t)
      pub k_is : k ≡ p - sizes (rows (parted_of t fs H).l)
      pub at_is : (parted_of t fs H).i ≡ h.at
      pub low : sizes (rows (parted_of t fs H).l) ≤ p
      pub high : k < (parted_of t fs H).row.length
      pub cuttable : Cuttable (text_means am) contents s rs₁ f₁ h.at k k (parted_of t fs H).row (parted_of t fs H).value (parted_of t fs H).fs'

    ready : (t : Finger PieceRow (TextValue A)) (fs : List ℕ) → Bounded contents s → AllGood (contents s).bytes (rows t) → (H : Held am (contents s).bytes rs f tr t fs) → Ready t fs H
    unfolding falls_at
    ready t fs b g H =
        let Q = parted_of t fs H in
        let good : AllGood (contents s).bytes (rows Q.l ++ (Q.row ∷ rows Q.q)) = subst (AllGood (contents s).bytes) Q.text g in
        let falls = falls_at am (contents s).bytes p (rows t) (rows Q.l) Q.row (rows Q.q) g Q.text Q.past.no Q.yes in
        let low : sizes (rows Q.l) ≤ p = past_no am (contents s).bytes p (rows Q.l) (all_left (contents s).bytes (rows Q.l) (Q.row ∷ rows Q.q) good) Q.past.no in
        let bytes_are : w.left.left.bytes ≡ sizes (rows Q.l) = ap (λ (x : TextValue A). x.left.left.bytes) Q.past.place ∙ flat_size (contents s).bytes (rows Q.l) (all_left (contents s).bytes (rows Q.l) (Q.row ∷ rows Q.q) good) in
        let k_is : k ≡ p - sizes (rows Q.l) = omega arith in
        let at_is : Q.i ≡ h.at = ap (λ (x : Halves). x.at) (some_same (ok_same Q.ok got)) in
        let high : k < Q.row.length = omega (arith, falls.within) in record {
          falls = falls;
          k_is = k_is;
          at_is = at_is;
          low = low;
          high = high;
          cuttable = record {
            bounded = b;
            at = subst (λ (i : ℕ). At rs₁ i (Leaf Q.row Q.value)) at_is Q.at;
            value = Q.right;
            good = (all_right (contents s).bytes (rows Q.l) (Q.row ∷ rows Q.q) good).0;
            order = omega arith;
            within = omega arith;
            first = Q.first;
            chain = Q.chain;
            once = λ j. omega (arith, Q.kept j, H.once j, ap (λ (i : ℕ). same i j) at_is);
            long = omega (arith, Q.spent, H.long);
          };
        }

    pub no_ends : {e : Unsound} {r : Result Parts Unsound} → re ≡ Err e → PartedAt am contents s s' rs rs₂ f f₂ tr p r
    no_ends bad = record {
      parts = λ t fs b g H. absurd (ok_err (E.keeps _ _ _ (ready t fs b g H).cuttable).ok bad);
      few_reads = λ t fs b g H. E.few_reads _ _ _ (ready t fs b g H).cuttable;
      same_bytes = E.same_bytes;
      same_capacity = E.same_capacity;
    }

    pub halved_at : {x : Ends} → re ≡ Ok x → PartedAt am contents s s' rs rs₂ f f₂ tr p (Ok (record { left = h.left; front = x.front; back = x.back; right = h.right }))
    halved_at {x} got-x = record {
      parts = λ t fs b g H.
          let Q = parted_of t fs H in
          let D = ready t fs b g H in
          let C = E.keeps _ _ _ D.cuttable in
          let h_is = some_same (ok_same Q.ok got) in
          let x-is = ok_same C.ok got-x in
          let good : AllGood (contents s).bytes (rows Q.l ++ (Q.row ∷ rows Q.q)) = subst (AllGood (contents s).bytes) Q.text g in
          let gl = all_left (contents s).bytes (rows Q.l) (Q.row ∷ rows Q.q) good in
          let gr = all_right (contents s).bytes (rows Q.l) (Q.row ∷ rows Q.q) good in
          let at : p ≡ sizes (rows Q.l) + k = omega (arith, D.k_is, D.low) in
          let same_at : (j : ℕ) → same Q.i j ≡ same h.at j = λ j. ap (λ (i : ℕ). same i j) D.at_is in
          record {
            l = Q.l;
            F = C.F;
            G = C.G;
            q = Q.q;
            fs' = C.fs';
            js = C.js;
            ok = parts_same (ap (λ (y : Halves). y.left) (sym h_is)) (ap (λ (y : Ends). y.front) (sym x-is)) (ap (λ (y : Ends). y.back) (sym x-is)) (ap (λ (y : Halves). y.right) (sym h_is));
            first = C.first;
            before_is = ap (λ (l : List PieceRow). map piece_of (rows Q.l ++ l)) C.rows_front ∙ sym (ap (λ (l : List PieceRow). before p (map piece_of l)) Q.text ∙ before_at (contents s).bytes (rows Q.l) Q.row (rows Q.q) p k gr at (omega (arith, D.high)));
            after_is = ap (λ (l : List PieceRow). map piece_of (l ++ rows Q.q)) C.rows_back ∙ sym (ap (λ (l : List PieceRow). after p (map piece_of l)) Q.text ∙ after_at (contents s).bytes (rows Q.l) Q.row (rows Q.q) p k gr at (omega (arith, D.high)));
            small_f = C.small_front;
            small_g = C.small_back;
            good_before = all_append (contents s).bytes (rows Q.l) (rows_part C.F) gl (subst (AllGood (contents s).bytes) (sym C.rows_front) (front_good (contents s).bytes k Q.row (omega (arith, D.high)) gr.0));
            good_after = all_append (contents s).bytes (rows_part C.G) (rows Q.q) (subst (AllGood (contents s).bytes) (sym C.rows_back) (rest_good (contents s).bytes k Q.row gr.0)) gr.1;
            fit_l = frame C.frame (text_mean am (contents s).bytes) Q.l 0 (λ j. omega (arith, Q.kept j, H.once j, same_at j)) Q.fit_l;
            fit_f = C.fit_front;
            fit_g = C.fit_back;
            fit_q = frame C.frame (text_mean am (contents s).bytes) Q.q 0 (λ j. omega (arith, Q.kept j, H.once j, same_at j)) Q.fit_r;
            chain = C.chain;
            kept = λ j. omega (arith, Q.kept j, C.kept j, same_at j);
            frame = off_more _ (λ j z. omega (arith, Q.kept j, same_at j)) (off_then Q.frame C.frame);
            spent = omega (arith, Q.spent, C.spent);
            few = C.few;
            fresh = λ j z. calm_then (Q.calm j) (C.fresh j z);
          };
      few_reads = λ t fs b g H. E.few_reads _ _ _ (ready t fs b g H).cuttable;
      same_bytes = E.same_bytes;
      same_capacity = E.same_capacity;
    }
      where
        parts_same : {a b : Tree} {c d u y : Option Digit} {m n : Tree} → a ≡ b → c ≡ d → u ≡ y → m ≡ n → ◌≡◌ {A = Result Parts Unsound} (Ok (record { left = a; front = c; back = u; right = m })) (Ok (record { left = b; front = d; back = y; right = n }))
        parts_same e f g i = cc
