-- The paths of taking the marks' tree apart at a mark, and of putting it together again.
use Rattle.std.proofs.Common.{◌≡◌, ℕ, ◌+◌, ◌<◌, ◌≤◌, Bool, true, false, ◌&&◌, ltb, leb, ◌⊎◌, List, [], ◌∷◌, ◌++◌, length, get_or, Some, None, Ok, Err, Option, Result, sym, refl, ap, ◌∙◌, subst, inl, inr, ⊎_elim, arith, length-append}
use Rattle.std.proofs.lemmas.Bool.{lt-ltb, leb-true, leb-false}
use Rattle.measures.specs.Law.{weights, heaviest}
use Rattle.measures.specs.MarkTotals.{gaps, totals_of_marks}
use Rattle.measures.specs.declared.mark_totals.MarkRow.{MarkRow}
use Rattle.measures.specs.declared.mark_totals.MarkTotals.{MarkTotals}
use Rattle.slots.specs.Ghost.{leaf, a1, Finger, same, occ_list, none, tree_of, rows, occ, At}
use Rattle.slots.specs.Holds.{Holds, most}
use Rattle.slots.specs.Post.{Wrote}
use Rattle.slots.specs.Values.{flat, row_in}
use Rattle.slots.specs.declared.records.Unsound.{Unsound}
use Rattle.slots.specs.Words.{Link}
use Rattle.slots.specs.declared.records.Tree.{Tree}
use Rattle.slots.specs.declared.records.Digit.TheVariants.{One}
use Rattle.slots.specs.declared.records.Record.{Record}
use Rattle.slots.specs.declared.records.Record.TheVariants.{Leaf}
use Rattle.slots.proofs.Frames.{calm_then, off_then, off_more, Put, put, frame, frame_chain}
use Rattle.slots.proofs.Shapes.{ok_err, ok_same}
use Rattle.seek.specs.Places.{upto}
use Rattle.split.specs.Post.{Uncut, Parted, SplitAt}
use Rattle.split.specs.declared.halves.Halves.{Halves}
use Rattle.concat.specs.Post.{Melt, Concat}
use Rattle.pieces.specs.Sound.{itself, mark_mean}
use Rattle.pieces.proofs.MarkMoves.{flat_itself, gaps_append}
use Rattle.mark_moves.specs.Parting.{farthest, heft, moved, MarksParted, Around, JoinMade, MovedJoined}
use Rattle.mark_moves.specs.declared.parting.MarkHalves.{MarkHalves}
use Rattle.mark_moves.proofs.MarkDesk.{mark_light}

pub none_some : {X : Type 0} {x : X} → None ≡ Some x → ⊥
none_some e = let z : ◌≡◌ {A = ℕ} 0 1 = cc in omega arith

pub some_same : {X : Type 0} {x y : X} → Some x ≡ Some y → x ≡ y
some_same e = cc

-- some mark, and the last at the offset or after it
abbrev pub since : ℕ → MarkTotals → Bool
since at v = ltb 0 v.count && leb at v.gaps

and_right : (a b : Bool) → (a && b) ≡ true → b ≡ true
and_right true b e = e
and_right false b e = absurd (let z : ◌≡◌ {A = ℕ} 0 1 = cc in omega arith)

and_left : (a b : Bool) → a ≡ true → (a && b) ≡ false → b ≡ false
and_left true b t e = e
and_left false b t e = absurd (let z : ◌≡◌ {A = ℕ} 0 1 = cc in omega arith)

on_from : (v xs : List MarkRow) → totals_of_marks (upto itself v xs) ≡ totals_of_marks (v ++ xs)
on_from v xs = ap (λ (l : List MarkRow). totals_of_marks (v ++ l)) (flat_itself xs)

since_no : (at : ℕ) (v xs : List MarkRow) → (xs ≡ []) ⊎ (since at (totals_of_marks (upto itself v xs)) ≡ false) → (xs ≡ []) ⊎ (gaps v + gaps xs < at)
since_no at v [] h = inl refl
since_no at v (x ∷ xs) (inl e) = inl e
since_no at v (x ∷ xs) (inr e) =
    let said : since at (totals_of_marks (v ++ (x ∷ xs))) ≡ false = ap (since at) (sym (on_from v (x ∷ xs))) ∙ e in
    let some : ltb 0 (length (v ++ (x ∷ xs))) ≡ true = lt-ltb 0 (length (v ++ (x ∷ xs))) (omega (arith, length-append v (x ∷ xs))) in
    let low : gaps (v ++ (x ∷ xs)) < at = leb-false at (gaps (v ++ (x ∷ xs))) (and_left _ _ some said) in
    inr (omega (arith, gaps_append v (x ∷ xs)))

since_yes : (at : ℕ) (v xs : List MarkRow) (x : MarkRow) → since at (totals_of_marks (upto itself v (xs ++ (x ∷ [])))) ≡ true → at ≤ gaps v + gaps xs + x.gap
since_yes at v xs x e =
    let said : since at (totals_of_marks (v ++ (xs ++ (x ∷ [])))) ≡ true = ap (since at) (sym (on_from v (xs ++ (x ∷ [])))) ∙ e in
    let high : at ≤ gaps (v ++ (xs ++ (x ∷ []))) = leb-true at (gaps (v ++ (xs ++ (x ∷ [])))) (and_right (ltb 0 (length (v ++ (xs ++ (x ∷ []))))) _ said) in
    omega (arith, gaps_append v (xs ++ (x ∷ [])), gaps_append xs (x ∷ []))

upto_light : (v xs : List MarkRow) → gaps (v ++ xs) ≤ farthest → length (v ++ xs) ≤ most → weights heft (upto itself v xs) ≤ heaviest
upto_light v xs near small =
    let same-list : flat itself (v ++ xs) ≡ upto itself v xs = flat_itself (v ++ xs) ∙ ap (λ (l : List MarkRow). v ++ l) (sym (flat_itself xs)) in
    omega (arith, mark_light (v ++ xs) near small, ap (weights heft) same-list)

module _ {ms ms₁ : List (Record MarkRow MarkTotals)} {f f₁ : Link} {tr : Tree} (at : ℕ) {p p' : MarkTotals} {rf : Result (Option Halves) Unsound}
    (S : SplitAt heft totals_of_marks (since at) ms ms₁ f f₁ tr p p' rf) where
  split_of : (v : List MarkRow) (u : Finger MarkRow MarkTotals) (gs : List ℕ) → Holds heft totals_of_marks itself ms f tr u gs → p ≡ totals_of_marks v → gaps (v ++ rows u) ≤ farthest → length (v ++ rows u) ≤ most
      → Uncut heft totals_of_marks (since at) itself ms ms₁ f f₁ v p' rf u ⊎ Parted heft totals_of_marks (since at) itself ms ms₁ f₁ v p' rf u gs
  split_of v u gs H e near small = ⊎_elim (λ n. inl n.0) (λ y. inr y) (S.splits itself v u gs H (upto_light v (rows u) near small) e)

  pub no_split : {e : Unsound} {r : Result (Option MarkHalves) Unsound} → rf ≡ Err e → MarksParted ms ms₁ f f₁ tr at p p' r
  no_split bad = record {
    parts = λ v u gs H e near small. ⊎_elim (λ n. absurd (ok_err n.0 bad)) (λ y. absurd (ok_err y.ok bad)) (split_of v u gs H e near small);
  }

  pub all_before : rf ≡ Ok None → MarksParted ms ms₁ f f₁ tr at p p' (Ok None)
  all_before got = record {
    parts = λ v u gs H e near small. ⊎_elim
        (λ n. inl (refl, n.1, n.2, n.3.place ∙ on_from v (rows u), since_no at v (rows u) n.3.no))
        (λ y. absurd (none_some (ok_same got y.ok))) (split_of v u gs H e near small);
  }

  module _ {h : Halves} (got : rf ≡ Ok (Some h)) {rr : Result MarkRow Unsound} (rd : rr ≡ row_in (get_or ms₁ h.at none)) where
    found_of : (v : List MarkRow) (u : Finger MarkRow MarkTotals) (gs : List ℕ) → Holds heft totals_of_marks itself ms f tr u gs → p ≡ totals_of_marks v → gaps (v ++ rows u) ≤ farthest → length (v ++ rows u) ≤ most
        → Parted heft totals_of_marks (since at) itself ms ms₁ f₁ v p' rf u gs
    found_of v u gs H e near small = ⊎_elim (λ n. absurd (none_some (sym (ok_same got n.0)))) (λ y. y) (split_of v u gs H e near small)

    row_is : {v : List MarkRow} {u : Finger MarkRow MarkTotals} {gs : List ℕ} (Y : Parted heft totals_of_marks (since at) itself ms ms₁ f₁ v p' rf u gs) → rr ≡ Ok Y.row
    row_is Y =
        let at_is : h.at ≡ Y.i = ap (λ (y : Halves). y.at) (some_same (ok_same got Y.ok)) in
        rd ∙ ap (λ (i : ℕ). row_in (get_or ms₁ i none)) at_is ∙ ap row_in Y.at.is

    pub no_row : {e : Unsound} {r : Result (Option MarkHalves) Unsound} → rr ≡ Err e → MarksParted ms ms₁ f f₁ tr at p p' r
    no_row bad = record {
      parts = λ v u gs H e near small. absurd (ok_err (row_is (found_of v u gs H e near small)) bad);
    }

    pub apart_at : {x : MarkRow} → rr ≡ Ok x → MarksParted ms ms₁ f f₁ tr at p p' (Ok (Some (record { left = h.left; at = h.at; row = x; right = h.right })))
    apart_at {x} got-x = record {
      parts = λ v u gs H e near small.
          let Y = found_of v u gs H e near small in
          let h_is : h ≡ record { left = tree_of Y.l; at = Y.i; right = tree_of Y.q } = some_same (ok_same got Y.ok) in
          inr (record {
            l = Y.l;
            i = Y.i;
            x = Y.row;
            q = Y.q;
            gs' = Y.fs';
            ok = halves_same (ap (λ (y : Halves). y.left) h_is) (ap (λ (y : Halves). y.at) h_is) (ok_same got-x (row_is Y)) (ap (λ (y : Halves). y.right) h_is);
            first = Y.first;
            text = Y.text;
            place = Y.past.place ∙ on_from v (rows Y.l);
            low = since_no at v (rows Y.l) Y.past.no;
            high = since_yes at v (rows Y.l) Y.row Y.yes;
            fit_l = Y.fit_l;
            holds = subst (λ (w : MarkTotals). At ms₁ Y.i (Leaf Y.row w)) Y.right Y.at;
            fit_q = Y.fit_r;
            chain = Y.chain;
            kept = Y.kept;
            frame = Y.frame;
            calm = Y.calm;
          });
    }
      where
        halves_same : {a b m n : Tree} {i j : ℕ} {y z : MarkRow} → a ≡ b → i ≡ j → y ≡ z → m ≡ n
            → ◌≡◌ {A = Result (Option MarkHalves) Unsound} (Ok (Some (record { left = a; at = i; row = y; right = m }))) (Ok (Some (record { left = b; at = j; row = z; right = n })))
        halves_same e f g k = cc

-- the mark between the halves is written, and the halves are joined
module _ {ms ms₁ : List (Record MarkRow MarkTotals)} {f : Link} (h : MarkHalves) (g : ℕ) {rw : Result (Unit {0}) Unsound}
    (W : Wrote ms ms₁ h.at (Leaf (moved g h.row) (totals_of_marks (moved g h.row ∷ []))) rw) where
  pub no_write : {ms₁' : _} {f' : Link} {e : Unsound} {r : Result Tree Unsound} → rw ≡ Err e → MovedJoined ms ms₁' f f' h g r
  no_write bad = record { joins = λ l q gs A. absurd (ok_err (W.writes A.within).0 bad) }

  pub moved_joined : {ms₂ : List (Record MarkRow MarkTotals)} {f₂ : Link} {r : Result Tree Unsound} → Concat heft totals_of_marks ms₁ ms₂ f f₂ h.left (Some (One h.at)) h.right r → MovedJoined ms ms₂ f f₂ h g r
  moved_joined {ms₂} {f₂} {r} C = record { joins = joined }
    where
      x : MarkRow
      x = moved g h.row

      joined : (l q : Finger MarkRow MarkTotals) (gs : List ℕ) → Around ms f h x l q gs → JoinMade ms ms₂ f₂ r (rows l ++ (x ∷ rows q)) (λ j. occ l j + (same h.at j + (occ q j + occ_list gs j))) 1
      joined l q gs A =
          let w : Put ms ms₁ h.at (Leaf x (totals_of_marks (x ∷ []))) = put A.within (W.writes A.within).1 in
          let M : Melt heft totals_of_marks itself ms₁ ms₂ f₂ r l (Some (a1 (leaf h.at x (totals_of_marks (x ∷ []))))) q gs 0 = C.melts itself l (Some (a1 (leaf h.at x (totals_of_marks (x ∷ []))))) q gs (record {
            left = A.left;
            between = refl;
            right = A.right;
            first = A.first;
            fit_l = frame w.off mark_mean l 0 (λ j. omega (arith, A.once j)) A.fit_l;
            fit_q = (w.at, refl);
            fit_r = frame w.off mark_mean q 0 (λ j. omega (arith, A.once j)) A.fit_q;
            chain = frame_chain w.off gs (λ j. omega (arith, A.once j)) A.chain;
            once = A.once;
            light = mark_light (rows l ++ (x ∷ rows q)) A.near A.small;
            small = A.small;
            long = A.long;
          }) in
          let Z = M.made in
          record {
            made = record {
              t' = Z.t';
              fs' = Z.fs';
              js = h.at ∷ Z.js;
              ok = Z.ok;
              first = Z.first;
              text = Z.text;
              fit = Z.fit;
              chain = Z.chain;
              kept = Z.kept;
              frame = off_more (λ j. occ l j + (same h.at j + (occ q j + occ_list gs j))) (λ j z. omega arith) (off_then w.off Z.frame);
              fresh = λ j z. calm_then (inr (w.off.reads j (omega arith))) (Z.fresh j (omega arith));
            };
            few = omega (arith, M.few);
          }
