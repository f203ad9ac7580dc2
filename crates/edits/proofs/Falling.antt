-- The piece that a search by an offset finds is the one in which the offset lies.
use Rattle.std.proofs.Common.{◌≡◌, ℕ, ◌-◌, ◌<◌, ◌≤◌, Bool, true, false, ltb, ◌⊎◌, List, [], ◌∷◌, ◌++◌, length, get_or, Some, None, Ok, Err, Option, Result, refl, ap, ◌∙◌, subst, inl, inr, ⊎_elim, arith}
use Rattle.std.proofs.lemmas.Bool.{ltb-true, ltb-false}
use Rattle.slots.specs.Ghost.{Finger, none, tree_of, rows, Fit}
use Rattle.slots.specs.Holds.{most}
use Rattle.slots.specs.Values.{flat, row_in}
use Rattle.slots.specs.declared.records.Record.{Record}
use Rattle.slots.specs.declared.records.Tree.{Tree}
use Rattle.slots.specs.declared.records.Unsound.{Unsound}
use Rattle.slots.proofs.Shapes.{ok_err, ok_same}
use Rattle.seek.specs.Post.{Searched}
use Rattle.seek.specs.Places.{Found, Finds}
use Rattle.pieces.specs.Rows.{bytes_of, AllGood, sizes}
use Rattle.pieces.specs.Sound.{TextValue, text_means, text_mean}
use Rattle.pieces.specs.declared.rows.PieceRow.{PieceRow}
use Rattle.pieces.proofs.RowParts.{sizes_append, all_append, all_left, all_right, flat_size, light}
use Rattle.edits.specs.Edges.{Falls, EdgeFound}
use Rattle.edits.specs.declared.edges.Edge.{Edge}

-- more than p bytes
abbrev pub past : {A : Type 0} → ℕ → TextValue A → Bool
past p v = ltb p v.left.left.bytes

module _ {A : Type 0} (am : List ℕ → A) (B : List ℕ) (p : ℕ) where
  pub past_no : (xs : List PieceRow) → AllGood B xs → (xs ≡ []) ⊎ (past p (text_mean am B xs) ≡ false) → sizes xs ≤ p
  past_no xs g early = ⊎_elim (λ e. omega (arith, ap sizes e)) (λ f. omega (arith, ltb-false p (length (flat (bytes_of B) xs)) f, flat_size B xs g)) early

  -- the row found is the one in which p lies
  unfoldable pub falls_at : (T xs : List PieceRow) (x : PieceRow) (ys : List PieceRow) → AllGood B T → T ≡ xs ++ (x ∷ ys)
      → (xs ≡ []) ⊎ (past p (text_mean am B xs) ≡ false) → past p (text_mean am B (xs ++ (x ∷ []))) ≡ true → Falls p T
  falls_at T xs x ys g text early late =
      let good : AllGood B (xs ++ (x ∷ ys)) = subst (AllGood B) text g in
      let good_x : AllGood B (xs ++ (x ∷ [])) = all_append B xs (x ∷ []) (all_left B xs (x ∷ ys) good) ((all_right B xs (x ∷ ys) good).0, tt) in
      let low : sizes xs ≤ p = past_no xs (all_left B xs (x ∷ ys) good) early in
      let high : p < length (flat (bytes_of B) (xs ++ (x ∷ []))) = ltb-true p (length (flat (bytes_of B) (xs ++ (x ∷ [])))) late in record {
        xs = xs;
        x = x;
        ys = ys;
        k = p - sizes xs;
        text = text;
        at = omega arith;
        within = omega (arith, flat_size B (xs ++ (x ∷ [])) good_x, sizes_append xs (x ∷ []));
      }

module _ {A : Type 0} {am : List ℕ → A} {rs : List (Record PieceRow (TextValue A))} {tr : Tree} (p : ℕ) {v w : TextValue A} {rf : Result (Option ℕ) Unsound}
    (start : v ≡ text_means am []) (S : Searched (λ _. 1) (text_means am) (past p) rs tr v w rf) where
  finds_of : (B : List ℕ) (t : Finger PieceRow (TextValue A)) → tree_of t ≡ tr → Fit (text_mean am B) rs t 0 → AllGood B (rows t) → length (rows t) ≤ most → Finds (text_means am) (past p) (bytes_of B) rs [] (rows t) w rf
  finds_of B t is fit g few = S.finds (bytes_of B) [] t is fit few (light B (rows t) g few) start

  pub edge_broken : {e : Unsound} {r : Result (Option Edge) Unsound} → rf ≡ Err e → EdgeFound am rs tr p r
  edge_broken bad = record { lies = λ B t is fit g few. ⊎_elim (λ n. absurd (ok_err n.0 bad)) (λ y. absurd (ok_err y.1 bad)) (finds_of B t is fit g few) }

  pub edge_none : rf ≡ Ok None → EdgeFound am rs tr p (Ok None)
  edge_none got = record { lies = λ B t is fit g few. ⊎_elim (λ n. inl (past_no am B p (rows t) g n.1.no, refl)) (λ y. absurd (some_none (ok_same y.1 got))) (finds_of B t is fit g few) }
    where
      some_none : {i : ℕ} → Some i ≡ None → ⊥
      some_none e = let z : ◌≡◌ {A = ℕ} 0 1 = cc in omega arith

  module _ {i : ℕ} {rr : Result PieceRow Unsound} (got : rf ≡ Ok (Some i)) (rd : rr ≡ row_in (get_or rs i none)) where
    found_of : (B : List ℕ) (t : Finger PieceRow (TextValue A)) → tree_of t ≡ tr → Fit (text_mean am B) rs t 0 → AllGood B (rows t) → length (rows t) ≤ most → Found (text_means am) (past p) (bytes_of B) rs [] (rows t) w i
    found_of B t is fit g few = ⊎_elim (λ n. absurd (none_some (ok_same n.0 got)))
        (λ y. subst (λ (j : ℕ). Found (text_means am) (past p) (bytes_of B) rs [] (rows t) w j) (same_slot (ok_same y.1 got)) y.2) (finds_of B t is fit g few)
      where
        none_some : {i : ℕ} → None ≡ Some i → ⊥
        none_some e = let z : ◌≡◌ {A = ℕ} 0 1 = cc in omega arith

        same_slot : {i j : ℕ} → Some i ≡ Some j → i ≡ j
        same_slot e = cc

    pub edge_no_row : {e : Unsound} {r : Result (Option Edge) Unsound} → rr ≡ Err e → EdgeFound am rs tr p r
    edge_no_row bad = record { lies = λ B t is fit g few. absurd (ok_err (rd ∙ ap row_in (found_of B t is fit g few).at.is) bad) }

    pub edge_found : {x : PieceRow} → rr ≡ Ok x → EdgeFound am rs tr p (Ok (Some (record { start = w.left.left.bytes; length = x.length })))
    unfolding falls_at found_of
    edge_found {x} got-x = record {
      lies = λ B t is fit g few.
          let F = found_of B t is fit g few in
          let falls : Falls p (rows t) = falls_at am B p (rows t) F.xs F.row F.ys g F.text F.past.no F.yes in
          let x-is : x ≡ F.row = ok_same got-x (rd ∙ ap row_in F.at.is) in
          let good : AllGood B F.xs = all_left B F.xs (F.row ∷ F.ys) (subst (AllGood B) F.text g) in
          let st : w.left.left.bytes ≡ sizes F.xs = ap (λ (q : TextValue A). q.left.left.bytes) F.past.place ∙ flat_size B F.xs good in
          inr (falls, edge_same st (ap (λ (q : PieceRow). q.length) x-is));
    }
      where
        edge_same : {a b c d : ℕ} → a ≡ b → c ≡ d → ◌≡◌ {A = Result (Option Edge) Unsound} (Ok (Some (record { start = a; length = c }))) (Ok (Some (record { start = b; length = d })))
        edge_same e f = cc
