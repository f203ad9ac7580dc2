-- The paths of join_between and concat_down. Assumes nothing.
use Rattle.std.proofs.Common.{sym, refl, ap, ◌∙◌, subst, append_assoc, arith, length-append}
use Rattle.std.proofs.lemmas.List.{append-nil}
use Rattle.measures.specs.Law.{heaviest}
use Rattle.std.specs.Prelude.{◌≡◌, List, [], ◌∷◌, ◌++◌, ℕ, suc, ◌+◌, ◌-◌, ◌≤◌, length, get_or}
use Rattle.std.specs.declared.option.Option.{Option}
use Rattle.std.specs.declared.option.Option.TheVariants.{None, Some}
use Rattle.std.specs.declared.result.Result.{Result}
use Rattle.std.specs.declared.result.Result.TheVariants.{Ok, Err}
use Rattle.tree.specs.Words.{Unsound, Link, Digit, Tree, Empty, Single, Deep, Record, Free, Side, Front, Back, Spine}
use Rattle.slots.specs.Ghost.{Arm, Finger, nil, deep, occ_list, head_of, none, digit_of, part_of, tree_of, rows_twig, rows_arm, rows_part, rows, occ_arm, occ_part, occ, At, FitPart, Fit, Chain, Off}
use Rattle.slots.specs.Sides.{pick}
use Rattle.slots.specs.Holds.{most, spare, Beside}
use Rattle.slots.specs.Values.{mean, wt, JoinedOk, value_in, spine_in}
use Rattle.slots.specs.Post.{Given, DigitValued}
use Rattle.tree.specs.Post.{LevelPut}
use Rattle.concat.specs.Post.{Nodes, Bundled, JoinedBetween, Extended, ExtendedPast, Meeting, Melt, Melted, Extension, Extends, Concat}
use Rattle.slots.proofs.Frames.{same_self, occ_list_append, calm_then, off_then, off_more, Put, put, put_calm, frame_at, frame_arm, frame, frame_chain}
use Rattle.slots.proofs.Shapes.{ok_err, ok_same, part_none, part_some, tree_empty, tree_single, tree_deep, at_level}
use Rattle.slots.proofs.Weights.{wt_append, join_rows}
use Rattle.slots.proofs.Depth.{few_levels}
use Rattle.slots.proofs.Joined.{deep_value}
use Rattle.slots.proofs.Ends.{part_four, wt_sided}
use Rattle.tree.proofs.Levels.{level_done}
use Rattle.concat.proofs.Extending.{stretch}

module _ {R I V : Type 0} {weigh : I → ℕ} {means : List I → V} {rs : List (Record R V)} {i j : ℕ} {p : Option Digit} {v r : Result V Unsound} where
  pub between_none : p ≡ None → v ≡ value_in (get_or rs i none) → JoinedOk weigh means v (value_in (get_or rs j none)) r → JoinedBetween weigh means rs i p j r
  between_none is va jo = record {
    joins = λ items xs P zs k ep fit vi vj light.
        part_none (λ P. wt weigh items xs + (wt weigh items (rows_part P) + wt weigh items zs) ≤ heaviest → r ≡ Ok (mean means items (xs ++ (rows_part P ++ zs))))
        (λ light. join_rows jo items xs zs (omega (arith, light, wt_append weigh items xs zs)) (va ∙ vi) vj) P (ep ∙ is) light;
  }

  pub between_some : {d : Digit} {w m : Result V Unsound} → p ≡ Some d → v ≡ value_in (get_or rs i none) → DigitValued weigh means rs d w → JoinedOk weigh means v w m → JoinedOk weigh means m (value_in (get_or rs j none)) r → JoinedBetween weigh means rs i p j r
  between_some {d} is va dv jo₁ jo₂ = record {
    joins = λ items xs P zs k ep fit vi vj light.
        part_some (λ P. FitPart (mean means items) rs P k → wt weigh items xs + (wt weigh items (rows_part P) + wt weigh items zs) ≤ heaviest → r ≡ Ok (mean means items (xs ++ (rows_part P ++ zs)))) d
        (λ A ea fa light.
        let l₁ = wt_append weigh items xs (rows_arm A) in
        join_rows jo₂ items (xs ++ rows_arm A) zs (omega (arith, light, l₁, wt_append weigh items (xs ++ rows_arm A) zs))
        (join_rows jo₁ items xs (rows_arm A) (omega (arith, light, l₁)) (va ∙ vi) (dv.values items A k ea fa (omega (arith, light)))) vj
        ∙ ap (λ q. Ok (mean means items q)) (append_assoc xs (rows_arm A) zs)) P (ep ∙ is) fit light;
  }

module _ {R I V : Type 0} {weigh : I → ℕ} {means : List I → V} {rs : List (Record R V)} {i j : ℕ} {p : Option Digit} {r : Result V Unsound} {e : Unsound} where
  pub between_no_first : Err e ≡ value_in (get_or rs i none) → JoinedBetween weigh means rs i p j r
  between_no_first bad = record { joins = λ items xs P zs k ep fit vi vj light. absurd (ok_err vi (sym bad)) }

  pub between_no_part : {d : Digit} → p ≡ Some d → DigitValued weigh means rs d (Err e) → JoinedBetween weigh means rs i p j r
  between_no_part {d} is dv = record {
    joins = λ items xs P zs k ep fit vi vj light.
        part_some (λ P. FitPart (mean means items) rs P k → wt weigh items xs + (wt weigh items (rows_part P) + wt weigh items zs) ≤ heaviest → r ≡ Ok (mean means items (xs ++ (rows_part P ++ zs)))) d
        (λ A ea fa light. absurd (ok_err (dv.values items A k ea fa (omega (arith, light))) refl)) P (ep ∙ is) fit light;
  }

-- the middles and the nodes between them
record Inner {R I V : Type 0} (weigh : I → ℕ) (means : List I → V) (items : R → List I) (rs rs₁ rs₂ : List (Record R V)) (f₁ f₂ : Link) (p : Result (Option Digit) Unsound) (q : Result Tree Unsound) (m : Finger R V) (B : Arm R V) (P : Option (Arm R V)) (G : Arm R V) (n : Finger R V) (fs : List ℕ) (k : ℕ) : Type 0 where
  pub N : Nodes weigh means items rs rs₁ f₁ p (rows_arm B ++ (rows_part P ++ rows_arm G)) (λ j. occ_arm B j + (occ_part P j + occ_arm G j)) fs 0 k
  pub W : Melt weigh means items rs₁ rs₂ f₂ q m N.W n N.fs' (suc k)
  pub off : Off rs rs₂ (λ o. occ m o + (occ_arm B o + (occ_part P o + (occ_arm G o + (occ n o + occ_list fs o)))))

module _ {R I V : Type 0} {weigh : I → ℕ} {means : List I → V} where
  -- the code names the tree that it matched by what it is
  module _ {rs rs' : List (Record R V)} {f f' : Link} {fuel : ℕ} {left right : Tree} {p : Option Digit} {r : Result Tree Unsound} where
    -- one side is nothing
    pub left_empty : left ≡ Empty → Extended weigh means rs rs' f f' fuel Front right p r → Melted weigh means rs rs' f f' fuel left p right r
    left_empty is ext = record {
      melts = λ items l P s fs k d h.
          tree_empty (λ l. Meeting weigh means items rs f fuel left p right l P s fs k d → Melt weigh means items rs rs' f' r l P s fs k)
          (λ h.
          let S = stretch ext items s P fs k d h.right_is h.part_is h.first h.fit_s h.fits h.chain (λ j. omega (arith, h.once j)) (omega (arith, h.light)) h.top_s h.fuelled h.long in
          let D = S.done in
          let A = D.made in
          record {
            made = record { t' = A.t'; fs' = A.fs'; js = A.js; ok = A.ok; first = A.first; text = A.text; fit = A.fit; chain = A.chain; kept = λ j. omega (arith, A.kept j); frame = off_more _ (λ j z. omega arith) A.frame; fresh = A.fresh };
            low_l = omega arith;
            low_s = D.low;
            high = λ e a b. omega (arith, D.high, part_four P);
            spent = omega (arith, D.spent);
            few = omega (arith, S.few);
          }) l (h.left_is ∙ is) h;
    }

    pub right_empty : right ≡ Empty → Extended weigh means rs rs' f f' fuel Back left p r → Melted weigh means rs rs' f f' fuel left p right r
    right_empty is ext = record {
      melts = λ items l P s fs k d h.
          tree_empty (λ s. Meeting weigh means items rs f fuel left p right l P s fs k d → Melt weigh means items rs rs' f' r l P s fs k)
          (λ h.
          let S = stretch ext items l P fs k d h.left_is h.part_is h.first h.fit_l h.fits h.chain (λ j. omega (arith, h.once j)) (omega (arith, h.light)) h.top_l h.fuelled h.long in
          let D = S.done in
          let A = D.made in
          record {
            made = record { t' = A.t'; fs' = A.fs'; js = A.js; ok = A.ok; first = A.first; text = A.text ∙ ap (λ q. rows l ++ q) (sym (append-nil (rows_part P))); fit = A.fit; chain = A.chain; kept = λ j. omega (arith, A.kept j); frame = off_more _ (λ j z. omega arith) A.frame; fresh = A.fresh };
            low_l = D.low;
            low_s = omega arith;
            high = λ e a b. omega (arith, D.high, part_four P);
            spent = omega (arith, D.spent);
            few = omega (arith, S.few);
          }) s (h.right_is ∙ is) h;
    }

    -- one side is one slot
    pub left_one : {x : ℕ} → left ≡ Single x → ExtendedPast weigh means rs rs' f f' fuel Front right p x r → Melted weigh means rs rs' f f' fuel left p right r
    left_one {x} is ext = record {
      melts = λ items l P s fs k d h.
          tree_single (λ l. Meeting weigh means items rs f fuel left p right l P s fs k d → Melt weigh means items rs rs' f' r l P s fs k) x
          (λ w ew h.
          let D = ext.extends items s P w fs k d h.right_is h.part_is ew h.first h.fit_s h.fits h.fit_l h.chain (λ j. omega (arith, h.once j)) h.light h.top_s h.fuelled h.long in
          let A = D.made in
          record {
            made = record { t' = A.t'; fs' = A.fs'; js = A.js; ok = A.ok; first = A.first; text = A.text; fit = A.fit; chain = A.chain; kept = λ j. omega (arith, A.kept j); frame = off_more _ (λ j z. omega arith) A.frame; fresh = A.fresh };
            low_l = omega arith;
            low_s = D.low;
            high = λ e a b. omega (arith, D.high);
            spent = omega (arith, D.spent);
            few = D.few;
          }) l (h.left_is ∙ is) h;
    }

    pub right_one : {x : ℕ} → right ≡ Single x → ExtendedPast weigh means rs rs' f f' fuel Back left p x r → Melted weigh means rs rs' f f' fuel left p right r
    right_one {x} is ext = record {
      melts = λ items l P s fs k d h.
          tree_single (λ s. Meeting weigh means items rs f fuel left p right l P s fs k d → Melt weigh means items rs rs' f' r l P s fs k) x
          (λ w ew h.
          let D = ext.extends items l P w fs k d h.left_is h.part_is ew h.first h.fit_l h.fits h.fit_s h.chain (λ j. omega (arith, h.once j)) (omega (arith, h.light)) h.top_l h.fuelled h.long in
          let A = D.made in
          record {
            made = record { t' = A.t'; fs' = A.fs'; js = A.js; ok = A.ok; first = A.first; text = A.text ∙ append_assoc (rows l) (rows_part P) (rows_twig w); fit = A.fit; chain = A.chain; kept = λ j. omega (arith, A.kept j); frame = off_more _ (λ j z. omega arith) A.frame; fresh = A.fresh };
            low_l = D.low;
            low_s = omega arith;
            high = λ e a b. omega (arith, D.high);
            spent = omega (arith, D.spent);
            few = D.few;
          }) s (h.right_is ∙ is) h;
    }

    pub no_left : {i : ℕ} {sp : Result Spine Unsound} {e : Unsound} → left ≡ Deep i → sp ≡ spine_in (get_or rs i none) → sp ≡ Err e → Melted weigh means rs rs' f f' fuel left p right r
    no_left {i} is rd bad = record {
      melts = λ items l P s fs k d h.
          tree_deep (λ l. Fit (mean means items) rs l k → Melt weigh means items rs rs' f' r l P s fs k) i
          (λ j v F m B ji fit. absurd (ok_err (rd ∙ ap (λ q. spine_in (get_or rs q none)) (sym ji) ∙ ap spine_in fit.0.is) bad)) l (h.left_is ∙ is) h.fit_l;
    }

    pub no_right : {j : ℕ} {sp : Result Spine Unsound} {e : Unsound} → right ≡ Deep j → sp ≡ spine_in (get_or rs j none) → sp ≡ Err e → Melted weigh means rs rs' f f' fuel left p right r
    no_right {j} is rd bad = record {
      melts = λ items l P s fs k d h.
          tree_deep (λ s. Fit (mean means items) rs s k → Melt weigh means items rs rs' f' r l P s fs k) j
          (λ i v F m B ij fit. absurd (ok_err (rd ∙ ap (λ q. spine_in (get_or rs q none)) (sym ij) ∙ ap spine_in fit.0.is) bad)) s (h.right_is ∙ is) h.fit_s;
    }

    pub no_fuel : fuel ≡ 0 → Melted weigh means rs rs' f f' fuel left p right r
    no_fuel is = record { melts = λ items l P s fs k d h. absurd (omega (arith, h.fuelled)) }

  -- both are levels
  module _ {rs rs₁ : List (Record R V)} {f f₁ : Link} {fuel i j : ℕ} {left right : Tree} {p : Option Digit} {back near : Digit} {b : Result (Option Digit) Unsound} (bun : Bundled weigh means rs rs₁ f f₁ back p near b) where
    nodes_go : (items : R → List I) (v v' : V) (F : Arm R V) (m : Finger R V) (B : Arm R V) (P : Option (Arm R V)) (G : Arm R V) (n : Finger R V) (L : Arm R V) (fs : List ℕ) (k d : ℕ) → digit_of B ≡ back → digit_of G ≡ near
        → Meeting weigh means items rs f fuel left p right (deep i v F m B) P (deep j v' G n L) fs k d
        → Nodes weigh means items rs rs₁ f₁ b (rows_arm B ++ (rows_part P ++ rows_arm G)) (λ j. occ_arm B j + (occ_part P j + occ_arm G j)) fs 0 k
    nodes_go items v v' F m B P G n L fs k d eb eg h =
        bun.bundles items B P G fs k eb h.part_is eg h.first h.fit_l.4 h.fits h.fit_s.2 h.chain (omega (arith, h.long)) (λ o. omega (arith, h.once o))
        (omega (arith, h.light, wt_sided weigh items Front i v F m B, wt_sided weigh items Front j v' G n L))

    module _ {rs₂ : List (Record R V)} {f₂ : Link} {middle inner : Tree} {nodes : Option Digit} {q : Result Tree Unsound} (got : b ≡ Ok nodes) (cat : Melted weigh means rs₁ rs₂ f₁ f₂ (fuel - 1) middle nodes inner q) where
      inner_go : (items : R → List I) (v v' : V) (F : Arm R V) (m : Finger R V) (B : Arm R V) (P : Option (Arm R V)) (G : Arm R V) (n : Finger R V) (L : Arm R V) (fs : List ℕ) (k d : ℕ) → digit_of B ≡ back → digit_of G ≡ near → tree_of m ≡ middle → tree_of n ≡ inner
          → Meeting weigh means items rs f fuel left p right (deep i v F m B) P (deep j v' G n L) fs k d → Inner weigh means items rs rs₁ rs₂ f₁ f₂ b q m B P G n fs k
      inner_go items v v' F m B P G n L fs k d eb eg em en h =
          let mn : List R → V = mean means items in
          let N₁ = nodes_go items v v' F m B P G n L fs k d eb eg h in
          let l₁ = wt_sided weigh items Front i v F m B in
          let l₂ = wt_sided weigh items Front j v' G n L in
          let l₃ : wt weigh items (rows_part N₁.W) ≡ wt weigh items (rows_arm B) + (wt weigh items (rows_part P) + wt weigh items (rows_arm G)) =
          ap (wt weigh items) N₁.text ∙ wt_append weigh items (rows_arm B) (rows_part P ++ rows_arm G) ∙ ap (λ o. wt weigh items (rows_arm B) + o) (wt_append weigh items (rows_part P) (rows_arm G)) in
          let W₁ = cat.melts items m N₁.W n N₁.fs' (suc k) (d - 1) (record {
            left_is = em;
            part_is = ok_same N₁.ok got;
            right_is = en;
            first = N₁.first;
            fit_l = frame N₁.frame mn m (suc k) (λ o. omega (arith, h.once o)) h.fit_l.3;
            fits = N₁.fits;
            fit_s = frame N₁.frame mn n (suc k) (λ o. omega (arith, h.once o)) h.fit_s.3;
            chain = N₁.chain;
            once = λ o. omega (arith, h.once o, N₁.kept o);
            light = omega (arith, h.light, l₁, l₂, l₃);
            top_l = omega (arith, h.top_l);
            top_s = omega (arith, h.top_s);
            fuelled = omega (arith, h.fuelled, h.top_l);
            long = omega (arith, h.long, h.top_l, N₁.spent, N₁.few, part_four N₁.W);
          }) in
          record { N = N₁; W = W₁; off = off_more _ (λ o z. omega (arith, z, N₁.kept o)) (off_then N₁.frame W₁.made.frame) }

      both_go : {rs₃ rs₄ : List (Record R V)} {f₃ : Link} {mt : Tree} {front last : Digit} {value : Result V Unsound} {r : Result Tree Unsound} {w : Result (Unit {0}) Unsound}
          → JoinedBetween weigh means rs i p j value → q ≡ Ok mt → Given rs₂ rs₃ f₂ f₃ j w → LevelPut rs₃ rs₄ i front mt last value r
          → (items : R → List I) (v v' : V) (F : Arm R V) (m : Finger R V) (B : Arm R V) (P : Option (Arm R V)) (G : Arm R V) (n : Finger R V) (L : Arm R V) (fs : List ℕ) (k d : ℕ)
          → digit_of F ≡ front → digit_of B ≡ back → digit_of G ≡ near → digit_of L ≡ last → tree_of m ≡ middle → tree_of n ≡ inner
          → Meeting weigh means items rs f fuel left p right (deep i v F m B) P (deep j v' G n L) fs k d → Melt weigh means items rs rs₄ f₃ r (deep i v F m B) P (deep j v' G n L) fs k
      both_go {rs₃} {rs₄} {f₃} jo went give lp items v v' F m B P G n L fs k d ef eb eg el em en h =
          let mn : List R → V = mean means items in
          let X = inner_go items v v' F m B P G n L fs k d eb eg em en h in
          let N = X.N in
          let W = X.W in
          let A = W.made in
          let off₂ = X.off in
          let g = give.gives (omega (arith, off₂.len, h.fit_s.0.within)) in
          let fr : Put rs₂ rs₃ j (Free f₂) = put (omega (arith, off₂.len, h.fit_s.0.within)) g.2 in
          let off₃ = off_then off₂ fr.off in
          let at₁ : At rs₃ j (Free (head_of A.fs')) = subst (λ o. At rs₃ j (Free o)) (sym A.first) fr.at in
          let T : List R = rows (deep i v F m B) ++ (rows_part P ++ rows (deep j v' G n L)) in
          let text₁ : (rows_arm F ++ rows A.t') ++ rows_arm L ≡ T = ap (λ o. (rows_arm F ++ o) ++ rows_arm L) (A.text ∙ ap (λ o. rows m ++ (o ++ rows n)) N.text) ∙ simp append_assoc in
          let val = jo.joins items (rows (deep i v F m B)) P (rows (deep j v' G n L)) k h.part_is h.fits (deep_value mn rs i v F m B k h.fit_l) (deep_value mn rs j v' G n L k h.fit_s) h.light in
          let e = level_done mn lp F A.t' L k T ef (ok_same A.ok went) el (omega (arith, off₃.len, h.fit_l.0.within))
          (frame_arm off₃ mn F k (λ o. omega (arith, h.once o)) h.fit_l.2)
          (frame fr.off mn A.t' (suc k) (λ o. omega (arith, h.once o, N.kept o, A.kept o)) A.fit)
          (frame_arm off₃ mn L k (λ o. omega (arith, h.once o)) h.fit_s.4)
          val text₁ (λ o. omega (arith, h.once o, N.kept o, A.kept o)) in
          let la = length-append N.js A.js in
          record {
            made = record {
              t' = deep i e.v F A.t' L;
              fs' = j ∷ A.fs';
              js = N.js ++ A.js;
              ok = e.ok;
              first = sym g.1;
              text = text₁;
              fit = e.fit;
              chain = (
                frame_at e.off j _ (omega (arith, same_self j, h.once j)) at₁,
                frame_chain e.off A.fs' (λ o. omega (arith, h.once o, N.kept o, A.kept o)) (frame_chain fr.off A.fs' (λ o. omega (arith, h.once o, N.kept o, A.kept o)) A.chain),
              );
              kept = λ o. omega (arith, N.kept o, A.kept o);
              frame = off_more _ (λ o z. omega arith) (off_then off₃ e.off);
              fresh = λ o z. calm_then (N.fresh o (omega (arith, z, occ_list_append N.js A.js o))) (calm_then (A.fresh o (omega (arith, z, occ_list_append N.js A.js o))) (calm_then (put_calm fr refl o) (e.calm o)));
            };
            low_l = omega (arith, W.low_l);
            low_s = omega (arith, W.low_s);
            high = λ c a b. omega (arith, W.high (c - 1) (omega (arith, a)) (omega (arith, b)), a);
            spent = omega (arith, N.spent, W.spent, la);
            few = omega (arith, N.few, part_four N.W, W.few, la);
          }

  module _ {rs : List (Record R V)} {f : Link} {fuel i j : ℕ} {left right : Tree} {p : Option Digit} {sp₁ sp₂ : Result Spine Unsound} {a b : Spine}
      (left_is : left ≡ Deep i) (right_is : right ≡ Deep j) (rd₁ : sp₁ ≡ spine_in (get_or rs i none)) (is₁ : sp₁ ≡ Ok a) (rd₂ : sp₂ ≡ spine_in (get_or rs j none)) (is₂ : sp₂ ≡ Ok b) where
    at_levels : {rs' : List (Record R V)} {f' : Link} {r : Result Tree Unsound}
        → ((items : R → List I) (v v' : V) (F : Arm R V) (m : Finger R V) (B : Arm R V) (P : Option (Arm R V)) (G : Arm R V) (n : Finger R V) (L : Arm R V) (fs : List ℕ) (k d : ℕ)
        → digit_of F ≡ a.front → digit_of B ≡ a.back → digit_of G ≡ b.front → digit_of L ≡ b.back → tree_of m ≡ a.middle → tree_of n ≡ b.middle
        → Meeting weigh means items rs f fuel left p right (deep i v F m B) P (deep j v' G n L) fs k d → Melt weigh means items rs rs' f' r (deep i v F m B) P (deep j v' G n L) fs k)
        → Melted weigh means rs rs' f f' fuel left p right r
    at_levels {rs'} {f'} {r} go = record {
      melts = λ items l P s fs k d h.
          at_level rs rd₁ is₁ (λ l. Meeting weigh means items rs f fuel left p right l P s fs k d → Melt weigh means items rs rs' f' r l P s fs k)
          (λ v F m B ef em eb h.
          at_level rs rd₂ is₂ (λ s. Meeting weigh means items rs f fuel left p right (deep i v F m B) P s fs k d → Melt weigh means items rs rs' f' r (deep i v F m B) P s fs k)
          (λ v' G n L eg en el h. go items v v' F m B P G n L fs k d ef eb eg el em en h)
          (mean means items) s k h.fit_s (h.right_is ∙ right_is) h)
          (mean means items) l k h.fit_l (h.left_is ∙ left_is) h;
    }

    module _ {rs₁ : List (Record R V)} {f₁ : Link} {c : Result (Option Digit) Unsound} (bun : Bundled weigh means rs rs₁ f f₁ a.back p b.front c) where
      pub no_nodes : {rs' : List (Record R V)} {f' : Link} {e : Unsound} {r : Result Tree Unsound} → c ≡ Err e → Melted weigh means rs rs' f f' fuel left p right r
      no_nodes bad = at_levels (λ items v v' F m B P G n L fs k d ef eb eg el em en h. absurd (ok_err (nodes_go bun items v v' F m B P G n L fs k d eb eg h).ok bad))

      module _ {rs₂ : List (Record R V)} {f₂ : Link} {nodes : Option Digit} {q : Result Tree Unsound} (got : c ≡ Ok nodes) (cat : Melted weigh means rs₁ rs₂ f₁ f₂ (fuel - 1) a.middle nodes b.middle q) where
        pub no_middle : {rs' : List (Record R V)} {f' : Link} {e : Unsound} {r : Result Tree Unsound} → q ≡ Err e → Melted weigh means rs rs' f f' fuel left p right r
        no_middle bad = at_levels (λ items v v' F m B P G n L fs k d ef eb eg el em en h. absurd (ok_err (inner_go bun got cat items v v' F m B P G n L fs k d eb eg em en h).W.made.ok bad))

        pub no_gift : {rs₃ rs' : List (Record R V)} {f₃ f' : Link} {w : Result (Unit {0}) Unsound} {e : Unsound} {r : Result Tree Unsound} → Given rs₂ rs₃ f₂ f₃ j w → w ≡ Err e → Melted weigh means rs rs' f f' fuel left p right r
        no_gift give bad = at_levels (λ items v v' F m B P G n L fs k d ef eb eg el em en h.
            let X = inner_go bun got cat items v v' F m B P G n L fs k d eb eg em en h in
            absurd (ok_err (give.gives (omega (arith, X.off.len, h.fit_s.0.within))).0 bad))

        pub both : {rs₃ rs₄ : List (Record R V)} {f₃ : Link} {mt : Tree} {value : Result V Unsound} {r : Result Tree Unsound} {w : Result (Unit {0}) Unsound}
            → JoinedBetween weigh means rs i p j value → q ≡ Ok mt → Given rs₂ rs₃ f₂ f₃ j w → LevelPut rs₃ rs₄ i a.front mt b.back value r → Melted weigh means rs rs₄ f f₃ fuel left p right r
        both jo went give lp = at_levels (λ items v v' F m B P G n L fs k d ef eb eg el em en h. both_go bun got cat jo went give lp items v v' F m B P G n L fs k d ef eb eg el em en h)

module _ {R I V : Type 0} {weigh : I → ℕ} {means : List I → V} where
  pub concats : {rs rs' : List (Record R V)} {f f' : Link} {left right : Tree} {p : Option Digit} {r : Result Tree Unsound} → Melted weigh means rs rs' f f' 16 left p right r → Concat weigh means rs rs' f f' left p right r
  concats {rs} M = record {
    melts = λ items l Q s fs h.
        let a₁ = length-append (rows l) (rows_part Q ++ rows s) in
        let a₂ = length-append (rows_part Q) (rows s) in
        M.melts items l Q s fs 0 11 (record {
          left_is = h.left;
          part_is = h.between;
          right_is = h.right;
          first = h.first;
          fit_l = h.fit_l;
          fits = h.fit_q;
          fit_s = h.fit_r;
          chain = h.chain;
          once = h.once;
          light = omega (arith, h.light, wt_append weigh items (rows l) (rows_part Q ++ rows s), wt_append weigh items (rows_part Q) (rows s));
          top_l = few_levels (mean means items) rs l h.fit_l (omega (arith, h.small, a₁));
          top_s = few_levels (mean means items) rs s h.fit_r (omega (arith, h.small, a₁, a₂));
          fuelled = omega arith;
          long = omega (arith, h.long);
        });
  }

  stretched : {rs rs' : List (Record R V)} {f f' : Link} {s : Side} {tr : Tree} {p : Option Digit} {r : Result Tree Unsound} → Extended weigh means rs rs' f f' 16 s tr p r
      → (items : R → List I) (t : Finger R V) (Q : Option (Arm R V)) (fs : List ℕ) → tree_of t ≡ tr → part_of Q ≡ p → head_of fs ≡ f
      → Fit (mean means items) rs t 0 → FitPart (mean means items) rs Q 0 → Chain rs fs → ((i : ℕ) → occ t i + (occ_part Q i + occ_list fs i) ≤ 1)
      → wt weigh items (rows_part Q) + wt weigh items (rows t) ≤ heaviest → length (rows t) ≤ most → spare ≤ length fs → Extension weigh means items rs rs' f' s r t Q fs
  stretched {rs} {s = s} ext items t Q fs et eq first fit fits chain once light small long =
      let S = stretch ext items t Q fs 0 11 et eq first fit fits chain once light (few_levels (mean means items) rs t fit small) (omega arith) (omega (arith, long)) in
      let D = S.done in
      record { made = D.made; low = D.low; high = D.high; spent = D.spent; few = S.few; fewer = S.fewer }

  pub extends : {rs rs' : List (Record R V)} {f f' : Link} {s : Side} {tr : Tree} {p : Option Digit} {r : Result Tree Unsound} → Extended weigh means rs rs' f f' 16 s tr p r → Extends weigh means rs rs' f f' s tr p r
  extends {rs} {rs'} {f} {f'} {s} {tr} {p} {r} ext = record { extends = λ items t Q fs h. go s ext items t Q fs h }
    where
      go : (s : Side) → Extended weigh means rs rs' f f' 16 s tr p r → (items : R → List I) (t : Finger R V) (Q : Option (Arm R V)) (fs : List ℕ)
          → Beside weigh means items rs f (pick s Empty tr) p (pick s tr Empty) (pick s nil t) Q (pick s t nil) fs → Extension weigh means items rs rs' f' s r t Q fs
      go Front ext items t Q fs h = stretched ext items t Q fs h.right h.between h.first h.fit_r h.fit_q h.chain (λ j. omega (arith, h.once j))
          (omega (arith, h.light, wt_append weigh items (rows_part Q) (rows t))) (omega (arith, h.small, length-append (rows_part Q) (rows t))) h.long
      go Back ext items t Q fs h = stretched ext items t Q fs h.left h.between h.first h.fit_l h.fit_q h.chain (λ j. omega (arith, h.once j))
          (omega (arith, h.light, wt_append weigh items (rows t) (rows_part Q ++ []), wt_append weigh items (rows_part Q) [])) (omega (arith, h.small, length-append (rows t) (rows_part Q ++ []))) h.long

  -- the slots as the arena left them
  pub extends_at : {rs rs₁ rs' : List (Record R V)} {f f' : Link} {s : Side} {t : Tree} {p : Option Digit} {r : Result Tree Unsound} → rs₁ ≡ rs' → Extends weigh means rs rs₁ f f' s t p r → Extends weigh means rs rs' f f' s t p r
  extends_at {rs} {f = f} {f'} {s} {t} {p} {r} is made = subst (λ q. Extends weigh means rs q f f' s t p r) is made

  pub concats_at : {rs rs₁ rs' : List (Record R V)} {f f' : Link} {left right : Tree} {p : Option Digit} {r : Result Tree Unsound} → rs₁ ≡ rs' → Concat weigh means rs rs₁ f f' left p right r → Concat weigh means rs rs' f f' left p right r
  concats_at {rs} {f = f} {f'} {left} {right} {p} {r} is made = subst (λ q. Concat weigh means rs q f f' left p right r) is made
