-- The paths of the split. Assumes nothing.
use Rattle.std.proofs.Common.{sym, refl, ap, ◌∙◌, subst, inl, inr, ⊎_elim, append_assoc, arith}
use Rattle.std.proofs.lemmas.List.{append-nil}
use Rattle.measures.specs.Law.{weights, heaviest, Keeps}
use Rattle.std.specs.Prelude.{◌≡◌, Bool, true, false, List, [], ◌∷◌, ◌++◌, ◌⊎◌, ℕ, suc, ◌+◌, ◌-◌, ◌≤◌, ◌<◌, length, get_or}
use Rattle.std.specs.declared.option.Option.{Option}
use Rattle.std.specs.declared.option.Option.TheVariants.{None, Some}
use Rattle.std.specs.declared.result.Result.{Result}
use Rattle.std.specs.declared.result.Result.TheVariants.{Ok, Err}
use Rattle.split.specs.Words.{Unsound, Link, Tree, Empty, Single, Deep, Record, Free, Leaf, Front, Back, Spine, Cut}
use Rattle.slots.specs.Ghost.{Twig, leaf, two, three, Arm, Finger, nil, one, deep, same, occ_list, head_of, none, root, digit_of, tree_of, rows_twig, rows_arm, rows_part, rows, levels, occ_twig, occ_arm, occ_part, occ, At, FitTwig, Calm, Off}
use Rattle.slots.specs.Values.{flat, mean, wt, spine_in}
use Rattle.slots.proofs.Depth.{few_levels}
use Rattle.slots.proofs.Frames.{calm_then, off_refl, off_then, off_more, frame_twig, frame_arm, frame, frame_chain}
use Rattle.slots.proofs.Joined.{twig_value}
use Rattle.slots.proofs.Shapes.{ok_err, ok_same, tree_empty, tree_single, at_level}
use Rattle.slots.proofs.Weights.{wt_append}
use Rattle.tree.specs.Post.{Has}
use Rattle.seek.specs.Places.{upto, Past}
use Rattle.seek.specs.Post.{cut_of, Passes, Passed, TreePassed, Tries, Picked}
use Rattle.seek.proofs.Finding.{no_level}
use Rattle.seek.proofs.Moves.{on, light_mid, light_front, light_back, arm_some, past_none, past_then, some_turn, yes_none, never}
use Rattle.split.specs.declared.halves.Halves.{Halves}
use Rattle.split.specs.Post.{halves, Halved, Edged, Rejoined, Reopen, Reopened, Cleft, Uncut, Splits, Parted, SplitAt}

module _ {R I V : Type 0} {weigh : I → ℕ} {means : List I → V} {says : V → Bool} where
  pub split_empty : {rs : List (Record R V)} {f : Link} {fuel : ℕ} {tr : Tree} {p : V} → tr ≡ Empty → Splits weigh means says rs rs f f fuel tr p p (Ok None)
  split_empty {rs} {f} {p = p} is = record {
    splits = λ items v t fs k h low light long at.
        tree_empty (λ t. Uncut weigh means says items rs rs f f v p (Ok None) t ⊎ Cleft weigh means says items rs rs f v p (Ok None) t fs k) (inl (refl, refl, refl, past_none items v at)) t (h.tree ∙ is);
  }

  module _ {rs : List (Record R V)} {f : Link} {fuel x : ℕ} {tr : Tree} {p p' : V} {q : Result Bool Unsound} (is : tr ≡ Single x) (pass : Passed weigh means says rs x p p' q) where
    at_single : {rs' : List (Record R V)} {f' : Link} {r : Result (Option Halves) Unsound}
        → ((items : R → List I) (v : List I) (u : Twig R V) (fs : List ℕ) (k : ℕ) → root u ≡ x → Has weigh means items rs f tr (one u) fs k → p ≡ means v → Passes weigh means says items v (rows_twig u) p p' q
        → Uncut weigh means says items rs rs' f f' v p' r (one u) ⊎ Cleft weigh means says items rs rs' f' v p' r (one u) fs k)
        → Splits weigh means says rs rs' f f' fuel tr p p' r
    at_single {rs'} {f'} {r} go = record {
      splits = λ items v t fs k h low light long at.
          tree_single (λ t. Has weigh means items rs f tr t fs k → weights weigh (upto items v (rows t)) ≤ heaviest → Uncut weigh means says items rs rs' f f' v p' r t ⊎ Cleft weigh means says items rs rs' f' v p' r t fs k) x
          (λ u e h l. go items v u fs k e h at (pass.passes items v (rows_twig u) (twig_value (mean means items) rs u k x e h.fit) l at)) t (h.tree ∙ is) h light;
    }

    pub split_single_err : {rs' : List (Record R V)} {f' : Link} {e : Unsound} {r : Result (Option Halves) Unsound} → q ≡ Err e → Splits weigh means says rs rs' f f' fuel tr p p' r
    split_single_err bad = at_single (λ items v u fs k e h at o. ⊎_elim (λ w. absurd (ok_err w.0 bad)) (λ w. absurd (ok_err w.0 bad)) o)

    pub split_single_no : {b : Bool} → q ≡ Ok b → b ≡ false → Splits weigh means says rs rs f f fuel tr p p' (Ok None)
    split_single_no qb n = at_single (λ items v u fs k e h at o. ⊎_elim (λ w. let z₁ = w.0 in absurd (let z : ◌≡◌ {A = ℕ} 0 1 = cc in omega arith)) (λ w. inl (refl, refl, refl, w.1)) o)

    pub split_single_yes : {b : Bool} {s : Halves} → q ≡ Ok b → b ≡ true → s ≡ halves Front Empty x Empty → Splits weigh means says rs rs f f fuel tr p p' (Ok (Some s))
    split_single_yes {s = s} qb y s-is = at_single (λ items v u fs k e h at o.
        ⊎_elim
        (λ w. inr (record {
          l = nil;
          u = u;
          q = nil;
          fs' = fs;
          ok = ap (λ q. Ok (Some q)) (s-is ∙ ap (λ q. halves Front Empty q Empty) (sym e));
          first = h.first;
          text = sym (append-nil (rows_twig u));
          past = past_none items v (w.1 ∙ at);
          yes = ap (λ q. says (means (q ++ flat items (rows_twig u)))) (append-nil v) ∙ w.2;
          fit_l = tt;
          fit_u = h.fit;
          fit_r = tt;
          chain = h.chain;
          kept = λ j. omega arith;
          frame = off_refl;
          high_l = omega arith;
          high_r = omega arith;
          spent = omega arith;
          calm = λ j. inr refl;
        }))
        (λ w. let z₁ = w.0 in absurd (let z : ◌≡◌ {A = ℕ} 0 1 = cc in omega arith)) o)

  -- the halves of a level and the twig between them
  cleft_from : {rs rs₁ rs' : List (Record R V)} {f' : Link} {r : Result (Option Halves) Unsound} {n top len k : ℕ} {p' : V} (items : R → List I) (v : List I) (t : Finger R V) (fs : List ℕ) (T U : List R) (τ₁ τ : ℕ → ℕ) (u : Twig R V)
      → Off rs rs₁ τ₁ → ((j : ℕ) → Calm (get_or rs j none) (get_or rs₁ j none)) → Halved weigh means items rs₁ rs' f' r n T U τ top len k
      → root u ≡ n → FitTwig (mean means items) rs₁ u k → rows t ≡ T ++ (rows_twig u ++ U)
      → Past means says items v T p' → says (means (upto items (upto items v T) (rows_twig u))) ≡ true
      → ((j : ℕ) → occ_twig u j + τ j ≡ occ t j + occ_list fs j) → ((j : ℕ) → occ t j + occ_list fs j ≤ 1) → ((j : ℕ) → occ t j + occ_list fs j ≡ 0 → τ₁ j ≡ 0)
      → top ≤ levels t → length fs ≤ len + 1 → Cleft weigh means says items rs rs' f' v p' r t fs k
  cleft_from {k = k} {p' = p'} items v t fs T U τ₁ τ u off calm H eu fu text past sure sum once le lo hi = record {
    l = H.l;
    u = u;
    q = H.q;
    fs' = H.fs';
    ok = H.ok ∙ ap (λ (x : ℕ). Ok (Some (record { left = tree_of H.l; at = x; right = tree_of H.q }))) (sym eu);
    first = H.first;
    text = text ∙ ap (λ x. x ++ (rows_twig u ++ U)) (sym H.text_l) ∙ ap (λ x. rows H.l ++ (rows_twig u ++ x)) (sym H.text_r);
    past = subst (λ x. Past means says items v x p') (sym H.text_l) past;
    yes = subst (λ x. says (means (upto items (upto items v x) (rows_twig u))) ≡ true) (sym H.text_l) sure;
    fit_l = H.fit_l;
    fit_u = frame_twig H.frame (mean means items) u k (λ j. omega (arith, sum j, once j)) fu;
    fit_r = H.fit_r;
    chain = H.chain;
    kept = λ j. omega (arith, H.kept j, sum j);
    frame = off_more _ (λ j z. omega (arith, le j z, sum j)) (off_then off H.frame);
    high_l = omega (arith, H.high_l);
    high_r = omega (arith, H.high_r);
    spent = omega (arith, H.more);
    calm = λ j. calm_then (calm j) (H.calm j);
  }

  module _ {rs : List (Record R V)} {f : Link} {fuel i : ℕ} {tr : Tree} {p : V} {sp : Result Spine Unsound} (deep_is : tr ≡ Deep i) (rd : sp ≡ spine_in (get_or rs i none)) where
    pub split_no_level : {rs' : List (Record R V)} {f' : Link} {p' : V} {e : Unsound} {r : Result (Option Halves) Unsound} → sp ≡ Err e → Splits weigh means says rs rs' f f' fuel tr p p' r
    split_no_level bad = record { splits = λ items v t fs k h low light long at. absurd (no_level (mean means items) rs k rd bad t (h.tree ∙ deep_is) h.fit) }

    module _ {level : Spine} {p₁ : V} {q : Result (Option Cut) Unsound} (got : sp ≡ Ok level) (pk : Picked weigh means says rs level.front p p₁ q) where
      -- every path at a level: what was found in the front digit
      at_front : {rs' : List (Record R V)} {f' : Link} {p' : V} {r : Result (Option Halves) Unsound}
          → ((items : R → List I) (v : List I) (fs : List ℕ) (k : ℕ) (value : V) (F : Arm R V) (m : Finger R V) (B : Arm R V) → digit_of F ≡ level.front → tree_of m ≡ level.middle → digit_of B ≡ level.back
          → Has weigh means items rs f tr (deep i value F m B) fs k → suc (levels m) ≤ fuel → weights weigh (upto items v ((rows_arm F ++ rows m) ++ rows_arm B)) ≤ heaviest → 0 < length fs → Tries weigh means says items rs v F k (rows_arm F) p₁ q
          → Uncut weigh means says items rs rs' f f' v p' r (deep i value F m B) ⊎ Cleft weigh means says items rs rs' f' v p' r (deep i value F m B) fs k)
          → Splits weigh means says rs rs' f f' fuel tr p p' r
      at_front {rs'} {f'} {p'} {r} go = record {
        splits = λ items v t fs k h low light long at.
            at_level rs rd got (λ t. Has weigh means items rs f tr t fs k → levels t ≤ fuel → weights weigh (upto items v (rows t)) ≤ heaviest → Uncut weigh means says items rs rs' f f' v p' r t ⊎ Cleft weigh means says items rs rs' f' v p' r t fs k)
            (λ value F m B ef em eb h lo l.
            go items v fs k value F m B ef em eb h lo l long
            (pk.picks items v F k ef h.fit.2 (light_front weigh items v ((rows_arm F ++ rows m) ++ rows_arm B) l (rows_arm F) (rows m ++ rows_arm B) (append_assoc (rows_arm F) (rows m) (rows_arm B))) at))
            (mean means items) t k h.fit (h.tree ∙ deep_is) h low light;
      }

      pub split_err : {rs' : List (Record R V)} {f' : Link} {p' : V} {e : Unsound} {r : Result (Option Halves) Unsound} → q ≡ Err e → Splits weigh means says rs rs' f f' fuel tr p p' r
      split_err bad = at_front (λ items v fs k value F m B ef em eb h lo l long o. ⊎_elim (λ w. absurd (ok_err w.0 bad)) (λ s. absurd (ok_err s.ok bad)) o)

      pub split_front : {rs' : List (Record R V)} {f' : Link} {fo : Option Cut} {cut : Cut} {r : Result (Option Halves) Unsound} → q ≡ Ok fo → fo ≡ Some cut
          → Edged weigh means rs rs' f f' fuel Front i level cut r → Splits weigh means says rs rs' f f' fuel tr p p₁ r
      split_front {cut = cut} ok some edge = at_front (λ items v fs k value F m B ef em eb h lo l long o.
          ⊎_elim (λ w. let x = w.0 in absurd (let z : ◌≡◌ {A = ℕ} 0 1 = cc in omega arith))
          (λ s.
          let x = s.ok in
          let L : Option (Arm R V) = s.L in
          let Q : Option (Arm R V) = s.Q in
          let u : Twig R V = s.u in
          let cut-is : cut ≡ cut_of L u Q = cc in
          let text : (rows_arm F ++ rows m) ++ rows_arm B ≡ rows_part L ++ (rows_twig u ++ (rows_part Q ++ (rows m ++ rows_arm B))) = ap (λ a. (a ++ rows m) ++ rows_arm B) s.slit.text ∙ simp append_assoc in
          let light = subst (λ a. wt weigh items a ≤ heaviest) text h.light in
          let w₁ = wt_append weigh items (rows_part L) (rows_twig u ++ (rows_part Q ++ (rows m ++ rows_arm B))) in
          let w₂ = wt_append weigh items (rows_twig u) (rows_part Q ++ (rows m ++ rows_arm B)) in
          let w₃ = wt_append weigh items (rows_part Q) (rows m ++ rows_arm B) in
          let w₄ = wt_append weigh items (rows m) (rows_arm B) in
          let E = edge.edges items L Q m B fs k (sym (ap (λ (c : Cut). c.left) cut-is)) (sym (ap (λ (c : Cut). c.right) cut-is)) em eb s.slit.fit_l s.slit.fit_r (record {
            first = h.first;
            within = h.fit.0.within;
            fit_m = h.fit.3;
            fit_b = h.fit.4;
            chain = h.chain;
            light = omega (arith, light, w₁, w₂, w₃, w₄);
            once = λ j. omega (arith, h.once j, s.slit.occs j);
          }) (omega arith) (omega (arith, light, w₁)) (λ j. omega (arith, h.once j, s.slit.occs j)) long in
          inr (cleft_from items v (deep i value F m B) fs (rows_part L) (rows_part Q ++ (rows m ++ rows_arm B)) (λ j. 0) (λ j. occ_part L j + (same i j + (occ_part Q j + (occ m j + (occ_arm B j + occ_list fs j))))) u
          off_refl (λ j. inr refl) E (sym (ap (λ (c : Cut). c.at) cut-is)) s.slit.fit_u text s.past s.yes
          (λ j. omega (arith, s.slit.occs j)) h.once (λ j z. refl) (omega arith) (omega arith))) o)

      module _ {fo : Option Cut} {p₂ : V} {q₂ : Result Bool Unsound} (ok : q ≡ Ok fo) (nay : fo ≡ None) (pass : TreePassed weigh means says rs level.middle p₁ p₂ q₂) where
        at_middle : {rs' : List (Record R V)} {f' : Link} {p' : V} {r : Result (Option Halves) Unsound}
            → ((items : R → List I) (v : List I) (fs : List ℕ) (k : ℕ) (value : V) (F : Arm R V) (m : Finger R V) (B : Arm R V) → digit_of F ≡ level.front → tree_of m ≡ level.middle → digit_of B ≡ level.back
            → Has weigh means items rs f tr (deep i value F m B) fs k → suc (levels m) ≤ fuel → weights weigh (upto items v ((rows_arm F ++ rows m) ++ rows_arm B)) ≤ heaviest → 0 < length fs → Past means says items v (rows_arm F) p₁
            → Passes weigh means says items (upto items v (rows_arm F)) (rows m) p₁ p₂ q₂
            → Uncut weigh means says items rs rs' f f' v p' r (deep i value F m B) ⊎ Cleft weigh means says items rs rs' f' v p' r (deep i value F m B) fs k)
            → Splits weigh means says rs rs' f f' fuel tr p p' r
        at_middle go = at_front (λ items v fs k value F m B ef em eb h lo l long o.
            ⊎_elim
            (λ w. go items v fs k value F m B ef em eb h lo l long w.1
            (pass.passes items (upto items v (rows_arm F)) m (suc k) em h.fit.3
            (light_mid weigh items v ((rows_arm F ++ rows m) ++ rows_arm B) l (rows_arm F) (rows m) (rows_arm B) (append_assoc (rows_arm F) (rows m) (rows_arm B))) w.1.place))
            (λ s. let x = s.ok in absurd (let z : ◌≡◌ {A = ℕ} 0 1 = cc in omega arith)) o)

        pub split_mid_err : {rs' : List (Record R V)} {f' : Link} {p' : V} {e : Unsound} {r : Result (Option Halves) Unsound} → q₂ ≡ Err e → Splits weigh means says rs rs' f f' fuel tr p p' r
        split_mid_err bad = at_middle (λ items v fs k value F m B ef em eb h lo l long past o. ⊎_elim (λ w. absurd (ok_err w.0 bad)) (λ w. absurd (ok_err w.0 bad)) o)

        pub split_no_fuel : {rs' : List (Record R V)} {f' : Link} {p' : V} {r : Result (Option Halves) Unsound} → fuel ≡ 0 → Splits weigh means says rs rs' f f' fuel tr p p' r
        split_no_fuel none_left = at_middle (λ items v fs k value F m B ef em eb h lo l long past o. absurd (omega arith))

        -- past the middle
        module _ {b : Bool} {p₃ : V} {q₃ : Result (Option Cut) Unsound} (qb : q₂ ≡ Ok b) (is-no : b ≡ false) (pk₃ : Picked weigh means says rs level.back p₂ p₃ q₃) where
          at_back : {rs' : List (Record R V)} {f' : Link} {r : Result (Option Halves) Unsound}
              → ((items : R → List I) (v : List I) (fs : List ℕ) (k : ℕ) (value : V) (F : Arm R V) (m : Finger R V) (B : Arm R V) → digit_of F ≡ level.front → tree_of m ≡ level.middle
              → Has weigh means items rs f tr (deep i value F m B) fs k → suc (levels m) ≤ fuel → 0 < length fs → Past means says items v (rows_arm F ++ rows m) p₂
              → Tries weigh means says items rs (upto items v (rows_arm F ++ rows m)) B k (rows_arm B) p₃ q₃
              → Uncut weigh means says items rs rs' f f' v p₃ r (deep i value F m B) ⊎ Cleft weigh means says items rs rs' f' v p₃ r (deep i value F m B) fs k)
              → Splits weigh means says rs rs' f f' fuel tr p p₃ r
          at_back go = at_middle (λ items v fs k value F m B ef em eb h lo l long past o.
              ⊎_elim (λ w. let x = w.0 in absurd (let z : ◌≡◌ {A = ℕ} 0 1 = cc in omega arith))
              (λ w.
              let past₁ = past_then items v (rows_arm F) (rows m) past w.1 in
              go items v fs k value F m B ef em h lo long past₁
              (pk₃.picks items (upto items v (rows_arm F ++ rows m)) B k eb h.fit.4 (light_back weigh items v ((rows_arm F ++ rows m) ++ rows_arm B) l (rows_arm F ++ rows m) (rows_arm B) refl) past₁.place)) o)

          pub split_back_err : {rs' : List (Record R V)} {f' : Link} {e : Unsound} {r : Result (Option Halves) Unsound} → q₃ ≡ Err e → Splits weigh means says rs rs' f f' fuel tr p p₃ r
          split_back_err bad = at_back (λ items v fs k value F m B ef em h lo long past o. ⊎_elim (λ w. absurd (ok_err w.0 bad)) (λ s. absurd (ok_err s.ok bad)) o)

          pub split_none : {o₃ : Option Cut} → q₃ ≡ Ok o₃ → o₃ ≡ None → Splits weigh means says rs rs f f fuel tr p p₃ (Ok None)
          split_none ok₃ is₃ = at_back (λ items v fs k value F m B ef em h lo long past o.
              ⊎_elim (λ w. inl (refl, refl, refl, past_then items v (rows_arm F ++ rows m) (rows_arm B) past w.1)) (λ s. let x = s.ok in absurd (let z : ◌≡◌ {A = ℕ} 0 1 = cc in omega arith)) o)

          pub split_back : {rs' : List (Record R V)} {f' : Link} {o₃ : Option Cut} {cut : Cut} {r : Result (Option Halves) Unsound} → q₃ ≡ Ok o₃ → o₃ ≡ Some cut
              → Edged weigh means rs rs' f f' fuel Back i level cut r → Splits weigh means says rs rs' f f' fuel tr p p₃ r
          split_back {cut = cut} ok₃ is₃ edge = at_back (λ items v fs k value F m B ef em h lo long past o.
              ⊎_elim (λ w. let x = w.0 in absurd (let z : ◌≡◌ {A = ℕ} 0 1 = cc in omega arith))
              (λ s.
              let x = s.ok in
              let L : Option (Arm R V) = s.L in
              let Q : Option (Arm R V) = s.Q in
              let u : Twig R V = s.u in
              let cut-is : cut ≡ cut_of L u Q = cc in
              let text : (rows_arm F ++ rows m) ++ rows_arm B ≡ ((rows_arm F ++ rows m) ++ rows_part L) ++ (rows_twig u ++ rows_part Q) =
              ap (λ a. (rows_arm F ++ rows m) ++ a) s.slit.text ∙ sym (append_assoc (rows_arm F ++ rows m) (rows_part L) (rows_twig u ++ rows_part Q)) in
              let light = subst (λ a. wt weigh items a ≤ heaviest) text h.light in
              let w₁ = wt_append weigh items ((rows_arm F ++ rows m) ++ rows_part L) (rows_twig u ++ rows_part Q) in
              let w₂ = wt_append weigh items (rows_arm F ++ rows m) (rows_part L) in
              let w₃ = wt_append weigh items (rows_arm F) (rows m) in
              let w₄ = wt_append weigh items (rows_twig u) (rows_part Q) in
              let E = edge.edges items Q L m F fs k (sym (ap (λ (c : Cut). c.right) cut-is)) (sym (ap (λ (c : Cut). c.left) cut-is)) em ef s.slit.fit_r s.slit.fit_l (record {
                first = h.first;
                within = h.fit.0.within;
                fit_m = h.fit.3;
                fit_b = h.fit.2;
                chain = h.chain;
                light = omega (arith, light, w₁, w₂, w₃);
                once = λ j. omega (arith, h.once j, s.slit.occs j);
              }) (omega arith) (omega (arith, light, w₁, w₄)) (λ j. omega (arith, h.once j, s.slit.occs j)) long in
              inr (cleft_from items v (deep i value F m B) fs ((rows_arm F ++ rows m) ++ rows_part L) (rows_part Q) (λ j. 0) (λ j. occ_part Q j + (same i j + (occ_part L j + (occ m j + (occ_arm F j + occ_list fs j))))) u
              off_refl (λ j. inr refl) E (sym (ap (λ (c : Cut). c.at) cut-is)) s.slit.fit_u text (past_then items v (rows_arm F ++ rows m) (rows_part L) past s.past)
              (ap (λ a. says (means (upto items a (rows_twig u)))) (on items v (rows_arm F ++ rows m) (rows_part L)) ∙ s.yes)
              (λ j. omega (arith, s.slit.occs j)) h.once (λ j z. refl) (omega arith) (omega arith))) o)

        -- in the middle
        module _ {b : Bool} {rs₁ : List (Record R V)} {f₁ : Link} {p₃ : V} {r₃ : Result (Option Halves) Unsound} (qb : q₂ ≡ Ok b) (is-yes : b ≡ true) (S : Splits weigh means says rs rs₁ f f₁ (fuel - 1) level.middle p₂ p₃ r₃) where
          at_split : {rs' : List (Record R V)} {f' : Link} {p' : V} {r : Result (Option Halves) Unsound}
              → ((items : R → List I) (v : List I) (fs : List ℕ) (k : ℕ) (value : V) (F : Arm R V) (m : Finger R V) (B : Arm R V) → digit_of F ≡ level.front → digit_of B ≡ level.back
              → Has weigh means items rs f tr (deep i value F m B) fs k → suc (levels m) ≤ fuel → weights weigh (upto items (upto items v (rows_arm F)) (rows m)) ≤ heaviest → Past means says items v (rows_arm F) p₁
              → Cleft weigh means says items rs rs₁ f₁ (upto items v (rows_arm F)) p₃ r₃ m fs (suc k)
              → Cleft weigh means says items rs rs' f' v p' r (deep i value F m B) fs k)
              → Splits weigh means says rs rs' f f' fuel tr p p' r
          at_split go = at_middle (λ items v fs k value F m B ef em eb h lo l long past o.
              ⊎_elim
              (λ w.
              let l₁ = light_mid weigh items v ((rows_arm F ++ rows m) ++ rows_arm B) l (rows_arm F) (rows m) (rows_arm B) (append_assoc (rows_arm F) (rows m) (rows_arm B)) in
              ⊎_elim (λ n. absurd (some_turn means says items v (rows_arm F) (rows m) past.no (arm_some F) w.2 (yes_none means says items (upto items v (rows_arm F)) (rows m) n.3.no w.2)))
              (λ c. inr (go items v fs k value F m B ef eb h lo l₁ past c))
              (S.splits items (upto items v (rows_arm F)) m fs (suc k) (record {
                tree = em;
                first = h.first;
                fit = h.fit.3;
                chain = h.chain;
                once = λ j. omega (arith, h.once j);
                light = omega (arith, h.light, wt_append weigh items (rows_arm F ++ rows m) (rows_arm B), wt_append weigh items (rows_arm F) (rows m));
              }) (omega arith) l₁ long (w.1 ∙ past.place)))
              (λ w. let x = w.0 in absurd (let z : ◌≡◌ {A = ℕ} 0 1 = cc in omega arith)) o)

          pub split_split_err : {rs' : List (Record R V)} {f' : Link} {p' : V} {e : Unsound} {r : Result (Option Halves) Unsound} → r₃ ≡ Err e → Splits weigh means says rs rs' f f' fuel tr p p' r
          split_split_err bad = at_split (λ items v fs k value F m B ef eb h lo l past D. absurd (ok_err D.ok bad))

          module _ {o₃ : Option Halves} (got₃ : r₃ ≡ Ok o₃) where
            pub split_split_none : {rs' : List (Record R V)} {f' : Link} {p' : V} {r : Result (Option Halves) Unsound} → o₃ ≡ None → Splits weigh means says rs rs' f f' fuel tr p p' r
            split_split_none n = at_split (λ items v fs k value F m B ef eb h lo l past D. let x = D.ok in absurd (let z : ◌≡◌ {A = ℕ} 0 1 = cc in omega arith))

            module _ {s : Halves} {rs₂ : List (Record R V)} {f₂ : Link} {p₄ : V} {r₄ : Result Cut Unsound} (some₃ : o₃ ≡ Some s) (O₀ : Reopened weigh means says rs₁ rs₂ f₁ f₂ s.at p₃ p₄ r₄) where
              at_open : {rs' : List (Record R V)} {f' : Link} {r : Result (Option Halves) Unsound}
                  → ((items : R → List I) (v : List I) (fs : List ℕ) (k : ℕ) (value : V) (F : Arm R V) (m : Finger R V) (B : Arm R V) → digit_of F ≡ level.front → digit_of B ≡ level.back
                  → Has weigh means items rs f tr (deep i value F m B) fs k → suc (levels m) ≤ fuel → Past means says items v (rows_arm F) p₁
                  → (D : Cleft weigh means says items rs rs₁ f₁ (upto items v (rows_arm F)) p₃ r₃ m fs (suc k)) → tree_of D.l ≡ s.left → tree_of D.q ≡ s.right
                  → Reopen weigh means says items rs₁ rs₂ f₁ f₂ (upto items (upto items v (rows_arm F)) (rows D.l)) p₄ r₄ D.u k
                  → Cleft weigh means says items rs rs' f' v p₄ r (deep i value F m B) fs k)
                  → Splits weigh means says rs rs' f f' fuel tr p p₄ r
              at_open go = at_split (λ items v fs k value F m B ef eb h lo l past D.
                  let x = D.ok in
                  let s-is : record { left = tree_of D.l; at = root D.u; right = tree_of D.q } ≡ s = cc in
                  go items v fs k value F m B ef eb h lo past D (ap (λ (y : Halves). y.left) s-is) (ap (λ (y : Halves). y.right) s-is)
                  (O₀.opens items (upto items (upto items v (rows_arm F)) (rows D.l)) D.u k (ap (λ (y : Halves). y.at) s-is) D.fit_u (λ j. omega (arith, h.once j, D.kept j))
                  (light_mid weigh items (upto items v (rows_arm F)) (rows m) l (rows D.l) (rows_twig D.u) (rows D.q) D.text) D.past.place D.yes))

              pub split_open_err : {rs' : List (Record R V)} {f' : Link} {e : Unsound} {r : Result (Option Halves) Unsound} → r₄ ≡ Err e → Splits weigh means says rs rs' f f' fuel tr p p₄ r
              split_open_err bad = at_open (λ items v fs k value F m B ef eb h lo past D el er O. absurd (ok_err O.ok bad))

              pub split_middle : {rs' : List (Record R V)} {f' : Link} {cut : Cut} {r : Result (Option Halves) Unsound} → r₄ ≡ Ok cut → Rejoined weigh means rs₂ rs' f₂ f' fuel i level s cut r → Splits weigh means says rs rs' f f' fuel tr p p₄ r
              split_middle {cut = cut} got₄ J = at_open (λ items v fs k value F m B ef eb h lo past D el er O.
                  let mn : List R → V = mean means items in
                  let n : ℕ = root D.u in
                  let L : Option (Arm R V) = O.L in
                  let Q : Option (Arm R V) = O.Q in
                  let u : Twig R V = O.u in
                  let a : Finger R V = D.l in
                  let c : Finger R V = D.q in
                  let cut-is : cut ≡ cut_of L u Q = ok_same got₄ O.ok in
                  let at₁ : At rs₂ n (Free (head_of D.fs')) = subst (λ x. At rs₂ n (Free x)) (sym D.first) O.at in
                  let off₂ : Off rs rs₂ (λ j. occ m j + occ_list fs j) = off_more _ (λ j z. omega (arith, z, D.kept j, O.occs j)) (off_then D.frame O.off) in
                  let text : (rows_arm F ++ rows m) ++ rows_arm B ≡ ((rows_arm F ++ rows a) ++ rows_part L) ++ (rows_twig u ++ (rows_part Q ++ (rows c ++ rows_arm B))) =
                  ap (λ x. (rows_arm F ++ x) ++ rows_arm B) (D.text ∙ ap (λ x. rows a ++ (x ++ rows c)) O.text) ∙ simp append_assoc in
                  let light = subst (λ x. wt weigh items x ≤ heaviest) text h.light in
                  let w₁ = wt_append weigh items ((rows_arm F ++ rows a) ++ rows_part L) (rows_twig u ++ (rows_part Q ++ (rows c ++ rows_arm B))) in
                  let w₂ = wt_append weigh items (rows_twig u) (rows_part Q ++ (rows c ++ rows_arm B)) in
                  let w₃ = wt_append weigh items (rows_arm F ++ rows a) (rows_part L) in
                  let w₄ = wt_append weigh items (rows_arm F) (rows a) in
                  let w₅ = wt_append weigh items (rows_part Q) (rows c ++ rows_arm B) in
                  let w₆ = wt_append weigh items (rows c) (rows_arm B) in
                  let past₁ = past_then items v (rows_arm F) (rows a) past D.past in
                  let on₁ : upto items (upto items v (rows_arm F)) (rows a) ≡ upto items v (rows_arm F ++ rows a) = sym (on items v (rows_arm F) (rows a)) in
                  let past₂ = past_then items v (rows_arm F ++ rows a) (rows_part L) past₁ (subst (λ x. Past means says items x (rows_part L) p₄) on₁ O.past) in
                  let on₂ : upto items (upto items (upto items v (rows_arm F)) (rows a)) (rows_part L) ≡ upto items v ((rows_arm F ++ rows a) ++ rows_part L) = ap (λ x. upto items x (rows_part L)) on₁ ∙ sym (on items v (rows_arm F ++ rows a) (rows_part L)) in
                  let E = J.joins items F a L Q c B (n ∷ D.fs') (suc (levels m)) k ef el (sym (ap (λ (x : Cut). x.left) cut-is)) (sym (ap (λ (x : Cut). x.right) cut-is)) er eb O.fit_l O.fit_r
                  (frame O.off mn c (suc k) (λ j. omega (arith, h.once j, D.kept j, O.occs j)) D.fit_r)
                  (frame_arm off₂ mn B k (λ j. omega (arith, h.once j)) h.fit.4)
                  (record {
                    first = O.first;
                    within = omega (arith, off₂.len, h.fit.0.within);
                    fit_m = frame O.off mn a (suc k) (λ j. omega (arith, h.once j, D.kept j, O.occs j)) D.fit_l;
                    fit_b = frame_arm off₂ mn F k (λ j. omega (arith, h.once j)) h.fit.2;
                    chain = (at₁, frame_chain O.off D.fs' (λ j. omega (arith, h.once j, D.kept j, O.occs j)) D.chain);
                    light = omega (arith, light, w₁, w₃, w₄);
                    once = λ j. omega (arith, h.once j, D.kept j, O.occs j);
                  }) (omega (arith, D.high_l)) (omega (arith, D.high_r)) (omega (arith, D.high_l)) (omega (arith, D.high_r))
                  (omega (arith, light, w₁, w₂, w₅, w₆)) (λ j. omega (arith, h.once j, D.kept j, O.occs j)) (omega arith) in
                  cleft_from items v (deep i value F m B) fs ((rows_arm F ++ rows a) ++ rows_part L) (rows_part Q ++ (rows c ++ rows_arm B)) (λ j. occ m j + occ_list fs j)
                  (λ j. (occ_part Q j + (occ c j + occ_arm B j)) + (same i j + (occ_part L j + (occ a j + (occ_arm F j + (same n j + occ_list D.fs' j)))))) u
                  off₂ (λ j. calm_then (D.calm j) (O.calm j)) E (sym (ap (λ (x : Cut). x.at) cut-is)) O.fit_u text past₂
                  (ap (λ x. says (means (upto items x (rows_twig u)))) (sym on₂) ∙ O.yes)
                  (λ j. omega (arith, D.kept j, O.occs j)) h.once (λ j z. omega arith) (omega arith) (omega (arith, D.spent)))

-- a twig that has no height is a leaf
leaf_of : {R V : Type 0} (mn : List R → V) (rs : List (Record R V)) (u : Twig R V) → FitTwig mn rs u 0 → (i : ℕ) × (row : R) × (value : V) × (u ≡ leaf i row value) × At rs i (Leaf row value) × (value ≡ mn (row ∷ []))
leaf_of mn rs (leaf i row value) fit = (i, row, value, refl, fit.0, fit.1)
leaf_of mn rs (two i value a b) fit = absurd fit
leaf_of mn rs (three i value a b c) fit = absurd fit

module _ {R I V : Type 0} {weigh : I → ℕ} {means : List I → V} {says : V → Bool} (kept : Keeps weigh means says) where
  parted : {rs rs' : List (Record R V)} {f' : Link} {p' : V} {r : Result (Option Halves) Unsound} (items : R → List I) (v : List I) (t : Finger R V) (fs : List ℕ) → weights weigh (upto items v (rows t)) ≤ heaviest
      → Cleft weigh means says items rs rs' f' v p' r t fs 0 → Parted weigh means says items rs rs' f' v p' r t fs
  parted {rs' = rs'} items v t fs light C =
      let f = leaf_of (mean means items) rs' C.u C.fit_u in
      let u-is : C.u ≡ leaf f.0 f.1 f.2 = f.3 in
      let text : rows t ≡ rows C.l ++ (f.1 ∷ rows C.q) = C.text ∙ ap (λ u. rows C.l ++ (rows_twig u ++ rows C.q)) u-is in
      record {
        l = C.l;
        i = f.0;
        row = f.1;
        value = f.2;
        q = C.q;
        fs' = C.fs';
        ok = C.ok ∙ ap (λ u. Ok (Some (record { left = tree_of C.l; at = root u; right = tree_of C.q }))) u-is;
        first = C.first;
        text = text;
        past = C.past;
        never = never kept items v (rows C.l) (light_front weigh items v (rows t) light (rows C.l) (f.1 ∷ rows C.q) text) C.past.no;
        yes = ap (λ q. says (means q)) (on items v (rows C.l) (f.1 ∷ [])) ∙ sym (ap (λ u. says (means (upto items (upto items v (rows C.l)) (rows_twig u)))) u-is) ∙ C.yes;
        fit_l = C.fit_l;
        at = f.4;
        right = f.5;
        fit_r = C.fit_r;
        chain = C.chain;
        kept = λ j. ap (λ u. occ C.l j + (occ_twig u j + (occ C.q j + occ_list C.fs' j))) (sym u-is) ∙ C.kept j;
        frame = C.frame;
        high_l = C.high_l;
        high_r = C.high_r;
        spent = C.spent;
        calm = C.calm;
      }

  pub split_at : {rs rs' : List (Record R V)} {f f' : Link} {tr : Tree} {p p' : V} {r : Result (Option Halves) Unsound} → Splits weigh means says rs rs' f f' 16 tr p p' r → SplitAt weigh means says rs rs' f f' tr p p' r
  split_at {rs} S = record {
    splits = λ items v t fs h light at.
        ⊎_elim (λ n. inl (n, never kept items v (rows t) light n.3.no)) (λ C. inr (parted items v t fs light C))
        (S.splits items v t fs 0 (record { tree = h.tree; first = h.first; fit = h.fit; chain = h.chain; once = h.once; light = h.light }) (omega (arith, few_levels (mean means items) rs t h.fit h.small)) light (omega (arith, h.long)) at);
  }
