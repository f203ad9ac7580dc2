-- The paths of the search. Assumes nothing.
use Rattle.std.proofs.Common.{is_some, sym, refl, ap, ◌∙◌, subst, inl, inr, ⊎_elim, append_assoc, arith}
use Rattle.measures.specs.Law.{weights, heaviest, Keeps}
use Rattle.slots.specs.Ghost.{Twig, leaf, two, three, Arm, a1, Finger, nil, one, deep, none, root, digit_of, tree_of, rows_twig, rows_arm, rows_part, rows, levels, At, FitTwig, FitArm, Fit}
use Rattle.slots.specs.Values.{mean, parts_in, spine_in}
use Rattle.slots.proofs.Depth.{few_levels}
use Rattle.slots.proofs.Ends.{parted}
use Rattle.slots.proofs.Shapes.{ok_err, ok_same, tree_empty, tree_single, at_level}
use Rattle.std.specs.Prelude.{◌≡◌, Bool, true, false, List, [], ◌++◌, ℕ, zero, suc, ◌+◌, ◌-◌, ◌≤◌, get_or}
use Rattle.std.specs.declared.option.Option.{Option}
use Rattle.std.specs.declared.option.Option.TheVariants.{None, Some}
use Rattle.std.specs.declared.result.Result.{Result}
use Rattle.std.specs.declared.result.Result.TheVariants.{Ok, Err}
use Rattle.seek.specs.Words.{Unsound, Digit, One, Tree, Empty, Single, Deep, Record, Leaf, Spine}
use Rattle.seek.specs.declared.digits.Cut.{Cut}
use Rattle.seek.specs.Places.{upto, Past, Found, Lands}
use Rattle.seek.specs.Post.{cut_of, Passes, TreePassed, Struck, Picked, TwigSearched, DigitSearched, TreeSearched, Searched}
use Rattle.seek.proofs.Moves.{was_none, was_some, light_mid, light_front, light_back, arm_some, past_none, yes_none, found_in, found_front, lands_then, some_turn, finds_all}

module _ {R I V : Type 0} {means : List I → V} {says : V → Bool} {rs : List (Record R V)} where
  found_leaf : (items : R → List I) (w : List I) (u : Twig R V) (k : ℕ) {i : ℕ} {p : V} → k ≡ 0 → root u ≡ i → FitTwig (mean means items) rs u k → p ≡ means w → says (means (upto items w (rows_twig u))) ≡ true → Found means says items rs w (rows_twig u) p i
  found_leaf items w (leaf j row v) zero {i} z e fit at y = record { row = row; value = v; xs = []; ys = []; text = refl; past = past_none items w at; yes = y; at = subst (λ q. At rs q (Leaf row v)) e fit.0; right = fit.1 }
  found_leaf items w (leaf j row v) (suc k) z e fit at y = absurd fit
  found_leaf items w (two j v a b) zero z e fit at y = absurd fit
  found_leaf items w (two j v a b) (suc k) z e fit at y = absurd (omega arith)
  found_leaf items w (three j v a b c) zero z e fit at y = absurd fit
  found_leaf items w (three j v a b c) (suc k) z e fit at y = absurd (omega arith)

-- the digit of a node
pub opened : {R V : Type 0} (mn : List R → V) (rs : List (Record R V)) {height i : ℕ} {ps : Result Digit Unsound} → (height ≡ 0 → ⊥) → ps ≡ parts_in (get_or rs i none) → (u : Twig R V) (k : ℕ) → k ≡ height → root u ≡ i → FitTwig mn rs u k
    → (A : Arm R V) × (h : ℕ) × (height ≡ suc h) × (rows_arm A ≡ rows_twig u) × (ps ≡ Ok (digit_of A)) × FitArm mn rs A h
opened mn rs high rd u zero z e fit = absurd (high (sym z))
opened mn rs high rd u (suc h) z e fit = let o = parted mn rs u h fit in (o.arm, h, sym z, o.text, rd ∙ ap (λ q. parts_in (get_or rs q none)) (sym e) ∙ o.reads, o.fit)

pub no_level : {R V : Type 0} (mn : List R → V) (rs : List (Record R V)) (k : ℕ) {i : ℕ} {sp : Result Spine Unsound} {x : Unsound} → sp ≡ spine_in (get_or rs i none) → sp ≡ Err x → (t : Finger R V) → tree_of t ≡ Deep i → Fit mn rs t k → ⊥
no_level mn rs k rd bad nil e fit = absurd (let z : ◌≡◌ {A = ℕ} 0 1 = cc in omega arith)
no_level mn rs k rd bad (one u) e fit = absurd (let z : ◌≡◌ {A = ℕ} 0 1 = cc in omega arith)
no_level mn rs k {i} rd bad (deep j v F m B) e fit = let ji : j ≡ i = cc in ok_err (rd ∙ ap (λ q. spine_in (get_or rs q none)) (sym ji) ∙ ap spine_in fit.0.is) bad

module _ {R I V : Type 0} {weigh : I → ℕ} {means : List I → V} {says : V → Bool} {rs : List (Record R V)} where
  pub twig_leaf : {height i : ℕ} {p : V} → height ≡ 0 → TwigSearched weigh means says rs height i p p (Ok i)
  twig_leaf {height} {i} z = record { finds = λ items w u e fit light at y. (i, refl, found_leaf items w u height z e fit at y) }

  module _ {height i : ℕ} {p : V} {ps : Result Digit Unsound} (high : height ≡ 0 → ⊥) (rd : ps ≡ parts_in (get_or rs i none)) where
    pub twig_no_parts : {p' : V} {x : Unsound} {r : Result ℕ Unsound} → ps ≡ Err x → TwigSearched weigh means says rs height i p p' r
    twig_no_parts bad = record { finds = λ items w u e fit light at y. absurd (ok_err (opened (mean means items) rs high rd u height refl e fit).4 bad) }

    module _ {d : Digit} {p₁ : V} {q : Result (Option Cut) Unsound} (got : ps ≡ Ok d) (pk : Picked weigh means says rs d p p₁ q) where
      -- what is found among the parts of the twig
      pub struck_in : (items : R → List I) (w : List I) (u : Twig R V) → root u ≡ i → FitTwig (mean means items) rs u height → weights weigh (upto items w (rows_twig u)) ≤ heaviest → p ≡ means w → says (means (upto items w (rows_twig u))) ≡ true
          → (A : Arm R V) × (h : ℕ) × (height ≡ suc h) × (rows_arm A ≡ rows_twig u) × Struck weigh means says items rs w A h p₁ q
      struck_in items w u e fit light at y =
          let o = opened (mean means items) rs high rd u height refl e fit in
          ⊎_elim (λ h. absurd (arm_some o.0 (yes_none means says items w (rows_arm o.0) h.1.no (ap (λ l. says (means (upto items w l))) o.3 ∙ y))))
          (λ s. (o.0, o.1, o.2, o.3, s))
          (pk.picks items w o.0 o.1 (ok_same o.4 got) o.5 (subst (λ l. weights weigh (upto items w l) ≤ heaviest) (sym o.3) light) at)

      pub twig_some_path : {p' : V} {f : Option Cut} {cut : Cut} {r : Result ℕ Unsound} → q ≡ Ok f → f ≡ Some cut → TwigSearched weigh means says rs (height - 1) cut.at p₁ p' r → TwigSearched weigh means says rs height i p p' r
      twig_some_path {p'} {cut = cut} {r} ok some D = record {
        finds = λ items w u e fit light at y.
            let S = struck_in items w u e fit light at y in
            let s = S.4 in
            let o = s.ok in
            let cut-is : cut ≡ cut_of s.L s.u s.Q = cc in
            let D₁ = subst (λ h. TwigSearched weigh means says rs h cut.at p₁ p' r) (let z : height - 1 ≡ S.1 = omega (arith, S.2) in z) D in
            let text : rows_twig u ≡ rows_part s.L ++ (rows_twig s.u ++ rows_part s.Q) = sym S.3 ∙ s.slit.text in
            let F = D₁.finds items (upto items w (rows_part s.L)) s.u (sym (ap (λ (c : Cut). c.at) cut-is)) s.slit.fit_u
            (light_mid weigh items w (rows_twig u) light (rows_part s.L) (rows_twig s.u) (rows_part s.Q) text) s.past.place s.yes in
            (F.0, F.1, found_in items {i = F.0} w (rows_twig u) (rows_part s.L) (rows_twig s.u) (rows_part s.Q) text s.past F.2);
      }

      pub twig_none_path : {p' : V} {f : Option Cut} {r : Result ℕ Unsound} → q ≡ Ok f → f ≡ None → TwigSearched weigh means says rs height i p p' r
      twig_none_path ok nay = record { finds = λ items w u e fit light at y. let o = (struck_in items w u e fit light at y).4.ok in absurd (let z : ◌≡◌ {A = ℕ} 0 1 = cc in omega arith) }

      pub twig_err_path : {p' : V} {x : Unsound} {r : Result ℕ Unsound} → q ≡ Err x → TwigSearched weigh means says rs height i p p' r
      twig_err_path bad = record { finds = λ items w u e fit light at y. absurd (ok_err (struck_in items w u e fit light at y).4.ok bad) }

  module _ {height : ℕ} {d : Digit} {p p₁ : V} {q : Result (Option Cut) Unsound} (pk : Picked weigh means says rs d p p₁ q) where
    pub digit_none : {f : Option Cut} → q ≡ Ok f → f ≡ None → DigitSearched weigh means says rs height d p p₁ (Ok None)
    digit_none ok nay = record {
      finds = λ items w A e fit light at.
          ⊎_elim (λ h. inl (refl, h.1)) (λ s. let o = s.ok in absurd (let z : ◌≡◌ {A = ℕ} 0 1 = cc in omega arith)) (pk.picks items w A height e fit light at);
    }

    pub digit_err : {p' : V} {x : Unsound} {r : Result (Option ℕ) Unsound} → q ≡ Err x → DigitSearched weigh means says rs height d p p' r
    digit_err bad = record {
      finds = λ items w A e fit light at.
          ⊎_elim (λ h. absurd (ok_err h.0 bad)) (λ s. absurd (ok_err s.ok bad)) (pk.picks items w A height e fit light at);
    }

    module _ {p' : V} {f : Option Cut} {cut : Cut} {t : Result ℕ Unsound} (ok : q ≡ Ok f) (some : f ≡ Some cut) (D : TwigSearched weigh means says rs height cut.at p₁ p' t) where
      -- the leaf below the slot that was struck
      struck_leaf : (items : R → List I) (w : List I) (A : Arm R V) → digit_of A ≡ d → FitArm (mean means items) rs A height → weights weigh (upto items w (rows_arm A)) ≤ heaviest → p ≡ means w
          → (j : ℕ) × (t ≡ Ok j) × Found means says items rs w (rows_arm A) p' j
      struck_leaf items w A e fit light at =
          ⊎_elim (λ h. let o = h.0 in absurd (let z : ◌≡◌ {A = ℕ} 0 1 = cc in omega arith))
          (λ s.
          let o = s.ok in
          let cut-is : cut ≡ cut_of s.L s.u s.Q = cc in
          let F = D.finds items (upto items w (rows_part s.L)) s.u (sym (ap (λ (c : Cut). c.at) cut-is)) s.slit.fit_u
          (light_mid weigh items w (rows_arm A) light (rows_part s.L) (rows_twig s.u) (rows_part s.Q) s.slit.text) s.past.place s.yes in
          (F.0, F.1, found_in items {i = F.0} w (rows_arm A) (rows_part s.L) (rows_twig s.u) (rows_part s.Q) s.slit.text s.past F.2))
          (pk.picks items w A height e fit light at)

      pub digit_found : {j : ℕ} → t ≡ Ok j → DigitSearched weigh means says rs height d p p' (Ok (Some j))
      digit_found {j} tj = record { finds = λ items w A e fit light at. let F = struck_leaf items w A e fit light at in inr (F.0, ap (λ n. Ok (Some n)) (ok_same tj F.1), F.2) }

      pub digit_lost : {x : Unsound} {r : Result (Option ℕ) Unsound} → t ≡ Err x → DigitSearched weigh means says rs height d p p' r
      digit_lost bad = record { finds = λ items w A e fit light at. absurd (ok_err (struck_leaf items w A e fit light at).1 bad) }

  pub in_empty : {height : ℕ} {tr : Tree} {p : V} → tr ≡ Empty → TreeSearched weigh means says rs height tr p p (Ok None)
  in_empty {p = p} is = record { finds = λ items w t e fit low light at. tree_empty (λ t. Lands means says items rs w (rows t) p (Ok None)) (inl (refl, past_none items w at)) t (e ∙ is) }

  pub in_single : {height i : ℕ} {tr : Tree} {p p' : V} {r : Result (Option ℕ) Unsound} → tr ≡ Single i → DigitSearched weigh means says rs height (One i) p p' r → TreeSearched weigh means says rs height tr p p' r
  in_single {height} {i} {tr} {p} {p'} {r} is D = record {
    finds = λ items w t e fit low light at.
        tree_single (λ t. Fit (mean means items) rs t height → weights weigh (upto items w (rows t)) ≤ heaviest → Lands means says items rs w (rows t) p' r) i
        (λ u eu f l. D.finds items w (a1 u) (ap One eu) f l at) t (e ∙ is) fit light;
  }

  module _ {height i : ℕ} {tr : Tree} {p : V} {sp : Result Spine Unsound} (deep_is : tr ≡ Deep i) (rd : sp ≡ spine_in (get_or rs i none)) where
    pub in_no_level : {p' : V} {x : Unsound} {r : Result (Option ℕ) Unsound} → sp ≡ Err x → TreeSearched weigh means says rs height tr p p' r
    in_no_level bad = record { finds = λ items w t e fit low light at. absurd (no_level (mean means items) rs height rd bad t (e ∙ deep_is) fit) }

    module _ {s : Spine} {p₁ : V} {r₁ : Result (Option ℕ) Unsound} (got : sp ≡ Ok s) (fr : DigitSearched weigh means says rs height s.front p p₁ r₁) where
      -- every path at a level: what was found in the front digit
      at_front : {p' : V} {r : Result (Option ℕ) Unsound}
          → ((items : R → List I) (w : List I) (F : Arm R V) (m : Finger R V) (B : Arm R V) → tree_of m ≡ s.middle → digit_of B ≡ s.back → Fit (mean means items) rs m (suc height) → FitArm (mean means items) rs B height → height + suc (levels m) ≤ 16
          → weights weigh (upto items w (rows_arm F ++ (rows m ++ rows_arm B))) ≤ heaviest → Lands means says items rs w (rows_arm F) p₁ r₁ → Lands means says items rs w (rows_arm F ++ (rows m ++ rows_arm B)) p' r)
          → TreeSearched weigh means says rs height tr p p' r
      at_front {p'} {r} go = record {
        finds = λ items w t e fit low light at.
            at_level rs rd got (λ t. Fit (mean means items) rs t height → height + levels t ≤ 16 → weights weigh (upto items w (rows t)) ≤ heaviest → Lands means says items rs w (rows t) p' r)
            (λ v F m B ef em eb f lo l.
            let text : (rows_arm F ++ rows m) ++ rows_arm B ≡ rows_arm F ++ (rows m ++ rows_arm B) = append_assoc (rows_arm F) (rows m) (rows_arm B) in
            let l₁ = subst (λ q. weights weigh (upto items w q) ≤ heaviest) text l in
            subst (λ q. Lands means says items rs w q p' r) (sym text)
            (go items w F m B em eb f.3 f.4 lo l₁ (fr.finds items w F ef f.2 (light_front weigh items w (rows_arm F ++ (rows m ++ rows_arm B)) l₁ (rows_arm F) (rows m ++ rows_arm B) refl) at)))
            (mean means items) t height fit (e ∙ deep_is) fit low light;
      }

      pub in_front_err : {p' : V} {x : Unsound} {r : Result (Option ℕ) Unsound} → r₁ ≡ Err x → TreeSearched weigh means says rs height tr p p' r
      in_front_err bad = at_front (λ items w F m B em eb fm fb lo l f. ⊎_elim (λ h. absurd (ok_err h.0 bad)) (λ h. absurd (ok_err h.1 bad)) f)

      pub in_front : {o : Option ℕ} {b : Bool} → r₁ ≡ Ok o → b ≡ is_some o → b ≡ true → TreeSearched weigh means says rs height tr p p₁ (Ok o)
      in_front {o} ok tested some = at_front (λ items w F m B em eb fm fb lo l f.
          ⊎_elim (λ h. absurd (was_some ok tested some h.0))
          (λ h. inr (h.0, ap Ok (ok_same ok h.1), found_front items w (rows_arm F ++ (rows m ++ rows_arm B)) (rows_arm F) (rows m ++ rows_arm B) refl h.2)) f)

      module _ {o : Option ℕ} {b : Bool} {p₂ : V} {q₂ : Result Bool Unsound} (ok : r₁ ≡ Ok o) (tested : b ≡ is_some o) (none : b ≡ false) (pass : TreePassed weigh means says rs s.middle p₁ p₂ q₂) where
        at_middle : {p' : V} {r : Result (Option ℕ) Unsound}
            → ((items : R → List I) (w : List I) (F : Arm R V) (m : Finger R V) (B : Arm R V) → tree_of m ≡ s.middle → digit_of B ≡ s.back → Fit (mean means items) rs m (suc height) → FitArm (mean means items) rs B height → height + suc (levels m) ≤ 16
            → weights weigh (upto items w (rows_arm F ++ (rows m ++ rows_arm B))) ≤ heaviest → Past means says items w (rows_arm F) p₁ → Passes weigh means says items (upto items w (rows_arm F)) (rows m) p₁ p₂ q₂
            → Lands means says items rs w (rows_arm F ++ (rows m ++ rows_arm B)) p' r)
            → TreeSearched weigh means says rs height tr p p' r
        at_middle go = at_front (λ items w F m B em eb fm fb lo l f.
            ⊎_elim
            (λ h. go items w F m B em eb fm fb lo l h.1
            (pass.passes items (upto items w (rows_arm F)) m (suc height) em fm (light_mid weigh items w (rows_arm F ++ (rows m ++ rows_arm B)) l (rows_arm F) (rows m) (rows_arm B) refl) h.1.place))
            (λ h. let n = was_none o tested none in let x = h.1 in absurd (let z : ◌≡◌ {A = ℕ} 0 1 = cc in omega arith)) f)

        pub in_middle_err : {p' : V} {x : Unsound} {r : Result (Option ℕ) Unsound} → q₂ ≡ Err x → TreeSearched weigh means says rs height tr p p' r
        in_middle_err bad = at_middle (λ items w F m B em eb fm fb lo l h f. ⊎_elim (λ g. absurd (ok_err g.0 bad)) (λ g. absurd (ok_err g.0 bad)) f)

        pub in_too_deep : {p' : V} {r : Result (Option ℕ) Unsound} → 16 ≤ height → TreeSearched weigh means says rs height tr p p' r
        in_too_deep high = at_middle (λ items w F m B em eb fm fb lo l h f. absurd (omega arith))

        pub in_middle : {p' : V} {y : Bool} {r : Result (Option ℕ) Unsound} → q₂ ≡ Ok y → y ≡ true → TreeSearched weigh means says rs (height + 1) s.middle p₂ p' r → TreeSearched weigh means says rs height tr p p' r
        in_middle {p'} {y} {r} qy is S = at_middle (λ items w F m B em eb fm fb lo l h f.
            ⊎_elim
            (λ g.
            ⊎_elim (λ x. absurd (some_turn means says items w (rows_arm F) (rows m) h.no (arm_some F) g.2 (yes_none means says items (upto items w (rows_arm F)) (rows m) x.1.no g.2)))
            (λ x. inr (x.0, x.1, found_in items w (rows_arm F ++ (rows m ++ rows_arm B)) (rows_arm F) (rows m) (rows_arm B) refl h x.2))
            (S.finds items (upto items w (rows_arm F)) m em (subst (λ k. Fit (mean means items) rs m k) (let z : suc height ≡ height + 1 = omega arith in z) fm) (omega arith)
            (light_mid weigh items w (rows_arm F ++ (rows m ++ rows_arm B)) l (rows_arm F) (rows m) (rows_arm B) refl) (g.1 ∙ h.place)))
            (λ g. let x = g.0 in absurd (let z : ◌≡◌ {A = ℕ} 0 1 = cc in omega arith)) f)

        pub in_back : {p' : V} {y : Bool} {r : Result (Option ℕ) Unsound} → q₂ ≡ Ok y → y ≡ false → DigitSearched weigh means says rs height s.back p₂ p' r → TreeSearched weigh means says rs height tr p p' r
        in_back {p'} {y} {r} qy is D = at_middle (λ items w F m B em eb fm fb lo l h f.
            ⊎_elim
            (λ g. let x = g.0 in absurd (let z : ◌≡◌ {A = ℕ} 0 1 = cc in omega arith))
            (λ g.
            lands_then items w (rows_arm F ++ (rows m ++ rows_arm B)) (rows_arm F) (rows m ++ rows_arm B) refl h
            (lands_then items (upto items w (rows_arm F)) (rows m ++ rows_arm B) (rows m) (rows_arm B) refl g.1
            (D.finds items (upto items (upto items w (rows_arm F)) (rows m)) B eb fb
            (light_back weigh items (upto items w (rows_arm F)) (rows m ++ rows_arm B) (light_back weigh items w (rows_arm F ++ (rows m ++ rows_arm B)) l (rows_arm F) (rows m ++ rows_arm B) refl) (rows m) (rows_arm B) refl)
            g.1.place))) f)

  pub searched : {tr : Tree} {p p' : V} {r : Result (Option ℕ) Unsound} → Keeps weigh means says → TreeSearched weigh means says rs 0 tr p p' r → Searched weigh means says rs tr p p' r
  searched kept S = record {
    finds = λ items w t e fit small light at.
        finds_all kept items w (rows t) light (S.finds items w t e fit (omega (arith, few_levels (mean means items) rs t fit small)) light at);
  }
