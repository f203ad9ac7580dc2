-- The paths of the search after an element. Assumes nothing.
use Rattle.std.proofs.Common.{is_some, sym, refl, ap, ◌∙◌, subst, inl, inr, ⊎_elim, append_assoc, arith}
use Rattle.std.proofs.lemmas.List.{append-nil}
use Rattle.measures.specs.Law.{weights, heaviest, Keeps}
use Rattle.slots.specs.Ghost.{Twig, leaf, two, three, Arm, a1, Finger, none, digit_of, part_of, tree_of, rows_twig, rows_arm, rows_part, rows, levels, FitTwig, FitArm, FitPart, Fit}
use Rattle.slots.specs.Values.{mean, parts_in, spine_in}
use Rattle.slots.proofs.Depth.{few_levels}
use Rattle.slots.proofs.Shapes.{ok_err, ok_same, part_none, part_some, tree_empty, tree_single, at_level}
use Rattle.std.specs.Prelude.{◌≡◌, Bool, true, false, List, [], ◌∷◌, ◌++◌, ℕ, zero, suc, ◌+◌, ◌-◌, ◌≤◌, get_or}
use Rattle.std.specs.declared.option.Option.{Option}
use Rattle.std.specs.declared.option.Option.TheVariants.{None, Some}
use Rattle.std.specs.declared.result.Result.{Result}
use Rattle.std.specs.declared.result.Result.TheVariants.{Ok, Err}
use Rattle.seek.specs.Words.{Unsound, Digit, One, Tree, Empty, Single, Deep, Record, Spine}
use Rattle.seek.specs.declared.digits.Cut.{Cut}
use Rattle.seek.specs.Places.{upto, NotYet, Past, Turns, Lands}
use Rattle.seek.specs.Post.{cut_of, Passes, TreePassed, Struck, Picked, DigitSearched, TreeSearched}
use Rattle.seek.specs.Beyond.{DigitThen, TreeThen, Beyond, AfterIn, TwigAfter, DigitAfter, TreeAfter, SoughtAfter}
use Rattle.seek.proofs.Moves.{was_none, was_some, on, light_mid, light_front, light_back, light_rest, light_bare, arm_some, past_none, no_then, found_front, lands_then, some_turn, yes_none, turns_in, never, finds_all}
use Rattle.seek.proofs.Finding.{opened, no_level, struck_in}

-- goes on where nothing was found
module _ {R I V : Type 0} {means : List I → V} {until : V → Bool} {rs : List (Record R V)} {found : Result (Option ℕ) Unsound} {o : Option ℕ} {b : Bool} {p : V} (ok : found ≡ Ok o) (tested : b ≡ is_some o) where
  lands_kept : b ≡ true → (items : R → List I) (w : List I) (X Y : List R) → Lands means until items rs w X p found → Lands means until items rs w (X ++ Y) p (Ok o)
  lands_kept some items w X Y f = ⊎_elim (λ h. absurd (was_some ok tested some h.0)) (λ h. inr (h.0, ap Ok (ok_same ok h.1), found_front items w (X ++ Y) X Y refl h.2)) f

  lands_past : b ≡ false → (items : R → List I) (w : List I) (X : List R) → Lands means until items rs w X p found → Past means until items w X p
  lands_past nay items w X f = ⊎_elim (λ h. h.1) (λ h. let n = was_none o tested nay in let x = h.1 in absurd (let z : ◌≡◌ {A = ℕ} 0 1 = cc in omega arith)) f

-- nothing is searched after an error
module _ {R I V : Type 0} {weigh : I → ℕ} {means : List I → V} {until : V → Bool} {rs : List (Record R V)} {height : ℕ} {x : Unsound} {p p' : V} {r : Result (Option ℕ) Unsound} where
  pub digit_then_stopped : {d : Option Digit} → DigitThen weigh means until rs height (Err x) d p p' r
  digit_then_stopped = record { lands = λ items w X A e fit light f. ⊎_elim (λ h. absurd (ok_err h.0 refl)) (λ h. absurd (ok_err h.1 refl)) f }

  pub tree_then_stopped : {tr : Tree} → TreeThen weigh means until rs height (Err x) tr p p' r
  tree_then_stopped = record { lands = λ items w X t e fit low light f. ⊎_elim (λ h. absurd (ok_err h.0 refl)) (λ h. absurd (ok_err h.1 refl)) f }

module _ {R I V : Type 0} {weigh : I → ℕ} {means : List I → V} {until : V → Bool} {rs : List (Record R V)} {height : ℕ} {found : Result (Option ℕ) Unsound} {o : Option ℕ} {b : Bool} {p : V} (ok : found ≡ Ok o) (tested : b ≡ is_some o) where
  pub digit_then_found : {d : Option Digit} → b ≡ true → DigitThen weigh means until rs height found d p p (Ok o)
  digit_then_found some = record { lands = λ items w X A e fit light f. lands_kept ok tested some items w X (rows_part A) f }

  pub digit_then_none : {d : Option Digit} → b ≡ false → d ≡ None → DigitThen weigh means until rs height found d p p (Ok None)
  digit_then_none nay is = record {
    lands = λ items w X A e fit light f.
        part_none (λ A. Lands means until items rs w (X ++ rows_part A) p (Ok None))
        (subst (λ q. Lands means until items rs w q p (Ok None)) (sym (append-nil X)) (inl (refl, lands_past ok tested nay items w X f))) A (e ∙ is);
  }

  pub digit_then_some : {d : Option Digit} {d₁ : Digit} {p' : V} {r : Result (Option ℕ) Unsound} → b ≡ false → d ≡ Some d₁ → DigitSearched weigh means until rs height d₁ p p' r → DigitThen weigh means until rs height found d p p' r
  digit_then_some {d₁ = d₁} {p'} {r} nay is D = record {
    lands = λ items w X A e fit light f.
        let h = lands_past ok tested nay items w X f in
        part_some (λ A. FitPart (mean means items) rs A height → weights weigh (upto items w (X ++ rows_part A)) ≤ heaviest → Lands means until items rs w (X ++ rows_part A) p' r) d₁
        (λ A e₁ f₁ l. lands_then items w (X ++ rows_arm A) X (rows_arm A) refl h (D.finds items (upto items w X) A e₁ f₁ (light_back weigh items w (X ++ rows_arm A) l X (rows_arm A) refl) h.place)) A (e ∙ is) fit light;
  }

  pub tree_then_found : {tr : Tree} → b ≡ true → TreeThen weigh means until rs height found tr p p (Ok o)
  tree_then_found some = record { lands = λ items w X t e fit low light f. lands_kept ok tested some items w X (rows t) f }

  pub tree_then : {tr : Tree} {p' : V} {r : Result (Option ℕ) Unsound} → b ≡ false → TreeSearched weigh means until rs height tr p p' r → TreeThen weigh means until rs height found tr p p' r
  tree_then nay S = record {
    lands = λ items w X t e fit low light f.
        let h = lands_past ok tested nay items w X f in
        lands_then items w (X ++ rows t) X (rows t) refl h (S.finds items (upto items w X) t e fit low (light_back weigh items w (X ++ rows t) light X (rows t) refl) h.place);
  }

turns_leaf : {R I V : Type 0} {means : List I → V} {says : V → Bool} (rs : List (Record R V)) (items : R → List I) (v : List I) (u : Twig R V) (k : ℕ) (X : List R → List R → Type 0) → k ≡ 0 → FitTwig (mean means items) rs u k
    → says (means (upto items v (rows_twig u))) ≡ true → X [] [] → Turns means says items v (rows_twig u) X
turns_leaf rs items v (leaf j row value) k X z fit y x = record { row = row; xs = []; ys = []; text = refl; no = inl refl; yes = y; rest = x }
turns_leaf rs items v (two j value a b) zero X z fit y x = absurd fit
turns_leaf rs items v (two j value a b) (suc k) X z fit y x = absurd (omega arith)
turns_leaf rs items v (three j value a b c) zero X z fit y x = absurd fit
turns_leaf rs items v (three j value a b c) (suc k) X z fit y x = absurd (omega arith)

module _ {R I V : Type 0} (weigh : I → ℕ) {means : List I → V} {from until : V → Bool} {rs : List (Record R V)} where
  -- the rows c are searched after what lies beyond in the rows b
  beyond_in : (items : R → List I) (v w : List I) (T a b c : List R) {p p' : V} {x r : Result (Option ℕ) Unsound} → T ≡ a ++ (b ++ c) → weights weigh (upto items w T) ≤ heaviest → NotYet means from items v a
      → Beyond means from until items rs (upto items v a) w b p x
      → ((ys : List R) → weights weigh (upto items w (ys ++ c)) ≤ heaviest → Lands means until items rs w ys p x → Lands means until items rs w (ys ++ c) p' r)
      → Beyond means from until items rs v w T p' r
  beyond_in items v w T a b c {p} {p'} {x} {r} e light nay t go =
      turns_in items v T a b c (λ xs ys. Lands means until items rs w ys p x) (λ xs ys. Lands means until items rs w ys p' r) e nay t
      (λ t. go t.ys (light_rest weigh items w T light (a ++ (t.xs ++ (t.row ∷ []))) (t.ys ++ c) (e ∙ ap (λ q. a ++ (q ++ c)) t.text ∙ simp append_assoc)) t.rest)

module _ {R I V : Type 0} {weigh : I → ℕ} {means : List I → V} {from until : V → Bool} {rs : List (Record R V)} where
  pub after_leaf : {height i : ℕ} {s p : V} → height ≡ 0 → TwigAfter weigh means from until rs height i s p p (Ok None)
  after_leaf {height} {p = p} z = record {
    seeks = λ items v w u e fit lv lw es ep y. turns_leaf rs items v u height (λ xs ys. Lands means until items rs w ys p (Ok None)) z fit y (inl (refl, past_none items w ep));
  }

  module _ {height i : ℕ} {s p : V} {ps : Result Digit Unsound} (high : height ≡ 0 → ⊥) (rd : ps ≡ parts_in (get_or rs i none)) where
    pub after_no_parts : {p' : V} {x : Unsound} {r : Result (Option ℕ) Unsound} → ps ≡ Err x → TwigAfter weigh means from until rs height i s p p' r
    after_no_parts bad = record { seeks = λ items v w u e fit lv lw es ep y. absurd (ok_err (opened (mean means items) rs high rd u height refl e fit).4 bad) }

    module _ {d : Digit} {s₁ : V} {q : Result (Option Cut) Unsound} (got : ps ≡ Ok d) (pk : Picked weigh means from rs d s s₁ q) where
      pub after_err : {p' : V} {x : Unsound} {r : Result (Option ℕ) Unsound} → q ≡ Err x → TwigAfter weigh means from until rs height i s p p' r
      after_err bad = record { seeks = λ items v w u e fit lv lw es ep y. absurd (ok_err (struck_in high rd got pk items v u e fit lv es y).4.ok bad) }

      pub after_none : {p' : V} {f : Option Cut} {r : Result (Option ℕ) Unsound} → q ≡ Ok f → f ≡ None → TwigAfter weigh means from until rs height i s p p' r
      after_none ok nay = record { seeks = λ items v w u e fit lv lw es ep y. let o = (struck_in high rd got pk items v u e fit lv es y).4.ok in absurd (let z : ◌≡◌ {A = ℕ} 0 1 = cc in omega arith) }

      pub after_some : {p₁ p' : V} {f : Option Cut} {cut : Cut} {x r : Result (Option ℕ) Unsound} → q ≡ Ok f → f ≡ Some cut → TwigAfter weigh means from until rs (height - 1) cut.at s₁ p p₁ x
          → DigitThen weigh means until rs (height - 1) x cut.right p₁ p' r → TwigAfter weigh means from until rs height i s p p' r
      after_some {p₁} {p'} {cut = cut} {x} {r} ok some D E = record {
        seeks = λ items v w u e fit lv lw es ep y.
            let S = struck_in high rd got pk items v u e fit lv es y in
            let s = S.4 in
            let o = s.ok in
            let cut-is : cut ≡ cut_of s.L s.u s.Q = cc in
            let h_is : height - 1 ≡ S.1 = omega (arith, S.2) in
            let text : rows_twig u ≡ rows_part s.L ++ (rows_twig s.u ++ rows_part s.Q) = sym S.3 ∙ s.slit.text in
            let B = D.seeks items (upto items v (rows_part s.L)) w s.u (sym (ap (λ (c : Cut). c.at) cut-is)) (subst (λ k. FitTwig (mean means items) rs s.u k) (sym h_is) s.slit.fit_u)
            (light_mid weigh items v (rows_twig u) lv (rows_part s.L) (rows_twig s.u) (rows_part s.Q) text)
            (light_front weigh items w (rows_twig s.u ++ rows_part s.Q) (light_rest weigh items w (rows_twig u) lw (rows_part s.L) (rows_twig s.u ++ rows_part s.Q) text) (rows_twig s.u) (rows_part s.Q) refl)
            s.past.place ep s.yes in
            beyond_in weigh items v w (rows_twig u) (rows_part s.L) (rows_twig s.u) (rows_part s.Q) text lw s.past.no B
            (λ ys l f. E.lands items w ys s.Q (sym (ap (λ (c : Cut). c.right) cut-is)) (subst (λ k. FitPart (mean means items) rs s.Q k) (sym h_is) s.slit.fit_r) l f);
      }

  -- a digit in which the first probe turns yes
  struck_beyond : {height : ℕ} {s₁ p p₁ p' : V} {q : Result (Option Cut) Unsound} {f : Option Cut} {cut : Cut} {x r : Result (Option ℕ) Unsound} → q ≡ Ok f → f ≡ Some cut → TwigAfter weigh means from until rs height cut.at s₁ p p₁ x
      → (items : R → List I) (v w : List I) (A : Arm R V) (Z : List R) → weights weigh (upto items v (rows_arm A ++ Z)) ≤ heaviest → weights weigh (upto items w (rows_arm A ++ Z)) ≤ heaviest → p ≡ means w
      → (s : Struck weigh means from items rs v A height s₁ q)
      → ((ys : List R) → weights weigh (upto items w (ys ++ (rows_part s.Q ++ Z))) ≤ heaviest → part_of s.Q ≡ cut.right → Lands means until items rs w ys p₁ x → Lands means until items rs w (ys ++ (rows_part s.Q ++ Z)) p' r)
      → Beyond means from until items rs v w (rows_arm A ++ Z) p' r
  struck_beyond {cut = cut} ok some D items v w A Z lv lw ep s go =
      let o = s.ok in
      let cut-is : cut ≡ cut_of s.L s.u s.Q = cc in
      let text : rows_arm A ++ Z ≡ rows_part s.L ++ (rows_twig s.u ++ (rows_part s.Q ++ Z)) = ap (λ q. q ++ Z) s.slit.text ∙ simp append_assoc in
      let B = D.seeks items (upto items v (rows_part s.L)) w s.u (sym (ap (λ (c : Cut). c.at) cut-is)) s.slit.fit_u
      (light_mid weigh items v (rows_arm A ++ Z) lv (rows_part s.L) (rows_twig s.u) (rows_part s.Q ++ Z) text)
      (light_front weigh items w (rows_twig s.u ++ (rows_part s.Q ++ Z)) (light_rest weigh items w (rows_arm A ++ Z) lw (rows_part s.L) (rows_twig s.u ++ (rows_part s.Q ++ Z)) text) (rows_twig s.u) (rows_part s.Q ++ Z) refl)
      s.past.place ep s.yes in
      beyond_in weigh items v w (rows_arm A ++ Z) (rows_part s.L) (rows_twig s.u) (rows_part s.Q ++ Z) text lw s.past.no B (λ ys l f. go ys l (sym (ap (λ (c : Cut). c.right) cut-is)) f)

  module _ {height : ℕ} {d : Digit} {s s₁ p : V} {q : Result (Option Cut) Unsound} (pk : Picked weigh means from rs d s s₁ q) where
    pub digit_after_err : {p' : V} {x : Unsound} {r : Result (Option ℕ) Unsound} → q ≡ Err x → DigitAfter weigh means from until rs height d s p p' r
    digit_after_err bad = record {
      seeks = λ items v w A e fit lv lw es ep. ⊎_elim (λ h. absurd (ok_err h.0 bad)) (λ t. absurd (ok_err t.ok bad)) (pk.picks items v A height e fit lv es);
    }

    pub digit_after_none : {f : Option Cut} → q ≡ Ok f → f ≡ None → DigitAfter weigh means from until rs height d s p p (Ok None)
    digit_after_none ok nay = record {
      seeks = λ items v w A e fit lv lw es ep.
          ⊎_elim (λ h. inl (refl, refl, h.1.no)) (λ t. let o = t.ok in absurd (let z : ◌≡◌ {A = ℕ} 0 1 = cc in omega arith)) (pk.picks items v A height e fit lv es);
    }

    pub digit_after_some : {p₁ p' : V} {f : Option Cut} {cut : Cut} {x r : Result (Option ℕ) Unsound} → q ≡ Ok f → f ≡ Some cut → TwigAfter weigh means from until rs height cut.at s₁ p p₁ x
        → DigitThen weigh means until rs height x cut.right p₁ p' r → DigitAfter weigh means from until rs height d s p p' r
    digit_after_some {p₁} {p'} {x = x} {r} ok some D E = record {
      seeks = λ items v w A e fit lv lw es ep.
          ⊎_elim (λ h. let o = h.0 in absurd (let z : ◌≡◌ {A = ℕ} 0 1 = cc in omega arith))
          (λ t.
          let nil_is : rows_arm A ++ [] ≡ rows_arm A = append-nil (rows_arm A) in
          inr (subst (λ T. Beyond means from until items rs v w T p' r) nil_is
          (struck_beyond ok some D items v w A [] (subst (λ T. weights weigh (upto items v T) ≤ heaviest) (sym nil_is) lv) (subst (λ T. weights weigh (upto items w T) ≤ heaviest) (sym nil_is) lw) ep t
          (λ ys l eq f.
          let q-is : rows_part t.Q ++ [] ≡ rows_part t.Q = append-nil (rows_part t.Q) in
          subst (λ T. Lands means until items rs w (ys ++ T) p' r) (sym q-is)
          (E.lands items w ys t.Q eq t.slit.fit_r (subst (λ T. weights weigh (upto items w (ys ++ T)) ≤ heaviest) q-is l) f)))))
          (pk.picks items v A height e fit lv es);
    }

  pub tree_after_empty : {height : ℕ} {tr : Tree} {s p : V} → tr ≡ Empty → TreeAfter weigh means from until rs height tr s p p (Ok None)
  tree_after_empty {p = p} is = record { seeks = λ items v w t e fit low lv lw es ep. tree_empty (λ t. AfterIn means from until items rs v w (rows t) p p (Ok None)) (inl (refl, refl, inl refl)) t (e ∙ is) }

  pub tree_after_single : {height i : ℕ} {tr : Tree} {s p p' : V} {r : Result (Option ℕ) Unsound} → tr ≡ Single i → DigitAfter weigh means from until rs height (One i) s p p' r → TreeAfter weigh means from until rs height tr s p p' r
  tree_after_single {height} {i} {tr} {s} {p} {p'} {r} is D = record {
    seeks = λ items v w t e fit low lv lw es ep.
        tree_single (λ t. Fit (mean means items) rs t height → weights weigh (upto items v (rows t)) ≤ heaviest → weights weigh (upto items w (rows t)) ≤ heaviest → AfterIn means from until items rs v w (rows t) p p' r) i
        (λ u eu f l₁ l₂. D.seeks items v w (a1 u) (ap One eu) f l₁ l₂ es ep) t (e ∙ is) fit lv lw;
  }

  module _ {height i : ℕ} {tr : Tree} {s p : V} {sp : Result Spine Unsound} (deep_is : tr ≡ Deep i) (rd : sp ≡ spine_in (get_or rs i none)) where
    pub tree_after_no_level : {p' : V} {x : Unsound} {r : Result (Option ℕ) Unsound} → sp ≡ Err x → TreeAfter weigh means from until rs height tr s p p' r
    tree_after_no_level bad = record { seeks = λ items v w t e fit low lv lw es ep. absurd (no_level (mean means items) rs height rd bad t (e ∙ deep_is) fit) }

    module _ {level : Spine} (got : sp ≡ Ok level) where
      -- every path at a level
      at_after : {p' : V} {r : Result (Option ℕ) Unsound}
          → ((items : R → List I) (v w : List I) (F : Arm R V) (m : Finger R V) (B : Arm R V) → digit_of F ≡ level.front → tree_of m ≡ level.middle → digit_of B ≡ level.back
          → FitArm (mean means items) rs F height → Fit (mean means items) rs m (height + 1) → FitArm (mean means items) rs B height → height + suc (levels m) ≤ 16
          → weights weigh (upto items v (rows_arm F ++ (rows m ++ rows_arm B))) ≤ heaviest → weights weigh (upto items w (rows_arm F ++ (rows m ++ rows_arm B))) ≤ heaviest → s ≡ means v → p ≡ means w
          → AfterIn means from until items rs v w (rows_arm F ++ (rows m ++ rows_arm B)) p p' r)
          → TreeAfter weigh means from until rs height tr s p p' r
      at_after {p'} {r} go = record {
        seeks = λ items v w t e fit low lv lw es ep.
            at_level rs rd got (λ t. Fit (mean means items) rs t height → height + levels t ≤ 16 → weights weigh (upto items v (rows t)) ≤ heaviest → weights weigh (upto items w (rows t)) ≤ heaviest → AfterIn means from until items rs v w (rows t) p p' r)
            (λ value F m B ef em eb f lo l₁ l₂.
            let text : (rows_arm F ++ rows m) ++ rows_arm B ≡ rows_arm F ++ (rows m ++ rows_arm B) = append_assoc (rows_arm F) (rows m) (rows_arm B) in
            subst (λ q. AfterIn means from until items rs v w q p p' r) (sym text)
            (go items v w F m B ef em eb f.2 (subst (λ k. Fit (mean means items) rs m k) (let z : suc height ≡ height + 1 = omega arith in z) f.3) f.4 lo
            (subst (λ q. weights weigh (upto items v q) ≤ heaviest) text l₁) (subst (λ q. weights weigh (upto items w q) ≤ heaviest) text l₂) es ep))
            (mean means items) t height fit (e ∙ deep_is) fit low lv lw;
      }

      pub tree_after_too_deep : {p' : V} {r : Result (Option ℕ) Unsound} → 16 ≤ height → TreeAfter weigh means from until rs height tr s p p' r
      tree_after_too_deep high = at_after (λ items v w F m B ef em eb ff fm fb lo lv lw es ep. absurd (omega arith))

      module _ {s₁ : V} {q : Result (Option Cut) Unsound} (pk : Picked weigh means from rs level.front s s₁ q) where
        pub tree_after_err : {p' : V} {x : Unsound} {r : Result (Option ℕ) Unsound} → q ≡ Err x → TreeAfter weigh means from until rs height tr s p p' r
        tree_after_err bad = at_after (λ items v w F m B ef em eb ff fm fb lo lv lw es ep.
            ⊎_elim (λ h. absurd (ok_err h.0 bad)) (λ t. absurd (ok_err t.ok bad)) (pk.picks items v F height ef ff (light_front weigh items v (rows_arm F ++ (rows m ++ rows_arm B)) lv (rows_arm F) (rows m ++ rows_arm B) refl) es))

        pub tree_after_front : {p₁ p₂ p₃ p' : V} {f : Option Cut} {cut : Cut} {x y z r : Result (Option ℕ) Unsound} → q ≡ Ok f → f ≡ Some cut → TwigAfter weigh means from until rs height cut.at s₁ p p₁ x
            → DigitThen weigh means until rs height x cut.right p₁ p₂ y → TreeThen weigh means until rs (height + 1) y level.middle p₂ p₃ z → DigitThen weigh means until rs height z (Some level.back) p₃ p' r → TreeAfter weigh means from until rs height tr s p p' r
        tree_after_front {p₁} {p₂} {p₃} {p'} {r = r} ok some D E₁ E₂ E₃ = at_after (λ items v w F m B ef em eb ff fm fb lo lv lw es ep.
            ⊎_elim (λ h. let o = h.0 in absurd (let z : ◌≡◌ {A = ℕ} 0 1 = cc in omega arith))
            (λ t.
            inr (struck_beyond ok some D items v w F (rows m ++ rows_arm B) lv lw ep t
            (λ ys l eq f.
            let text : ys ++ (rows_part t.Q ++ (rows m ++ rows_arm B)) ≡ ((ys ++ rows_part t.Q) ++ rows m) ++ rows_arm B = simp append_assoc in
            let l₃ = subst (λ T. weights weigh (upto items w T) ≤ heaviest) text l in
            let l₂ = light_front weigh items w (((ys ++ rows_part t.Q) ++ rows m) ++ rows_arm B) l₃ ((ys ++ rows_part t.Q) ++ rows m) (rows_arm B) refl in
            let l₁ = light_front weigh items w ((ys ++ rows_part t.Q) ++ rows m) l₂ (ys ++ rows_part t.Q) (rows m) refl in
            subst (λ T. Lands means until items rs w T p' r) (sym text)
            (E₃.lands items w ((ys ++ rows_part t.Q) ++ rows m) (Some B) (ap Some eb) fb l₃
            (E₂.lands items w (ys ++ rows_part t.Q) m em fm (omega arith) l₂
            (E₁.lands items w ys t.Q eq t.slit.fit_r l₁ f))))))
            (pk.picks items v F height ef ff (light_front weigh items v (rows_arm F ++ (rows m ++ rows_arm B)) lv (rows_arm F) (rows m ++ rows_arm B) refl) es))

        module _ {f : Option Cut} {s₂ : V} {q₂ : Result Bool Unsound} (ok : q ≡ Ok f) (nay : f ≡ None) (pass : TreePassed weigh means from rs level.middle s₁ s₂ q₂) where
          at_mid : {p' : V} {r : Result (Option ℕ) Unsound}
              → ((items : R → List I) (v w : List I) (F : Arm R V) (m : Finger R V) (B : Arm R V) → tree_of m ≡ level.middle → digit_of B ≡ level.back → Fit (mean means items) rs m (height + 1) → FitArm (mean means items) rs B height → height + suc (levels m) ≤ 16
              → weights weigh (upto items v (rows_arm F ++ (rows m ++ rows_arm B))) ≤ heaviest → weights weigh (upto items w (rows_arm F ++ (rows m ++ rows_arm B))) ≤ heaviest → p ≡ means w → Past means from items v (rows_arm F) s₁
              → Passes weigh means from items (upto items v (rows_arm F)) (rows m) s₁ s₂ q₂ → AfterIn means from until items rs v w (rows_arm F ++ (rows m ++ rows_arm B)) p p' r)
              → TreeAfter weigh means from until rs height tr s p p' r
          at_mid go = at_after (λ items v w F m B ef em eb ff fm fb lo lv lw es ep.
              ⊎_elim
              (λ h. go items v w F m B em eb fm fb lo lv lw ep h.1
              (pass.passes items (upto items v (rows_arm F)) m (height + 1) em fm (light_mid weigh items v (rows_arm F ++ (rows m ++ rows_arm B)) lv (rows_arm F) (rows m) (rows_arm B) refl) h.1.place))
              (λ t. let o = t.ok in absurd (let z : ◌≡◌ {A = ℕ} 0 1 = cc in omega arith))
              (pk.picks items v F height ef ff (light_front weigh items v (rows_arm F ++ (rows m ++ rows_arm B)) lv (rows_arm F) (rows m ++ rows_arm B) refl) es))

          pub tree_after_mid_err : {p' : V} {x : Unsound} {r : Result (Option ℕ) Unsound} → q₂ ≡ Err x → TreeAfter weigh means from until rs height tr s p p' r
          tree_after_mid_err bad = at_mid (λ items v w F m B em eb fm fb lo lv lw ep h g. ⊎_elim (λ x. absurd (ok_err x.0 bad)) (λ x. absurd (ok_err x.0 bad)) g)

          pub tree_after_back : {p' : V} {y : Bool} {r : Result (Option ℕ) Unsound} → q₂ ≡ Ok y → y ≡ false → DigitAfter weigh means from until rs height level.back s₂ p p' r → TreeAfter weigh means from until rs height tr s p p' r
          tree_after_back {p'} {r = r} qy is D = at_mid (λ items v w F m B em eb fm fb lo lv lw ep h g.
              ⊎_elim (λ x. let o = x.0 in absurd (let z : ◌≡◌ {A = ℕ} 0 1 = cc in omega arith))
              (λ x.
              let no₁ = no_then means from items v (rows_arm F) (rows m) h.no x.1.no in
              let text : rows_arm F ++ (rows m ++ rows_arm B) ≡ (rows_arm F ++ rows m) ++ rows_arm B = sym (append_assoc (rows_arm F) (rows m) (rows_arm B)) in
              let text₁ : rows_arm F ++ (rows m ++ rows_arm B) ≡ (rows_arm F ++ rows m) ++ (rows_arm B ++ []) = text ∙ ap (λ q. (rows_arm F ++ rows m) ++ q) (sym (append-nil (rows_arm B))) in
              let s-is : s₂ ≡ means (upto items v (rows_arm F ++ rows m)) = x.1.place ∙ ap means (sym (on items v (rows_arm F) (rows m))) in
              ⊎_elim (λ k. inl (k.0, k.1, subst (λ q. NotYet means from items v q) (sym text) (no_then means from items v (rows_arm F ++ rows m) (rows_arm B) no₁ k.2)))
              (λ k. inr (beyond_in weigh items v w (rows_arm F ++ (rows m ++ rows_arm B)) (rows_arm F ++ rows m) (rows_arm B) [] text₁ lw no₁ k
              (λ ys l f. subst (λ q. Lands means until items rs w q p' r) (sym (append-nil ys)) f)))
              (D.seeks items (upto items v (rows_arm F ++ rows m)) w B eb fb (light_back weigh items v (rows_arm F ++ (rows m ++ rows_arm B)) lv (rows_arm F ++ rows m) (rows_arm B) text)
              (light_rest weigh items w (rows_arm F ++ (rows m ++ rows_arm B)) lw (rows_arm F ++ rows m) (rows_arm B) text) s-is ep)) g)

          pub tree_after_middle : {p₁ p' : V} {y : Bool} {x r : Result (Option ℕ) Unsound} → q₂ ≡ Ok y → y ≡ true → TreeAfter weigh means from until rs (height + 1) level.middle s₂ p p₁ x
              → DigitThen weigh means until rs height x (Some level.back) p₁ p' r → TreeAfter weigh means from until rs height tr s p p' r
          tree_after_middle {p₁} {p'} {x = x₁} {r} qy is D E = at_mid (λ items v w F m B em eb fm fb lo lv lw ep h g.
              ⊎_elim
              (λ x.
              ⊎_elim (λ k. absurd (some_turn means from items v (rows_arm F) (rows m) h.no (arm_some F) x.2 (yes_none means from items (upto items v (rows_arm F)) (rows m) k.2 x.2)))
              (λ k. inr (beyond_in weigh items v w (rows_arm F ++ (rows m ++ rows_arm B)) (rows_arm F) (rows m) (rows_arm B) refl lw h.no k
              (λ ys l f. E.lands items w ys (Some B) (ap Some eb) fb l f)))
              (D.seeks items (upto items v (rows_arm F)) w m em fm (omega arith) (light_mid weigh items v (rows_arm F ++ (rows m ++ rows_arm B)) lv (rows_arm F) (rows m) (rows_arm B) refl)
              (light_front weigh items w (rows m ++ rows_arm B) (light_rest weigh items w (rows_arm F ++ (rows m ++ rows_arm B)) lw (rows_arm F) (rows m ++ rows_arm B) refl) (rows m) (rows_arm B) refl)
              (x.1 ∙ h.place) ep))
              (λ x. let o = x.0 in absurd (let z : ◌≡◌ {A = ℕ} 0 1 = cc in omega arith)) g)

  pub sought_after : {tr : Tree} {s p p' : V} {r : Result (Option ℕ) Unsound} → Keeps weigh means from → Keeps weigh means until → s ≡ means [] → TreeAfter weigh means from until rs 0 tr s p p' r → SoughtAfter weigh means from until rs tr p p' r
  sought_after {p' = p'} {r} kf ku es S = record {
    seeks = λ items w t e fit small light ep.
        let bare = light_bare weigh items w (rows t) light in
        ⊎_elim (λ h. inl (h.0, h.1, never kf items [] (rows t) bare h.2))
        (λ k. inr (record {
          row = k.row;
          xs = k.xs;
          ys = k.ys;
          text = k.text;
          no = k.no;
          yes = k.yes;
          rest = (
            never kf items [] k.xs (light_front weigh items [] (rows t) bare k.xs (k.row ∷ k.ys) k.text) k.no,
            finds_all ku items w k.ys (light_rest weigh items w (rows t) light (k.xs ++ (k.row ∷ [])) k.ys (k.text ∙ sym (append_assoc k.xs (k.row ∷ []) k.ys))) k.rest,
          );
        }))
        (S.seeks items [] w t e fit (omega (arith, few_levels (mean means items) rs t fit small)) bare light es ep);
  }
