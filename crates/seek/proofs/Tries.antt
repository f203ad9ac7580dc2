-- The paths of the search in a digit. Assumes nothing.
use Rattle.std.proofs.Common.{is_some, sym, refl, ap, ◌∙◌, subst, inl, inr, ⊎_elim, append_assoc, arith}
use Rattle.std.proofs.lemmas.List.{append-nil}
use Rattle.measures.specs.Law.{weights, heaviest}
use Rattle.slots.specs.Ghost.{Twig, Arm, a1, a2, a3, a4, none, rows_twig, rows_arm, rows_part, rows, FitArm, Fit}
use Rattle.slots.specs.Values.{flat, mean, value_in, JoinedOk}
use Rattle.slots.proofs.Shapes.{ok_err, ok_same, arm_one, arm_two, arm_three, arm_four, tree_empty, tree_single, tree_deep}
use Rattle.slots.proofs.Joined.{twig_value, deep_value}
use Rattle.std.specs.Prelude.{◌≡◌, Bool, true, false, List, ◌++◌, ◌⊎◌, ℕ, ◌≤◌, get_or}
use Rattle.std.specs.declared.option.Option.{Option}
use Rattle.std.specs.declared.option.Option.TheVariants.{None, Some}
use Rattle.std.specs.declared.result.Result.{Result}
use Rattle.std.specs.declared.result.Result.TheVariants.{Ok, Err}
use Rattle.seek.specs.Words.{Unsound, Digit, One, Two, Three, Four, Tree, Empty, Single, Deep, Record}
use Rattle.seek.specs.declared.digits.Cut.{Cut}
use Rattle.seek.specs.Places.{upto, Past}
use Rattle.seek.specs.Post.{cut_of, Slit, Passes, Passed, TreePassed, Tries, Tried, Picked}
use Rattle.seek.proofs.Moves.{was_none, light_mid, past_none, past_then}

-- what lies in the slot is joined on
all_is : {R I V : Type 0} {weigh : I → ℕ} {means : List I → V} {p all : V} {c j : Result V Unsound} → JoinedOk weigh means (Ok p) c j → j ≡ Ok all
    → (items : R → List I) (w : List I) (T : List R) → c ≡ Ok (mean means items T) → weights weigh (upto items w T) ≤ heaviest → p ≡ means w → all ≡ means (upto items w T)
all_is joined ok items w T v light e = ok_same ok (joined.joins w (flat items T) light (ap Ok e) v)

module _ {R I V : Type 0} {weigh : I → ℕ} {means : List I → V} {says : V → Bool} {rs : List (Record R V)} where
  module _ {i : ℕ} {p : V} {j : Result V Unsound} (joined : JoinedOk weigh means (Ok p) (value_in (get_or rs i none)) j) where
    pub reach_yes : {all : V} {b : Bool} → j ≡ Ok all → b ≡ says all → b ≡ true → Passed weigh means says rs i p p (Ok true)
    reach_yes ok said y = record { passes = λ items w T v light e. inl (refl, refl, sym (ap says (all_is joined ok items w T v light e)) ∙ sym said ∙ y) }

    pub reach_no : {all : V} {b : Bool} → j ≡ Ok all → b ≡ says all → b ≡ false → Passed weigh means says rs i p all (Ok false)
    reach_no ok said n = record { passes = λ items w T v light e. let a = all_is joined ok items w T v light e in inr (refl, record { place = a; no = inr (sym (ap says a) ∙ sym said ∙ n) }) }

    pub reach_err : {p' : V} {x : Unsound} {r : Result Bool Unsound} → j ≡ Err x → Passed weigh means says rs i p p' r
    reach_err bad = record { passes = λ items w T v light e. absurd (ok_err (joined.joins w (flat items T) light (ap Ok e) v) bad) }

  pub reach_empty : {tr : Tree} {p : V} → tr ≡ Empty → TreePassed weigh means says rs tr p p (Ok false)
  reach_empty {tr} {p} is = record { passes = λ items w t k e fit light at. tree_empty (λ t. Passes weigh means says items w (rows t) p p (Ok false)) (inr (refl, past_none items w at)) t (e ∙ is) }

  pub reach_single : {tr : Tree} {i : ℕ} {p p' : V} {r : Result Bool Unsound} → tr ≡ Single i → Passed weigh means says rs i p p' r → TreePassed weigh means says rs tr p p' r
  reach_single {tr} {i} {p} {p'} {r} is pass = record {
    passes = λ items w t k e fit light at.
        tree_single (λ t. Fit (mean means items) rs t k → weights weigh (upto items w (rows t)) ≤ heaviest → Passes weigh means says items w (rows t) p p' r) i
        (λ u eu f l. pass.passes items w (rows_twig u) (twig_value (mean means items) rs u k i eu f) l at) t (e ∙ is) fit light;
  }

  pub reach_deep : {tr : Tree} {i : ℕ} {p p' : V} {r : Result Bool Unsound} → tr ≡ Deep i → Passed weigh means says rs i p p' r → TreePassed weigh means says rs tr p p' r
  reach_deep {tr} {i} {p} {p'} {r} is pass = record {
    passes = λ items w t k e fit light at.
        tree_deep (λ t. Fit (mean means items) rs t k → weights weigh (upto items w (rows t)) ≤ heaviest → Passes weigh means says items w (rows t) p p' r) i
        (λ j v F m B ej f l. pass.passes items w ((rows_arm F ++ rows m) ++ rows_arm B) (ap (λ q. value_in (get_or rs q none)) (sym ej) ∙ deep_value (mean means items) rs j v F m B k f) l at) t (e ∙ is) fit light;
  }

  pub reach_slot : {tr : Tree} {i : ℕ} {p p' : V} {r : Result Bool Unsound} → (tr ≡ Single i) ⊎ (tr ≡ Deep i) → Passed weigh means says rs i p p' r → TreePassed weigh means says rs tr p p' r
  reach_slot (inl is) pass = reach_single is pass
  reach_slot (inr is) pass = reach_deep is pass

  none_past : (items : R → List I) (w : List I) (A : Arm R V) (k : ℕ) (X : List R) {p : V} {before : Result (Option Cut) Unsound} {taken : Option Cut}
      → Tries weigh means says items rs w A k X p before → before ≡ Ok taken → taken ≡ None → Past means says items w X p
  none_past items w A k X (inl h) e n = h.1
  none_past items w A k X (inr s) e n = let o = s.ok in absurd (let z : ◌≡◌ {A = ℕ} 0 1 = cc in omega arith)

  module _ {before : Result (Option Cut) Unsound} {taken : Option Cut} {b : Bool} {c : Cut} {p p' : V} {q : Result Bool Unsound}
      (was : before ≡ Ok taken) (tested : b ≡ is_some taken) (is : b ≡ false) (pass : Passed weigh means says rs c.at p p' q) where
    passed_at : (items : R → List I) (w : List I) (A : Arm R V) (L : Option (Arm R V)) (u : Twig R V) (Q : Option (Arm R V)) (k : ℕ) → c ≡ cut_of L u Q
        → Slit (mean means items) rs k A L u Q → weights weigh (upto items w (rows_arm A)) ≤ heaviest → Past means says items w (rows_part L) p
        → Passes weigh means says items (upto items w (rows_part L)) (rows_twig u) p p' q
    passed_at items w A L u Q k e s light h =
        pass.passes items (upto items w (rows_part L)) (rows_twig u) (twig_value (mean means items) rs u k c.at (sym (ap (λ (o : Cut). o.at) e)) s.fit_u)
        (light_mid weigh items w (rows_arm A) light (rows_part L) (rows_twig u) (rows_part Q) s.text) h.place

    pub tried_yes : {found : Bool} → q ≡ Ok found → found ≡ true → Tried weigh means says rs before c p p' (Ok (Some c))
    tried_yes qy y = record {
      tries = λ items w A L u Q k e s light tr.
          let h = none_past items w A k (rows_part L) tr was (was_none taken tested is) in
          ⊎_elim (λ o. inr (record { L = L; u = u; Q = Q; ok = ap (λ g. Ok (Some g)) e; slit = s; past = subst (λ g. Past means says items w (rows_part L) g) (sym o.1) h; yes = o.2 }))
          (λ o. let x = o.0 in absurd (let z : ◌≡◌ {A = ℕ} 0 1 = cc in omega arith)) (passed_at items w A L u Q k e s light h);
    }

    pub tried_no : {found : Bool} → q ≡ Ok found → found ≡ false → Tried weigh means says rs before c p p' (Ok None)
    tried_no qy y = record {
      tries = λ items w A L u Q k e s light tr.
          let h = none_past items w A k (rows_part L) tr was (was_none taken tested is) in
          ⊎_elim (λ o. let x = o.0 in absurd (let z : ◌≡◌ {A = ℕ} 0 1 = cc in omega arith))
          (λ o. inl (refl, past_then items w (rows_part L) (rows_twig u) h o.1)) (passed_at items w A L u Q k e s light h);
    }

    pub tried_err : {x : Unsound} {r : Result (Option Cut) Unsound} → q ≡ Err x → Tried weigh means says rs before c p p' r
    tried_err qe = record {
      tries = λ items w A L u Q k e s light tr.
          ⊎_elim (λ o. absurd (ok_err o.0 qe)) (λ o. absurd (ok_err o.0 qe)) (passed_at items w A L u Q k e s light (none_past items w A k (rows_part L) tr was (was_none taken tested is)));
    }

  -- nothing is tried after an error
  pub tried_stopped : {x : Unsound} {c : Cut} {p p' : V} {r : Result (Option Cut) Unsound} → Tried weigh means says rs (Err x) c p p' r
  tried_stopped = record { tries = λ items w A L u Q k e s light tr. ⊎_elim (λ o. absurd (ok_err o.0 refl)) (λ o. absurd (ok_err o.ok refl)) tr }

  -- the digits
  module _ {d : Digit} {p : V} where
    pub picked_one : {a : ℕ} {c₁ : Cut} {p₁ : V} {r : Result (Option Cut) Unsound} → d ≡ One a → c₁ ≡ record { left = None; at = a; right = None } → Tried weigh means says rs (Ok None) c₁ p p₁ r → Picked weigh means says rs d p p₁ r
    picked_one {a} {c₁} {p₁} {r} is e₁ t₁ = record {
      picks = λ items w A k e fit light at.
          arm_one (λ A. FitArm (mean means items) rs A k → weights weigh (upto items w (rows_arm A)) ≤ heaviest → Tries weigh means says items rs w A k (rows_arm A) p₁ r) a
          (λ x ex f l.
          t₁.tries items w (a1 x) None x None k (cc)
          (record { text = sym (append-nil (rows_twig x)); occs = λ j. omega arith; fit_l = tt; fit_u = f; fit_r = tt }) l
          (inl (refl, past_none items w at))) A (e ∙ is) fit light;
    }

    pub picked_two : {a b : ℕ} {c₁ c₂ : Cut} {p₁ p₂ : V} {r₁ r : Result (Option Cut) Unsound} → d ≡ Two a b
        → c₁ ≡ record { left = None; at = a; right = Some (One b) } → c₂ ≡ record { left = Some (One a); at = b; right = None }
        → Tried weigh means says rs (Ok None) c₁ p p₁ r₁ → Tried weigh means says rs r₁ c₂ p₁ p₂ r → Picked weigh means says rs d p p₂ r
    picked_two {a} {b} {c₁} {c₂} {p₁} {p₂} {r₁} {r} is e₁ e₂ t₁ t₂ = record {
      picks = λ items w A k e fit light at.
          arm_two (λ A. FitArm (mean means items) rs A k → weights weigh (upto items w (rows_arm A)) ≤ heaviest → Tries weigh means says items rs w A k (rows_arm A) p₂ r) a b
          (λ x y ex ey f l.
          t₂.tries items w (a2 x y) (Some (a1 x)) y None k (cc)
          (record { text = ap (λ q. rows_twig x ++ q) (sym (append-nil (rows_twig y))); occs = λ j. omega arith; fit_l = f.0; fit_u = f.1; fit_r = tt }) l
          (t₁.tries items w (a2 x y) None x (Some (a1 y)) k (cc)
          (record { text = refl; occs = λ j. omega arith; fit_l = tt; fit_u = f.0; fit_r = f.1 }) l
          (inl (refl, past_none items w at)))) A (e ∙ is) fit light;
    }

    pub picked_three : {a b c : ℕ} {c₁ c₂ c₃ : Cut} {p₁ p₂ p₃ : V} {r₁ r₂ r : Result (Option Cut) Unsound} → d ≡ Three a b c
        → c₁ ≡ record { left = None; at = a; right = Some (Two b c) } → c₂ ≡ record { left = Some (One a); at = b; right = Some (One c) } → c₃ ≡ record { left = Some (Two a b); at = c; right = None }
        → Tried weigh means says rs (Ok None) c₁ p p₁ r₁ → Tried weigh means says rs r₁ c₂ p₁ p₂ r₂ → Tried weigh means says rs r₂ c₃ p₂ p₃ r → Picked weigh means says rs d p p₃ r
    picked_three {a} {b} {c} {c₁} {c₂} {c₃} {p₁} {p₂} {p₃} {r₁} {r₂} {r} is e₁ e₂ e₃ t₁ t₂ t₃ = record {
      picks = λ items w A k e fit light at.
          arm_three (λ A. FitArm (mean means items) rs A k → weights weigh (upto items w (rows_arm A)) ≤ heaviest → Tries weigh means says items rs w A k (rows_arm A) p₃ r) a b c
          (λ x y z ex ey ez f l.
          t₃.tries items w (a3 x y z) (Some (a2 x y)) z None k (cc)
          (record { text = ap (λ q. (rows_twig x ++ rows_twig y) ++ q) (sym (append-nil (rows_twig z))); occs = λ j. omega arith; fit_l = (f.0, f.1); fit_u = f.2; fit_r = tt }) l
          (t₂.tries items w (a3 x y z) (Some (a1 x)) y (Some (a1 z)) k (cc)
          (record { text = simp append_assoc; occs = λ j. omega arith; fit_l = f.0; fit_u = f.1; fit_r = f.2 }) l
          (t₁.tries items w (a3 x y z) None x (Some (a2 y z)) k (cc)
          (record { text = simp append_assoc; occs = λ j. omega arith; fit_l = tt; fit_u = f.0; fit_r = (f.1, f.2) }) l
          (inl (refl, past_none items w at))))) A (e ∙ is) fit light;
    }

    pub picked_four : {a b c h : ℕ} {c₁ c₂ c₃ c₄ : Cut} {p₁ p₂ p₃ p₄ : V} {r₁ r₂ r₃ r : Result (Option Cut) Unsound} → d ≡ Four a b c h
        → c₁ ≡ record { left = None; at = a; right = Some (Three b c h) } → c₂ ≡ record { left = Some (One a); at = b; right = Some (Two c h) }
        → c₃ ≡ record { left = Some (Two a b); at = c; right = Some (One h) } → c₄ ≡ record { left = Some (Three a b c); at = h; right = None }
        → Tried weigh means says rs (Ok None) c₁ p p₁ r₁ → Tried weigh means says rs r₁ c₂ p₁ p₂ r₂ → Tried weigh means says rs r₂ c₃ p₂ p₃ r₃ → Tried weigh means says rs r₃ c₄ p₃ p₄ r → Picked weigh means says rs d p p₄ r
    picked_four {a} {b} {c} {h} {c₁} {c₂} {c₃} {c₄} {p₁} {p₂} {p₃} {p₄} {r₁} {r₂} {r₃} {r} is e₁ e₂ e₃ e₄ t₁ t₂ t₃ t₄ = record {
      picks = λ items w A k e fit light at.
          arm_four (λ A. FitArm (mean means items) rs A k → weights weigh (upto items w (rows_arm A)) ≤ heaviest → Tries weigh means says items rs w A k (rows_arm A) p₄ r) a b c h
          (λ x y z v ex ey ez ev f l.
          t₄.tries items w (a4 x y z v) (Some (a3 x y z)) v None k (cc)
          (record { text = ap (λ q. ((rows_twig x ++ rows_twig y) ++ rows_twig z) ++ q) (sym (append-nil (rows_twig v))); occs = λ j. omega arith; fit_l = (f.0, f.1, f.2); fit_u = f.3; fit_r = tt }) l
          (t₃.tries items w (a4 x y z v) (Some (a2 x y)) z (Some (a1 v)) k (cc)
          (record { text = simp append_assoc; occs = λ j. omega arith; fit_l = (f.0, f.1); fit_u = f.2; fit_r = f.3 }) l
          (t₂.tries items w (a4 x y z v) (Some (a1 x)) y (Some (a2 z v)) k (cc)
          (record { text = simp append_assoc; occs = λ j. omega arith; fit_l = f.0; fit_u = f.1; fit_r = (f.2, f.3) }) l
          (t₁.tries items w (a4 x y z v) None x (Some (a3 y z v)) k (cc)
          (record { text = simp append_assoc; occs = λ j. omega arith; fit_l = tt; fit_u = f.0; fit_r = (f.1, f.2, f.3) }) l
          (inl (refl, past_none items w at)))))) A (e ∙ is) fit light;
    }
