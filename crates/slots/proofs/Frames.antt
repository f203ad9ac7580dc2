-- What a change of some slots leaves alone. Assumes nothing.
use Rattle.std.proofs.Common.{◌≢◌, sym, refl, ap, ◌∙◌, subst, inl, inr, ⊎_elim, arith, length-set, get_or-set_other, get_or-set_same, eq-eqb, ne_eqb}
use Rattle.std.proofs.lemmas.Bool.{cases_eq}
use Rattle.std.specs.Prelude.{◌≡◌, true, cond, List, [], ◌∷◌, ◌++◌, ◌⊎◌, ℕ, zero, suc, ◌+◌, ◌≤◌, ◌<◌, length, get_or, set}
use Rattle.std.specs.declared.option.Option.{Option}
use Rattle.std.specs.declared.option.Option.TheVariants.{None, Some}
use Rattle.slots.specs.Words.{Record}
use Rattle.slots.specs.Ghost.{Twig, leaf, two, three, Arm, a1, a2, a3, a4, Finger, nil, one, deep, same, occ_list, none, occ_twig, occ_arm, occ_part, occ, At, FitTwig, FitArm, FitPart, Fit, Chain, loose, Calm, Off}

pub same_self : (i : ℕ) → same i i ≡ 1
unfolding same
same_self i = ap (λ b. cond b 1 0) (eq-eqb i i refl)

pub same_cases : (i k : ℕ) → (k ≡ i) ⊎ ((same i k ≡ 0) × (k ≢ i))
unfolding same
same_cases i k = ⊎_elim (λ e. inl e) (λ ne. inr (ap (λ b. cond b 1 0) (ne_eqb i k (λ e. ne (sym e))), ne)) (cases_eq k i)

pub apart : (i k : ℕ) → same i k ≡ 0 → k ≢ i
apart i k z e = let w : same i i ≡ 0 = subst (λ q. same i q ≡ 0) e z in omega (arith, same_self i)

pub occ_list_append : (xs ys : List ℕ) (j : ℕ) → occ_list (xs ++ ys) j ≡ occ_list xs j + occ_list ys j
occ_list_append [] ys j = omega arith
occ_list_append (a ∷ xs) ys j = omega (arith, occ_list_append xs ys j)

module _ {R V : Type 0} where
  pub calm_then : {a b c : Record R V} → Calm a b → Calm b c → Calm a c
  calm_then p (inl l) = inl l
  calm_then (inl l) (inr e) = inl (ap loose e ∙ l)
  calm_then (inr d) (inr e) = inr (e ∙ d)

  pub at_set : (rs : List (Record R V)) (i : ℕ) (c : Record R V) → i < length rs → At (set rs i c) i c
  at_set rs i c h = record { within = simp length-set h; is = get_or-set_same rs i c none h }

  pub off_refl : {rs : List (Record R V)} {τ : ℕ → ℕ} → Off rs rs τ
  off_refl = record { len = refl; reads = λ j z. refl }

  pub off_set : (rs : List (Record R V)) (i : ℕ) (c : Record R V) → Off rs (set rs i c) (same i)
  off_set rs i c = record { len = length-set rs i c; reads = λ k z. get_or-set_other rs i k c none (apart i k z) }

  pub off_then : {rs rs₁ rs₂ : List (Record R V)} {τ τ₁ : ℕ → ℕ} → Off rs rs₁ τ → Off rs₁ rs₂ τ₁ → Off rs rs₂ (λ k. τ k + τ₁ k)
  off_then p q = record { len = q.len ∙ p.len; reads = λ k z. q.reads k (omega arith) ∙ p.reads k (omega arith) }

  pub off_more : {rs rs₁ : List (Record R V)} {τ : ℕ → ℕ} (τ₁ : ℕ → ℕ) → ((k : ℕ) → τ₁ k ≡ 0 → τ k ≡ 0) → Off rs rs₁ τ → Off rs rs₁ τ₁
  off_more τ₁ le p = record { len = p.len; reads = λ k z. p.reads k (le k z) }

  -- one slot was written
  pub record Put (rs rs' : List (Record R V)) (i : ℕ) (c : Record R V) : Type 0 where
    pub at : At rs' i c
    pub off : Off rs rs' (same i)

  pub put : {rs rs' : List (Record R V)} {i : ℕ} {c : Record R V} → i < length rs → rs' ≡ set rs i c → Put rs rs' i c
  put {rs} {rs'} {i} {c} within is = record { at = subst (λ q. At q i c) (sym is) (at_set rs i c within); off = subst (λ q. Off rs q (same i)) (sym is) (off_set rs i c) }

  -- a free record or a level is no new leaf or node
  pub put_calm : {rs rs' : List (Record R V)} {i : ℕ} {c : Record R V} → Put rs rs' i c → loose c ≡ true → (j : ℕ) → Calm (get_or rs j none) (get_or rs' j none)
  put_calm {rs} {rs'} {i} p l j = ⊎_elim (λ e. inl (ap (λ q. loose (get_or rs' q none)) e ∙ ap loose p.at.is ∙ l)) (λ n. inr (p.off.reads j n.0)) (same_cases i j)

  module _ {rs rs₁ : List (Record R V)} {τ : ℕ → ℕ} (off : Off rs rs₁ τ) where
    pub frame_at : (i : ℕ) (c : Record R V) → τ i ≡ 0 → At rs i c → At rs₁ i c
    frame_at i c z at = record { within = omega (arith, off.len, at.within); is = off.reads i z ∙ at.is }

    pub frame_twig : (mean : List R → V) (w : Twig R V) (k : ℕ) → ((i : ℕ) → occ_twig w i + τ i ≤ 1) → FitTwig mean rs w k → FitTwig mean rs₁ w k
    frame_twig mean (leaf i row v) zero once fit = (frame_at i _ (omega (arith, once i, same_self i)) fit.0, fit.1)
    frame_twig mean (leaf i row v) (suc k) once fit = fit
    frame_twig mean (two i v l r) zero once fit = fit
    frame_twig mean (two i v l r) (suc k) once fit = (frame_at i _ (omega (arith, once i, same_self i)) fit.0, fit.1, frame_twig mean l k (λ j. omega (arith, once j)) fit.2, frame_twig mean r k (λ j. omega (arith, once j)) fit.3)
    frame_twig mean (three i v l m r) zero once fit = fit
    frame_twig mean (three i v l m r) (suc k) once fit = (frame_at i _ (omega (arith, once i, same_self i)) fit.0, fit.1, frame_twig mean l k (λ j. omega (arith, once j)) fit.2, frame_twig mean m k (λ j. omega (arith, once j)) fit.3, frame_twig mean r k (λ j. omega (arith, once j)) fit.4)

    pub frame_arm : (mean : List R → V) (w : Arm R V) (k : ℕ) → ((i : ℕ) → occ_arm w i + τ i ≤ 1) → FitArm mean rs w k → FitArm mean rs₁ w k
    frame_arm mean (a1 a) k once fit = frame_twig mean a k once fit
    frame_arm mean (a2 a b) k once fit = (frame_twig mean a k (λ j. omega (arith, once j)) fit.0, frame_twig mean b k (λ j. omega (arith, once j)) fit.1)
    frame_arm mean (a3 a b c) k once fit = (frame_twig mean a k (λ j. omega (arith, once j)) fit.0, frame_twig mean b k (λ j. omega (arith, once j)) fit.1, frame_twig mean c k (λ j. omega (arith, once j)) fit.2)
    frame_arm mean (a4 a b c d) k once fit = (frame_twig mean a k (λ j. omega (arith, once j)) fit.0, frame_twig mean b k (λ j. omega (arith, once j)) fit.1, frame_twig mean c k (λ j. omega (arith, once j)) fit.2, frame_twig mean d k (λ j. omega (arith, once j)) fit.3)

    pub frame_part : (mean : List R → V) (w : Option (Arm R V)) (k : ℕ) → ((i : ℕ) → occ_part w i + τ i ≤ 1) → FitPart mean rs w k → FitPart mean rs₁ w k
    frame_part mean None k once fit = fit
    frame_part mean (Some a) k once fit = frame_arm mean a k once fit

    pub frame : (mean : List R → V) (t : Finger R V) (k : ℕ) → ((i : ℕ) → occ t i + τ i ≤ 1) → Fit mean rs t k → Fit mean rs₁ t k
    frame mean nil k once fit = fit
    frame mean (one w) k once fit = frame_twig mean w k once fit
    frame mean (deep i v f m b) k once fit = (frame_at i _ (omega (arith, once i, same_self i)) fit.0, fit.1, frame_arm mean f k (λ j. omega (arith, once j)) fit.2, frame mean m (suc k) (λ j. omega (arith, once j)) fit.3, frame_arm mean b k (λ j. omega (arith, once j)) fit.4)

    pub frame_chain : (is : List ℕ) → ((i : ℕ) → occ_list is i + τ i ≤ 1) → Chain rs is → Chain rs₁ is
    frame_chain [] once fit = fit
    frame_chain (i ∷ is) once fit = (frame_at i _ (omega (arith, once i, same_self i)) fit.0, frame_chain is (λ j. omega (arith, once j)) fit.1)
