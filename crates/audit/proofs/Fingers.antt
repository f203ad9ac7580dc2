-- Visits of trees. Assumes nothing.
use Rattle.std.proofs.Common.{is_err, sym, refl, ap, ◌∙◌, subst, arith}
use Rattle.slots.specs.Ghost.{Finger, nil, one, deep, same, digit_of, tree_of, levels, occ_arm, occ, At, Fit}
use Rattle.slots.specs.Values.{mean}
use Rattle.slots.specs.Post.{LevelValued}
use Rattle.slots.proofs.Frames.{same_self}
use Rattle.slots.proofs.Shapes.{tree_single}
use Rattle.slots.proofs.Same.{at_same, tree_same}
use Rattle.std.specs.Prelude.{◌≡◌, true, List, [], ℕ, suc, ◌+◌, ◌≤◌, ◌<◌}
use Rattle.std.specs.declared.result.Result.{Result}
use Rattle.std.specs.declared.result.Result.TheVariants.{Ok, Err}
use Rattle.audit.specs.Words.{Unsound, unsound, Digit, Tree, Empty, Single, Deep, Record, Level}
use Rattle.audit.specs.Checks.{Rules}
use Rattle.audit.specs.Visits.{unmarked, deepest, Moment, moment, Confirmed, Entered, Kind, twig_at, arm_at, tree_at, Visited}
use Rattle.audit.specs.declared.budget.Budget.{Budget}
use Rattle.audit.proofs.Marks.{enter_falls, entered, not_entered}
use Rattle.audit.proofs.Checking.{stays_same}
use Rattle.audit.proofs.Steps.{Sole, both, worth, below, Made, refused, enter_then, sole_both, seq, stop, valued, not_found, seen_as}
use Rattle.audit.proofs.Twigs.{sole_arm, same_arm}

module _ {R V : Type 0} (rs : List (Record R V)) where
  pub sole_tree : (k : ℕ) (t : Tree) → Sole (tree_at rs k t)
  sole_tree k t mn x y p q = tree_same mn rs k x y (p.root_is ∙ sym q.root_is) p.fit q.fit

  -- the digits and the middle of a level
  abbrev pub spine_kind : ℕ → Digit → Tree → Digit → Kind R V
  spine_kind k F M B = both (both (arm_at rs k F) (tree_at rs (k + 1) M)) (arm_at rs k B)

-- the same tree of the same slots
pub same_tree : {R I V S : Type 0} {w : Rules R I V S} {rs rs' : List (Record R V)} {k : ℕ} {t : Tree} {m m₁ : Moment S} {r : Result (Unit {0}) Unsound} → rs' ≡ rs → Visited w (tree_at rs' k t) m m₁ r → Visited w (tree_at rs k t) m m₁ r
same_tree {w = w} {k = k} {t} {m} {m₁} {r} is v = subst (λ q. Visited w (tree_at q k t) m m₁ r) is v

-- what a deep tree has at its slot
deep_at : {R V : Type 0} (mn : List R → V) (rs : List (Record R V)) (i k : ℕ) (u : Finger R V) → tree_of u ≡ Deep i → Fit mn rs u k
    → ((f : Digit) (m : Tree) (b : Digit) (v : V) → At rs i (Level f m b v) → 1 ≤ occ u i → ⊥) → ⊥
deep_at mn rs i k nil e fit f = let z : ◌≡◌ {A = ℕ} 0 1 = cc in omega arith
deep_at mn rs i k (one t) e fit f = let z : ◌≡◌ {A = ℕ} 0 1 = cc in omega arith
deep_at {R} {V} mn rs i k (deep j v a m b) e fit f =
    let ji : j ≡ i = cc in
    let c : Record R V = Level (digit_of a) (tree_of m) (digit_of b) v in
    f (digit_of a) (tree_of m) (digit_of b) v (subst (λ q. At rs q c) ji fit.0) (subst (λ q. 1 ≤ same j q + (occ_arm a q + (occ m q + occ_arm b q))) ji (omega (arith, same_self j)))

module _ {R V : Type 0} (mn : List R → V) (rs : List (Record R V)) where
  level_down : (i : ℕ) (v : V) (F : Digit) (M : Tree) (B : Digit) (k : ℕ) (u : Finger R V) → tree_of u ≡ Deep i → Fit mn rs u k → levels u + k ≤ deepest → At rs i (Level F M B v)
      → Made (below i (worth v (spine_kind rs k F M B))) (λ t. deep i v t.0.0 t.0.1 t.1) mn u
  level_down i v F M B k nil e fit low at = absurd (let z : ◌≡◌ {A = ℕ} 0 1 = cc in omega arith)
  level_down i v F M B k (one t) e fit low at = absurd (let z : ◌≡◌ {A = ℕ} 0 1 = cc in omega arith)
  level_down i v F M B k (deep j v₁ a m b) e fit low at =
      let ji : j ≡ i = cc in
      let h : Level (digit_of a) (tree_of m) (digit_of b) v₁ ≡ Level F M B v = at_same ji fit.0 at in
      let vs : v ≡ v₁ = cc in
      let kk : suc k ≡ k + 1 = omega arith in
      record {
        it = ((a, m), b);
        is = (((record { root_is = cc; fit = fit.2 }, record { root_is = cc; fit = subst (λ n. Fit mn rs m n) kk fit.3; low = omega arith }), record { root_is = cc; fit = fit.4 }), vs ∙ fit.1);
        eq = cc;
      }

module _ {R I V S : Type 0} {w : Rules R I V S} {rs : List (Record R V)} {k : ℕ} {T : Tree} where
  pub tree_deep : {m : Moment S} (r : Result (Unit {0}) Unsound) → deepest < k → is_err r ≡ true → Visited w (tree_at rs k T) m m r
  tree_deep r high err = refused r (omega arith) refl err (λ t is gd few wts apart. omega (arith, is.low))

  pub tree_nil : {m : Moment S} → T ≡ Empty → k ≤ deepest → Visited w (tree_at rs k T) m m (Ok tt)
  tree_nil is low₁ = record {
    checked = [];
    ran = refl;
    at_most = omega arith;
    stays = stays_same;
    says = λ light. record { it = nil; is = record { root_is = sym is; fit = tt; low = omega arith }; each = refl; good_rows = tt; elements = omega arith; weight = omega arith; marks = λ j. omega arith; once = λ j h. h };
  }

  pub tree_one : {m m₁ : Moment S} {i : ℕ} (r : Result (Unit {0}) Unsound) → T ≡ Single i → k ≤ deepest → Visited w (twig_at rs k i) m m₁ r → Visited w (tree_at rs k T) m m₁ r
  tree_one {i = i} r is low₁ vx =
      seen_as (tree_at rs k T) r one vx (λ mn t h. refl) (λ mn t h j. refl)
      (λ mn t h. record { root_is = ap Single h.root_is ∙ sym is; fit = h.fit; low = omega arith })
      (λ mn u h. tree_single (λ A. Fit mn rs A k → Made (twig_at rs k i) one mn A) i (λ x p f. record { it = x; is = record { root_is = p; fit = f }; eq = refl }) u (h.root_is ∙ is) h.fit)

  module _ {s s₁ : List ℕ} {b : Budget} {l : S} {i : ℕ} {q : Result (Record R V) Unsound} where
    pub tree_shut : {e : Unsound} (r : Result (Unit {0}) Unsound) → T ≡ Deep i → Entered rs s s₁ i q → q ≡ Err e → is_err r ≡ true → Visited w (tree_at rs k T) (moment s b l) (moment s₁ b l) r
    tree_shut r is ent bad err =
        let shut = not_entered ent bad in
        refused r (omega (arith, ap unmarked shut.0)) refl err (λ t h gd few wts apart.
        deep_at (mean w.means (w.items l)) rs i k t (h.root_is ∙ is) h.fit (λ f m b v at has. shut.1 (Level f m b v) at (omega (arith, apart i))))

    pub tree_not : {c : Record R V} (r : Result (Unit {0}) Unsound) → T ≡ Deep i → Entered rs s s₁ i q → q ≡ Ok c → ((f : Digit) (m : Tree) (b : Digit) (v : V) → c ≡ Level f m b v → ⊥) → is_err r ≡ true → Visited w (tree_at rs k T) (moment s b l) (moment s₁ b l) r
    tree_not r is ent ok bad err =
        let e = entered ent ok refl in
        refused r (omega (arith, enter_falls e)) refl err (λ t h gd few wts apart.
        deep_at (mean w.means (w.items l)) rs i k t (h.root_is ∙ is) h.fit (λ f m b v at has. bad f m b v (at_same refl e.at at)))

    as_level : {m₁ : Moment S} {F B : Digit} {M : Tree} {v : V} {c : Record R V} (r : Result (Unit {0}) Unsound) → T ≡ Deep i → Entered rs s s₁ i q → q ≡ Ok c → c ≡ Level F M B v
        → Visited w (worth v (spine_kind rs k F M B)) (moment s₁ b l) m₁ r → Visited w (tree_at rs k T) (moment s b l) m₁ r
    as_level {F = F} {B} {M} {v} r is ent ok lev vx =
        let e = entered ent ok lev in
        let kk : k + 1 ≡ suc k = omega arith in
        seen_as (tree_at rs k T) r (λ t. deep i v t.0.0 t.0.1 t.1) (enter_then r e vx) (λ mn t h. refl) (λ mn t h j. omega arith)
        (λ mn t h. record {
          root_is = sym is;
          low = omega (arith, h.0.0.1.low);
          fit = (rw (h.0.0.0.root_is, h.0.0.1.root_is, h.0.1.root_is) e.at, h.1, h.0.0.0.fit, subst (λ n. Fit mn rs t.0.1 n) kk h.0.0.1.fit, h.0.1.fit);
        })
        (λ mn u h. level_down mn rs i v F M B k u (h.root_is ∙ is) h.fit h.low e.at)

    module _ {F B : Digit} {M : Tree} {v : V} {c : Record R V} (is : T ≡ Deep i) (ent : Entered rs s s₁ i q) (ok : q ≡ Ok c) (lev : c ≡ Level F M B v) where
      level_stopped : {m₁ : Moment S} (p r : Result (Unit {0}) Unsound) → Visited w (spine_kind rs k F M B) (moment s₁ b l) m₁ p → is_err p ≡ true → is_err r ≡ true → Visited w (tree_at rs k T) (moment s b l) m₁ r
      level_stopped p r vx bad err = as_level r is ent ok lev (not_found v p r vx bad err)

      module _ {m₁ : Moment S} {p : Result (Unit {0}) Unsound} (front : Visited w (arm_at rs k F) (moment s₁ b l) m₁ p) where
        pub front_stopped : (r : Result (Unit {0}) Unsound) → is_err p ≡ true → is_err r ≡ true → Visited w (tree_at rs k T) (moment s b l) m₁ r
        front_stopped r bad err = level_stopped (Err unsound) r (stop (arm_at rs k B) (Err unsound) (Err unsound) (stop (tree_at rs (k + 1) M) p (Err unsound) front bad refl) refl refl) refl err

        module _ {m₂ : Moment S} {rs₁ : List (Record R V)} {u : Unit {0}} {o : Result (Unit {0}) Unsound} (front_ok : p ≡ Ok u) (same₁ : rs₁ ≡ rs) (middle : Visited w (tree_at rs₁ (k + 1) M) m₁ m₂ o) where
          inner : Visited w (both (arm_at rs k F) (tree_at rs (k + 1) M)) (moment s₁ b l) m₂ o
          inner = seq o (sole_arm rs k F) front front_ok (same_tree same₁ middle)

          pub middle_stopped : (r : Result (Unit {0}) Unsound) → is_err o ≡ true → is_err r ≡ true → Visited w (tree_at rs k T) (moment s b l) m₂ r
          middle_stopped r bad err = level_stopped (Err unsound) r (stop (arm_at rs k B) o (Err unsound) inner bad refl) refl err

          module _ {m₃ : Moment S} {rs₂ : List (Record R V)} {u₁ : Unit {0}} {n : Result (Unit {0}) Unsound} (middle_ok : o ≡ Ok u₁) (same₂ : rs₂ ≡ rs₁) (back : Visited w (arm_at rs₂ k B) m₂ m₃ n) where
            all : Visited w (spine_kind rs k F M B) (moment s₁ b l) m₃ n
            all = seq n (sole_both (arm_at rs k F) (tree_at rs (k + 1) M) (sole_arm rs k F) (sole_tree rs (k + 1) M)) inner middle_ok (same_arm (same₂ ∙ same₁) back)

            pub back_stopped : (r : Result (Unit {0}) Unsound) → is_err n ≡ true → is_err r ≡ true → Visited w (tree_at rs k T) (moment s b l) m₃ r
            back_stopped r bad err = level_stopped n r all bad err

            pub level_visited : {rs₃ : List (Record R V)} {u₂ : Unit {0}} {f : Result V Unsound} (r : Result (Unit {0}) Unsound) → n ≡ Ok u₂ → rs₃ ≡ rs₂ → LevelValued w.weigh w.means rs₃ F M B f → Confirmed f v r → Visited w (tree_at rs k T) (moment s b l) m₃ r
            level_visited {f = f} r good same₃ valued_is cf =
                let va = subst (λ z. LevelValued w.weigh w.means z F M B f) (same₃ ∙ same₂ ∙ same₁) valued_is in
                as_level r is ent ok lev
                (valued r all good (λ t h light. va.values (w.items l) t.0.0 t.0.1 t.1 k (k + 1) h.0.0.root_is h.0.1.root_is h.1.root_is h.0.0.fit h.0.1.fit h.1.fit light) cf)
