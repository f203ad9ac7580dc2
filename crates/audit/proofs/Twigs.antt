-- Visits of leaves, nodes and digits. Assumes nothing.
use Rattle.std.proofs.Common.{append_assoc, is_err, sym, refl, ap, ◌∙◌, subst, arith}
use Rattle.std.specs.List.{AllByRecursion}
use Rattle.std.proofs.lemmas.List.{append-nil}
use Rattle.measures.specs.Law.{weights}
use Rattle.slots.specs.Ghost.{Twig, leaf, two, three, Arm, a1, a2, a3, a4, same, root, digit_of, rows_twig, rows_arm, occ_twig, occ_arm, At, FitTwig, FitArm}
use Rattle.slots.specs.Values.{flat, mean, wt, node_of}
use Rattle.slots.specs.Post.{DigitValued}
use Rattle.slots.proofs.Frames.{same_self}
use Rattle.slots.proofs.Shapes.{err_only, arm_one, arm_two, arm_three, arm_four}
use Rattle.slots.proofs.Same.{at_same, twig_same, arm_same}
use Rattle.std.specs.Prelude.{◌≡◌, true, List, [], ◌∷◌, ◌++◌, Option, Some, None, ℕ, zero, suc, ◌+◌, ◌-◌, ◌≤◌, ◌<◌, length}
use Rattle.std.specs.declared.result.Result.{Result}
use Rattle.std.specs.declared.result.Result.TheVariants.{Ok, Err}
use Rattle.slots.specs.Sides.{peeled}
use Rattle.slots.specs.declared.records.Peel.{Peel}
use Rattle.slots.specs.declared.records.Side.TheVariants.{Front}
use Rattle.audit.specs.Words.{Unsound, Digit, One, Two, Three, Four, Record, Free, Leaf, Node2, Node3, Level}
use Rattle.audit.specs.Checks.{Judged, Passes, Rules, Stays}
use Rattle.audit.specs.Visits.{unmarked, Moment, moment, Spent, Spends, Confirmed, Enter, Entered, twig_at, IsArm, arm_at, node_at, Cases, Visited}
use Rattle.audit.specs.declared.budget.Budget.{Budget}
use Rattle.audit.proofs.Marks.{enter_marks, enter_once, enter_falls, entered, not_entered}
use Rattle.audit.proofs.Steps.{Sole, both, worth, below, Made, refused, enter_then, valued, not_found, stop, seen_as}

some_none : {d : Digit} → Some d ≡ None → ⊥
some_none e = let z : ◌≡◌ {A = ℕ} 0 1 = cc in omega arith

module _ {R V : Type 0} (rs : List (Record R V)) where
  pub sole_twig : (k i : ℕ) → Sole (twig_at rs k i)
  sole_twig k i mn x y p q = twig_same mn rs k x y (p.root_is ∙ sym q.root_is) p.fit q.fit

  pub sole_arm : (k : ℕ) (d : Digit) → Sole (arm_at rs k d)
  sole_arm k d mn x y p q = arm_same mn rs k x y (p.root_is ∙ sym q.root_is) p.fit q.fit

module _ {R V : Type 0} where
  -- the record of a twig
  abbrev rec_of : Twig R V → Record R V
  rec_of (leaf i row v) = Leaf row v
  rec_of (two i v l r) = Node2 (root l) (root r) v
  rec_of (three i v l m r) = Node3 (root l) (root m) (root r) v

  -- whether a record may be that of a twig k high
  abbrev Twiggy : Record R V → ℕ → Type 0
  Twiggy (Free n) k = ⊥
  Twiggy (Leaf row v) k = k ≡ 0
  Twiggy (Node2 a b v) k = 0 < k
  Twiggy (Node3 a b c v) k = 0 < k
  Twiggy (Level f m b v) k = ⊥

  root_once : (t : Twig R V) → 1 ≤ occ_twig t (root t)
  root_once (leaf i row v) = omega (arith, same_self i)
  root_once (two i v l r) = omega (arith, same_self i)
  root_once (three i v l m r) = omega (arith, same_self i)

  module _ (mn : List R → V) (rs : List (Record R V)) where
    at_root : (t : Twig R V) (k : ℕ) → FitTwig mn rs t k → At rs (root t) (rec_of t)
    at_root (leaf i row v) zero fit = fit.0
    at_root (leaf i row v) (suc k) fit = absurd fit
    at_root (two i v l r) zero fit = absurd fit
    at_root (two i v l r) (suc k) fit = fit.0
    at_root (three i v l m r) zero fit = absurd fit
    at_root (three i v l m r) (suc k) fit = fit.0

    twiggy : (t : Twig R V) (k : ℕ) → FitTwig mn rs t k → Twiggy (rec_of t) k
    twiggy (leaf i row v) zero fit = refl
    twiggy (leaf i row v) (suc k) fit = absurd fit
    twiggy (two i v l r) zero fit = absurd fit
    twiggy (two i v l r) (suc k) fit = omega arith
    twiggy (three i v l m r) zero fit = absurd fit
    twiggy (three i v l m r) (suc k) fit = omega arith

    leaf_down : (i k : ℕ) (t : Twig R V) (row : R) (v : V) → root t ≡ i → k ≡ 0 → FitTwig mn rs t k → At rs i (Leaf row v) → (rows_twig t ≡ row ∷ []) × (v ≡ mn (row ∷ []))
    leaf_down i k (leaf j row₁ v₁) row v e z fit at =
        let f : FitTwig mn rs (leaf j row₁ v₁) 0 = subst (λ q. FitTwig mn rs (leaf j row₁ v₁) q) z fit in
        let h : Leaf row₁ v₁ ≡ Leaf row v = at_same e f.0 at in
        let rows_are : row₁ ≡ row = cc in
        let vs : v ≡ v₁ = cc in
        (ap (λ q. q ∷ []) rows_are, vs ∙ f.1 ∙ ap (λ (q : R). mn (q ∷ [])) rows_are)
    leaf_down i k (two j v₁ l r) row v e z fit at = absurd (subst (λ q. FitTwig mn rs (two j v₁ l r) q) z fit)
    leaf_down i k (three j v₁ l m r) row v e z fit at = absurd (subst (λ q. FitTwig mn rs (three j v₁ l m r) q) z fit)

-- a slot that may not be entered, or holds no twig of that height
module _ {R I V S : Type 0} {w : Rules R I V S} {rs : List (Record R V)} {s s₁ : List ℕ} {b : Budget} {l : S} {k i : ℕ} {q : Result (Record R V) Unsound} where
  pub twig_shut : {e : Unsound} (r : Result (Unit {0}) Unsound) → Entered rs s s₁ i q → q ≡ Err e → is_err r ≡ true → Visited w (twig_at rs k i) (moment s b l) (moment s₁ b l) r
  twig_shut r ent is err =
      let bad = not_entered ent is in
      refused r (omega (arith, ap unmarked bad.0)) refl err (λ t h gd few wt apart.
      let at : At rs i (rec_of t) = subst (λ j. At rs j (rec_of t)) h.root_is (at_root (mean w.means (w.items l)) rs t k h.fit) in
      let has : 1 ≤ occ_twig t i = subst (λ j. 1 ≤ occ_twig t j) h.root_is (root_once t) in
      bad.1 (rec_of t) at (omega (arith, apart i)))

  pub twig_not : {c c₁ : Record R V} (r : Result (Unit {0}) Unsound) → Entered rs s s₁ i q → q ≡ Ok c → c ≡ c₁ → (Twiggy c₁ k → ⊥) → is_err r ≡ true → Visited w (twig_at rs k i) (moment s b l) (moment s₁ b l) r
  twig_not {c₁ = c₁} r ent ok is bad err =
      let e = entered ent ok is in
      refused r (omega (arith, enter_falls e)) refl err (λ t h gd few wt apart.
      let same-is : rec_of t ≡ c₁ = at_same h.root_is (at_root (mean w.means (w.items l)) rs t k h.fit) e.at in
      bad (subst (λ z. Twiggy z k) same-is (twiggy (mean w.means (w.items l)) rs t k h.fit)))

-- a leaf
module _ {R I V S : Type 0} {w : Rules R I V S} {rs : List (Record R V)} {s s₁ : List ℕ} {b : Budget} {l l₁ : S} {k i : ℕ} {row : R} {v : V} {c : Record R V} {q : Result (Record R V) Unsound} {j : Result ℕ Unsound} where
  pub leaf_judged : {b₁ : Budget} {n : ℕ} (r : Result (Unit {0}) Unsound) → Entered rs s s₁ i q → q ≡ Ok c → c ≡ Leaf row v → k ≤ 0
      → Judged w.weigh w.means (w.items l) (w.good l) row v j → j ≡ Ok n → Stays w.items w.good l l₁ → w.checks l row l₁ → Spent b b₁ n r → Visited w (twig_at rs k i) (moment s b l) (moment s₁ b₁ l₁) r
  leaf_judged {b₁} {n} r ent ok is low judged good-is stays step spent = record {
    checked = row ∷ [];
    ran = (l₁, step, refl);
    at_most = omega (arith, enter_falls e);
    stays = stays;
    says = λ light. go r spent.says;
  }
    where
      e : Enter rs s s₁ i (Leaf row v)
      e = entered ent ok is

      passes : Passes w.weigh w.means (w.items l) (w.good l) row v n
      passes = (subst (λ z. Judged w.weigh w.means (w.items l) (w.good l) row v z) good-is judged).says

      items_are : flat (w.items l) (row ∷ []) ≡ w.items l row
      items_are = append-nil (w.items l row)

      value : v ≡ mean w.means (w.items l) (row ∷ [])
      value = passes.value ∙ ap w.means (sym items_are)

      weight_is : n ≡ wt w.weigh (w.items l) (row ∷ [])
      weight_is = passes.weight ∙ ap (weights w.weigh) (sym items_are)

      go : (r : Result (Unit {0}) Unsound) → Spends b b₁ n r → Cases w (twig_at rs k i) (moment s b l) (moment s₁ b₁ l₁) (row ∷ []) r
      go (Ok u) within = record {
        it = leaf i row v;
        is = record { root_is = refl; fit = let z : 0 ≡ k = omega arith in subst (λ z. FitTwig (mean w.means (w.items l)) rs (leaf i row v) z) z (e.at, value) };
        each = refl;
        good_rows = (passes.is_good, tt);
        elements = within.elements;
        weight = omega (arith, within.weight, weight_is);
        marks = enter_marks e;
        once = enter_once e;
      }
      go (Err d) over = λ t h gd few wts apart.
          let rows_are = (leaf_down (mean w.means (w.items l)) rs i k t row v h.root_is (omega arith) h.fit e.at).0 in
          over (omega (arith, few, ap length rows_are)) (omega (arith, wts, weight_is, ap (wt w.weigh (w.items l)) rows_are))

  pub leaf_bad : {d : Unsound} (r : Result (Unit {0}) Unsound) → Entered rs s s₁ i q → q ≡ Ok c → c ≡ Leaf row v → k ≤ 0
      → Judged w.weigh w.means (w.items l) (w.good l) row v j → j ≡ Err d → Stays w.items w.good l l₁ → w.checks l row l₁ → is_err r ≡ true → Visited w (twig_at rs k i) (moment s b l) (moment s₁ b l₁) r
  leaf_bad (Err d) ent ok is low judged bad stays step err =
      let e = entered ent ok is in
      record {
        checked = row ∷ [];
        ran = (l₁, step, refl);
        at_most = omega (arith, enter_falls e);
        stays = stays;
        says = λ light t h gd few wts apart.
            let down = leaf_down (mean w.means (w.items l)) rs i k t row v h.root_is (omega arith) h.fit e.at in
            let good-row : AllByRecursion (w.good l) (row ∷ []) = subst (λ xs. AllByRecursion (w.good l) xs) down.0 gd in
            (subst (λ z. Judged w.weigh w.means (w.items l) (w.good l) row v z) bad judged).says good-row.0 (down.1 ∙ ap w.means (append-nil (w.items l row)));
      }
  leaf_bad (Ok u) ent ok is low judged bad stays step err = absurd (let z : ◌≡◌ {A = ℕ} 0 1 = cc in omega arith)

-- the same digit of the same slots
pub same_arm : {R I V S : Type 0} {w : Rules R I V S} {rs rs' : List (Record R V)} {k : ℕ} {d : Digit} {m m₁ : Moment S} {r : Result (Unit {0}) Unsound} → rs' ≡ rs → Visited w (arm_at rs' k d) m m₁ r → Visited w (arm_at rs k d) m m₁ r
same_arm {w = w} {k = k} {d} {m} {m₁} {r} is v = subst (λ q. Visited w (arm_at q k d) m m₁ r) is v

-- a digit with one twig before those of another
module _ {R V : Type 0} where
  abbrev before : Twig R V → Arm R V → Arm R V
  before x (a1 y) = a2 x y
  before x (a2 y z) = a3 x y z
  before x (a3 y z u) = a4 x y z u
  before x (a4 y z u t) = a1 x

-- the first twig of a digit, and then the others
module _ {R I V S : Type 0} {w : Rules R I V S} {rs : List (Record R V)} {k : ℕ} {m m₁ : Moment S} where
  digit_one : {a : ℕ} (r : Result (Unit {0}) Unsound) → Visited w (twig_at rs k a) m m₁ r → Visited w (arm_at rs k (One a)) m m₁ r
  digit_one {a} r v =
      seen_as (arm_at rs k (One a)) r a1 v (λ mn t h. refl) (λ mn t h j. refl)
      (λ mn t h. record { root_is = ap One h.root_is; fit = h.fit })
      (λ mn u h. arm_one (λ A. FitArm mn rs A k → Made (twig_at rs k a) a1 mn A) a (λ x p f. record { it = x; is = record { root_is = p; fit = f }; eq = refl }) u h.root_is h.fit)

  digit_two : {a b : ℕ} (r : Result (Unit {0}) Unsound) → Visited w (both (twig_at rs k a) (arm_at rs k (One b))) m m₁ r → Visited w (arm_at rs k (Two a b)) m m₁ r
  digit_two {a} {b} r v =
      let f : Twig R V × Arm R V → Arm R V = λ t. before t.0 t.1 in
      seen_as (arm_at rs k (Two a b)) r f v
      (λ mn t h. arm_one (λ A. rows_arm (before t.0 A) ≡ rows_twig t.0 ++ rows_arm A) b (λ y q. refl) t.1 h.1.root_is)
      (λ mn t h j. arm_one (λ A. occ_arm (before t.0 A) j ≡ occ_twig t.0 j + occ_arm A j) b (λ y q. refl) t.1 h.1.root_is)
      (λ mn t h. arm_one (λ A. FitArm mn rs A k → IsArm rs k (Two a b) mn (before t.0 A)) b (λ y q g. record { root_is = (let p = h.0.root_is in cc); fit = (h.0.fit, g) }) t.1 h.1.root_is h.1.fit)
      (λ mn u h. arm_two (λ A. FitArm mn rs A k → Made (both (twig_at rs k a) (arm_at rs k (One b))) f mn A) a b
      (λ x y p q g. record { it = (x, a1 y); is = (record { root_is = p; fit = g.0 }, record { root_is = cc; fit = g.1 }); eq = refl }) u h.root_is h.fit)

  digit_three : {a b c : ℕ} (r : Result (Unit {0}) Unsound) → Visited w (both (twig_at rs k a) (arm_at rs k (Two b c))) m m₁ r → Visited w (arm_at rs k (Three a b c)) m m₁ r
  digit_three {a} {b} {c} r v =
      let f : Twig R V × Arm R V → Arm R V = λ t. before t.0 t.1 in
      seen_as (arm_at rs k (Three a b c)) r f v
      (λ mn t h. arm_two (λ A. rows_arm (before t.0 A) ≡ rows_twig t.0 ++ rows_arm A) b c (λ y z q o. simp append_assoc) t.1 h.1.root_is)
      (λ mn t h j. arm_two (λ A. occ_arm (before t.0 A) j ≡ occ_twig t.0 j + occ_arm A j) b c (λ y z q o. omega arith) t.1 h.1.root_is)
      (λ mn t h. arm_two (λ A. FitArm mn rs A k → IsArm rs k (Three a b c) mn (before t.0 A)) b c (λ y z q o g. record { root_is = (let p = h.0.root_is in cc); fit = (h.0.fit, g.0, g.1) }) t.1 h.1.root_is h.1.fit)
      (λ mn u h. arm_three (λ A. FitArm mn rs A k → Made (both (twig_at rs k a) (arm_at rs k (Two b c))) f mn A) a b c
      (λ x y z p q o g. record { it = (x, a2 y z); is = (record { root_is = p; fit = g.0 }, record { root_is = cc; fit = (g.1, g.2) }); eq = refl }) u h.root_is h.fit)

  digit_four : {a b c d : ℕ} (r : Result (Unit {0}) Unsound) → Visited w (both (twig_at rs k a) (arm_at rs k (Three b c d))) m m₁ r → Visited w (arm_at rs k (Four a b c d)) m m₁ r
  digit_four {a} {b} {c} {d} r v =
      let f : Twig R V × Arm R V → Arm R V = λ t. before t.0 t.1 in
      seen_as (arm_at rs k (Four a b c d)) r f v
      (λ mn t h. arm_three (λ A. rows_arm (before t.0 A) ≡ rows_twig t.0 ++ rows_arm A) b c d (λ y z l q o n. simp append_assoc) t.1 h.1.root_is)
      (λ mn t h j. arm_three (λ A. occ_arm (before t.0 A) j ≡ occ_twig t.0 j + occ_arm A j) b c d (λ y z l q o n. omega arith) t.1 h.1.root_is)
      (λ mn t h. arm_three (λ A. FitArm mn rs A k → IsArm rs k (Four a b c d) mn (before t.0 A)) b c d (λ y z l q o n g. record { root_is = (let p = h.0.root_is in cc); fit = (h.0.fit, g.0, g.1, g.2) }) t.1 h.1.root_is h.1.fit)
      (λ mn u h. arm_four (λ A. FitArm mn rs A k → Made (both (twig_at rs k a) (arm_at rs k (Three b c d))) f mn A) a b c d
      (λ x y z l p q o n g. record { it = (x, a3 y z l); is = (record { root_is = p; fit = g.0 }, record { root_is = cc; fit = (g.1, g.2, g.3) }); eq = refl }) u h.root_is h.fit)

  moved : {o : Peel} {a : ℕ} {d e : Digit} (r : Result (Unit {0}) Unsound) → o.slot ≡ a → o.rest ≡ Some d → o.rest ≡ Some e → Visited w (both (twig_at rs k o.slot) (arm_at rs k d)) m m₁ r → Visited w (both (twig_at rs k a) (arm_at rs k e)) m m₁ r
  moved {o} {a} {d} {e} r slot_is rest_is rest_are v =
      let same_rest : d ≡ e = cc in
      subst (λ i. Visited w (both (twig_at rs k i) (arm_at rs k e)) m m₁ r) slot_is (subst (λ q. Visited w (both (twig_at rs k o.slot) (arm_at rs k q)) m m₁ r) same_rest v)

  pub digit_last : {o : Peel} (D : Digit) (r : Result (Unit {0}) Unsound) → o ≡ peeled Front D → o.rest ≡ None → Visited w (twig_at rs k o.slot) m m₁ r → Visited w (arm_at rs k D) m m₁ r
  digit_last (One a) r is none v = digit_one r (subst (λ i. Visited w (twig_at rs k i) m m₁ r) (ap (λ (q : Peel). q.slot) is) v)
  digit_last (Two a b) r is none v = absurd (some_none (sym (ap (λ (q : Peel). q.rest) is) ∙ none))
  digit_last (Three a b c) r is none v = absurd (some_none (sym (ap (λ (q : Peel). q.rest) is) ∙ none))
  digit_last (Four a b c d) r is none v = absurd (some_none (sym (ap (λ (q : Peel). q.rest) is) ∙ none))

  pub digit_more : {o : Peel} {d : Digit} (D : Digit) (r : Result (Unit {0}) Unsound) → o ≡ peeled Front D → o.rest ≡ Some d → Visited w (both (twig_at rs k o.slot) (arm_at rs k d)) m m₁ r → Visited w (arm_at rs k D) m m₁ r
  digit_more (One a) r is some v = absurd (some_none (sym some ∙ ap (λ (q : Peel). q.rest) is))
  digit_more (Two a b) r is some v = digit_two r (moved r (ap (λ (q : Peel). q.slot) is) some (ap (λ (q : Peel). q.rest) is) v)
  digit_more (Three a b c) r is some v = digit_three r (moved r (ap (λ (q : Peel). q.slot) is) some (ap (λ (q : Peel). q.rest) is) v)
  digit_more (Four a b c d) r is some v = digit_four r (moved r (ap (λ (q : Peel). q.slot) is) some (ap (λ (q : Peel). q.rest) is) v)

  -- the first twig failed
  pub digit_stopped : {o : Peel} (D : Digit) (q r : Result (Unit {0}) Unsound) → o ≡ peeled Front D → Visited w (twig_at rs k o.slot) m m₁ q → is_err q ≡ true → is_err r ≡ true → Visited w (arm_at rs k D) m m₁ r
  digit_stopped {o} D q r is v bad err = go o.rest refl
    where
      go : (p : Option Digit) → o.rest ≡ p → Visited w (arm_at rs k D) m m₁ r
      go None none = digit_last D r is none (subst (λ z. Visited w (twig_at rs k o.slot) m m₁ z) (err_only q bad ∙ sym (err_only r err)) v)
      go (Some d) some = digit_more D r is some (stop (arm_at rs k d) q r v bad err)

-- the parts of a node
module _ {R I V S : Type 0} {w : Rules R I V S} {rs : List (Record R V)} {h : ℕ} {d : Digit} {v : V} where
  pub node_flat : {m : Moment S} (r : Result (Unit {0}) Unsound) → h ≡ 0 → is_err r ≡ true → Visited w (node_at rs h d v) m m r
  node_flat r flat-is err = refused r (omega arith) refl err (λ t is gd few wts apart. omega (arith, is.height))

  as_node : {m m₁ : Moment S} (r : Result (Unit {0}) Unsound) → (h ≡ 0 → ⊥) → Visited w (worth v (arm_at rs (h - 1) d)) m m₁ r → Visited w (node_at rs h d v) m m₁ r
  as_node r high vx =
      seen_as (node_at rs h d v) r (λ t. t) vx (λ mn t is. refl) (λ mn t is j. refl)
      (λ mn t is. record { k = h - 1; height = omega arith; root_is = is.0.root_is; fit = is.0.fit; value = is.1 })
      (λ mn u is.
      let lower : is.k ≡ h - 1 = omega (arith, is.height) in
      record { it = u; is = (record { root_is = is.root_is; fit = subst (λ z. FitArm mn rs u z) lower is.fit }, is.value); eq = refl })

  pub node_visited : {m m₁ : Moment S} {q : Result (Unit {0}) Unsound} {u : Unit {0}} {f : Result V Unsound} (r : Result (Unit {0}) Unsound) → (h ≡ 0 → ⊥) → Visited w (arm_at rs (h - 1) d) m m₁ q → q ≡ Ok u
      → DigitValued w.weigh w.means rs d f → Confirmed f v r → Visited w (node_at rs h d v) m m₁ r
  node_visited {m} r high vx ok va cf = as_node r high (valued r vx ok (λ t is light. va.values (w.items m.source) t (h - 1) is.root_is is.fit light) cf)

  pub node_stopped : {m m₁ : Moment S} (q r : Result (Unit {0}) Unsound) → (h ≡ 0 → ⊥) → Visited w (arm_at rs (h - 1) d) m m₁ q → is_err q ≡ true → is_err r ≡ true → Visited w (node_at rs h d v) m m₁ r
  node_stopped q r high vx bad err = as_node r high (not_found v q r vx bad err)

-- a node
module _ {R V : Type 0} where
  abbrev twig_of : ℕ → V → Arm R V → Twig R V
  twig_of i v (a1 x) = x
  twig_of i v (a2 x y) = two i v x y
  twig_of i v (a3 x y z) = three i v x y z
  twig_of i v (a4 x y z u) = x

  module _ {c : Record R V} (i : ℕ) (v : V) where
    node_rows : (A : Arm R V) → node_of (digit_of A) v ≡ Ok c → rows_twig (twig_of i v A) ≡ rows_arm A
    node_rows (a1 x) e = refl
    node_rows (a2 x y) e = refl
    node_rows (a3 x y z) e = refl
    node_rows (a4 x y z u) e = absurd (let z : ◌≡◌ {A = ℕ} 0 1 = cc in omega arith)

    node_occ : (A : Arm R V) → node_of (digit_of A) v ≡ Ok c → (j : ℕ) → occ_twig (twig_of i v A) j ≡ same i j + occ_arm A j
    node_occ (a1 x) e j = absurd (let z : ◌≡◌ {A = ℕ} 0 1 = cc in omega arith)
    node_occ (a2 x y) e j = refl
    node_occ (a3 x y z) e j = refl
    node_occ (a4 x y z u) e j = absurd (let z : ◌≡◌ {A = ℕ} 0 1 = cc in omega arith)

    module _ (mn : List R → V) (rs : List (Record R V)) where
      node_fit : (A : Arm R V) (k : ℕ) → node_of (digit_of A) v ≡ Ok c → At rs i c → v ≡ mn (rows_arm A) → FitArm mn rs A k → (root (twig_of i v A) ≡ i) × FitTwig mn rs (twig_of i v A) (suc k)
      node_fit (a1 x) k e at val fit = absurd (let z : ◌≡◌ {A = ℕ} 0 1 = cc in omega arith)
      node_fit (a2 x y) k e at val fit = let c-is : c ≡ Node2 (root x) (root y) v = cc in (refl, (subst (λ z. At rs i z) c-is at, val, fit.0, fit.1))
      node_fit (a3 x y z) k e at val fit = let c-is : c ≡ Node3 (root x) (root y) (root z) v = cc in (refl, (subst (λ z. At rs i z) c-is at, val, fit.0, fit.1, fit.2))
      node_fit (a4 x y z u) k e at val fit = absurd (let z : ◌≡◌ {A = ℕ} 0 1 = cc in omega arith)

  no_leaf : (d : Digit) (v : V) {row : R} {u : V} → node_of d v ≡ Ok (Leaf row u) → ⊥
  no_leaf (One a) v e = let z : ◌≡◌ {A = ℕ} 0 1 = cc in omega arith
  no_leaf (Two a b) v e = let z : ◌≡◌ {A = ℕ} 0 1 = cc in omega arith
  no_leaf (Three a b c) v e = let z : ◌≡◌ {A = ℕ} 0 1 = cc in omega arith
  no_leaf (Four a b c f) v e = let z : ◌≡◌ {A = ℕ} 0 1 = cc in omega arith

  two_parts : (d : Digit) (v : V) {a b : ℕ} {u : V} → node_of {R = R} d v ≡ Ok (Node2 a b u) → (Two a b ≡ d) × (v ≡ u)
  two_parts (One a) v e = absurd (let z : ◌≡◌ {A = ℕ} 0 1 = cc in omega arith)
  two_parts (Two a b) v e = (cc, cc)
  two_parts (Three a b c) v e = absurd (let z : ◌≡◌ {A = ℕ} 0 1 = cc in omega arith)
  two_parts (Four a b c f) v e = absurd (let z : ◌≡◌ {A = ℕ} 0 1 = cc in omega arith)

  three_parts : (d : Digit) (v : V) {a b c : ℕ} {u : V} → node_of {R = R} d v ≡ Ok (Node3 a b c u) → (Three a b c ≡ d) × (v ≡ u)
  three_parts (One a) v e = absurd (let z : ◌≡◌ {A = ℕ} 0 1 = cc in omega arith)
  three_parts (Two a b) v e = absurd (let z : ◌≡◌ {A = ℕ} 0 1 = cc in omega arith)
  three_parts (Three a b c) v e = (cc, cc)
  three_parts (Four a b c f) v e = absurd (let z : ◌≡◌ {A = ℕ} 0 1 = cc in omega arith)

module _ {R V : Type 0} (mn : List R → V) (rs : List (Record R V)) (i : ℕ) (d : Digit) (v : V) {c : Record R V} (nd : node_of d v ≡ Ok c) (at : At rs i c) where
  node_down : (h : ℕ) (u : Twig R V) → root u ≡ i → FitTwig mn rs u h → Made (below i (node_at rs h d v)) (twig_of i v) mn u
  node_down zero (leaf j row v₁) e fit = let c-is : Leaf row v₁ ≡ c = at_same e fit.0 at in absurd (no_leaf d v (nd ∙ ap Ok (sym c-is)))
  node_down (suc k) (leaf j row v₁) e fit = absurd fit
  node_down zero (two j v₁ l r) e fit = absurd fit
  node_down (suc k) (two j v₁ l r) e fit =
      let c-is : Node2 (root l) (root r) v₁ ≡ c = at_same e fit.0 at in
      let p = two_parts d v (nd ∙ ap Ok (sym c-is)) in
      let v-is = p.1 in
      record { it = a2 l r; is = record { k = k; height = refl; root_is = p.0; fit = (fit.2, fit.3); value = v-is ∙ fit.1 }; eq = cc }
  node_down zero (three j v₁ l m r) e fit = absurd fit
  node_down (suc k) (three j v₁ l m r) e fit =
      let c-is : Node3 (root l) (root m) (root r) v₁ ≡ c = at_same e fit.0 at in
      let p = three_parts d v (nd ∙ ap Ok (sym c-is)) in
      let v-is = p.1 in
      record { it = a3 l m r; is = record { k = k; height = refl; root_is = p.0; fit = (fit.2, fit.3, fit.4); value = v-is ∙ fit.1 }; eq = cc }

pub twig_node : {R I V S : Type 0} {w : Rules R I V S} {rs : List (Record R V)} {s s₁ : List ℕ} {b : Budget} {l : S} {m₁ : Moment S} {h i : ℕ} {d : Digit} {v : V} {c : Record R V} {q : Result (Record R V) Unsound} (r : Result (Unit {0}) Unsound)
    → Entered rs s s₁ i q → q ≡ Ok c → node_of d v ≡ Ok c → Visited w (node_at rs h d v) (moment s₁ b l) m₁ r → Visited w (twig_at rs h i) (moment s b l) m₁ r
twig_node {R} {V = V} {rs = rs} {h = h} {i} {d} {v} {c} r ent ok nd vx =
    let e = entered ent ok refl in
    let parts : (A : Arm R V) → digit_of A ≡ d → node_of (digit_of A) v ≡ Ok c = λ A z. ap (λ z. node_of z v) z ∙ nd in
    seen_as (twig_at rs h i) r (twig_of i v) (enter_then r e vx)
    (λ mn A is. node_rows i v A (parts A is.root_is))
    (λ mn A is j. node_occ i v A (parts A is.root_is) j)
    (λ mn A is.
    let f = node_fit i v mn rs A is.k (parts A is.root_is) e.at is.value is.fit in
    record { root_is = f.0; fit = subst (λ z. FitTwig mn rs (twig_of i v A) z) (sym is.height) f.1 })
    (λ mn u is. node_down mn rs i d v nd e.at h u is.root_is is.fit)
