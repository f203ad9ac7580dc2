-- Visits of parts make a visit of the whole. Assumes nothing.
use Rattle.std.proofs.Common.{is_err, sym, ap, ◌∙◌, subst, arith, length-append}
use Rattle.std.specs.List.{AllByRecursion}
use Rattle.std.proofs.ByRecursion.{All-append, All-weaker}
use Rattle.measures.specs.Law.{heaviest}
use Rattle.slots.specs.Ghost.{same}
use Rattle.slots.specs.Values.{mean, wt}
use Rattle.slots.proofs.Shapes.{ok_err, ok_same}
use Rattle.slots.proofs.Weights.{wt_append}
use Rattle.std.specs.Prelude.{◌≡◌, true, List, [], ◌++◌, ℕ, ◌+◌, ◌≤◌, length}
use Rattle.std.specs.declared.result.Result.{Result}
use Rattle.std.specs.declared.result.Result.TheVariants.{Ok, Err}
use Rattle.audit.specs.Words.{Unsound, Record}
use Rattle.audit.specs.Checks.{Rules, Stays}
use Rattle.audit.specs.Visits.{unmarked, Moment, moment, Confirmed, Confirms, Enter, Kind, mean_at, wt_at, Found, Nowhere, Cases, Visited}
use Rattle.audit.specs.declared.budget.Budget.{Budget}
use Rattle.audit.proofs.Marks.{enter_marks, enter_once, enter_falls}
use Rattle.audit.proofs.Checking.{all_left, all_right, run_append, stays_same, stays_then}

pair_same : {T U : Type 0} {a a₁ : T} {b b₁ : U} → a ≡ a₁ → b ≡ b₁ → ◌≡◌ {A = T × U} (a, b) (a₁, b₁)
pair_same {T} {U} {a} {a₁} {b} {b₁} p q = ap (λ (z : T). (z, b)) p ∙ ap (λ (z : U). (a₁, z)) q

not_ok : {A : Type 0} (u : A) → is_err {E = Unsound} (Ok u) ≡ true → ⊥
not_ok u e = let z : ◌≡◌ {A = ℕ} 0 1 = cc in omega arith

module _ {R V : Type 0} where
  -- there is at most one of the kind
  abbrev pub Sole : Kind R V → Type 0
  Sole K = (mn : List R → V) (x y : K.T) → K.Is mn x → K.Is mn y → x ≡ y

  -- one of the first kind and then one of the second
  abbrev pub both : Kind R V → Kind R V → Kind R V
  both K L = record { T = K.T × L.T; text = λ t. K.text t.0 ++ L.text t.1; names = λ t j. K.names t.0 j + L.names t.1 j; Is = λ mn t. K.Is mn t.0 × L.Is mn t.1 }

  -- one whose value is v
  abbrev pub worth : V → Kind R V → Kind R V
  worth v K = record { T = K.T; text = K.text; names = K.names; Is = λ mn t. K.Is mn t × (v ≡ mn (K.text t)) }

  -- one below slot i
  abbrev pub below : ℕ → Kind R V → Kind R V
  below i K = record { T = K.T; text = K.text; names = λ t j. same i j + K.names t j; Is = K.Is }

  pub sole_both : (K L : Kind R V) → Sole K → Sole L → Sole (both K L)
  sole_both K L p q mn x y f g = pair_same (p mn x.0 y.0 f.0 g.0) (q mn x.1 y.1 f.1 g.1)

  -- one of the kind K, made of one of the kind L
  pub record Made (L : Kind R V) {U : Type 0} (f : L.T → U) (mn : List R → V) (u : U) : Type 0 where
    pub it : L.T
    pub is : L.Is mn it
    pub eq : u ≡ f it

module _ {V : Type 0} where
  -- a value found, and none
  pub found_same : {f : Result V Unsound} {x v : V} {r : Result (Unit {0}) Unsound} → f ≡ Ok x → Confirmed (Ok x) v r → Confirmed f v r
  found_same {v = v} {r} ok cf = subst (λ z. Confirmed z v r) (sym ok) cf

  pub none_found : {f : Result V Unsound} {e : Unsound} {v : V} (r : Result (Unit {0}) Unsound) → f ≡ Err e → is_err r ≡ true → Confirmed f v r
  none_found (Err d) bad err = record { says = λ ok. ok_err ok bad }
  none_found (Ok u) bad err = absurd (not_ok u err)

module _ {R I V S : Type 0} {w : Rules R I V S} where
  -- nothing was checked, and there is none
  pub refused : {K : Kind R V} {m m₁ : Moment S} (r : Result (Unit {0}) Unsound) → unmarked m₁.marks ≤ unmarked m.marks → m₁.source ≡ m.source → is_err r ≡ true → Nowhere w K m → Visited w K m m₁ r
  refused {K} {m} {m₁} (Err e) le same_source err nowhere = record {
    checked = [];
    ran = same_source;
    at_most = omega arith;
    stays = subst (λ q. Stays w.items w.good m.source q) (sym same_source) stays_same;
    says = λ light. nowhere;
  }
  refused (Ok u) le same_source err nowhere = absurd (not_ok u err)

  pub went : {K : Kind R V} {m m₁ : Moment S} {q r : Result (Unit {0}) Unsound} → q ≡ r → Visited w K m m₁ q → Visited w K m m₁ r
  went {K} {m} {m₁} is v = subst (λ z. Visited w K m m₁ z) is v

  -- the visit of what lies below a slot, with the slot
  pub enter_then : {K : Kind R V} {rs : List (Record R V)} {s s₁ : List ℕ} {i : ℕ} {c : Record R V} {b : Budget} {l : S} {m₁ : Moment S} (r : Result (Unit {0}) Unsound)
      → Enter rs s s₁ i c → Visited w K (moment s₁ b l) m₁ r → Visited w (below i K) (moment s b l) m₁ r
  enter_then (Ok u) e v = record {
    checked = v.checked;
    ran = v.ran;
    at_most = omega (arith, v.at_most, enter_falls e);
    stays = v.stays;
    says = λ light.
        let a = v.says light in
        record {
          it = a.it;
          is = a.is;
          each = a.each;
          good_rows = a.good_rows;
          elements = a.elements;
          weight = a.weight;
          marks = λ j. omega (arith, a.marks j, enter_marks e j);
          once = λ j h. a.once j (enter_once e j h);
        };
  }
  enter_then (Err d) e v = record {
    checked = v.checked;
    ran = v.ran;
    at_most = omega (arith, v.at_most, enter_falls e);
    stays = v.stays;
    says = λ light t is gd few wt apart. v.says light t is gd few wt (λ j. omega (arith, apart j, enter_marks e j));
  }

  -- one was found, and its value was compared with v
  pub valued : {K : Kind R V} {m m₁ : Moment S} {q : Result (Unit {0}) Unsound} {f : Result V Unsound} {v : V} {u : Unit {0}} (r : Result (Unit {0}) Unsound)
      → Visited w K m m₁ q → q ≡ Ok u → ((t : K.T) → K.Is (mean_at w m) t → wt_at w m (K.text t) ≤ heaviest → f ≡ Ok (mean_at w m (K.text t))) → Confirmed f v r → Visited w (worth v K) m m₁ r
  valued {K} {m} {m₁} {f = f} {v = v} r vx ok value cf = record {
    checked = vx.checked;
    ran = vx.ran;
    at_most = vx.at_most;
    stays = vx.stays;
    says = λ light. go r cf.says (subst (λ z. Cases w K m m₁ vx.checked z) ok (vx.says light)) light;
  }
    where
      go : (r : Result (Unit {0}) Unsound) → Confirms f v r → Found w K m m₁ vx.checked → m.budget.weight ≤ heaviest → Cases w (worth v K) m m₁ vx.checked r
      go (Ok o) equal a light = record {
        it = a.it;
        is = (a.is, ok_same equal (value a.it a.is (omega (arith, a.weight, ap (wt_at w m) a.each))));
        each = a.each;
        good_rows = a.good_rows;
        elements = a.elements;
        weight = a.weight;
        marks = a.marks;
        once = a.once;
      }
      go (Err e) unequal a light = λ t is gd few wt apart. unequal (value t is.0 (omega arith) ∙ ap Ok (sym is.1))

  pub not_found : {K : Kind R V} {m m₁ : Moment S} (v : V) (q r : Result (Unit {0}) Unsound) → Visited w K m m₁ q → is_err q ≡ true → is_err r ≡ true → Visited w (worth v K) m m₁ r
  not_found v (Err e) (Err d) vx bad err = record { checked = vx.checked; ran = vx.ran; at_most = vx.at_most; stays = vx.stays; says = λ light t is. vx.says light t is.0 }
  not_found v (Err e) (Ok u) vx bad err = absurd (not_ok u err)
  not_found v (Ok u) r vx bad err = absurd (not_ok u bad)

  -- one visit after another
  pub seq : {K L : Kind R V} {m m₁ m₂ : Moment S} {q : Result (Unit {0}) Unsound} {u : Unit {0}} (r : Result (Unit {0}) Unsound) → Sole K → Visited w K m m₁ q → q ≡ Ok u → Visited w L m₁ m₂ r → Visited w (both K L) m m₂ r
  seq {K} {L} {m} {m₁} {m₂} r sole vx ok vy = record {
    checked = vx.checked ++ vy.checked;
    ran = run_append w.checks m.source m₁.source m₂.source vx.checked vy.checked vx.ran vy.ran;
    at_most = omega (arith, length-append vx.checked vy.checked, vx.at_most, vy.at_most);
    stays = stays_then vx.stays vy.stays;
    says = λ light. let a = subst (λ z. Cases w K m m₁ vx.checked z) ok (vx.says light) in go r a (vy.says (omega (arith, a.weight)));
  }
    where
      go : (r : Result (Unit {0}) Unsound) → Found w K m m₁ vx.checked → Cases w L m₁ m₂ vy.checked r → Cases w (both K L) m m₂ (vx.checked ++ vy.checked) r
      go (Ok o) a b =
          let same_wt = ap (λ q. wt w.weigh q vy.checked) vx.stays.same_items in
          record {
            it = (a.it, b.it);
            is = (a.is, subst (λ q. L.Is (mean w.means q) b.it) vx.stays.same_items b.is);
            each = let p = a.each in let q = b.each in cc;
            good_rows = All-append (w.good m.source) vx.checked vy.checked a.good_rows (All-weaker (w.good m₁.source) (w.good m.source) vx.stays.was_good vy.checked b.good_rows);
            elements = omega (arith, length-append vx.checked vy.checked, a.elements, b.elements);
            weight = omega (arith, wt_append w.weigh (w.items m.source) vx.checked vy.checked, a.weight, b.weight, same_wt);
            marks = λ j. omega (arith, a.marks j, b.marks j);
            once = λ j h. b.once j (a.once j h);
          }
      go (Err e) a nowhere = λ t is gd few wts apart.
          let xs = K.text t.0 in
          let ys = L.text t.1 in
          let it-is : t.0 ≡ a.it = sole (mean_at w m) t.0 a.it is.0 a.is in
          let xs-are : xs ≡ vx.checked = ap K.text it-is ∙ sym a.each in
          let same_wt = ap (λ q. wt w.weigh q ys) vx.stays.same_items in
          nowhere t.1
          (subst (λ q. L.Is (mean w.means q) t.1) (sym vx.stays.same_items) is.1)
          (All-weaker (w.good m.source) (w.good m₁.source) vx.stays.still_good ys (all_right (w.good m.source) xs ys gd))
          (omega (arith, few, length-append xs ys, ap length xs-are, a.elements))
          (omega (arith, wts, wt_append w.weigh (w.items m.source) xs ys, ap (wt_at w m) xs-are, a.weight, same_wt))
          (λ j. omega (arith, apart j, a.marks j, ap (λ z. K.names z j) it-is))

  -- the first of two failed
  pub stop : {K : Kind R V} {m m₁ : Moment S} (L : Kind R V) (q r : Result (Unit {0}) Unsound) → Visited w K m m₁ q → is_err q ≡ true → is_err r ≡ true → Visited w (both K L) m m₁ r
  stop {K} {m} L (Err e) (Err d) vx bad err = record {
    checked = vx.checked;
    ran = vx.ran;
    at_most = vx.at_most;
    stays = vx.stays;
    says = λ light t is gd few wts apart.
        let xs = K.text t.0 in
        let ys = L.text t.1 in
        vx.says light t.0 is.0 (all_left (w.good m.source) xs ys gd) (omega (arith, few, length-append xs ys)) (omega (arith, wts, wt_append w.weigh (w.items m.source) xs ys)) (λ j. omega (arith, apart j));
  }
  stop L (Err e) (Ok u) vx bad err = absurd (not_ok u err)
  stop L (Ok u) r vx bad err = absurd (not_ok u bad)

  -- what was visited is one of another kind
  pub seen_as : {K : Kind R V} {m m₁ : Moment S} (L : Kind R V) (r : Result (Unit {0}) Unsound) (f : K.T → L.T) → Visited w K m m₁ r
      → ((mn : List R → V) (t : K.T) → K.Is mn t → L.text (f t) ≡ K.text t)
      → ((mn : List R → V) (t : K.T) → K.Is mn t → (j : ℕ) → L.names (f t) j ≡ K.names t j)
      → ((mn : List R → V) (t : K.T) → K.Is mn t → L.Is mn (f t))
      → ((mn : List R → V) (u : L.T) → L.Is mn u → Made K f mn u)
      → Visited w L m m₁ r
  seen_as {K} {m} L (Ok u) f vx texts names up down = record {
    checked = vx.checked;
    ran = vx.ran;
    at_most = vx.at_most;
    stays = vx.stays;
    says = λ light.
        let a = vx.says light in
        record {
          it = f a.it;
          is = up (mean_at w m) a.it a.is;
          each = a.each ∙ sym (texts (mean_at w m) a.it a.is);
          good_rows = a.good_rows;
          elements = a.elements;
          weight = a.weight;
          marks = λ j. omega (arith, a.marks j, names (mean_at w m) a.it a.is j);
          once = a.once;
        };
  }
  seen_as {K} {m} L (Err e) f vx texts names up down = record {
    checked = vx.checked;
    ran = vx.ran;
    at_most = vx.at_most;
    stays = vx.stays;
    says = λ light u is gd few wts apart.
        let b = down (mean_at w m) u is in
        let same_text : L.text u ≡ K.text b.it = ap L.text b.eq ∙ texts (mean_at w m) b.it b.is in
        vx.says light b.it b.is (subst (λ l. AllByRecursion (w.good m.source) l) same_text gd) (omega (arith, few, ap length same_text)) (omega (arith, wts, ap (wt_at w m) same_text))
        (λ j. omega (arith, apart j, names (mean_at w m) b.it b.is j, ap (λ z. L.names z j) b.eq));
  }
