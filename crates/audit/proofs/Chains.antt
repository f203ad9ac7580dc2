-- The walk along a chain. Assumes nothing.
use Rattle.std.specs.declared.option.Option.TheVariants.{None, Some}
use Rattle.std.proofs.Common.{is_err, sym, refl, ap, ◌∙◌, subst, arith}
use Rattle.slots.specs.Ghost.{same, occ_list, none, head_of, At, Chain}
use Rattle.slots.proofs.Frames.{same_self}
use Rattle.slots.proofs.Shapes.{err_only}
use Rattle.std.specs.Prelude.{◌≡◌, true, List, [], ◌∷◌, ℕ, ◌+◌, ◌≤◌, get_or}
use Rattle.std.specs.declared.result.Result.{Result}
use Rattle.std.specs.declared.result.Result.TheVariants.{Ok, Err}
use Rattle.audit.specs.Words.{Unsound, unsound, Link, Record, Free}
use Rattle.audit.specs.Visits.{mark, Enter, Entered, NoChain, ChainVisited}
use Rattle.audit.proofs.Marks.{enter_marks, enter_once, entered, not_entered}

module _ {R V : Type 0} where
  -- whatever is said of the rest of the chain, is said of the whole
  abbrev pub Leads : List (Record R V) → List ℕ → Link → List ℕ → Link → Type 0
  Leads rs s₀ l₀ s l = (s' : List ℕ) (r : Result (Unit {0}) Unsound) → ChainVisited rs l s s' r → ChainVisited rs l₀ s₀ s' r

module _ {R V : Type 0} {rs : List (Record R V)} where
  pub chain_end : {s₀ s : List ℕ} {l₀ l : Link} → Leads rs s₀ l₀ s l → l ≡ None → ChainVisited rs l₀ s₀ s (Ok tt)
  chain_end {s = s} inv is = inv s (Ok tt) (record { says = record { it = []; first = sym is; chained = tt; marks = λ j. omega arith; once = λ j h. h } })

  -- a chain from i goes on from what stands there
  chain_back : (s : List ℕ) {i : ℕ} {c : Record R V} → get_or rs i none ≡ c
      → ((next : Link) (fs : List ℕ) → c ≡ Free next → head_of fs ≡ next → Chain rs fs → ((j : ℕ) → mark s j + (same i j + occ_list fs j) ≤ 1) → ⊥)
      → NoChain rs (Some i) s
  chain_back s is f [] e ch apart = absurd (let z : ◌≡◌ {A = ℕ} 0 1 = cc in omega arith)
  chain_back s {i} {c} is f (k ∷ fs) e ch apart =
      let ki : k ≡ i = cc in
      f (head_of fs) fs (sym is ∙ ap (λ q. get_or rs q none) (sym ki) ∙ ch.0.is) refl ch.1 (λ j. subst (λ q. mark s j + (same q j + occ_list fs j) ≤ 1) ki (apart j))

  chain_step : {s s₁ s' : List ℕ} {i : ℕ} {next : Link} (r : Result (Unit {0}) Unsound) → Enter rs s s₁ i (Free next) → ChainVisited rs next s₁ s' r → ChainVisited rs (Some i) s s' r
  chain_step (Ok u) e v =
      let h = v.says in
      record {
        says = record {
          it = _ ∷ h.it;
          first = refl;
          chained = (record { within = e.at.within; is = e.at.is ∙ ap Free (sym h.first) }, h.chained);
          marks = λ j. omega (arith, h.marks j, enter_marks e j);
          once = λ j b. h.once j (enter_once e j b);
        };
      }
  chain_step {s} (Err f) e v = record { says = chain_back s e.at.is (λ n fs p q ch apart. v.says fs (cc) ch (λ j. omega (arith, apart j, enter_marks e j))) }

  module _ {s₀ s s₁ : List ℕ} {l₀ l : Link} {i : ℕ} {q : Result (Record R V) Unsound} (inv : Leads rs s₀ l₀ s l) (is : l ≡ Some i) (ent : Entered rs s s₁ i q) where
    pub leads_on : {next : Link} {c : Record R V} → q ≡ Ok c → c ≡ Free next → Leads rs s₀ l₀ s₁ next
    leads_on ok free s' r h = inv s' r (subst (λ q. ChainVisited rs q s s' r) (sym is) (chain_step r (entered ent ok free) h))

    pub no_enter : {e : Unsound} (r : Result (Unit {0}) Unsound) → q ≡ Err e → is_err r ≡ true → ChainVisited rs l₀ s₀ s₁ r
    no_enter r bad err = subst (λ z. ChainVisited rs l₀ s₀ s₁ z) (sym (err_only r err)) (inv s₁ (Err unsound) (record { says = subst (λ q. NoChain rs q s) (sym is) refute }))
      where
        refute : NoChain rs (Some i) s
        refute [] e ch apart = absurd (let z : ◌≡◌ {A = ℕ} 0 1 = cc in omega arith)
        refute (k ∷ fs) e ch apart = let ki : k ≡ i = cc in (not_entered ent bad).1 _ (subst (λ q. At rs q (Free (head_of fs))) ki ch.0) (omega (arith, apart i, same_self i, ap (λ q. same q i) ki))

    pub not_free : {c : Record R V} {f : Unsound} → q ≡ Ok c → ((n : Link) → c ≡ Free n → ⊥) → ChainVisited rs l₀ s₀ s₁ (Err f)
    not_free {c} {f} ok bad =
        let e : Enter rs s s₁ i c = entered ent ok refl in
        inv s₁ (Err f) (record { says = subst (λ q. NoChain rs q s) (sym is) (chain_back s e.at.is (λ n fs p q ch apart. bad n p)) })
