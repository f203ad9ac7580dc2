-- Places that move past rows. Assumes nothing.
use Rattle.std.proofs.Common.{is_some, sym, refl, ap, ◌∙◌, subst, inl, inr, ⊎_elim, append_assoc, arith, length-append}
use Rattle.std.proofs.lemmas.List.{append-nil}
use Rattle.measures.specs.Law.{weights, heaviest, Keeps}
use Rattle.slots.specs.Ghost.{Twig, Arm, rows_twig, rows_arm}
use Rattle.slots.specs.Values.{flat, wt}
use Rattle.slots.proofs.Weights.{flat_append, weights_append, wt_append}
use Rattle.slots.proofs.Counts.{twig_count, arm_count}
use Rattle.slots.proofs.Shapes.{ok_same}
use Rattle.std.specs.Prelude.{◌≡◌, Bool, true, false, List, [], ◌∷◌, ◌++◌, ℕ, suc, ◌+◌, ◌≤◌, length}
use Rattle.std.specs.declared.option.Option.{Option}
use Rattle.std.specs.declared.option.Option.TheVariants.{None, Some}
use Rattle.std.specs.declared.result.Result.{Result}
use Rattle.std.specs.declared.result.Result.TheVariants.{Ok}
use Rattle.seek.specs.Words.{Unsound, Record}
use Rattle.seek.specs.Places.{upto, NotYet, Past, Found, Turns, Lands, Never, Finds}

pub true_false : {b : Bool} → b ≡ true → b ≡ false → ⊥
true_false p q = let z : ◌≡◌ {A = ℕ} 0 1 = cc in omega arith

-- a test of an option
pub was_none : {A : Type 0} {b : Bool} (o : Option A) → b ≡ is_some o → b ≡ false → o ≡ None
was_none None e n = refl
was_none (Some x) e n = absurd (true_false e n)

pub was_some : {A E : Type 0} {b : Bool} {r : Result (Option A) E} {o : Option A} → r ≡ Ok o → b ≡ is_some o → b ≡ true → r ≡ Ok None → ⊥
was_some {o = o} p e s q = let z : o ≡ None = ok_same p q in true_false (sym e ∙ s) (ap is_some z)

pub on : {R I : Type 0} (items : R → List I) (w : List I) (a b : List R) → upto items w (a ++ b) ≡ upto items (upto items w a) b
on items w a b = ap (λ l. w ++ l) (flat_append items a b) ∙ sym (append_assoc w (flat items a) (flat items b))

-- no part weighs more than the whole
module _ {R I : Type 0} (weigh : I → ℕ) (items : R → List I) (w : List I) (T : List R) (light : weights weigh (upto items w T) ≤ heaviest) where
  pub light_mid : (a b c : List R) → T ≡ a ++ (b ++ c) → weights weigh (upto items (upto items w a) b) ≤ heaviest
  light_mid a b c e = omega (arith, weights_append weigh w (flat items T), ap (wt weigh items) e, wt_append weigh items a (b ++ c), wt_append weigh items b c, weights_append weigh (upto items w a) (flat items b), weights_append weigh w (flat items a))

  pub light_front : (a b : List R) → T ≡ a ++ b → weights weigh (upto items w a) ≤ heaviest
  light_front a b e = omega (arith, weights_append weigh w (flat items T), ap (wt weigh items) e, wt_append weigh items a b, weights_append weigh w (flat items a))

  pub light_rest : (a b : List R) → T ≡ a ++ b → weights weigh (upto items w b) ≤ heaviest
  light_rest a b e = omega (arith, weights_append weigh w (flat items T), ap (wt weigh items) e, wt_append weigh items a b, weights_append weigh w (flat items b))

  pub light_bare : weights weigh (upto items [] T) ≤ heaviest
  light_bare = omega (arith, weights_append weigh w (flat items T))

  pub light_back : (a b : List R) → T ≡ a ++ b → weights weigh (upto items (upto items w a) b) ≤ heaviest
  light_back a b e = omega (arith, weights_append weigh w (flat items T), ap (wt weigh items) e, wt_append weigh items a b, weights_append weigh (upto items w a) (flat items b), weights_append weigh w (flat items a))

-- no twig is without rows
module _ {R V : Type 0} where
  pub twig_some : (u : Twig R V) → rows_twig u ≡ [] → ⊥
  twig_some u e = omega (arith, twig_count 0 u, ap length e)

  pub arm_some : (A : Arm R V) → rows_arm A ≡ [] → ⊥
  arm_some A e = omega (arith, arm_count 0 A, ap length e)

module _ {R I V : Type 0} (means : List I → V) (says : V → Bool) (items : R → List I) where
  pub no_then : (w : List I) (a b : List R) → NotYet means says items w a → NotYet means says items (upto items w a) b → NotYet means says items w (a ++ b)
  no_then w a b h g = ⊎_elim
      (λ (e : b ≡ []). ⊎_elim (λ (f : a ≡ []). inl (ap (λ l. l ++ b) f ∙ e))
      (λ n. inr (ap (λ l. says (means (upto items w l))) (ap (λ l. a ++ l) e ∙ append-nil a) ∙ n)) h)
      (λ n. inr (ap (λ l. says (means l)) (on items w a b) ∙ n)) g

  -- the probe is yes after rows of which there are some
  pub yes_none : (w : List I) (T : List R) → NotYet means says items w T → says (means (upto items w T)) ≡ true → T ≡ []
  yes_none w T h y = ⊎_elim (λ e. e) (λ n. absurd (true_false y n)) h

  -- rows that turn the probe to yes after others that do not
  pub some_turn : (w : List I) (a b : List R) → NotYet means says items w a → (a ≡ [] → ⊥) → says (means (upto items (upto items w a) b)) ≡ true → b ≡ [] → ⊥
  some_turn w a b h some y e =
      ⊎_elim some
      (λ n. true_false y (ap (λ l. says (means (upto items (upto items w a) l))) e ∙ ap (λ l. says (means l)) (append-nil (upto items w a)) ∙ n)) h

module _ {R I V : Type 0} {means : List I → V} {says : V → Bool} (items : R → List I) where
  pub past_none : (w : List I) {p : V} → p ≡ means w → Past means says items w [] p
  past_none w e = record { place = e ∙ ap means (sym (append-nil w)); no = inl refl }

  pub past_then : (w : List I) (a b : List R) {p p' : V} → Past means says items w a p → Past means says items (upto items w a) b p' → Past means says items w (a ++ b) p'
  past_then w a b h g = record { place = g.place ∙ ap means (sym (on items w a b)); no = no_then means says items w a b h.no g.no }

  -- found in a part is found in the whole
  pub found_in : {rs : List (Record R V)} {p p' : V} {i : ℕ} (w : List I) (T a b c : List R) → T ≡ a ++ (b ++ c) → Past means says items w a p → Found means says items rs (upto items w a) b p' i → Found means says items rs w T p' i
  found_in w T a b c e h f = record {
    row = f.row;
    value = f.value;
    xs = a ++ f.xs;
    ys = f.ys ++ c;
    text = e ∙ ap (λ q. a ++ (q ++ c)) f.text ∙ simp append_assoc;
    past = past_then w a f.xs h f.past;
    yes = ap (λ q. says (means q)) (ap (λ q. upto items w q) (append_assoc a f.xs (f.row ∷ [])) ∙ on items w a (f.xs ++ (f.row ∷ []))) ∙ f.yes;
    at = f.at;
    right = f.right;
  }

  pub found_front : {rs : List (Record R V)} {p : V} {i : ℕ} (w : List I) (T a b : List R) → T ≡ a ++ b → Found means says items rs w a p i → Found means says items rs w T p i
  found_front w T a b e f = record {
    row = f.row;
    value = f.value;
    xs = f.xs;
    ys = f.ys ++ b;
    text = e ∙ ap (λ q. q ++ b) f.text ∙ simp append_assoc;
    past = f.past;
    yes = f.yes;
    at = f.at;
    right = f.right;
  }

  -- among the rows after those that were passed
  pub lands_then : {rs : List (Record R V)} {p p' : V} {r : Result (Option ℕ) Unsound} (w : List I) (T a b : List R) → T ≡ a ++ b → Past means says items w a p → Lands means says items rs (upto items w a) b p' r → Lands means says items rs w T p' r
  lands_then {p' = p'} w T a b e h f = ⊎_elim
      (λ g. inl (g.0, subst (λ q. Past means says items w q p') (sym e) (past_then w a b h g.1)))
      (λ g. inr (g.0, g.1, found_in w T a b [] (e ∙ ap (λ q. a ++ q) (sym (append-nil b))) h g.2)) f

  pub turns_in : (w : List I) (T a b c : List R) (X Y : List R → List R → Type 0) → T ≡ a ++ (b ++ c) → NotYet means says items w a → Turns means says items (upto items w a) b X
      → ((t : Turns means says items (upto items w a) b X) → Y (a ++ t.xs) (t.ys ++ c)) → Turns means says items w T Y
  turns_in w T a b c X Y e h t go = record {
    row = t.row;
    xs = a ++ t.xs;
    ys = t.ys ++ c;
    text = e ∙ ap (λ q. a ++ (q ++ c)) t.text ∙ simp append_assoc;
    no = no_then means says items w a t.xs h t.no;
    yes = ap (λ q. says (means q)) (ap (λ q. upto items w q) (append_assoc a t.xs (t.row ∷ [])) ∙ on items w a (t.xs ++ (t.row ∷ []))) ∙ t.yes;
    rest = go t;
  }

-- a probe that keeps what it says was no at every row before
module _ {R I V : Type 0} {weigh : I → ℕ} {means : List I → V} {says : V → Bool} (kept : Keeps weigh means says) (items : R → List I) where
  stays_no : (x y : List I) (b : Bool) → says (means x) ≡ b → weights weigh (x ++ y) ≤ heaviest → says (means (x ++ y)) ≡ false → says (means x) ≡ false
  stays_no x y true e light n = absurd (true_false (kept.keeps x y light e) n)
  stays_no x y false e light n = e

  pub never : (w : List I) (T : List R) → weights weigh (upto items w T) ≤ heaviest → NotYet means says items w T → Never means says items w T
  never w T light h xs x ys e = ⊎_elim
      (λ n. absurd (let z : length xs + suc (length ys) ≡ 0 = sym (length-append xs (x ∷ ys)) ∙ ap length (sym e ∙ n) in omega arith))
      (λ n.
      let front : upto items w T ≡ upto items w (xs ++ (x ∷ [])) ++ flat items ys = ap (λ q. upto items w q) (e ∙ sym (append_assoc xs (x ∷ []) ys)) ∙ on items w (xs ++ (x ∷ [])) ys in
      stays_no (upto items w (xs ++ (x ∷ []))) (flat items ys) (says (means (upto items w (xs ++ (x ∷ []))))) refl
      (subst (λ q. weights weigh q ≤ heaviest) front light) (sym (ap (λ q. says (means q)) front) ∙ n)) h

  pub finds_all : {rs : List (Record R V)} {p : V} {r : Result (Option ℕ) Unsound} (w : List I) (T : List R) → weights weigh (upto items w T) ≤ heaviest → Lands means says items rs w T p r → Finds means says items rs w T p r
  finds_all w T light f = ⊎_elim
      (λ g. inl (g.0, g.1, never w T light g.1.no))
      (λ g. inr (g.0, g.1, g.2, never w g.2.xs (light_front weigh items w T light g.2.xs (g.2.row ∷ g.2.ys) g.2.text) g.2.past.no)) f
