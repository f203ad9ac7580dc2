-- The weights and values of rows. Assumes nothing.
use Rattle.std.proofs.Common.{sym, refl, ap, ◌∙◌, subst, append_assoc, arith}
use Rattle.measures.specs.Law.{weights, heaviest}
use Rattle.std.specs.Prelude.{◌≡◌, List, [], ◌∷◌, ◌++◌, ℕ, ◌+◌, ◌≤◌}
use Rattle.std.specs.declared.result.Result.{Result}
use Rattle.std.specs.declared.result.Result.TheVariants.{Ok}
use Rattle.slots.specs.Words.{Unsound, Side, Front, Back}
use Rattle.slots.specs.Sides.{ends}
use Rattle.slots.specs.Values.{flat, mean, wt, JoinedOk}

pub flat_append : {R I : Type 0} (items : R → List I) (xs ys : List R) → flat items (xs ++ ys) ≡ flat items xs ++ flat items ys
flat_append items [] ys = refl
flat_append items (x ∷ xs) ys = ap (λ l. items x ++ l) (flat_append items xs ys) ∙ sym (append_assoc (items x) (flat items xs) (flat items ys))

pub weights_append : {I : Type 0} (weigh : I → ℕ) (xs ys : List I) → weights weigh (xs ++ ys) ≡ weights weigh xs + weights weigh ys
weights_append weigh [] ys = omega arith
weights_append weigh (x ∷ xs) ys = omega (arith, weights_append weigh xs ys)

module _ {R I : Type 0} (weigh : I → ℕ) (items : R → List I) where
  pub wt_append : (xs ys : List R) → wt weigh items (xs ++ ys) ≡ wt weigh items xs + wt weigh items ys
  wt_append xs ys = ap (weights weigh) (flat_append items xs ys) ∙ weights_append weigh (flat items xs) (flat items ys)

  pub wt_ends : (s : Side) (a b : List R) → wt weigh items (ends s a b) ≡ wt weigh items a + wt weigh items b
  wt_ends Front a b = wt_append a b
  wt_ends Back a b = omega (arith, wt_append b a)

  -- equal texts weigh the same
  pub wt_text : (a b c d : List R) → a ++ b ≡ c ++ d → wt weigh items a + wt weigh items b ≡ wt weigh items c + wt weigh items d
  wt_text a b c d e = sym (wt_append a b) ∙ ap (wt weigh items) e ∙ wt_append c d

pub join_rows : {R I V : Type 0} {weigh : I → ℕ} {means : List I → V} {a b r : Result V Unsound} → JoinedOk weigh means a b r → (items : R → List I) (xs ys : List R)
    → wt weigh items (xs ++ ys) ≤ heaviest → a ≡ Ok (mean means items xs) → b ≡ Ok (mean means items ys) → r ≡ Ok (mean means items (xs ++ ys))
join_rows {weigh = weigh} {means = means} j items xs ys light p q =
    let l : weights weigh (flat items xs ++ flat items ys) ≤ heaviest = subst (λ l. weights weigh l ≤ heaviest) (flat_append items xs ys) light in
    j.joins (flat items xs) (flat items ys) l p q ∙ ap (λ l. Ok (means l)) (sym (flat_append items xs ys))
