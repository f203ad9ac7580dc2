-- A line, column by column.
use Rattle.std.proofs.Common.{◌≡◌, ℕ, zero, suc, ◌+◌, ◌<◌, ◌≤◌, Bool, cond, eqb, List, [], ◌∷◌, ◌++◌, length, get_or, drop, sym, refl, ap, ◌∙◌, append_assoc, arith}
use Rattle.std.proofs.lemmas.List.{drop_more, drop_all}
use Rattle.std.proofs.lemmas.Bool.{ne_eqb}
use Rattle.plain.specs.Script.{printed}

-- fields with a tab before each, and the line feed
abbrev pub tabbed : List (List ℕ) → List ℕ
tabbed [] = 10 ∷ []
tabbed (f ∷ fs) = 9 ∷ (f ++ tabbed fs)

-- what is still to be printed after i fields
abbrev pub unprinted : ℕ → List (List ℕ) → List ℕ
unprinted zero fs = printed fs
unprinted (suc i) fs = tabbed (drop (suc i) fs)

printed_first : (f : List ℕ) (fs : List (List ℕ)) → printed (f ∷ fs) ≡ f ++ tabbed fs
printed_first f [] = refl
printed_first f (g ∷ gs) = ap (λ (l : List ℕ). f ++ (9 ∷ l)) (printed_first g gs)

unprinted_more : (i : ℕ) (fs : List (List ℕ)) → i < length fs → unprinted i fs ≡ cond (eqb i 0) [] (9 ∷ []) ++ (get_or fs i [] ++ unprinted (i + 1) fs)
unprinted_more zero [] h = absurd (omega arith)
unprinted_more zero (f ∷ fs) h = printed_first f fs
unprinted_more (suc j) fs h =
    let e : suc j + 1 ≡ suc (suc j) = omega arith in
    ap tabbed (drop_more fs (suc j) [] h)
    ∙ ap (λ (n : ℕ). 9 ∷ (get_or fs (suc j) [] ++ tabbed (drop n fs))) e
    ∙ ap (λ (n : ℕ). 9 ∷ (get_or fs (suc j) [] ++ unprinted n fs)) (sym e)
    ∙ ap (λ (q : Bool). cond q [] (9 ∷ []) ++ (get_or fs (suc j) [] ++ unprinted (suc j + 1) fs)) (sym (ne_eqb (suc j) 0 (λ z. omega arith)))

unprinted_all : (i : ℕ) (fs : List (List ℕ)) → length fs ≤ i → unprinted i fs ≡ 10 ∷ []
unprinted_all zero [] h = refl
unprinted_all zero (f ∷ fs) h = absurd (omega arith)
unprinted_all (suc i) fs h = ap tabbed (drop_all (suc i) fs h)

-- one field f more, and the line feed at the end
module _ (i : ℕ) (fs : List (List ℕ)) (out new all : List ℕ) where
  pub print_more : (mid f : List ℕ) → i < length fs → out ++ unprinted i fs ≡ all → mid ≡ out ++ cond (eqb i 0) [] (9 ∷ []) → new ≡ mid ++ f → get_or fs i [] ≡ f → new ++ unprinted (i + 1) fs ≡ all
  print_more mid f h e p q g =
      let gap = cond (eqb i 0) [] (9 ∷ []) in
      let rest = unprinted (i + 1) fs in
      ap (λ (l : List ℕ). l ++ rest) (q ∙ ap (λ (l : List ℕ). l ++ f) p)
      ∙ append_assoc (out ++ gap) f rest
      ∙ append_assoc out gap (f ++ rest)
      ∙ ap (λ (l : List ℕ). out ++ (gap ++ (l ++ rest))) (sym g)
      ∙ ap (λ (l : List ℕ). out ++ l) (sym (unprinted_more i fs h))
      ∙ e

  pub print_last : length fs ≤ i → out ++ unprinted i fs ≡ all → new ≡ out ++ (10 ∷ []) → new ≡ all
  print_last h e p = p ∙ ap (λ (l : List ℕ). out ++ l) (sym (unprinted_all i fs h)) ∙ e
