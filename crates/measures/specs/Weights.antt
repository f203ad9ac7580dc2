-- What lists weigh, and the law of any measure over a front of a list.
use Rattle.std.specs.Prelude.{◌≡◌, ℕ, ◌+◌, ◌<◌, ◌≤◌, List, [], ◌∷◌, ◌++◌, length, take, drop, slice_index_or}
use Rattle.std.proofs.Common.{sym, ap, ◌∙◌, arith, take-append-drop}
use Rattle.std.proofs.lemmas.List.{take_more}
use Rattle.measures.specs.Law.{weights, heaviest, Adds}

pub weights_append : {I : Type 0} (weigh : I → ℕ) (xs ys : List I) → weights weigh (xs ++ ys) ≡ weights weigh xs + weights weigh ys
weights_append weigh [] ys = omega arith
weights_append weigh (x ∷ xs) ys = omega (arith, weights_append weigh xs ys)

pub weights_take : {I : Type 0} (weigh : I → ℕ) (n : ℕ) (xs : List I) → weights weigh (take n xs) ≤ weights weigh xs
weights_take weigh n xs = omega (arith, weights_append weigh (take n xs) (drop n xs), ap (weights weigh) (take-append-drop n xs))

-- bytes weigh 1 each
pub weights_bytes : (bs : List ℕ) → weights (λ _. 1) bs ≡ length bs
weights_bytes [] = omega arith
weights_bytes (b ∷ bs) = omega (arith, weights_bytes bs)

-- the value of a front and one item more
pub means_more : {I V : Type 0} (weigh : I → ℕ) (means : List I → V) (xs : List I) (i : ℕ) (x : I) (a r : V)
    → i < length xs → x ≡ slice_index_or xs i x → weights weigh xs ≤ heaviest → a ≡ means (take i xs) → Adds weigh means a x r → r ≡ means (take (i + 1) xs)
means_more weigh means xs i x a r lt at light e law =
    let more : take (i + 1) xs ≡ take i xs ++ (x ∷ []) = take_more xs i x lt ∙ ap (λ y. take i xs ++ (y ∷ [])) (sym at) in
    law.adds (take i xs) (omega (arith, weights_take weigh (i + 1) xs, ap (weights weigh) more)) e ∙ ap means (sym more)
