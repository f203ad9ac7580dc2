-- The tokens cover the text, so that each offset lies in one.
use Rattle.std.proofs.Common.{◌≡◌, ℕ, suc, ◌+◌, ◌<◌, ◌≤◌, Bool, true, false, cond, ltb, List, [], ◌∷◌, length, Some, refl, arith}
use Rattle.std.proofs.lemmas.Bool.{ltb-true, ltb-false}
use Rattle.plain.specs.Lists.{find}
use Rattle.plain.specs.Tokens.{step, token_of, tokens, tokens_from}
use Rattle.plain.specs.Questions.{token_of_offset}
use Rattle.plain.specs.Laws.{Covers}
use Rattle.plain.specs.declared.answers.Token.{Token}

covers_from : (t : List ℕ) (s i a k n : ℕ) (bs : List ℕ) → a < i → i + length bs ≡ n → Covers a k n (tokens_from t s i a k bs)
covers_from t s i a k n [] h e = (refl, h, refl, omega arith)
covers_from t s i a k n (b ∷ bs) h e =
    let e' : suc i + length bs ≡ n = omega arith in
    elim (step s b).1 as (λ z. Covers a k n (elim z as (λ _. List Token) [
      | true ↦ token_of t a i k s ∷ tokens_from t (step s b).0 (suc i) i (suc k) bs
      | false ↦ tokens_from t (step s b).0 (suc i) a k bs
    ])) [
      | true ↦ (refl, h, refl, covers_from t (step s b).0 (suc i) i (suc k) n bs (omega arith) e')
      | false ↦ covers_from t (step s b).0 (suc i) a k n bs (omega arith) e'
    ]

pub covers : (t : List ℕ) → Covers 0 1 (length t) (tokens t)
covers [] = refl
covers (b ∷ bs) = covers_from (b ∷ bs) (step 0 b).0 1 0 1 (suc (length bs)) bs (omega arith) (omega arith)

-- the token that p lies in
abbrev pub Holds : List Token → ℕ → Type 0
Holds xs p = (x : Token) × (find (λ y. ltb p y.end) xs ≡ Some x) × (x.start ≤ p) × (p < x.end)

found_in : (xs : List Token) (a k n p : ℕ) → Covers a k n xs → a ≤ p → p < n → Holds xs p
found_in [] a k n p v h l = let e : a ≡ n = v in absurd (omega arith)
found_in (x ∷ xs) a k n p v h l = go (ltb p x.end) refl (λ h. found_in xs x.end (suc k) n p v.3 h l)
  where
    go : (t : Bool) → ltb p x.end ≡ t → (x.end ≤ p → Holds xs p)
        → (y : Token) × (cond t (Some x) (find (λ y. ltb p y.end) xs) ≡ Some y) × (y.start ≤ p) × (p < y.end)
    go true e ih = let s : x.start ≡ a = v.0 in (x, refl, omega arith, ltb-true p x.end e)
    go false e ih = ih (ltb-false p x.end e)

pub found : (t : List ℕ) (p : ℕ) → p < length t → (x : Token) × (token_of_offset t p ≡ Some x) × (x.start ≤ p) × (p < x.end)
found t p l = found_in (tokens t) 0 1 (length t) p (covers t) (omega arith) l
