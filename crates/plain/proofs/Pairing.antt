-- Brackets read by states are those read by tokens, and what is settled after a pair lies outside it.
use Rattle.std.proofs.Common.{◌≡◌, ℕ, zero, suc, ◌<◌, ◌≤◌, Bool, true, false, cond, ◌&&◌, ◌||◌, eqb, List, [], ◌∷◌, ◌++◌, map, sym, refl, ap, ◌∙◌, ap₂, inl, inr, arith}
use mathlib.Core.List.{tail}
use Rattle.std.proofs.lemmas.Bool.{eqb-true, ne_eqb, and_parts}
use Rattle.plain.specs.Lists.{among, first, slice}
use Rattle.plain.specs.Tokens.{letter, digit, white, feed, quote, escape, begun, stays, step, is_key, name_of, kind_of, token_of, tokens, tokens_from}
use Rattle.plain.specs.Brackets.{Settled, unmet, waiting, closed, settled, brackets, brackets_from}
use Rattle.plain.specs.Laws.{taken_in, pairing, Beyond, AllOutside, Nested}
use Rattle.plain.specs.declared.answers.Kind.{Kind}
use Rattle.plain.specs.declared.answers.Kind.TheVariants.{Word, Key}
use Rattle.plain.specs.declared.answers.Token.{Token}

-- a state that is neither open nor close
abbrev pub Quiet : ℕ → Type 0
Quiet s = (eqb s 6 ≡ false) × (eqb s 7 ≡ false)

is_quiet : (s n : ℕ) → eqb s n ≡ true → Quiet n → Quiet s
is_quiet s n e q =
    let same : s ≡ n = eqb-true s n e in
    (ap (λ (x : ℕ). eqb x 6) same ∙ q.0, ap (λ (x : ℕ). eqb x 7) same ∙ q.1)

stays_quiet : (s b : ℕ) → stays s b ≡ true → Quiet s
stays_quiet s b = go (eqb s 1) (eqb s 3) (eqb s 4) refl refl refl
  where
    go : (x y z : Bool) → eqb s 1 ≡ x → eqb s 3 ≡ y → eqb s 4 ≡ z
        → cond x (white b) (cond y (letter b || digit b) (cond z (digit b) false)) ≡ true → Quiet s
    go true y z e f g h = is_quiet s 1 e (refl, refl)
    go false true z e f g h = is_quiet s 3 f (refl, refl)
    go false false true e f g h = is_quiet s 4 g (refl, refl)
    go false false false e f g h = let z : ◌≡◌ {A = ℕ} 0 1 = cc in absurd (omega arith)

or_quiet : (s : ℕ) → eqb s 8 || eqb s 9 ≡ true → Quiet s
or_quiet s = go (eqb s 8) (eqb s 9) refl refl
  where
    go : (x y : Bool) → eqb s 8 ≡ x → eqb s 9 ≡ y → x || y ≡ true → Quiet s
    go true y e f h = is_quiet s 8 e (refl, refl)
    go false y e f h = is_quiet s 9 (f ∙ h) (refl, refl)

-- a byte that begins no token stays clear of brackets
goes_on : (s b : ℕ) → (step s b).1 ≡ false → Quiet s × Quiet (step s b).0
goes_on s b = go (among (8 ∷ 9 ∷ 11 ∷ []) s && feed b) (eqb s 8 && quote b) (eqb s 8 && escape b) (eqb s 8 || eqb s 9) (eqb s 11) (stays s b) refl refl refl refl refl
  where
    go : (t1 t2 t3 t4 t5 t6 : Bool) → eqb s 8 && quote b ≡ t2 → eqb s 8 && escape b ≡ t3 → eqb s 8 || eqb s 9 ≡ t4 → eqb s 11 ≡ t5 → stays s b ≡ t6
        → (first {A = ℕ × Bool} ((t1, (2, true)) ∷ (t2, (10, false)) ∷ (t3, (9, false)) ∷ (t4, (8, false)) ∷ (t5, (11, false)) ∷ (t6, (s, false)) ∷ []) (begun b, true)).1 ≡ false
        → Quiet s × Quiet (first {A = ℕ × Bool} ((t1, (2, true)) ∷ (t2, (10, false)) ∷ (t3, (9, false)) ∷ (t4, (8, false)) ∷ (t5, (11, false)) ∷ (t6, (s, false)) ∷ []) (begun b, true)).0
    go true t2 t3 t4 t5 t6 e2 e3 e4 e5 e6 h = let z : ◌≡◌ {A = ℕ} 0 1 = cc in absurd (omega arith)
    go false true t3 t4 t5 t6 e2 e3 e4 e5 e6 h = (is_quiet s 8 (and_parts (eqb s 8) (quote b) e2).0 (refl, refl), (refl, refl))
    go false false true t4 t5 t6 e2 e3 e4 e5 e6 h = (is_quiet s 8 (and_parts (eqb s 8) (escape b) e3).0 (refl, refl), (refl, refl))
    go false false false true t5 t6 e2 e3 e4 e5 e6 h = (or_quiet s e4, (refl, refl))
    go false false false false true t6 e2 e3 e4 e5 e6 h = (is_quiet s 11 e5 (refl, refl), (refl, refl))
    go false false false false false true e2 e3 e4 e5 e6 h = let q : Quiet s = stays_quiet s b e6 in (q, q)
    go false false false false false false e2 e3 e4 e5 e6 h = let z : ◌≡◌ {A = ℕ} 0 1 = cc in absurd (omega arith)

quiet_waiting : (s i : ℕ) (os : List ℕ) → Quiet s → waiting s i os ≡ os
quiet_waiting s i os q =
    ap (λ (x : Bool). cond x (i ∷ os) (cond (eqb s 7) (tail os) os)) q.0 ∙ ap (λ (x : Bool). cond x (tail os) os) q.1

quiet_settled : (s i : ℕ) (os : List ℕ) → Quiet s → settled s i os ≡ []
quiet_settled s i os q = ap (λ (x : Bool). cond x (closed os i ∷ []) []) q.1

-- what a token does by its kind is what its last state does
named : (s i : ℕ) (os : List ℕ) → taken_in (name_of s) i os ≡ (waiting s i os, settled s i os)
named zero i os = refl
named (suc zero) i os = refl
named (suc (suc zero)) i os = refl
named (suc (suc (suc zero))) i os = refl
named (suc (suc (suc (suc zero)))) i os = refl
named (suc (suc (suc (suc (suc zero))))) i os = refl
named (suc (suc (suc (suc (suc (suc zero)))))) i os = refl
named (suc (suc (suc (suc (suc (suc (suc zero))))))) i os = refl
named (suc (suc (suc (suc (suc (suc (suc (suc zero)))))))) i os = refl
named (suc (suc (suc (suc (suc (suc (suc (suc (suc zero))))))))) i os = refl
named (suc (suc (suc (suc (suc (suc (suc (suc (suc (suc zero)))))))))) i os = refl
named (suc (suc (suc (suc (suc (suc (suc (suc (suc (suc (suc zero))))))))))) i os = refl
named (suc (suc (suc (suc (suc (suc (suc (suc (suc (suc (suc (suc zero)))))))))))) i os = refl
named (suc (suc (suc (suc (suc (suc (suc (suc (suc (suc (suc (suc (suc s))))))))))))) i os =
    let n : ℕ = suc (suc (suc (suc (suc (suc (suc (suc (suc (suc (suc (suc (suc s)))))))))))) in
    let q : Quiet n = (ne_eqb n 6 (λ e. omega arith), ne_eqb n 7 (λ e. omega arith)) in
    sym (ap₂ (λ (w : List ℕ) (r : List Settled). (w, r)) (quiet_waiting n i os q) (quiet_settled n i os q))

taken : (s i : ℕ) (w os : List ℕ) → taken_in (kind_of s w) i os ≡ (waiting s i os, settled s i os)
taken s i w os = go (eqb s 3) refl (is_key w)
  where
    go : (t : Bool) → eqb s 3 ≡ t → (k : Bool)
        → taken_in (elim t as (λ _. Kind) [ true ↦ cond k Key Word | false ↦ name_of s ]) i os ≡ (waiting s i os, settled s i os)
    go true e true = ap (λ (x : ℕ). (waiting x i os, settled x i os)) (sym (eqb-true s 3 e))
    go true e false = ap (λ (x : ℕ). (waiting x i os, settled x i os)) (sym (eqb-true s 3 e))
    go false e k = named s i os

-- a token that began at a and ends in state s, and what follows it
abbrev pub Same : List ℕ → ℕ → ℕ → ℕ → ℕ → List ℕ → List ℕ → Type 0
Same t s i a k os bs = settled s a os ++ brackets_from s i (waiting s a os) bs ≡ pairing os (tokens_from t s i a k bs)

pairs_from : (t : List ℕ) (s i a k : ℕ) (os bs : List ℕ) → Same t s i a k os bs
pairs_from t s i a k os [] =
    sym (ap (λ (y : List ℕ × List Settled). y.1 ++ map unmet y.0) (taken s a (slice t a i) os))
pairs_from t s i a k os (b ∷ bs) = go (step s b).1 refl (λ W. pairs_from t n (suc i) i (suc k) W bs) (pairs_from t n (suc i) a k os bs)
  where
    n : ℕ
    n = (step s b).0

    go : (z : Bool) → (step s b).1 ≡ z → ((W : List ℕ) → Same t n (suc i) i (suc k) W bs) → Same t n (suc i) a k os bs
        → settled s a os ++ (settled n i (waiting s a os) ++ brackets_from n (suc i) (waiting n i (waiting s a os)) bs)
        ≡ pairing os (elim z as (λ _. List Token) [
          | true ↦ token_of t a i k s ∷ tokens_from t n (suc i) i (suc k) bs
          | false ↦ tokens_from t n (suc i) a k bs
        ])
    go true e begins goes =
        ap (λ (r : List Settled). settled s a os ++ r) (begins (waiting s a os))
        ∙ sym (ap (λ (y : List ℕ × List Settled). y.1 ++ pairing y.0 (tokens_from t n (suc i) i (suc k) bs)) (taken s a (slice t a i) os))
    go false e begins goes =
        let q : Quiet s × Quiet n = goes_on s b e in
        let same : waiting s a os ≡ os = quiet_waiting s a os q.0 in
        ap (λ (r : List Settled). r ++ (settled n i (waiting s a os) ++ brackets_from n (suc i) (waiting n i (waiting s a os)) bs)) (quiet_settled s a os q.0)
        ∙ ap (λ (W : List ℕ). settled n i W ++ brackets_from n (suc i) (waiting n i W) bs) same
        ∙ ap₂ (λ (r : List Settled) (W : List ℕ). r ++ brackets_from n (suc i) W bs) (quiet_settled n i os q.1) (quiet_waiting n i os q.1)
        ∙ sym (ap₂ (λ (r : List Settled) (W : List ℕ). r ++ brackets_from n (suc i) W bs) (quiet_settled n a os q.1) (quiet_waiting n a os q.1))
        ∙ goes

pub paired : (t : List ℕ) → brackets t ≡ pairing [] (tokens t)
paired [] = refl
paired (b ∷ bs) = pairs_from (b ∷ bs) (step 0 b).0 1 0 1 [] bs

-- Nesting: the opens that wait fall from below u, and stay outside an earlier pair.
abbrev pub Falling : ℕ → List ℕ → Type 0
Falling u [] = Unit {0}
Falling u (x ∷ xs) = (x < u) × Falling x xs

abbrev pub AllBeyond : ℕ → ℕ → List ℕ → Type 0
AllBeyond o c [] = Unit {0}
AllBeyond o c (x ∷ xs) = Beyond o c x × AllBeyond o c xs

falling_up : (u v : ℕ) (xs : List ℕ) → u ≤ v → Falling u xs → Falling v xs
falling_up u v [] h f = tt
falling_up u v (x ∷ xs) h f = let l : x < u = f.0 in (omega arith, f.1)

below : (o c u : ℕ) (xs : List ℕ) → u ≤ o → Falling u xs → AllBeyond o c xs
below o c u [] h f = tt
below o c u (x ∷ xs) h f = let l : x < u = f.0 in (inl (omega arith), below o c x xs (omega arith) f.1)

beyond_tail : (o c : ℕ) (xs : List ℕ) → AllBeyond o c xs → AllBeyond o c (tail xs)
beyond_tail o c [] f = tt
beyond_tail o c (x ∷ xs) f = f.1

outside_unmet : (o c : ℕ) (os : List ℕ) → AllBeyond o c os → AllOutside o c (map unmet os)
outside_unmet o c [] f = tt
outside_unmet o c (x ∷ os) f = (f.0, outside_unmet o c os f.1)

outside_from : (o c s i : ℕ) (os bs : List ℕ) → AllBeyond o c os → c < i → AllOutside o c (brackets_from s i os bs)
outside_from o c s i os [] f l = outside_unmet o c os f
outside_from o c s i os (b ∷ bs) f l = go (eqb n 6) (eqb n 7) os f (λ W. outside_from o c n (suc i) W bs)
  where
    n : ℕ
    n = (step s b).0

    go : (x y : Bool) (os : List ℕ) → AllBeyond o c os
        → ((W : List ℕ) → AllBeyond o c W → c < suc i → AllOutside o c (brackets_from n (suc i) W bs))
        → AllOutside o c (cond y (closed os i ∷ []) [] ++ brackets_from n (suc i) (cond x (i ∷ os) (cond y (tail os) os)) bs)
    go true true [] f ih = (l, ih (i ∷ []) (inr l, tt) (omega arith))
    go true true (o' ∷ os) f ih = ((f.0, l), ih (i ∷ (o' ∷ os)) (inr l, f) (omega arith))
    go true false os f ih = ih (i ∷ os) (inr l, f) (omega arith)
    go false true [] f ih = (l, ih [] tt (omega arith))
    go false true (o' ∷ os) f ih = ((f.0, l), ih os f.1 (omega arith))
    go false false os f ih = ih os f (omega arith)

nested_unmet : (os : List ℕ) → Nested (map unmet os)
nested_unmet [] = tt
nested_unmet (x ∷ os) = nested_unmet os

nested_from : (s i : ℕ) (os bs : List ℕ) → Falling i os → Nested (brackets_from s i os bs)
nested_from s i os [] f = nested_unmet os
nested_from s i os (b ∷ bs) f = go (eqb n 6) (eqb n 7) refl refl os f (λ W. nested_from n (suc i) W bs)
  where
    n : ℕ
    n = (step s b).0

    go : (x y : Bool) → eqb n 6 ≡ x → eqb n 7 ≡ y → (os : List ℕ) → Falling i os
        → ((W : List ℕ) → Falling (suc i) W → Nested (brackets_from n (suc i) W bs))
        → Nested (cond y (closed os i ∷ []) [] ++ brackets_from n (suc i) (cond x (i ∷ os) (cond y (tail os) os)) bs)
    go true true e e' os f ih =
        let a : n ≡ 6 = eqb-true n 6 e in let c : n ≡ 7 = eqb-true n 7 e' in absurd (omega arith)
    go true false e e' os f ih = ih (i ∷ os) (omega arith, f)
    go false true e e' [] f ih = ih [] tt
    go false true e e' (o ∷ os) f ih =
        let l : o < i = f.0 in (
          l,
          outside_from o i n (suc i) os bs (below o i o os (omega arith) f.1) (omega arith),
          ih os (falling_up o (suc i) os (omega arith) f.1),
        )
    go false false e e' os f ih = ih os (falling_up i (suc i) os (omega arith) f)

pub nested : (t : List ℕ) → Nested (brackets t)
nested t = nested_from 0 0 [] t tt
