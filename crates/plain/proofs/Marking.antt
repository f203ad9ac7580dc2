-- The edits keep the marks in order and within the text, and never make more of them than asked for.
use Rattle.std.proofs.Common.{◌≡◌, ℕ, suc, ◌+◌, ◌-◌, ◌<◌, ◌≤◌, Bool, true, false, cond, ltb, leb, List, [], ◌∷◌, length, refl, ap, ◌∙◌, arith, ltb-false, ltb-true, leb-false, leb-true}
use Rattle.plain.specs.Marks.{mark_at, grown, shrunk, marked}
use Rattle.plain.specs.Laws.{Ordered}
use Rattle.plain.specs.declared.answers.Mark.{Mark}

pub length_grown : (p n : ℕ) (h : List Mark) → length (grown p n h) ≡ length h
length_grown p n [] = refl
length_grown p n (m ∷ h) = ap suc (length_grown p n h)

pub length_shrunk : (a b : ℕ) (h : List Mark) → length (shrunk a b h) ≤ length h
length_shrunk a b [] = omega arith
length_shrunk a b (m ∷ h) = go (leb m.offset a) (ltb m.offset b) (length_shrunk a b h)
  where
    go : (s t : Bool) → length (shrunk a b h) ≤ length h
        → length (cond s (m ∷ shrunk a b h) (cond t (shrunk a b h) (mark_at (m.offset - (b - a)) m.label ∷ shrunk a b h))) ≤ suc (length h)
    go true t ih = omega arith
    go false true ih = omega arith
    go false false ih = omega arith

pub length_marked : (q l : ℕ) (h : List Mark) → length (marked q l h) ≡ suc (length h)
length_marked q l [] = refl
length_marked q l (m ∷ h) = go (leb m.offset q) (length_marked q l h)
  where
    go : (t : Bool) → length (marked q l h) ≡ suc (length h)
        → length (cond t (m ∷ marked q l h) (mark_at q l ∷ m ∷ h)) ≡ suc (suc (length h))
    go true ih = ap suc ih
    go false ih = refl

pub ordered_wider : (a a' n n' : ℕ) (h : List Mark) → a' ≤ a → n ≤ n' → Ordered a n h → Ordered a' n' h
ordered_wider a a' n n' [] p q o = tt
ordered_wider a a' n n' (m ∷ h) p q o =
    let low : a ≤ m.offset = o.0 in
    let high : m.offset ≤ n = o.1 in
    let k : m.offset ≤ m.offset = omega arith in
    (omega arith, omega arith, ordered_wider m.offset m.offset n n' h k q o.2)

-- an offset after k bytes more at p
moved : ℕ → ℕ → ℕ → ℕ
moved p k x = x + cond (leb p x) k 0

moved_mono : (p k x y : ℕ) → x ≤ y → moved p k x ≤ moved p k y
unfolding moved
moved_mono p k x y h = go (leb p x) (leb p y) refl refl
  where
    go : (s t : Bool) → leb p x ≡ s → leb p y ≡ t → x + cond s k 0 ≤ y + cond t k 0
    go true true e f = omega arith
    go true false e f = let c : p ≤ x = leb-true p x e in let d : y < p = leb-false p y f in omega arith
    go false true e f = omega arith
    go false false e f = omega arith

moved_most : (p k x n : ℕ) → x ≤ n → moved p k x ≤ n + k
unfolding moved
moved_most p k x n h = go (leb p x)
  where
    go : (s : Bool) → x + cond s k 0 ≤ n + k
    go true = omega arith
    go false = omega arith

grown_from : (p k a n : ℕ) (h : List Mark) → Ordered a n h → Ordered (moved p k a) (n + k) (grown p k h)
unfolding moved
grown_from p k a n [] o = tt
grown_from p k a n (m ∷ h) o =
    (moved_mono p k a m.offset o.0, moved_most p k m.offset n o.1, grown_from p k m.offset n h o.2)

pub ordered_grown : (p k n : ℕ) (h : List Mark) → Ordered 0 n h → Ordered 0 (n + k) (grown p k h)
ordered_grown p k n h o = ordered_wider (moved p k 0) 0 (n + k) (n + k) (grown p k h) (omega arith) (omega arith) (grown_from p k 0 n h o)

-- where an offset comes to when the bytes from a to b are gone
back : ℕ → ℕ → ℕ → ℕ
back a b x = cond (leb x a) x (cond (ltb x b) a (x - (b - a)))

back_mono : (a b x y : ℕ) → a ≤ b → x ≤ y → back a b x ≤ back a b y
unfolding back
back_mono a b x y k h = go (leb x a) (ltb x b) (leb y a) (ltb y b) refl refl refl refl
  where
    go : (s t s' t' : Bool) → leb x a ≡ s → ltb x b ≡ t → leb y a ≡ s' → ltb y b ≡ t'
        → cond s x (cond t a (x - (b - a))) ≤ cond s' y (cond t' a (y - (b - a)))
    go true t true t' e f e' f' = h
    go true t false true e f e' f' = leb-true x a e
    go true t false false e f e' f' = let c : x ≤ a = leb-true x a e in let d : b ≤ y = ltb-false y b f' in omega arith
    go false t true t' e f e' f' = let c : a < x = leb-false x a e in let d : y ≤ a = leb-true y a e' in omega arith
    go false true false true e f e' f' = omega arith
    go false true false false e f e' f' = let d : b ≤ y = ltb-false y b f' in omega arith
    go false false false true e f e' f' = let c : b ≤ x = ltb-false x b f in let d : y < b = ltb-true y b f' in omega arith
    go false false false false e f e' f' = omega arith

shrunk_from : (a b l n : ℕ) (h : List Mark) → a ≤ b → b ≤ n → Ordered l n h → Ordered (back a b l) (n - (b - a)) (shrunk a b h)
unfolding back
shrunk_from a b l n [] k j o = tt
shrunk_from a b l n (m ∷ h) k j o = go (leb m.offset a) (ltb m.offset b) refl refl (shrunk_from a b m.offset n h k j o.2)
  where
    low : back a b l ≤ back a b m.offset
    low = back_mono a b l m.offset k o.0

    go : (s t : Bool) → leb m.offset a ≡ s → ltb m.offset b ≡ t
        → Ordered (cond s m.offset (cond t a (m.offset - (b - a)))) (n - (b - a)) (shrunk a b h)
        → Ordered (back a b l) (n - (b - a)) (cond s (m ∷ shrunk a b h) (cond t (shrunk a b h) (mark_at (m.offset - (b - a)) m.label ∷ shrunk a b h)))
    go true t e f ih =
        let c : m.offset ≤ a = leb-true m.offset a e in
        let d : back a b m.offset ≡ m.offset = ap (λ s. cond s m.offset (cond (ltb m.offset b) a (m.offset - (b - a)))) e in
        (omega (arith, low), omega arith, ih)
    go false true e f ih =
        let d : back a b m.offset ≡ a = ap (λ s. cond s m.offset (cond (ltb m.offset b) a (m.offset - (b - a)))) e ∙ ap (λ t. cond t a (m.offset - (b - a))) f in
        ordered_wider a (back a b l) (n - (b - a)) (n - (b - a)) (shrunk a b h) (omega (arith, low)) (omega arith) ih
    go false false e f ih =
        let c : b ≤ m.offset = ltb-false m.offset b f in
        let u : m.offset ≤ n = o.1 in
        let d : back a b m.offset ≡ m.offset - (b - a) = ap (λ s. cond s m.offset (cond (ltb m.offset b) a (m.offset - (b - a)))) e ∙ ap (λ t. cond t a (m.offset - (b - a))) f in
        (omega (arith, low), omega arith, ih)

pub ordered_shrunk : (a b n : ℕ) (h : List Mark) → a ≤ b → b ≤ n → Ordered 0 n h → Ordered 0 (n - (b - a)) (shrunk a b h)
ordered_shrunk a b n h k j o =
    ordered_wider (back a b 0) 0 (n - (b - a)) (n - (b - a)) (shrunk a b h) (omega arith) (omega arith) (shrunk_from a b 0 n h k j o)

pub ordered_marked : (q l a n : ℕ) (h : List Mark) → a ≤ q → q ≤ n → Ordered a n h → Ordered a n (marked q l h)
ordered_marked q l a n [] k j o = (k, j, tt)
ordered_marked q l a n (m ∷ h) k j o = go (leb m.offset q) refl (ordered_marked q l m.offset n h)
  where
    go : (t : Bool) → leb m.offset q ≡ t → (m.offset ≤ q → q ≤ n → Ordered m.offset n h → Ordered m.offset n (marked q l h))
        → Ordered a n (cond t (m ∷ marked q l h) (mark_at q l ∷ m ∷ h))
    go true e ih = (o.0, o.1, ih (leb-true m.offset q e) j o.2)
    go false e ih = let c : q < m.offset = leb-false m.offset q e in (k, j, (omega arith, o.1, o.2))
