-- The tokens of a text by the bytes that begin one: each ends where the next begins.
use Rattle.std.proofs.Common.{◌≡◌, ℕ, zero, suc, ◌+◌, ◌-◌, ◌<◌, ◌≤◌, Bool, true, false, cond, ltb, List, [], ◌∷◌, ◌++◌, length, get_or, take, drop, Some, None, sym, refl, ap, ◌∙◌, ap₂, ⊎_elim, arith, length-drop, take-add}
use Rattle.std.proofs.lemmas.List.{get_or-drop}
use Rattle.std.proofs.lemmas.Bool.{lt-ltb, le-ltb, cases_lt, cond-true, cond-false}
use Rattle.plain.specs.Lists.{at, find}
use Rattle.plain.specs.Tokens.{step, end_state, token_of, tokens, tokens_from}
use Rattle.plain.specs.Questions.{token_of_offset, token_of_number}
use Rattle.plain.specs.declared.answers.Token.{Token}
use Rattle.lexer.specs.Reading.{beginnings, read_from}
use Rattle.lexer.proofs.WholeText.{whole_read}

-- reading one list after another
pub end_append : (s : ℕ) (xs ys : List ℕ) → end_state s (xs ++ ys) ≡ end_state (end_state s xs) ys
end_append s [] ys = refl
end_append s (x ∷ xs) ys = end_append (step s x).0 xs ys

pub begun_append : (s : ℕ) (xs ys : List ℕ) → beginnings s (xs ++ ys) ≡ beginnings s xs + beginnings (end_state s xs) ys
begun_append s [] ys = omega arith
begun_append s (x ∷ xs) ys = omega (arith, begun_append (step s x).0 xs ys)

-- no fewer tokens begin in a longer part
pub begun_mono : (s i j : ℕ) (bs : List ℕ) → i ≤ j → beginnings s (take i bs) ≤ beginnings s (take j bs)
begun_mono s zero j bs h = omega arith
begun_mono s (suc i) zero bs h = absurd (omega arith)
begun_mono s (suc i) (suc j) [] h = omega arith
begun_mono s (suc i) (suc j) (b ∷ bs) h = omega (arith, begun_mono (step s b).0 i j bs (omega arith))

pub end_on : (s i j : ℕ) (bs : List ℕ) → end_state s (take (i + j) bs) ≡ end_state (end_state s (take i bs)) (take j (drop i bs))
end_on s i j bs = ap (end_state s) (take-add i j bs) ∙ end_append s (take i bs) (take j (drop i bs))

pub begun_on : (s i j : ℕ) (bs : List ℕ) → beginnings s (take (i + j) bs) ≡ beginnings s (take i bs) + beginnings (end_state s (take i bs)) (take j (drop i bs))
begun_on s i j bs = ap (beginnings s) (take-add i j bs) ∙ begun_append s (take i bs) (take j (drop i bs))

-- one byte more
pub end_more : (s x : ℕ) (bs : List ℕ) → x < length bs → end_state s (take (suc x) bs) ≡ (step (end_state s (take x bs)) (get_or bs x 0)).0
end_more s x [] h = absurd (omega arith)
end_more s zero (b ∷ bs) h = refl
end_more s (suc x) (b ∷ bs) h = end_more (step s b).0 x bs (omega arith)

pub begun_more : (s x : ℕ) (bs : List ℕ) → x < length bs → beginnings s (take (suc x) bs) ≡ beginnings s (take x bs) + cond (step (end_state s (take x bs)) (get_or bs x 0)).1 1 0
begun_more s x [] h = absurd (omega arith)
begun_more s zero (b ∷ bs) h = omega arith
begun_more s (suc x) (b ∷ bs) h = omega (arith, begun_more (step s b).0 x bs (omega arith))

-- The token that is open: it ends where the first byte after it begins another, or at the end.
pub record Closes (s e : ℕ) (bs : List ℕ) : Type 0 where
  pub within : e ≤ length bs
  pub quiet : beginnings s (take e bs) ≡ 0
  pub ends : e < length bs → (step (end_state s (take e bs)) (get_or bs e 0)).1 ≡ true

pub open_ends : (t : List ℕ) (s i a k e : ℕ) (bs : List ℕ) → Closes s e bs → at (tokens_from t s i a k bs) 0 ≡ Some (token_of t a (i + e) k (end_state s (take e bs)))
open_ends t s i a k zero [] c = ap (λ (j : ℕ). Some (token_of t a j k s)) (omega arith)
open_ends t s i a k (suc e) [] c = absurd (omega (arith, c.within))
open_ends t s i a k zero (b ∷ bs) c = by (step s b).1 (c.ends (omega arith))
  where
    by : (f : Bool) → f ≡ true → at {A = Token} (elim f [
      | true ↦ token_of t a i k s ∷ tokens_from t (step s b).0 (suc i) i (suc k) bs
      | false ↦ tokens_from t (step s b).0 (suc i) a k bs
    ]) 0 ≡ Some (token_of t a (i + 0) k s)
    by true e = ap (λ (j : ℕ). Some (token_of t a j k s)) (omega arith)
    by false e = let z : ◌≡◌ {A = ℕ} 0 1 = cc in absurd (omega arith)
open_ends t s i a k (suc e) (b ∷ bs) c = by (step s b).1 c.quiet (open_ends t (step s b).0 (suc i) a k e bs)
  where
    n : ℕ
    n = (step s b).0

    by : (f : Bool) → cond f 1 0 + beginnings n (take e bs) ≡ 0
        → (Closes n e bs → at (tokens_from t n (suc i) a k bs) 0 ≡ Some (token_of t a (suc i + e) k (end_state n (take e bs))))
        → at {A = Token} (elim f [
          | true ↦ token_of t a i k s ∷ tokens_from t n (suc i) i (suc k) bs
          | false ↦ tokens_from t n (suc i) a k bs
        ]) 0 ≡ Some (token_of t a (i + suc e) k (end_state n (take e bs)))
    by true q ih = absurd (omega arith)
    by false q ih =
        ih (record { within = omega (arith, c.within); quiet = omega arith; ends = λ h. c.ends (omega arith) })
        ∙ ap (λ (j : ℕ). Some (token_of t a j k (end_state n (take e bs)))) (omega arith)

-- A byte at x begins a token.
pub record Begins (s x : ℕ) (bs : List ℕ) : Type 0 where
  pub within : x < length bs
  pub begins : (step (end_state s (take x bs)) (get_or bs x 0)).1 ≡ true

-- that token, by its number: the one that is open has number k
pub later_token : (t : List ℕ) (s i a k x j : ℕ) (bs : List ℕ) → Begins s x bs → j ≡ beginnings s (take x bs) + 1
    → at (tokens_from t s i a k bs) j ≡ at (tokens_from t (step (end_state s (take x bs)) (get_or bs x 0)).0 (suc (i + x)) (i + x) (k + j) (drop (suc x) bs)) 0
later_token t s i a k x j [] b e = absurd (omega (arith, b.within))
later_token t s i a k zero j (y ∷ bs) b e =
    by (step s y).1 b.begins
  where
    n : ℕ
    n = (step s y).0

    by : (f : Bool) → f ≡ true → at {A = Token} (elim f [
      | true ↦ token_of t a i k s ∷ tokens_from t n (suc i) i (suc k) bs
      | false ↦ tokens_from t n (suc i) a k bs
    ]) j ≡ at (tokens_from t n (suc (i + 0)) (i + 0) (k + j) bs) 0
    by true h =
        let one : j ≡ suc 0 = omega arith in
        let place : i ≡ i + 0 = omega arith in
        let number : suc k ≡ k + j = omega arith in
        ap (at (token_of t a i k s ∷ tokens_from t n (suc i) i (suc k) bs)) one
        ∙ ap₂ (λ (q m : ℕ). at (tokens_from t n (suc q) q m bs) 0) place number
    by false h = let z : ◌≡◌ {A = ℕ} 0 1 = cc in absurd (omega arith)
later_token t s i a k (suc x) j (y ∷ bs) b e =
    by (step s y).1 j e (λ l. later_token t (step s y).0 (suc i) i (suc k) x l bs) (later_token t (step s y).0 (suc i) a k x j bs)
  where
    n : ℕ
    n = (step s y).0

    m : ℕ
    m = (step (end_state n (take x bs)) (get_or bs x 0)).0

    inner : Begins n x bs
    inner = record { within = omega (arith, b.within); begins = b.begins }

    Comes : ℕ → ℕ → ℕ → Type 0
    Comes c l j = Begins n x bs → j ≡ beginnings n (take x bs) + 1
        → at (tokens_from t n (suc i) c l bs) j ≡ at (tokens_from t m (suc (suc i + x)) (suc i + x) (l + j) (drop (suc x) bs)) 0

    by : (f : Bool) (j : ℕ) → j ≡ cond f 1 0 + beginnings n (take x bs) + 1 → ((l : ℕ) → Comes i (suc k) l) → Comes a k j → at {A = Token} (elim f [
      | true ↦ token_of t a i k s ∷ tokens_from t n (suc i) i (suc k) bs
      | false ↦ tokens_from t n (suc i) a k bs
    ]) j ≡ at (tokens_from t m (suc (i + suc x)) (i + suc x) (k + j) (drop (suc x) bs)) 0
    by true zero e begins goes = absurd (omega arith)
    by true (suc j) e begins goes =
        begins j inner (omega arith)
        ∙ ap₂ (λ (q l : ℕ). at (tokens_from t m (suc q) q l (drop (suc x) bs)) 0) (omega arith) (omega arith)
    by false j e begins goes =
        goes inner (omega arith)
        ∙ ap (λ (q : ℕ). at (tokens_from t m (suc q) q (k + j) (drop (suc x) bs)) 0) (omega arith)

-- of these tokens, the one that p lies in has as number how many begin in the bytes up to p
abbrev InIts : ℕ → List Token → ℕ → Type 0
InIts p xs j = find (λ x. ltb p x.end) xs ≡ at xs j

find_token : (t : List ℕ) (s i a k p : ℕ) (bs : List ℕ) → p < i + length bs → InIts p (tokens_from t s i a k bs) (beginnings s (take (suc p - i) bs))
find_token t s i a k p [] h =
    let none : 0 ≡ suc p - i = omega arith in
    cond-true (ltb p i) (Some (token_of t a i k s)) None (lt-ltb p i (omega arith))
    ∙ ap (λ (j : ℕ). at (token_of t a i k s ∷ []) (beginnings s (take j []))) none
find_token t s i a k p (b ∷ bs) h =
    let begins = find_token t (step s b).0 (suc i) i (suc k) p bs (omega arith) in
    let goes = find_token t (step s b).0 (suc i) a k p bs (omega arith) in
    ⊎_elim (low (step s b).1 goes) (high begins goes) (cases_lt p i)
  where
    n : ℕ
    n = (step s b).0

    these : Bool → List Token
    these f = elim f [
      | true ↦ token_of t a i k s ∷ tokens_from t n (suc i) i (suc k) bs
      | false ↦ tokens_from t n (suc i) a k bs
    ]

    low : (f : Bool) → InIts p (tokens_from t n (suc i) a k bs) (beginnings n (take (suc p - suc i) bs)) → p < i → InIts p (these f) (beginnings s (take (suc p - i) (b ∷ bs)))
    low f goes l = by f ∙ ap (λ (j : ℕ). at (these f) (beginnings s (take j (b ∷ bs)))) nothing
      where
        nothing : 0 ≡ suc p - i
        nothing = omega arith

        none : suc p - suc i ≡ 0
        none = omega arith

        by : (f : Bool) → InIts p (these f) 0
        by true = cond-true (ltb p i) (Some (token_of t a i k s)) _ (lt-ltb p i l)
        by false = goes ∙ ap (λ (j : ℕ). at (these false) (beginnings n (take j bs))) none

    high : InIts p (tokens_from t n (suc i) i (suc k) bs) (beginnings n (take (suc p - suc i) bs)) → InIts p (tokens_from t n (suc i) a k bs) (beginnings n (take (suc p - suc i) bs))
        → i ≤ p → InIts p (these (step s b).1) (beginnings s (take (suc p - i) (b ∷ bs)))
    high begins goes g = by (step s b).1 ∙ ap (λ (j : ℕ). at (these (step s b).1) (beginnings s (take j (b ∷ bs)))) more
      where
        more : suc (p - i) ≡ suc p - i
        more = omega arith

        here : suc p - suc i ≡ p - i
        here = omega arith

        m : ℕ
        m = beginnings n (take (p - i) bs)

        one_more : suc m ≡ 1 + m
        one_more = omega arith

        none_more : m ≡ 0 + m
        none_more = omega arith

        by : (f : Bool) → InIts p (these f) (cond f 1 0 + beginnings n (take (p - i) bs))
        by true =
            cond-false (ltb p i) (Some (token_of t a i k s)) _ (le-ltb p i g) ∙ begins
            ∙ ap (λ (j : ℕ). at (these true) (suc (beginnings n (take j bs)))) here ∙ ap (at (these true)) one_more
        by false = goes ∙ ap (λ (j : ℕ). at (these false) (beginnings n (take j bs))) here ∙ ap (at (these false)) none_more

-- The tokens of a whole text, with one before them that is open at its start and has number 0.
from_start : (t : List ℕ) → tokens_from t 0 0 0 0 t ≡ token_of t 0 0 0 0 ∷ tokens t
from_start [] = refl
from_start (b ∷ bs) = refl

numbered : (t : List ℕ) (k : ℕ) → 0 < k → token_of_number t k ≡ at (tokens_from t 0 0 0 0 t) k
numbered t zero h = absurd (omega arith)
numbered t (suc k) h = sym (ap (λ (xs : List Token). at xs (suc k)) (from_start t))

-- Token k of a text begins at a and ends at e.
pub token_number_lem : (t : List ℕ) (k a e : ℕ) → Begins 0 a t → k ≡ beginnings 0 (take a t) + 1
    → e ≤ length t → beginnings 0 (take e t) ≡ k → (e < length t → (step (end_state 0 (take e t)) (get_or t e 0)).1 ≡ true)
    → token_of_number t k ≡ Some (token_of t a e k (end_state 0 (take e t)))
token_number_lem t k a e B number within reach ends =
    numbered t k (omega arith)
    ∙ later_token t 0 0 0 0 a k t B number
    ∙ open_ends t n (suc (0 + a)) (0 + a) (0 + k) d (drop (suc a) t) closes
    ∙ same_token (omega arith) (omega (arith, later)) (omega arith) (sym there)
  where
    n : ℕ
    n = (step (end_state 0 (take a t)) (get_or t a 0)).0

    -- past the byte that begins it
    d : ℕ
    d = e - suc a

    one_more : beginnings 0 (take (suc a) t) ≡ k
    one_more = begun_more 0 a t B.within ∙ ap (λ (f : Bool). beginnings 0 (take a t) + cond f 1 0) B.begins ∙ sym number

    later : suc a ≤ e
    later = ⊎_elim (λ (h : e < suc a). absurd (omega (arith, begun_mono 0 e a t (omega arith)))) (λ h. h) (cases_lt e (suc a))

    state : end_state 0 (take (suc a) t) ≡ n
    state = end_more 0 a t B.within

    there : end_state 0 (take e t) ≡ end_state n (take d (drop (suc a) t))
    there =
        ap (λ (j : ℕ). end_state 0 (take j t)) (omega (arith, later))
        ∙ end_on 0 (suc a) d t ∙ ap (λ (s : ℕ). end_state s (take d (drop (suc a) t))) state

    closes : Closes n d (drop (suc a) t)
    closes = record {
      within = simp length-drop (omega arith);
      quiet =
          let on : beginnings 0 (take (suc a + d) t) ≡ beginnings 0 (take (suc a) t) + beginnings (end_state 0 (take (suc a) t)) (take d (drop (suc a) t)) = begun_on 0 (suc a) d t in
          let all : beginnings 0 (take (suc a + d) t) ≡ beginnings 0 (take e t) = ap (λ (j : ℕ). beginnings 0 (take j t)) (omega (arith, later)) in
          let here : beginnings (end_state 0 (take (suc a) t)) (take d (drop (suc a) t)) ≡ beginnings n (take d (drop (suc a) t)) = ap (λ (s : ℕ). beginnings s (take d (drop (suc a) t))) state in
          omega (arith, one_more);
      ends = λ h.
          let inside : e < length t = omega (arith, later, length-drop (suc a) t) in
          ap₂ (λ (s b : ℕ). (step s b).1) (sym there) (get_or-drop (suc a) t d 0 ∙ ap (λ (j : ℕ). get_or t j 0) (omega (arith, later))) ∙ ends inside;
    }

    same_token : {a a' e e' k k' s s' : ℕ} → a ≡ a' → e ≡ e' → k ≡ k' → s ≡ s' → Some (token_of t a e k s) ≡ Some (token_of t a' e' k' s')
    same_token p q r u = cc

-- there is no token k where fewer begin
pub no_token : (t : List ℕ) (k : ℕ) → beginnings 0 t < k → token_of_number t k ≡ None
unfolding read_from
no_token t zero h = refl
no_token t (suc k) h = past (tokens t) k (omega (arith, (whole_read t).begun))
  where
    past : (xs : List Token) (j : ℕ) → length xs ≤ j → at xs j ≡ None
    past [] j h = refl
    past (x ∷ xs) zero h = absurd (omega arith)
    past (x ∷ xs) (suc j) h = past xs j (omega arith)

-- the token at p, by its number
pub token_at_lem : (t : List ℕ) (p : ℕ) → p < length t → token_of_offset t p ≡ token_of_number t (beginnings 0 (take (suc p) t))
token_at_lem t p h =
    let from-here : suc p - 0 ≡ suc p = omega arith in
    sym (ap (find (λ x. ltb p x.end)) (from_start t) ∙ cond-false (ltb p 0) (Some (token_of t 0 0 0 0)) (token_of_offset t p) (le-ltb p 0 (omega arith)))
    ∙ find_token t 0 0 0 0 p t (omega arith)
    ∙ ap (λ (j : ℕ). at (tokens_from t 0 0 0 0 t) (beginnings 0 (take j t))) from-here
    ∙ sym (numbered t (beginnings 0 (take (suc p) t)) (some t h))
  where
    some : (t : List ℕ) → p < length t → 0 < beginnings 0 (take (suc p) t)
    some [] h = absurd (omega arith)
    some (b ∷ bs) h = omega arith
