-- A list read from a state is its bytes read one after another.
use Rattle.std.specs.Prelude.{◌≡◌, ℕ, suc, ◌+◌, ◌-◌, Bool, true, false, cond, List, [], ◌∷◌, ◌++◌, map, length, fold, ◌==◌, ◌≢◌, refl}
use Rattle.std.proofs.Common.{sym, ap, ◌∙◌, arith}
use mathlib.Core.List.{tail}
use Rattle.std.proofs.lemmas.Bool.{eqb-true}
use Rattle.plain.specs.Lists.{count, first}
use Rattle.plain.specs.Tokens.{step, end_state}
use Rattle.plain.specs.Brackets.{unmet, brackets_from, is_stray, is_unmet, waiting, closed, settled}
use Rattle.measures.specs.Counts.{count_append}
use Rattle.measures.proofs.Folds.{folded_append}
use Rattle.lexer.specs.Numbers.{number_of, state_of, state_number}
use Rattle.lexer.specs.States.{step_at}
use Rattle.lexer.specs.Reading.{beginnings, read_from}
use Rattle.lexer.specs.declared.states.State.{State}
use Rattle.lexer.specs.declared.tokens.TokenRow.{TokenRow}

abbrev pub make : State → ℕ → ℕ → ℕ → TokenRow
make a b c d = record { state = a; tokens = b; strays = c; unmet = d }

pub make_eq : {a a' : State} {b c d b' c' d' : ℕ} → a ≡ a' → b ≡ b' → c ≡ c' → d ≡ d' → make a b c d ≡ make a' b' c' d'
make_eq e f g h = cc

-- one byte more
abbrev pub stepped : TokenRow → ℕ → TokenRow
stepped r b =
    let n = step (number_of r.state) b in
    make (state_of n.0) (r.tokens + cond n.1 1 0)
    (r.strays + cond (n.0 == 7) (1 - r.unmet) 0)
    (cond (n.0 == 7) (r.unmet - 1) (cond (n.0 == 6) (r.unmet + 1) r.unmet))

-- the opens that wait, and what a byte settles, in numbers
no_strays : (os : List ℕ) → count is_stray (map unmet os) ≡ 0
no_strays [] = refl
no_strays (o ∷ os) = omega (arith, no_strays os)

all_unmet : (os : List ℕ) → count is_unmet (map unmet os) ≡ length os
all_unmet [] = refl
all_unmet (o ∷ os) = omega (arith, all_unmet os)

settled_strays : (n i : ℕ) (os : List ℕ) → count is_stray (settled n i os) ≡ cond (n == 7) (1 - length os) 0
settled_strays n i os = by (n == 7) os
  where
    by : (shut : Bool) (os : List ℕ) → count is_stray (cond shut (closed os i ∷ []) []) ≡ cond shut (1 - length os) 0
    by true [] = omega arith
    by true (o ∷ os) = omega arith
    by false os = refl

settled_unmet : (n i : ℕ) (os : List ℕ) → count is_unmet (settled n i os) ≡ 0
settled_unmet n i os = by (n == 7) os
  where
    by : (shut : Bool) (os : List ℕ) → count is_unmet (cond shut (closed os i ∷ []) []) ≡ 0
    by true [] = omega arith
    by true (o ∷ os) = omega arith
    by false os = refl

waiting_length : (n i : ℕ) (os : List ℕ) → cond (n == 7) (length os - 1) (cond (n == 6) (length os + 1) (length os)) ≡ length (waiting n i os)
waiting_length n i os = by (n == 7) (n == 6) os (λ p q. omega (arith, eqb-true n 7 p, eqb-true n 6 q))
  where
    by : (shut more : Bool) (os : List ℕ) → (shut ≡ true → more ≢ true) → cond shut (length os - 1) (cond more (length os + 1) (length os)) ≡ length (first ((more, i ∷ os) ∷ (shut, tail os) ∷ []) os)
    by true true os apart = absurd (apart refl refl)
    by true false [] apart = omega arith
    by true false (o ∷ os) apart = omega arith
    by false true os apart = omega arith
    by false false os apart = refl

-- the row after a step that is given
abbrev taken : ℕ → ℕ → ℕ → ℕ × Bool → TokenRow
taken t a u n =
    make (state_of n.0) (t + cond n.1 1 0) (a + cond (n.0 == 7) (1 - u) 0) (cond (n.0 == 7) (u - 1) (cond (n.0 == 6) (u + 1) u))

read_from_lem : (s t a i : ℕ) (os bs : List ℕ) → fold stepped (make (state_of s) t a (length os)) bs ≡ make (state_of (end_state s bs)) (t + beginnings s bs) (a + count is_stray (brackets_from s i os bs)) (count is_unmet (brackets_from s i os bs))
read_from_lem s t a i os [] = make_eq refl (omega arith) (omega (arith, no_strays os)) (sym (all_unmet os))
read_from_lem s t a i os (b ∷ bs) =
    let n = (step s b).0 in
    let t' = t + cond (step s b).1 1 0 in
    let a' = a + cond (n == 7) (1 - length os) 0 in
    let rest = brackets_from n (suc i) (waiting n i os) bs in
    ap (λ (p : ℕ × Bool). fold stepped (taken t a (length os) p) bs) (step_at s b)
    ∙ ap (λ u. fold stepped (make (state_of n) t' a' u) bs) (waiting_length n i os)
    ∙ read_from_lem n t' a' (suc i) (waiting n i os) bs
    ∙ make_eq refl (omega arith)
    (omega (arith, count_append is_stray (settled n i os) rest, settled_strays n i os))
    (omega (arith, count_append is_unmet (settled n i os) rest, settled_unmet n i os))

abbrev pub start : ℕ → TokenRow
start s = make (state_of s) 0 0 0

pub start_at : (s : State) → start (number_of s) ≡ make s 0 0 0
start_at s = make_eq (state_number s) refl refl refl

pub read_folded : (s : ℕ) (bs : List ℕ) → read_from s bs ≡ fold stepped (start s) bs
unfolding read_from
read_folded s bs = sym (read_from_lem s 0 0 0 [] bs ∙ make_eq refl (omega arith) (omega arith) refl)

-- what is no state reads on as the last one does
pub read_at : (n : ℕ) (bs : List ℕ) → read_from (number_of (state_of n)) bs ≡ read_from n bs
read_at n bs =
    read_folded (number_of (state_of n)) bs ∙ ap (λ v. fold stepped v bs) (start_at (state_of n)) ∙ sym (read_folded n bs)

pub read_none : (s : ℕ) → read_from s [] ≡ start s
read_none s = read_folded s []

pub read_more : (s b : ℕ) (bs : List ℕ) → read_from s (bs ++ (b ∷ [])) ≡ stepped (read_from s bs) b
read_more s b bs = read_folded s (bs ++ (b ∷ [])) ∙ folded_append stepped (start s) bs (b ∷ []) ∙ ap (λ v. stepped v b) (sym (read_folded s bs))
