-- Two rows one after the other, and what the code makes of them in words of 32 bits.
use Rattle.std.specs.Prelude.{◌≡◌, ℕ, ◌+◌, ◌-◌, ◌<◌, ◌≤◌, min, Bool, true, false, cond, List, [], ◌∷◌, ◌++◌, length, fold, ◌==◌, refl}
use Rattle.std.proofs.Common.{sym, ap, ◌∙◌, arith, length-append}
use Rattle.plain.specs.Tokens.{step}
use Rattle.measures.specs.Law.{heaviest}
use Rattle.measures.specs.Counts.{one_at_most}
use Rattle.measures.proofs.Folds.{folded_append, folded_through, folded_bound}
use Rattle.measures.specs.Weights.{weights_bytes}
use Rattle.lexer.specs.Numbers.{number_of, state_of, state_number}
use Rattle.lexer.specs.Reading.{read_from}
use Rattle.lexer.specs.declared.states.State.{State}
use Rattle.lexer.specs.declared.tokens.TokenRow.{TokenRow}
use Rattle.lexer.specs.RowSteps.{make, make_eq, stepped, start, read_folded, read_more}

-- two rows one after the other
abbrev after : TokenRow → TokenRow → TokenRow
after r s = make s.state (r.tokens + s.tokens) (r.strays + (s.strays - r.unmet)) (s.unmet + (r.unmet - s.strays))

strays_law : (shut : Bool) (s u t w : ℕ) → s + ((t + cond shut (1 - w) 0) - u) ≡ (s + (t - u)) + cond shut (1 - (w + (u - t))) 0
strays_law true s u t w = omega arith
strays_law false s u t w = omega arith

unmet_law : (shut more : Bool) (u t w : ℕ) → cond shut (w - 1) (cond more (w + 1) w) + (u - (t + cond shut (1 - w) 0)) ≡ cond shut ((w + (u - t)) - 1) (cond more ((w + (u - t)) + 1) (w + (u - t)))
unmet_law true more u t w = omega arith
unmet_law false true u t w = omega arith
unmet_law false false u t w = omega arith

after_step : (v w : TokenRow) (b : ℕ) → after v (stepped w b) ≡ stepped (after v w) b
after_step v w b =
    let n = (step (number_of w.state) b).0 in
    make_eq refl (omega arith)
    (strays_law (n == 7) v.strays v.unmet w.strays w.unmet)
    (unmet_law (n == 7) (n == 6) v.unmet w.strays w.unmet)

after_start : (v : TokenRow) → after v (start (number_of v.state)) ≡ v
after_start v = make_eq (state_number v.state) (omega arith) (omega arith) (omega arith)

pub after_read : (s : ℕ) (xs ys : List ℕ) → after (read_from s xs) (read_from (number_of (read_from s xs).state) ys) ≡ read_from s (xs ++ ys)
after_read s xs ys =
    let v = read_from s xs in
    ap (after v) (read_folded (number_of v.state) ys)
    ∙ folded_through stepped (after v) (after_step v) (start (number_of v.state)) ys
    ∙ ap (λ u. fold stepped u ys) (after_start v ∙ read_folded s xs)
    ∙ sym (folded_append stepped (start s) xs ys) ∙ sym (read_folded s (xs ++ ys))

-- no number passes the length of the list
brackets_step : (shut more : Bool) (t w : ℕ) → (t + cond shut (1 - w) 0) + cond shut (w - 1) (cond more (w + 1) w) ≤ t + w + 1
brackets_step true more t w = omega arith
brackets_step false true t w = omega arith
brackets_step false false t w = omega arith

pub tokens_bound : (s : ℕ) (bs : List ℕ) → (read_from s bs).tokens ≤ length bs
tokens_bound s bs =
    let le = folded_bound stepped (λ _. 1) (λ r. r.tokens) (λ r b. omega (arith, one_at_most (step (number_of r.state) b).1)) (start s) bs in
    omega (arith, le, weights_bytes bs, ap (λ (r : TokenRow). r.tokens) (read_folded s bs))

pub brackets_bound : (s : ℕ) (bs : List ℕ) → (read_from s bs).strays + (read_from s bs).unmet ≤ length bs
brackets_bound s bs =
    let le = folded_bound stepped (λ _. 1) (λ r. r.strays + r.unmet) (λ r b. brackets_step ((step (number_of r.state) b).0 == 7) ((step (number_of r.state) b).0 == 6) r.strays r.unmet) (start s) bs in
    omega (arith, le, weights_bytes bs, ap (λ (r : TokenRow). r.strays + r.unmet) (read_folded s bs))

-- what the code makes, in words of 32 bits that stay at the largest, is exact within the limit
pub and_byte : (v : TokenRow) (b s : ℕ) (bs : List ℕ) (n : State) (f : Bool) (t a u : ℕ) → length bs < heaviest → v ≡ read_from s bs
    → number_of n ≡ (step (number_of v.state) b).0 → f ≡ (step (number_of v.state) b).1
    → (v.tokens + cond f 1 0 ≤ 4294967295 → t ≡ v.tokens + cond f 1 0)
    → (v.strays + cond (number_of n == 7) (1 - v.unmet) 0 ≤ 4294967295 → a ≡ v.strays + cond (number_of n == 7) (1 - v.unmet) 0)
    → (cond (number_of n == 7) (v.unmet - 1) (cond (number_of n == 6) (v.unmet + 1) v.unmet) ≤ 4294967295 → u ≡ cond (number_of n == 7) (v.unmet - 1) (cond (number_of n == 6) (v.unmet + 1) v.unmet))
    → make n t a u ≡ read_from s (bs ++ (b ∷ []))
and_byte v b s bs n f t a u light e nx fx tx ax ux =
    let r = read_from s (bs ++ (b ∷ [])) in
    let law : stepped v b ≡ r = ap (λ w. stepped w b) e ∙ sym (read_more s b bs) in
    let to : n ≡ state_of (step (number_of v.state) b).0 = sym (state_number n) ∙ ap state_of nx in
    let z : make n (v.tokens + cond f 1 0) (v.strays + cond (number_of n == 7) (1 - v.unmet) 0) (cond (number_of n == 7) (v.unmet - 1) (cond (number_of n == 6) (v.unmet + 1) v.unmet)) ≡ r = rw (nx, to, fx) law in
    let T = tokens_bound s (bs ++ (b ∷ [])) in
    let B = brackets_bound s (bs ++ (b ∷ [])) in
    let len = length-append bs (b ∷ []) in
    make_eq refl
    (tx (omega (arith, ap (λ (q : TokenRow). q.tokens) z)))
    (ax (omega (arith, ap (λ (q : TokenRow). q.strays) z)))
    (ux (omega (arith, ap (λ (q : TokenRow). q.unmet) z)))
    ∙ z

pub and_row_lem : (v w : TokenRow) (s : ℕ) (xs ys : List ℕ) (t a u x y : ℕ) → length (xs ++ ys) ≤ heaviest → v ≡ read_from s xs → w ≡ read_from (number_of v.state) ys
    → t ≡ min (v.tokens + w.tokens) 4294967295 → x ≡ w.strays - v.unmet → a ≡ min (v.strays + x) 4294967295 → y ≡ v.unmet - w.strays → u ≡ min (w.unmet + y) 4294967295
    → make w.state t a u ≡ read_from s (xs ++ ys)
and_row_lem v w s xs ys t a u x y light e f tx xx ax yx ux =
    let law : after v w ≡ read_from s (xs ++ ys) = ap (after v) f ∙ ap (λ (r : TokenRow). after r (read_from (number_of r.state) ys)) e ∙ after_read s xs ys in
    let T = tokens_bound s (xs ++ ys) in
    let B = brackets_bound s (xs ++ ys) in
    let l1 : v.tokens + w.tokens ≡ (read_from s (xs ++ ys)).tokens = ap (λ (r : TokenRow). r.tokens) law in
    let l2 : v.strays + (w.strays - v.unmet) ≡ (read_from s (xs ++ ys)).strays = ap (λ (r : TokenRow). r.strays) law in
    let l3 : w.unmet + (v.unmet - w.strays) ≡ (read_from s (xs ++ ys)).unmet = ap (λ (r : TokenRow). r.unmet) law in
    make_eq {a = w.state} {b = t} {c = a} {d = u} refl (omega arith) (omega arith) (omega arith) ∙ law
