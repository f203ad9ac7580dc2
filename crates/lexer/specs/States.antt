-- There are 13 states: no list leads out of them.
use Rattle.std.specs.Prelude.{◌≡◌, ℕ, zero, suc, ◌<◌, ◌≤◌, min, Bool, true, false, cond, ◌&&◌, ◌||◌, List, [], ◌∷◌, ◌==◌, slice_index_or, refl}
use Rattle.std.proofs.Common.{sym, ap, ◌∙◌, ⊎_elim, arith}
use Rattle.std.proofs.lemmas.Bool.{cases_lt, ne_eqb}
use Rattle.plain.specs.Lists.{among}
use Rattle.plain.specs.Tokens.{letter, digit, white, feed, quote, escape, hash, left, right, symbol, stays, begun, step, end_state, name_of, is_key, kind_of}
use Rattle.plain.specs.declared.answers.Kind.TheVariants.{Key, Word}
use Rattle.lexer.specs.Numbers.{number_of, state_of, number_state}
use Rattle.lexer.specs.Reading.{read_from, row_at}
use Rattle.lexer.specs.declared.states.State.TheVariants.{Start}
use Rattle.lexer.specs.declared.tokens.TokenRow.{TokenRow}

low : (c : Bool) (m n : ℕ) → m ≤ 12 → n ≤ 12 → cond c m n ≤ 12
low true m n h k = h
low false m n h k = k

low_state : (c : Bool) (m n : ℕ × Bool) → m.0 ≤ 12 → n.0 ≤ 12 → (cond c m n).0 ≤ 12
low_state true m n h k = h
low_state false m n h k = k

begun_bound : (b : ℕ) → begun b ≤ 12
begun_bound b =
    low (letter b) 3 _ (omega arith) (low (digit b) 4 _ (omega arith) (low (white b) 1 _ (omega arith) (low (feed b) 2 _ (omega arith) (low (quote b) 8 _ (omega arith) (low (hash b) 11 _ (omega arith) (low (left b) 6 _ (omega arith) (low (right b) 7 _ (omega arith) (low (symbol b) 5 _ (omega arith) (omega arith)))))))))

step_bound : (s b : ℕ) → s ≤ 12 → (step s b).0 ≤ 12
step_bound s b h =
    low_state (among (8 ∷ 9 ∷ 11 ∷ []) s && feed b) (2, true) _ (omega arith) (low_state (s == 8 && quote b) (10, false) _ (omega arith) (low_state (s == 8 && escape b) (9, false) _ (omega arith) (low_state (s == 8 || s == 9) (8, false) _ (omega arith) (low_state (s == 11) (11, false) _ (omega arith) (low_state (stays s b) (s, false) _ h (begun_bound b))))))

pub end_bound : (s : ℕ) (bs : List ℕ) → s ≤ 12 → end_state s bs ≤ 12
end_bound s [] h = h
end_bound s (b ∷ bs) h = end_bound (step s b).0 bs (step_bound s b h)

-- the state at the end of a list, by its number
pub end_read : (s : ℕ) (bs : List ℕ) → s ≤ 12 → number_of (read_from s bs).state ≡ end_state s bs
unfolding read_from
end_read s bs h = number_state (end_state s bs) ∙ low_same (end_state s bs) (end_bound s bs h)
  where
    low_same : (n : ℕ) → n ≤ 12 → min n 12 ≡ n
    low_same n h = omega arith

-- What is no state reads on as the last one does.
step_past : (n b : ℕ) → 12 < n → step n b ≡ (begun b, true)
step_past n b h =
    let e1 : (8 == n) ≡ false = ne_eqb 8 n (λ e. omega arith) in
    let e2 : (9 == n) ≡ false = ne_eqb 9 n (λ e. omega arith) in
    let e3 : (11 == n) ≡ false = ne_eqb 11 n (λ e. omega arith) in
    let e4 : (n == 8) ≡ false = ne_eqb n 8 (λ e. omega arith) in
    let e5 : (n == 9) ≡ false = ne_eqb n 9 (λ e. omega arith) in
    let e6 : (n == 11) ≡ false = ne_eqb n 11 (λ e. omega arith) in
    let e7 : (n == 1) ≡ false = ne_eqb n 1 (λ e. omega arith) in
    let e8 : (n == 3) ≡ false = ne_eqb n 3 (λ e. omega arith) in
    let e9 : (n == 4) ≡ false = ne_eqb n 4 (λ e. omega arith) in
    simp (e1, e2, e3, e4, e5, e6, e7, e8, e9)

pub step_at : (n b : ℕ) → step (number_of (state_of n)) b ≡ step n b
step_at n b = ap (λ k. step k b) (number_state n) ∙ ⊎_elim low high (cases_lt n 13)
  where
    same : (n : ℕ) → n ≤ 12 → min n 12 ≡ n
    same n h = omega arith

    last : (n : ℕ) → 12 ≤ n → min n 12 ≡ 12
    last n h = omega arith

    low : n < 13 → step (min n 12) b ≡ step n b
    low h = ap (λ k. step k b) (same n (omega arith))

    high : 13 ≤ n → step (min n 12) b ≡ step n b
    high h = ap (λ k. step k b) (last n (omega arith)) ∙ sym (step_past n b (omega arith))

kind_past : (n : ℕ) (w : List ℕ) → 12 < n → kind_of n w ≡ name_of n
kind_past n w h =
    ap (λ c. elim c [ true ↦ cond (is_key w) Key Word | false ↦ name_of n ]) (ne_eqb n 3 (λ e. omega arith))

-- What ends in it has the kind of what ends in the last one, and its row is that of the last one.
pub kind_at : (n : ℕ) (w : List ℕ) → kind_of (number_of (state_of n)) w ≡ kind_of n w
kind_at zero w = refl
kind_at (suc zero) w = refl
kind_at (suc (suc zero)) w = refl
kind_at (suc (suc (suc zero))) w = refl
kind_at (suc (suc (suc (suc zero)))) w = refl
kind_at (suc (suc (suc (suc (suc zero))))) w = refl
kind_at (suc (suc (suc (suc (suc (suc zero)))))) w = refl
kind_at (suc (suc (suc (suc (suc (suc (suc zero))))))) w = refl
kind_at (suc (suc (suc (suc (suc (suc (suc (suc zero)))))))) w = refl
kind_at (suc (suc (suc (suc (suc (suc (suc (suc (suc zero))))))))) w = refl
kind_at (suc (suc (suc (suc (suc (suc (suc (suc (suc (suc zero)))))))))) w = refl
kind_at (suc (suc (suc (suc (suc (suc (suc (suc (suc (suc (suc zero))))))))))) w = refl
kind_at (suc (suc (suc (suc (suc (suc (suc (suc (suc (suc (suc (suc zero)))))))))))) w = refl
kind_at (suc (suc (suc (suc (suc (suc (suc (suc (suc (suc (suc (suc (suc n))))))))))))) w = sym (kind_past (suc (suc (suc (suc (suc (suc (suc (suc (suc (suc (suc (suc (suc n))))))))))))) w (omega arith))

pub row_of_at : (rows : List TokenRow) (n : ℕ) → row_at rows (number_of (state_of n)) ≡ row_at rows n
row_of_at rows n = ap (row_at rows) (number_state n) ∙ ap (λ k. slice_index_or rows k (record { state = Start; tokens = 0; strays = 0; unmet = 0 })) (twice n)
  where
    twice : (n : ℕ) → min (min n 12) 12 ≡ min n 12
    twice n = omega arith
