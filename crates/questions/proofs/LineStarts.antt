-- Where lines start, and how far an offset is from the start of its line.
use Rattle.std.proofs.Common.{◌≡◌, ℕ, zero, suc, ◌+◌, ◌-◌, ◌<◌, ◌≤◌, Bool, true, false, cond, List, [], ◌∷◌, ◌++◌, length, take, drop, Some, None, sym, refl, ap, ◌∙◌, ap₂, arith, take-append-drop, length-take}
use Rattle.plain.specs.Lists.{count, at}
use Rattle.plain.specs.Tokens.{feed}
use Rattle.plain.specs.Questions.{column, starts, start_of_line}

-- a line starts at a, and the bytes xs follow from i on: where the line starts that they reach
reached : (a i : ℕ) (xs ys : List ℕ) → a ≤ i → at (a ∷ starts i (xs ++ ys)) (count feed xs) ≡ Some (i + length xs - column (i - a) xs)
reached a i [] ys le = ap Some (omega arith)
reached a i (b ∷ bs) ys le = go (feed b) (reached (suc i) (suc i) bs ys (omega arith)) (reached a (suc i) bs ys (omega arith))
  where
    S : List ℕ
    S = starts (suc i) (bs ++ ys)

    go : (t : Bool) → at (suc i ∷ S) (count feed bs) ≡ Some (suc i + length bs - column (suc i - suc i) bs) → at (a ∷ S) (count feed bs) ≡ Some (suc i + length bs - column (suc i - a) bs)
        → at (a ∷ cond t (suc i ∷ S) S) (cond t 1 0 + count feed bs) ≡ Some (i + suc (length bs) - column (cond t 0 (suc (i - a))) bs)
    go true new old =
        let one : 1 + count feed bs ≡ suc (count feed bs) = omega arith in
        let end : suc i + length bs ≡ i + suc (length bs) = omega arith in
        let here : suc i - suc i ≡ 0 = omega arith in
        ap (at (a ∷ (suc i ∷ S))) one ∙ new ∙ ap₂ (λ (n c : ℕ). Some (n - column c bs)) end here
    go false new old =
        let none : 0 + count feed bs ≡ count feed bs = omega arith in
        let end : suc i + length bs ≡ i + suc (length bs) = omega arith in
        let there : suc i - a ≡ suc (i - a) = omega arith in
        ap (at (a ∷ S)) none ∙ old ∙ ap₂ (λ (n c : ℕ). Some (n - column c bs)) end there

-- the line that the offset j lies in starts as far before it as its column says
pub line_start_lem : (t : List ℕ) (j k : ℕ) → j ≤ length t → k ≡ 1 + count feed (take j t) → start_of_line t k ≡ Some (j - column 0 (take j t))
line_start_lem t j k le e =
    let size : length (take j t) ≡ j = simp length-take (omega arith) in
    let back : at (0 ∷ starts 0 (take j t ++ drop j t)) (count feed (take j t)) ≡ at (0 ∷ starts 0 t) (count feed (take j t)) =
    ap (λ (l : List ℕ). at (0 ∷ starts 0 l) (count feed (take j t))) (take-append-drop j t) in
    let next : k ≡ suc (count feed (take j t)) = omega arith in
    let end : 0 + length (take j t) ≡ j = omega arith in
    ap (start_of_line t) next ∙ sym back ∙ reached 0 0 (take j t) (drop j t) (omega arith) ∙ ap (λ (n : ℕ). Some (n - column 0 (take j t))) end

pub column_le : (c : ℕ) (xs : List ℕ) → column c xs ≤ c + length xs
column_le c [] = omega arith
column_le c (b ∷ bs) = go (feed b) (column_le 0 bs) (column_le (suc c) bs)
  where
    go : (t : Bool) → column 0 bs ≤ 0 + length bs → column (suc c) bs ≤ suc c + length bs → column (cond t 0 (suc c)) bs ≤ c + suc (length bs)
    go true new old = omega arith
    go false new old = omega arith

pub column_append : (c : ℕ) (xs ys : List ℕ) → column c (xs ++ ys) ≡ column (column c xs) ys
column_append c [] ys = refl
column_append c (b ∷ bs) ys = column_append (cond (feed b) 0 (suc c)) bs ys

-- what was read before a line feed does not count
pub column_feed : (c d : ℕ) (xs : List ℕ) → 1 ≤ count feed xs → column c xs ≡ column d xs
column_feed c d [] h = absurd (omega arith)
column_feed c d (b ∷ bs) h = go (feed b) h (column_feed (suc c) (suc d) bs)
  where
    go : (t : Bool) → 1 ≤ cond t 1 0 + count feed bs → (1 ≤ count feed bs → column (suc c) bs ≡ column (suc d) bs) → column (cond t 0 (suc c)) bs ≡ column (cond t 0 (suc d)) bs
    go true h ih = refl
    go false h ih = ih (omega arith)

at_past : {X : Type 0} (xs : List X) (k : ℕ) → length xs ≤ k → at xs k ≡ None
at_past [] k h = refl
at_past (x ∷ xs) zero h = absurd (omega arith)
at_past (x ∷ xs) (suc k) h = at_past xs k (omega arith)

starts_count : (i : ℕ) (xs : List ℕ) → length (starts i xs) ≡ count feed xs
starts_count i [] = refl
starts_count i (b ∷ bs) = go (feed b) (starts_count (suc i) bs)
  where
    go : (t : Bool) → length (starts (suc i) bs) ≡ count feed bs → length (cond t (suc i ∷ starts (suc i) bs) (starts (suc i) bs)) ≡ cond t 1 0 + count feed bs
    go true ih = omega arith
    go false ih = omega arith

-- no line starts past the last line feed
pub no_start : (t : List ℕ) (k : ℕ) → 1 + count feed t < k → start_of_line t k ≡ None
no_start t zero h = absurd (omega arith)
no_start t (suc k) h = at_past (0 ∷ starts 0 t) k (omega (arith, starts_count 0 t))
