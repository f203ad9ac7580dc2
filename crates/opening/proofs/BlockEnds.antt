-- The pieces of an opened text, counted and followed by more.
use Rattle.std.proofs.Common.{◌≡◌, ℕ, zero, suc, ◌+◌, ◌-◌, ◌*◌, ◌/◌, ◌%◌, ◌<◌, ◌≤◌, min, Bool, true, false, cond, eqb, List, [], ◌∷◌, ◌++◌, length, sym, refl, ap, ◌∙◌, ap₂, ⊎_elim, arith}
use Rattle.std.proofs.lemmas.Bool.{eqb-true, eqb-false, ne_eqb, cases_lt}
use Rattle.plain.specs.Pieces.{Piece, piece, blocks}

-- the pieces of the first k bytes
abbrev pub first : ℕ → List Piece
first k = blocks 0 (k / 256) (k % 256)

pub blocks_count : (a k r : ℕ) → length (blocks a k r) ≡ k + min 1 r
blocks_count a zero r = go (eqb r 0) refl
  where
    go : (t : Bool) → eqb r 0 ≡ t → length (cond t [] (piece a r ∷ [])) ≡ 0 + min 1 r
    go true e = let z : r ≡ 0 = eqb-true r 0 e in omega arith
    go false e = let n : r ≡ 0 → ⊥ = eqb-false r 0 e in omega arith
blocks_count a (suc k) r = omega (arith, blocks_count (a + 256) k r)

blocks_append : (a k j r : ℕ) → blocks a k 0 ++ blocks (a + 256 * k) j r ≡ blocks a (k + j) r
blocks_append a zero j r = let e : a + 256 * 0 ≡ a = omega arith in let h : j ≡ 0 + j = omega arith in ap₂ (λ (x y : ℕ). blocks x y r) e h
blocks_append a (suc k) j r =
    let e : a + 256 * suc k ≡ (a + 256) + 256 * k = omega arith in
    let h : suc (k + j) ≡ suc k + j = omega arith in
    ap (λ (b : ℕ). piece a 256 ∷ (blocks (a + 256) k 0 ++ blocks b j r)) e
    ∙ ap (λ (l : List Piece). piece a 256 ∷ l) (blocks_append (a + 256) k j r)
    ∙ ap (λ (b : ℕ). blocks a b r) h

-- one piece more after q whole ones
module _ (q m : ℕ) (some : 1 ≤ m) (short : m ≤ 256) where
  -- as k whole ones and r bytes
  more_as : (k r : ℕ) → piece (256 * q) m ∷ [] ≡ blocks (256 * q) k r → 256 * k + r ≡ m → r < 256 → first (256 * q) ++ (piece (256 * q) m ∷ []) ≡ first (256 * q + m)
  more_as k r e sum lt =
      let q-is : 256 * q / 256 ≡ q = omega arith in
      let none_left : 256 * q % 256 ≡ 0 = omega arith in
      let here : 256 * q ≡ 0 + 256 * q = omega arith in
      let wholes : q + k ≡ (256 * q + m) / 256 = omega arith in
      let left : r ≡ (256 * q + m) % 256 = omega arith in
      ap₂ (λ (x y : List Piece). x ++ y) (ap₂ (blocks 0) q-is none_left) (e ∙ ap (λ (b : ℕ). blocks b k r) here)
      ∙ blocks_append 0 q k r
      ∙ ap₂ (blocks 0) wholes left

  first_more : first (256 * q) ++ (piece (256 * q) m ∷ []) ≡ first (256 * q + m)
  first_more = ⊎_elim
      (λ (lt : m < 256). more_as 0 m (sym (ap (λ (b : Bool). cond b [] (piece (256 * q) m ∷ [])) (ne_eqb m 0 (λ z. omega arith)))) (omega arith) lt)
      (λ (ge : 256 ≤ m). let all : m ≡ 256 = omega arith in more_as 1 0 (ap (λ (n : ℕ). piece (256 * q) n ∷ []) all) (omega arith) (omega arith))
      (cases_lt m 256)

-- one piece more of n bytes, after q of them
pub next_piece : (n q m : ℕ) (gs : List Piece) → q * 256 < n → m ≡ min (n - q * 256) 256 → gs ≡ first (min (256 * q) n) → gs ++ (piece (q * 256) m ∷ []) ≡ first (min (256 * (q + 1)) n)
next_piece n q m gs lt m-is e =
    let so_far : min (256 * q) n ≡ 256 * q = omega arith in
    let here : q * 256 ≡ 256 * q = omega arith in
    let next : 256 * q + m ≡ min (256 * (q + 1)) n = omega arith in
    ap₂ (λ (l : List Piece) (a : ℕ). l ++ (piece a m ∷ [])) (e ∙ ap first so_far) here ∙ first_more q m (omega arith) (omega arith) ∙ ap first next
