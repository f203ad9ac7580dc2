-- How many pieces there are after an edit: each offset strictly inside a piece makes one more.
use Rattle.std.proofs.Common.{◌≡◌, ℕ, ◌+◌, ◌-◌, ◌<◌, ◌≤◌, Bool, true, false, cond, eqb, leb, List, [], ◌∷◌, ◌++◌, map, length, refl, ap, ◌∙◌, arith, length-append}
use Rattle.std.proofs.lemmas.Bool.{le-leb, lt-leb, leb-true, leb-false, eqb-true}
use Rattle.plain.specs.Pieces.{Piece, piece, before, after, between}
use Rattle.pieces.specs.Rows.{piece_of, sizes}
use Rattle.pieces.specs.declared.rows.PieceRow.{PieceRow}
use Rattle.edits.specs.Counts.{inside, start}

-- halving at p
pub halved : (p : ℕ) (g : List Piece) → length (before p g) + length (after p g) ≡ length g + inside p g
unfolding inside
halved p [] = refl
halved p (x ∷ xs) = go (leb x.size p) (eqb p 0) (halved (p - x.size) xs)
  where
    go : (s z : Bool) → length (before (p - x.size) xs) + length (after (p - x.size) xs) ≡ length xs + inside (p - x.size) xs
        → length (cond s (x ∷ before (p - x.size) xs) (cond z [] (piece x.address p ∷ []))) + length (cond s (after (p - x.size) xs) (piece (x.address + p) (x.size - p) ∷ xs))
        ≡ length (x ∷ xs) + cond s (inside (p - x.size) xs) (cond z 0 1)
    go true z ih = omega arith
    go false true ih = omega arith
    go false false ih = omega arith

-- what is left of x and xs before b, by what is known of b
abbrev upto : Piece → List Piece → ℕ → Bool → Bool → List Piece
upto x xs b s z = cond s (x ∷ before (b - x.size) xs) (cond z [] (piece x.address b ∷ []))

-- halving at a what is left before b
halved_before : (a b : ℕ) (g : List Piece) → a < b → length (before a g) + length (between a b g) ≡ length (before b g) + inside a g
unfolding inside
halved_before a b [] h = refl
halved_before a b (x ∷ xs) h = go (leb x.size a) (leb x.size b) (eqb a 0) (eqb b 0) (leb b a) refl refl refl refl refl (halved_before (a - x.size) (b - x.size) xs)
  where
    go : (s t z y l : Bool) → leb x.size a ≡ s → leb x.size b ≡ t → eqb a 0 ≡ z → eqb b 0 ≡ y → leb b a ≡ l
        → (a - x.size < b - x.size → length (before (a - x.size) xs) + length (between (a - x.size) (b - x.size) xs) ≡ length (before (b - x.size) xs) + inside (a - x.size) xs)
        → length (before a (x ∷ xs)) + length (after a (upto x xs b t y)) ≡ length (upto x xs b t y) + cond s (inside (a - x.size) xs) (cond z 0 1)
    go true true z y l es et ez ey el ih =
        let le : x.size ≤ a = leb-true x.size a es in
        let k = ih (omega arith) in
        let e₁ : before a (x ∷ xs) ≡ x ∷ before (a - x.size) xs = ap (λ (b : Bool). cond b (x ∷ before (a - x.size) xs) (cond (eqb a 0) [] (piece x.address a ∷ []))) es in
        let e₂ : after a (x ∷ before (b - x.size) xs) ≡ after (a - x.size) (before (b - x.size) xs) = ap (λ (c : Bool). cond c (after (a - x.size) (before (b - x.size) xs)) (piece (x.address + a) (x.size - a) ∷ before (b - x.size) xs)) es in
        omega (arith, ap length e₁, ap length e₂)
    go true false z y l es et ez ey el ih =
        let le : x.size ≤ a = leb-true x.size a es in let lt : b < x.size = leb-false x.size b et in absurd (omega arith)
    go false true true y l es et ez ey el ih =
        let e₁ : before a (x ∷ xs) ≡ [] = ap (λ (b : Bool). cond b (x ∷ before (a - x.size) xs) (cond (eqb a 0) [] (piece x.address a ∷ []))) es ∙ ap (λ (b : Bool). cond b [] (piece x.address a ∷ [])) ez in
        let e₂ : after a (x ∷ before (b - x.size) xs) ≡ piece (x.address + a) (x.size - a) ∷ before (b - x.size) xs = ap (λ (c : Bool). cond c (after (a - x.size) (before (b - x.size) xs)) (piece (x.address + a) (x.size - a) ∷ before (b - x.size) xs)) es in
        omega (arith, ap length e₁, ap length e₂)
    go false true false y l es et ez ey el ih =
        let e₁ : before a (x ∷ xs) ≡ piece x.address a ∷ [] = ap (λ (b : Bool). cond b (x ∷ before (a - x.size) xs) (cond (eqb a 0) [] (piece x.address a ∷ []))) es ∙ ap (λ (b : Bool). cond b [] (piece x.address a ∷ [])) ez in
        let e₂ : after a (x ∷ before (b - x.size) xs) ≡ piece (x.address + a) (x.size - a) ∷ before (b - x.size) xs = ap (λ (c : Bool). cond c (after (a - x.size) (before (b - x.size) xs)) (piece (x.address + a) (x.size - a) ∷ before (b - x.size) xs)) es in
        omega (arith, ap length e₁, ap length e₂)
    go false false z true l es et ez ey el ih = let b0 : b ≡ 0 = eqb-true b 0 ey in absurd (omega arith)
    go false false z false true es et ez ey el ih = let ba : b ≤ a = leb-true b a el in absurd (omega arith)
    go false false true false false es et ez ey el ih =
        let e₁ : before a (x ∷ xs) ≡ [] = ap (λ (b : Bool). cond b (x ∷ before (a - x.size) xs) (cond (eqb a 0) [] (piece x.address a ∷ []))) es ∙ ap (λ (b : Bool). cond b [] (piece x.address a ∷ [])) ez in
        let e₂ : after a (piece x.address b ∷ []) ≡ piece (x.address + a) (b - a) ∷ [] = ap (λ (c : Bool). cond c [] (piece (x.address + a) (b - a) ∷ [])) el in
        omega (arith, ap length e₁, ap length e₂)
    go false false false false false es et ez ey el ih =
        let e₁ : before a (x ∷ xs) ≡ piece x.address a ∷ [] = ap (λ (b : Bool). cond b (x ∷ before (a - x.size) xs) (cond (eqb a 0) [] (piece x.address a ∷ []))) es ∙ ap (λ (b : Bool). cond b [] (piece x.address a ∷ [])) ez in
        let e₂ : after a (piece x.address b ∷ []) ≡ piece (x.address + a) (b - a) ∷ [] = ap (λ (c : Bool). cond c [] (piece (x.address + a) (b - a) ∷ [])) el in
        omega (arith, ap length e₁, ap length e₂)

-- a cut keeps all pieces, and makes one more at each offset inside a piece
pub cut_count : (a b : ℕ) (g : List Piece) → a < b → length (before a g ++ after b g) + length (between a b g) ≡ length g + (inside a g + inside b g)
cut_count a b g h = omega (arith, length-append (before a g) (after b g), halved_before a b g h, halved b g)

-- a delete drops some pieces: at least two between offsets in different pieces, one where both are in one
before_some : (p : ℕ) (g : List Piece) → inside p g ≡ 1 → 1 ≤ length (before p g)
unfolding inside
before_some p [] e = absurd (omega arith)
before_some p (x ∷ xs) e = go (leb x.size p) (eqb p 0) e
  where
    go : (s z : Bool) → cond s (inside (p - x.size) xs) (cond z 0 1) ≡ 1 → 1 ≤ length (cond s (x ∷ before (p - x.size) xs) (cond z [] (piece x.address p ∷ [])))
    go true z e = omega arith
    go false true e = absurd (omega arith)
    go false false e = omega arith

pub record Dropped (a b : ℕ) (g : List Piece) : Type 0 where
  pub one : start a g ≡ start b g → length (between a b g) ≡ 1
  pub more : (start a g ≡ start b g → ⊥) → 2 ≤ length (between a b g)

pub dropped : (a b : ℕ) (g : List Piece) → a < b → inside a g ≡ 1 → inside b g ≡ 1 → Dropped a b g
unfolding inside start
dropped a b [] h i j = absurd (omega arith)
dropped a b (x ∷ xs) h i j = go (leb x.size a) (leb x.size b) (eqb b 0) (leb b a) refl refl refl refl i j (λ k. dropped (a - x.size) (b - x.size) xs k)
  where
    go : (s t y l : Bool) → leb x.size a ≡ s → leb x.size b ≡ t → eqb b 0 ≡ y → leb b a ≡ l
        → cond s (inside (a - x.size) xs) (cond (eqb a 0) 0 1) ≡ 1 → cond t (inside (b - x.size) xs) (cond y 0 1) ≡ 1
        → (a - x.size < b - x.size → inside (a - x.size) xs ≡ 1 → inside (b - x.size) xs ≡ 1 → Dropped (a - x.size) (b - x.size) xs)
        → Dropped a b (x ∷ xs)
    go true true y l es et ey el i j ih =
        let le : x.size ≤ a = leb-true x.size a es in
        let d = ih (omega arith) i j in
        let sa : start a (x ∷ xs) ≡ x.size + start (a - x.size) xs = ap (λ (c : Bool). cond c (x.size + start (a - x.size) xs) 0) es in
        let sb : start b (x ∷ xs) ≡ x.size + start (b - x.size) xs = ap (λ (c : Bool). cond c (x.size + start (b - x.size) xs) 0) et in
        let e : between a b (x ∷ xs) ≡ between (a - x.size) (b - x.size) xs =
        ap (λ (c : Bool). after a (cond c (x ∷ before (b - x.size) xs) (cond (eqb b 0) [] (piece x.address b ∷ [])))) et
        ∙ ap (λ (c : Bool). cond c (after (a - x.size) (before (b - x.size) xs)) (piece (x.address + a) (x.size - a) ∷ before (b - x.size) xs)) es in record {
          one = λ q. ap length e ∙ d.one (omega arith);
          more = λ q. omega (arith, ap length e, d.more (λ k. q (omega arith)));
        }
    go true false y l es et ey el i j ih =
        let le : x.size ≤ a = leb-true x.size a es in let lt : b < x.size = leb-false x.size b et in absurd (omega arith)
    go false true y l es et ey el i j ih =
        let lt : a < x.size = leb-false x.size a es in
        let sa : start a (x ∷ xs) ≡ 0 = ap (λ (c : Bool). cond c (x.size + start (a - x.size) xs) 0) es in
        let sb : start b (x ∷ xs) ≡ x.size + start (b - x.size) xs = ap (λ (c : Bool). cond c (x.size + start (b - x.size) xs) 0) et in
        let e : between a b (x ∷ xs) ≡ piece (x.address + a) (x.size - a) ∷ before (b - x.size) xs =
        ap (λ (c : Bool). after a (cond c (x ∷ before (b - x.size) xs) (cond (eqb b 0) [] (piece x.address b ∷ [])))) et
        ∙ ap (λ (c : Bool). cond c (after (a - x.size) (before (b - x.size) xs)) (piece (x.address + a) (x.size - a) ∷ before (b - x.size) xs)) es in record {
          one = λ q. absurd (omega arith);
          more = λ q. omega (arith, ap length e, before_some (b - x.size) xs j);
        }
    go false false true l es et ey el i j ih = absurd (omega arith)
    go false false false true es et ey el i j ih = let ba : b ≤ a = leb-true b a el in absurd (omega arith)
    go false false false false es et ey el i j ih =
        let sa : start a (x ∷ xs) ≡ 0 = ap (λ (c : Bool). cond c (x.size + start (a - x.size) xs) 0) es in
        let sb : start b (x ∷ xs) ≡ 0 = ap (λ (c : Bool). cond c (x.size + start (b - x.size) xs) 0) et in
        let e : between a b (x ∷ xs) ≡ piece (x.address + a) (b - a) ∷ [] =
        ap (λ (c : Bool). after a (cond c (x ∷ before (b - x.size) xs) (cond (eqb b 0) [] (piece x.address b ∷ [])))) et
        ∙ ap (λ (c : Bool). after a (cond c [] (piece x.address b ∷ []))) ey
        ∙ ap (λ (c : Bool). cond c [] (piece (x.address + a) (b - a) ∷ [])) el in record {
          one = λ q. ap length e;
          more = λ q. absurd (q (omega arith));
        }

-- of the rows: what an edge tells
pub inside_at : (p k : ℕ) (xs : List PieceRow) (x : PieceRow) (ys : List PieceRow) → p ≡ sizes xs + k → k < x.length → inside p (map piece_of (xs ++ (x ∷ ys))) ≡ cond (eqb k 0) 0 1
unfolding inside
inside_at p k [] x ys e h = ap (λ (c : Bool). cond c (inside (p - x.length) (map piece_of ys)) (cond (eqb p 0) 0 1)) (lt-leb x.length p (omega arith)) ∙ ap (λ (q : ℕ). cond (eqb q 0) 0 1) (omega arith)
inside_at p k (y ∷ xs) x ys e h =
    ap (λ (c : Bool). cond c (inside (p - y.length) (map piece_of (xs ++ (x ∷ ys)))) (cond (eqb p 0) 0 1)) (le-leb y.length p (omega arith))
    ∙ inside_at (p - y.length) k xs x ys (omega arith) h

pub start_at : (p k : ℕ) (xs : List PieceRow) (x : PieceRow) (ys : List PieceRow) → p ≡ sizes xs + k → k < x.length → start p (map piece_of (xs ++ (x ∷ ys))) ≡ sizes xs
unfolding start
start_at p k [] x ys e h = ap (λ (c : Bool). cond c (x.length + start (p - x.length) (map piece_of ys)) 0) (lt-leb x.length p (omega arith))
start_at p k (y ∷ xs) x ys e h =
    ap (λ (c : Bool). cond c (y.length + start (p - y.length) (map piece_of (xs ++ (x ∷ ys)))) 0) (le-leb y.length p (omega arith))
    ∙ ap (λ (q : ℕ). y.length + q) (start_at (p - y.length) k xs x ys (omega arith) h)

pub inside_end : (p : ℕ) (xs : List PieceRow) → sizes xs ≤ p → inside p (map piece_of xs) ≡ 0
unfolding inside
inside_end p [] h = refl
inside_end p (y ∷ xs) h =
    ap (λ (c : Bool). cond c (inside (p - y.length) (map piece_of xs)) (cond (eqb p 0) 0 1)) (le-leb y.length p (omega arith))
    ∙ inside_end (p - y.length) xs (omega arith)

pub start_end : (p : ℕ) (xs : List PieceRow) → sizes xs ≤ p → start p (map piece_of xs) ≡ sizes xs
unfolding start
start_end p [] h = refl
start_end p (y ∷ xs) h =
    ap (λ (c : Bool). cond c (y.length + start (p - y.length) (map piece_of xs)) 0) (le-leb y.length p (omega arith))
    ∙ ap (λ (q : ℕ). y.length + q) (start_end (p - y.length) xs (omega arith))

pub inside_one : (p : ℕ) (g : List Piece) → inside p g ≤ 1
unfolding inside
inside_one p [] = omega arith
inside_one p (x ∷ xs) = go (leb x.size p) (eqb p 0) (inside_one (p - x.size) xs)
  where
    go : (s z : Bool) → inside (p - x.size) xs ≤ 1 → cond s (inside (p - x.size) xs) (cond z 0 1) ≤ 1
    go true z ih = ih
    go false true ih = omega arith
    go false false ih = omega arith
