-- Offsets past some rows, and inside the first one.
use Rattle.std.proofs.Common.{◌≡◌, ℕ, ◌+◌, ◌-◌, ◌<◌, Bool, cond, eqb, List, [], ◌∷◌, ◌++◌, map, sym, ap, ◌∙◌, arith}
use Rattle.std.proofs.lemmas.Bool.{le-leb, lt-leb}
use Rattle.plain.specs.Pieces.{Piece, piece, before, after, between}
use Rattle.pieces.specs.Rows.{row, piece_of, rest_of, sizes}
use Rattle.pieces.specs.declared.rows.PieceRow.{PieceRow}

pub after_past : (xs : List PieceRow) (G : List Piece) (p m : ℕ) → p ≡ sizes xs + m → after p (map piece_of xs ++ G) ≡ after m G
after_past [] G p m e = ap (λ (n : ℕ). after n G) (let z : p ≡ m = omega arith in z)
after_past (y ∷ xs) G p m e =
    ap (λ (b : Bool). cond b (after (p - y.length) (map piece_of xs ++ G)) (piece (y.address + p) (y.length - p) ∷ (map piece_of xs ++ G))) (le-leb y.length p (omega arith))
    ∙ after_past xs G (p - y.length) m (omega arith)

pub before_past : (xs : List PieceRow) (G : List Piece) (p m : ℕ) → p ≡ sizes xs + m → before p (map piece_of xs ++ G) ≡ map piece_of xs ++ before m G
before_past [] G p m e = ap (λ (n : ℕ). before n G) (let z : p ≡ m = omega arith in z)
before_past (y ∷ xs) G p m e =
    ap (λ (b : Bool). cond b (piece_of y ∷ before (p - y.length) (map piece_of xs ++ G)) (cond (eqb p 0) [] (piece y.address p ∷ []))) (le-leb y.length p (omega arith))
    ∙ ap (λ (r : List Piece). piece_of y ∷ r) (before_past xs G (p - y.length) m (omega arith))

pub between_past : (xs : List PieceRow) (G : List Piece) (a b k j : ℕ) → a ≡ sizes xs + k → b ≡ sizes xs + j → between a b (map piece_of xs ++ G) ≡ between k j G
between_past xs G a b k j ea eb = ap (after a) (before_past xs G b j eb) ∙ after_past xs (before j G) a k ea

pub after_first : (x : PieceRow) (H : List Piece) (k : ℕ) → k < x.length → after k (piece_of x ∷ H) ≡ map piece_of (rest_of k x) ++ H
after_first x H k lt =
    ap (λ (b : Bool). cond b (after (k - x.length) H) (piece (x.address + k) (x.length - k) ∷ H)) (lt-leb x.length k lt)
    ∙ sym (ap (λ (b : Bool). map piece_of (cond b [] (row (x.address + k) (x.length - k) ∷ [])) ++ H) (lt-leb x.length k lt))

-- the first offset inside the first row, the second past it
pub between_first : (x : PieceRow) (G : List Piece) (k j m : ℕ) → k < x.length → j ≡ x.length + m → between k j (piece_of x ∷ G) ≡ map piece_of (rest_of k x) ++ before m G
between_first x G k j m lt e = ap (after k) (before_past (x ∷ []) G j m (omega arith)) ∙ after_first x (before m G) k lt
