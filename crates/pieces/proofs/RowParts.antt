-- Rows against the pieces of the plain machine: what they spell, and where an offset parts them.
use Rattle.std.proofs.Common.{◌≡◌, ℕ, suc, ◌+◌, ◌-◌, ◌*◌, ◌<◌, ◌≤◌, Bool, true, false, cond, eqb, leb, List, [], ◌∷◌, ◌++◌, map, length, sym, refl, ap, ◌∙◌, ap₂, arith, length-append}
use Rattle.std.proofs.lemmas.Bool.{le-leb, lt-leb, eq-eqb, ne_eqb, leb-true, leb-false, eqb-false}
use Rattle.plain.specs.Pieces.{piece, spell, before, after}
use Rattle.plain.proofs.Spelling.{spell_more, spelled}
use Rattle.measures.specs.Law.{heaviest}
use Rattle.slots.specs.Values.{flat, wt}
use Rattle.pieces.specs.Rows.{row, piece_of, bytes_of, Good, AllGood, front_of, rest_of, sizes}
use Rattle.pieces.specs.declared.rows.PieceRow.{PieceRow}
use Rattle.pieces.proofs.PartRead.{weights_ones}

pub map_append : {X Y : Type 0} (f : X → Y) (xs ys : List X) → map f (xs ++ ys) ≡ map f xs ++ map f ys
map_append f [] ys = refl
map_append f (x ∷ xs) ys = ap (λ r. f x ∷ r) (map_append f xs ys)

pub length_map : {X Y : Type 0} (f : X → Y) (xs : List X) → length (map f xs) ≡ length xs
length_map f [] = refl
length_map f (x ∷ xs) = ap suc (length_map f xs)

pub sizes_append : (xs ys : List PieceRow) → sizes (xs ++ ys) ≡ sizes xs + sizes ys
sizes_append [] ys = omega arith
sizes_append (x ∷ xs) ys = omega (arith, sizes_append xs ys)

-- good rows, and parts of them
pub all_append : (B : List ℕ) (xs ys : List PieceRow) → AllGood B xs → AllGood B ys → AllGood B (xs ++ ys)
all_append B [] ys g h = h
all_append B (x ∷ xs) ys g h = (g.0, all_append B xs ys g.1 h)

pub all_left : (B : List ℕ) (xs ys : List PieceRow) → AllGood B (xs ++ ys) → AllGood B xs
all_left B [] ys g = tt
all_left B (x ∷ xs) ys g = (g.0, all_left B xs ys g.1)

pub all_right : (B : List ℕ) (xs ys : List PieceRow) → AllGood B (xs ++ ys) → AllGood B ys
all_right B [] ys g = g
all_right B (x ∷ xs) ys g = all_right B xs ys g.1

pub front_good : (B : List ℕ) (k : ℕ) (x : PieceRow) → k ≤ x.length → Good B x → AllGood B (front_of k x)
front_good B k x le g = go (eqb k 0) refl
  where
    go : (t : Bool) → eqb k 0 ≡ t → AllGood B (cond t [] (row x.address k ∷ []))
    go true e = tt
    go false e =
        let ne : k ≡ 0 → ⊥ = eqb-false k 0 e in
        let short : x.length ≤ 256 = g.1 in
        let inside : x.address + x.length ≤ length B = g.2 in
        ((omega arith, omega arith, omega arith), tt)

pub rest_good : (B : List ℕ) (k : ℕ) (x : PieceRow) → Good B x → AllGood B (rest_of k x)
rest_good B k x g = go (leb x.length k) refl
  where
    go : (t : Bool) → leb x.length k ≡ t → AllGood B (cond t [] (row (x.address + k) (x.length - k) ∷ []))
    go true e = tt
    go false e =
        let lt : k < x.length = leb-false x.length k e in
        let short : x.length ≤ 256 = g.1 in
        let inside : x.address + x.length ≤ length B = g.2 in
        ((omega arith, omega arith, omega arith), tt)

-- the text that rows stand for is the one that their pieces spell
pub spells : (B : List ℕ) (xs : List PieceRow) → flat (bytes_of B) xs ≡ spell B (map piece_of xs)
spells B [] = refl
spells B (x ∷ xs) = ap (λ (r : List ℕ). bytes_of B x ++ r) (spells B xs)

pub flat_size : (B : List ℕ) (xs : List PieceRow) → AllGood B xs → length (flat (bytes_of B) xs) ≡ sizes xs
flat_size B [] g = refl
flat_size B (x ∷ xs) g =
    omega (arith, length-append (bytes_of B x) (flat (bytes_of B) xs), spelled B (piece_of x) g.0, flat_size B xs g.1)

pub sizes_few : (B : List ℕ) (xs : List PieceRow) → AllGood B xs → sizes xs ≤ 256 * length xs
sizes_few B [] g = omega arith
sizes_few B (x ∷ xs) g = let short : x.length ≤ 256 = g.0.1 in omega (arith, sizes_few B xs g.1)

-- at most 4,100 rows are light enough for every measure
pub light : (B : List ℕ) (xs : List PieceRow) → AllGood B xs → length xs ≤ 4100 → wt (λ _. 1) (bytes_of B) xs ≤ heaviest
light B xs g h = omega (arith, weights_ones (flat (bytes_of B) xs), flat_size B xs g, sizes_few B xs g)

-- a store that grows keeps what rows stand for
pub flat_more : (B s : List ℕ) (xs : List PieceRow) → AllGood B xs → flat (bytes_of (B ++ s)) xs ≡ flat (bytes_of B) xs
flat_more B s xs g = spells (B ++ s) xs ∙ spell_more B s (map piece_of xs) g ∙ sym (spells B xs)

-- Where an offset p parts the rows: k bytes into the row x, its ends included.
pub before_at : (B : List ℕ) (xs : List PieceRow) (x : PieceRow) (ys : List PieceRow) (p k : ℕ) → AllGood B (x ∷ ys) → p ≡ sizes xs + k → k ≤ x.length
    → before p (map piece_of (xs ++ (x ∷ ys))) ≡ map piece_of (xs ++ front_of k x)
before_at B [] x ys p k g e le = go (leb x.length p) refl
  where
    none_left : (ys : List PieceRow) → AllGood B ys → before (p - x.length) (map piece_of ys) ≡ []
    none_left [] h = refl
    none_left (y ∷ ys) h =
        let some : 1 ≤ y.length = h.0.0 in
        ap (λ (b : Bool). cond b (piece_of y ∷ before (p - x.length - y.length) (map piece_of ys)) (cond (eqb (p - x.length) 0) [] (piece y.address (p - x.length) ∷ [])))
        (lt-leb y.length (p - x.length) (omega arith))
        ∙ ap (λ (b : Bool). cond b [] (piece y.address (p - x.length) ∷ [])) (eq-eqb (p - x.length) 0 (omega arith))

    same_k : p ≡ k
    same_k = omega arith

    go : (t : Bool) → leb x.length p ≡ t
        → cond t (piece_of x ∷ before (p - x.length) (map piece_of ys)) (cond (eqb p 0) [] (piece x.address p ∷ [])) ≡ map piece_of (front_of k x)
    go true f =
        let all : x.length ≤ p = leb-true x.length p f in
        let some : 1 ≤ x.length = g.0.0 in
        let whole : x.length ≡ k = omega arith in
        let full : map piece_of (front_of k x) ≡ piece x.address k ∷ [] =
        ap (λ (b : Bool). map piece_of (cond b [] (row x.address k ∷ []))) (ne_eqb k 0 (λ z. omega arith)) in
        ap (λ r. piece_of x ∷ r) (none_left ys g.1) ∙ ap (λ (n : ℕ). piece x.address n ∷ []) whole ∙ sym full
    go false f = ap (λ (n : ℕ). cond (eqb n 0) [] (piece x.address n ∷ [])) same_k ∙ inner (eqb k 0)
      where
        inner : (b : Bool) → cond b [] (piece x.address k ∷ []) ≡ map piece_of (cond b [] (row x.address k ∷ []))
        inner true = refl
        inner false = refl
before_at B (y ∷ xs) x ys p k g e le =
    ap (λ (b : Bool). cond b (piece_of y ∷ before (p - y.length) (map piece_of (xs ++ (x ∷ ys)))) (cond (eqb p 0) [] (piece y.address p ∷ []))) (le-leb y.length p (omega arith))
    ∙ ap (λ r. piece_of y ∷ r) (before_at B xs x ys (p - y.length) k g (omega arith) le)

pub after_at : (B : List ℕ) (xs : List PieceRow) (x : PieceRow) (ys : List PieceRow) (p k : ℕ) → AllGood B (x ∷ ys) → p ≡ sizes xs + k → k ≤ x.length
    → after p (map piece_of (xs ++ (x ∷ ys))) ≡ map piece_of (rest_of k x ++ ys)
after_at B [] x ys p k g e le = go (leb x.length p) refl
  where
    all_left_over : (ys : List PieceRow) → AllGood B ys → p - x.length ≡ 0 → after (p - x.length) (map piece_of ys) ≡ map piece_of ys
    all_left_over [] h z = refl
    all_left_over (y ∷ ys) h z =
        let some : 1 ≤ y.length = h.0.0 in
        ap (λ (b : Bool). cond b (after (p - x.length - y.length) (map piece_of ys)) (piece (y.address + (p - x.length)) (y.length - (p - x.length)) ∷ map piece_of ys))
        (lt-leb y.length (p - x.length) (omega arith))
        ∙ ap₂ (λ (a n : ℕ). piece a n ∷ map piece_of ys) (omega arith) (omega arith)

    same_k : p ≡ k
    same_k = omega arith

    go : (t : Bool) → leb x.length p ≡ t
        → cond t (after (p - x.length) (map piece_of ys)) (piece (x.address + p) (x.length - p) ∷ map piece_of ys) ≡ map piece_of (rest_of k x ++ ys)
    go true f =
        let all : x.length ≤ p = leb-true x.length p f in
        all_left_over ys g.1 (omega arith)
        ∙ sym (ap (λ (b : Bool). map piece_of (cond b [] (row (x.address + k) (x.length - k) ∷ []) ++ ys)) (le-leb x.length k (omega arith)))
    go false f =
        let lt : p < x.length = leb-false x.length p f in
        ap (λ (n : ℕ). piece (x.address + n) (x.length - n) ∷ map piece_of ys) same_k
        ∙ sym (ap (λ (b : Bool). map piece_of (cond b [] (row (x.address + k) (x.length - k) ∷ []) ++ ys)) (lt-leb x.length k (omega arith)))
after_at B (y ∷ xs) x ys p k g e le =
    ap (λ (b : Bool). cond b (after (p - y.length) (map piece_of (xs ++ (x ∷ ys)))) (piece (y.address + p) (y.length - p) ∷ map piece_of (xs ++ (x ∷ ys)))) (le-leb y.length p (omega arith))
    ∙ after_at B xs x ys (p - y.length) k g (omega arith) le

-- an offset at or past the end parts nothing
pub before_all : (xs : List PieceRow) (p : ℕ) → sizes xs ≤ p → before p (map piece_of xs) ≡ map piece_of xs
before_all [] p h = refl
before_all (y ∷ xs) p h =
    ap (λ (b : Bool). cond b (piece_of y ∷ before (p - y.length) (map piece_of xs)) (cond (eqb p 0) [] (piece y.address p ∷ []))) (le-leb y.length p (omega arith))
    ∙ ap (λ r. piece_of y ∷ r) (before_all xs (p - y.length) (omega arith))

pub after_all : (xs : List PieceRow) (p : ℕ) → sizes xs ≤ p → after p (map piece_of xs) ≡ []
after_all [] p h = refl
after_all (y ∷ xs) p h =
    ap (λ (b : Bool). cond b (after (p - y.length) (map piece_of xs)) (piece (y.address + p) (y.length - p) ∷ map piece_of xs)) (le-leb y.length p (omega arith))
    ∙ after_all xs (p - y.length) (omega arith)
