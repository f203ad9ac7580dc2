-- Where two offsets part the rows: what an insert, a delete and a cut leave, as rows.
use Rattle.std.proofs.Common.{◌≡◌, ℕ, ◌+◌, ◌-◌, ◌<◌, ◌≤◌, Bool, cond, List, [], ◌∷◌, ◌++◌, map, length, sym, ap, ◌∙◌, subst, ap₂, append_assoc, append-nil, arith}
use Rattle.std.proofs.lemmas.Bool.{lt-leb, ne_eqb}
use Rattle.plain.specs.Pieces.{Piece, before, after, between}
use Rattle.pieces.specs.Rows.{row, piece_of, Good, AllGood, front_of, rest_of, sizes}
use Rattle.pieces.specs.declared.rows.PieceRow.{PieceRow}
use Rattle.pieces.proofs.RowParts.{map_append, sizes_append, all_append, all_left, all_right, front_good, before_at, after_at, before_all, after_all}

abbrev pub P : List PieceRow → List Piece
P xs = map piece_of xs

-- the middle of a row, from k to j
abbrev pub middle_of : ℕ → ℕ → PieceRow → PieceRow
middle_of k j x = row (x.address + k) (j - k)

pub middle_good : (B : List ℕ) (k j : ℕ) (x : PieceRow) → k < j → j ≤ x.length → Good B x → Good B (middle_of k j x)
middle_good B k j x lt le g =
    let short : x.length ≤ 256 = g.1 in
    let inside : x.address + x.length ≤ length B = g.2 in
    (omega arith, omega arith, omega arith)

-- pieces put between
pub put_between : (xs ys zs : List PieceRow) (G H : List Piece) → G ≡ P xs → H ≡ P zs → G ++ (P ys ++ H) ≡ P (xs ++ (ys ++ zs))
put_between xs ys zs G H e f =
    ap₂ (λ (l r : List Piece). l ++ (P ys ++ r)) e f
    ∙ sym (map_append piece_of xs (ys ++ zs) ∙ ap (λ r. P xs ++ r) (map_append piece_of ys zs))

pub put_beside : (xs zs : List PieceRow) (G H : List Piece) → G ≡ P xs → H ≡ P zs → G ++ H ≡ P (xs ++ zs)
put_beside xs zs G H e f = ap₂ (λ (l r : List Piece). l ++ r) e f ∙ sym (map_append piece_of xs zs)

-- the first j bytes of a row, where j is not 0, and what is left of them from k on
front_some : (j : ℕ) (x : PieceRow) → 0 < j → front_of j x ≡ row x.address j ∷ []
front_some j x h = ap (λ (b : Bool). cond b [] (row x.address j ∷ [])) (ne_eqb j 0 (λ z. omega arith))

rest_some : (k : ℕ) (x : PieceRow) → k < x.length → rest_of k x ≡ row (x.address + k) (x.length - k) ∷ []
rest_some k x h = ap (λ (b : Bool). cond b [] (row (x.address + k) (x.length - k) ∷ [])) (lt-leb x.length k h)

module _ (B : List ℕ) (xs : List PieceRow) (x : PieceRow) (a k : ℕ) (at : a ≡ sizes xs + k) (within : k < x.length) where
  -- both offsets in one row
  module _ (ys : List PieceRow) (b j : ℕ) (good : AllGood B (x ∷ ys)) (to : b ≡ sizes xs + j) (later : k < j) (end : j ≤ x.length) where
    pub delete_within : before a (P (xs ++ (x ∷ ys))) ++ after b (P (xs ++ (x ∷ ys))) ≡ P ((xs ++ front_of k x) ++ (rest_of j x ++ ys))
    delete_within = put_beside (xs ++ front_of k x) (rest_of j x ++ ys) _ _ (before_at B xs x ys a k good at (omega arith)) (after_at B xs x ys b j good to end)

    pub between_within : between a b (P (xs ++ (x ∷ ys))) ≡ P (middle_of k j x ∷ [])
    between_within =
        let y : PieceRow = row x.address j in
        let g : AllGood B (front_of j x) = front_good B j x end good.0 in
        let one : front_of j x ≡ y ∷ [] = front_some j x (omega arith) in
        ap (after a) (before_at B xs x ys b j good to end ∙ ap (λ (l : List PieceRow). P (xs ++ l)) one)
        ∙ after_at B xs y [] a k (subst (AllGood B) one g) at (omega arith)
        ∙ ap (λ (l : List PieceRow). P (l ++ [])) (rest_some k y later)

  -- the second offset in a later row
  module _ (zs : List PieceRow) (y : PieceRow) (ws : List PieceRow) (b j : ℕ) (good : AllGood B (xs ++ (x ∷ (zs ++ (y ∷ ws))))) (to : b ≡ sizes xs + (x.length + (sizes zs + j))) (end : j ≤ y.length) where
    apart : xs ++ (x ∷ (zs ++ (y ∷ ws))) ≡ (xs ++ (x ∷ zs)) ++ (y ∷ ws)
    apart = sym (append_assoc xs (x ∷ zs) (y ∷ ws))

    good_x : AllGood B (x ∷ (zs ++ (y ∷ ws)))
    good_x = all_right B xs (x ∷ (zs ++ (y ∷ ws))) good

    good_y : AllGood B (y ∷ ws)
    good_y = all_right B zs (y ∷ ws) good_x.1

    there : b ≡ sizes (xs ++ (x ∷ zs)) + j
    there = omega (arith, sizes_append xs (x ∷ zs))

    pub delete_apart : before a (P (xs ++ (x ∷ (zs ++ (y ∷ ws))))) ++ after b (P (xs ++ (x ∷ (zs ++ (y ∷ ws))))) ≡ P ((xs ++ front_of k x) ++ (rest_of j y ++ ws))
    delete_apart = put_beside (xs ++ front_of k x) (rest_of j y ++ ws) _ _
        (before_at B xs x (zs ++ (y ∷ ws)) a k good_x at (omega arith))
        (ap (λ l. after b (P l)) apart ∙ after_at B (xs ++ (x ∷ zs)) y ws b j good_y there end)

    pub between_apart : between a b (P (xs ++ (x ∷ (zs ++ (y ∷ ws))))) ≡ P (rest_of k x ++ (zs ++ front_of j y))
    between_apart =
        let left : AllGood B (x ∷ (zs ++ front_of j y)) =
        (good_x.0, all_append B zs (front_of j y) (all_left B zs (y ∷ ws) good_x.1) (front_good B j y end good_y.0)) in
        ap (after a) (ap (λ l. before b (P l)) apart ∙ before_at B (xs ++ (x ∷ zs)) y ws b j good_y there end ∙ ap P (append_assoc xs (x ∷ zs) (front_of j y)))
        ∙ after_at B xs x (zs ++ front_of j y) a k left at (omega arith)

  -- the second offset at the end
  module _ (zs : List PieceRow) (b : ℕ) (good : AllGood B (x ∷ zs)) (to : sizes (xs ++ (x ∷ zs)) ≤ b) where
    pub delete_end : before a (P (xs ++ (x ∷ zs))) ++ after b (P (xs ++ (x ∷ zs))) ≡ P (xs ++ front_of k x)
    delete_end =
        ap₂ (λ (l r : List Piece). l ++ r) (before_at B xs x zs a k good at (omega arith)) (after_all (xs ++ (x ∷ zs)) b to)
        ∙ append-nil (P (xs ++ front_of k x))

    pub between_end : between a b (P (xs ++ (x ∷ zs))) ≡ P (rest_of k x ++ zs)
    between_end = ap (after a) (before_all (xs ++ (x ∷ zs)) b to) ∙ after_at B xs x zs a k good at (omega arith)
