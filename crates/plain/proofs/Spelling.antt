-- The pieces before and after an offset spell the text before and after it; so the edits change the text as they should.
use Rattle.std.proofs.Common.{◌≡◌, ℕ, ◌+◌, ◌-◌, ◌<◌, ◌≤◌, Bool, true, false, cond, eqb, leb, List, [], ◌∷◌, ◌++◌, length, take, drop, sym, refl, ap, ◌∙◌, ap₂, append_assoc, append-nil, arith, length-append, length-drop, length-take, take-take, drop-drop, eqb-true, leb-false, leb-true}
use lib.Seq.{take-nil, drop-nil, take-length, take-append-le, take-append-add, drop-append-le, drop-append-add, drop-append_seam}
use borrow.Author.Tests.{eqb-false}
use Rattle.std.proofs.lemmas.List.{drop-take}
use Rattle.plain.specs.Pieces.{Piece, piece, spell, before, after}
use Rattle.plain.specs.Machine.{Machine, text, insert, delete, cut, paste, clipped}
use Rattle.plain.specs.Laws.{Good, AllGood, Proper}

take_over : (xs ys : List ℕ) (n p : ℕ) → length xs ≡ n → n ≤ p → take p (xs ++ ys) ≡ xs ++ take (p - n) ys
take_over xs ys n p e h =
    let k : p ≡ length xs + (p - n) = omega arith in
    ap (λ (j : ℕ). take j (xs ++ ys)) k ∙ take-append-add xs ys (p - n)

drop_over : (xs ys : List ℕ) (n p : ℕ) → length xs ≡ n → n ≤ p → drop p (xs ++ ys) ≡ drop (p - n) ys
drop_over xs ys n p e h =
    let k : p ≡ length xs + (p - n) = omega arith in
    ap (λ (j : ℕ). drop j (xs ++ ys)) k ∙ drop-append-add xs ys (p - n)

drop_part : (n p : ℕ) (xs : List ℕ) → p ≤ n → drop p (take n xs) ≡ take (n - p) (drop p xs)
drop_part n p xs h =
    let k : n ≡ p + (n - p) = omega arith in
    ap (λ (j : ℕ). drop p (take j xs)) k ∙ drop-take p (n - p) xs

pub spell_append : (s : List ℕ) (g h : List Piece) → spell s (g ++ h) ≡ spell s g ++ spell s h
spell_append s [] h = refl
spell_append s (x ∷ g) h =
    ap (λ r. take x.size (drop x.address s) ++ r) (spell_append s g h)
    ∙ sym (append_assoc (take x.size (drop x.address s)) (spell s g) (spell s h))

-- how much a piece spells
pub spelled : (s : List ℕ) (x : Piece) → Good s x → length (take x.size (drop x.address s)) ≡ x.size
spelled s x i = let h : x.address + x.size ≤ length s = i.2 in simp (length-take, length-drop) (omega arith)

pub spell_before : (s : List ℕ) (g : List Piece) (p : ℕ) → AllGood s g → spell s (before p g) ≡ take p (spell s g)
spell_before s [] p i = sym (take-nil p)
spell_before s (x ∷ g) p i = go (leb x.size p) refl (eqb p 0) refl (spell_before s g (p - x.size) i.1)
  where
    X : List ℕ
    X = take x.size (drop x.address s)

    go : (t : Bool) → leb x.size p ≡ t → (z : Bool) → eqb p 0 ≡ z
        → spell s (before (p - x.size) g) ≡ take (p - x.size) (spell s g)
        → spell s (cond t (x ∷ before (p - x.size) g) (cond z [] (piece x.address p ∷ []))) ≡ take p (X ++ spell s g)
    go true e z f ih =
        ap (λ r. X ++ r) ih ∙ sym (take_over X (spell s g) x.size p (spelled s x i.0) (leb-true x.size p e))
    go false e true f ih = sym (ap (λ (k : ℕ). take k (X ++ spell s g)) (eqb-true p 0 f))
    go false e false f ih =
        let le : p < x.size = leb-false x.size p e in
        let n : length X ≡ x.size = spelled s x i.0 in
        append-nil (take p (drop x.address s))
        ∙ sym (take-append-le p X (spell s g) (omega arith) ∙ take-take p x.size (drop x.address s) (omega arith))

pub spell_after : (s : List ℕ) (g : List Piece) (p : ℕ) → AllGood s g → spell s (after p g) ≡ drop p (spell s g)
spell_after s [] p i = sym (drop-nil p)
spell_after s (x ∷ g) p i = go (leb x.size p) refl (spell_after s g (p - x.size) i.1)
  where
    X : List ℕ
    X = take x.size (drop x.address s)

    go : (t : Bool) → leb x.size p ≡ t
        → spell s (after (p - x.size) g) ≡ drop (p - x.size) (spell s g)
        → spell s (cond t (after (p - x.size) g) (piece (x.address + p) (x.size - p) ∷ g)) ≡ drop p (X ++ spell s g)
    go true e ih = ih ∙ sym (drop_over X (spell s g) x.size p (spelled s x i.0) (leb-true x.size p e))
    go false e ih =
        let le : p < x.size = leb-false x.size p e in
        let n : length X ≡ x.size = spelled s x i.0 in
        sym (drop-append-le p X (spell s g) (omega arith)
        ∙ ap (λ r. r ++ spell s g)
        (drop_part x.size p (drop x.address s) (omega arith)
        ∙ ap (λ r. take (x.size - p) r) (drop-drop p x.address s)))

-- the parts are good too
pub good_append : (s : List ℕ) (g h : List Piece) → AllGood s g → AllGood s h → AllGood s (g ++ h)
good_append s [] h i j = j
good_append s (x ∷ g) h i j = (i.0, good_append s g h i.1 j)

pub good_before : (s : List ℕ) (g : List Piece) (p : ℕ) → AllGood s g → AllGood s (before p g)
good_before s [] p i = tt
good_before s (x ∷ g) p i = go (leb x.size p) refl (eqb p 0) refl (good_before s g (p - x.size) i.1)
  where
    go : (t : Bool) → leb x.size p ≡ t → (z : Bool) → eqb p 0 ≡ z → AllGood s (before (p - x.size) g)
        → AllGood s (cond t (x ∷ before (p - x.size) g) (cond z [] (piece x.address p ∷ [])))
    go true e z f ih = (i.0, ih)
    go false e true f ih = tt
    go false e false f ih =
        let le : p < x.size = leb-false x.size p e in
        let ne : p ≡ 0 → ⊥ = eqb-false p 0 f in
        let h : x.address + x.size ≤ length s = i.0.2 in
        let k : x.size ≤ 256 = i.0.1 in
        ((omega arith, omega arith, omega arith), tt)

pub good_after : (s : List ℕ) (g : List Piece) (p : ℕ) → AllGood s g → AllGood s (after p g)
good_after s [] p i = tt
good_after s (x ∷ g) p i = go (leb x.size p) refl (good_after s g (p - x.size) i.1)
  where
    go : (t : Bool) → leb x.size p ≡ t → AllGood s (after (p - x.size) g)
        → AllGood s (cond t (after (p - x.size) g) (piece (x.address + p) (x.size - p) ∷ g))
    go true e ih = ih
    go false e ih =
        let le : p < x.size = leb-false x.size p e in
        let h : x.address + x.size ≤ length s = i.0.2 in
        let k : x.size ≤ 256 = i.0.1 in
        ((omega arith, omega arith, omega arith), i.1)

-- a store that grows
pub good_more : (s b : List ℕ) (g : List Piece) → AllGood s g → AllGood (s ++ b) g
good_more s b [] i = tt
good_more s b (x ∷ g) i =
    let h : x.address + x.size ≤ length s = i.0.2 in
    ((i.0.0, i.0.1, omega (arith, length-append s b)), good_more s b g i.1)

pub spell_more : (s b : List ℕ) (g : List Piece) → AllGood s g → spell (s ++ b) g ≡ spell s g
spell_more s b [] i = refl
spell_more s b (x ∷ g) i =
    let h : x.address + x.size ≤ length s = i.0.2 in
    ap₂ (λ (l r : List ℕ). l ++ r)
    (ap (λ r. take x.size r) (drop-append-le x.address s b (omega arith))
    ∙ take-append-le x.size (drop x.address s) b (simp length-drop (omega arith)))
    (spell_more s b g i.1)

-- the text after the edits
pub text_insert : (p : ℕ) (b : List ℕ) (m : Machine) → Proper m → text (insert p b m) ≡ take p (text m) ++ (b ++ drop p (text m))
text_insert p b m i =
    let s : List ℕ = m.bytes in
    let g : List Piece = m.pieces in
    let more : AllGood (s ++ b) g = good_more s b g i.pieces in
    spell_append (s ++ b) (before p g) (piece (length s) (length b) ∷ after p g)
    ∙ ap₂ (λ (l r : List ℕ). l ++ r)
    (spell_before (s ++ b) g p more ∙ ap (λ r. take p r) (spell_more s b g i.pieces))
    (ap₂ (λ (l r : List ℕ). l ++ r)
    (ap (λ r. take (length b) r) (drop-append_seam s b) ∙ take-length b)
    (spell_after (s ++ b) g p more ∙ ap (λ r. drop p r) (spell_more s b g i.pieces)))

pub text_delete : (a b : ℕ) (m : Machine) → Proper m → text (delete a b m) ≡ take a (text m) ++ drop b (text m)
text_delete a b m i =
    spell_append m.bytes (before a m.pieces) (after b m.pieces)
    ∙ ap₂ (λ (l r : List ℕ). l ++ r)
    (spell_before m.bytes m.pieces a i.pieces) (spell_after m.bytes m.pieces b i.pieces)

pub text_cut : (a b : ℕ) (m : Machine) → Proper m → spell m.bytes (clipped (cut a b m)) ≡ drop a (take b (text m))
text_cut a b m i =
    spell_after m.bytes (before b m.pieces) a (good_before m.bytes m.pieces b i.pieces)
    ∙ ap (λ r. drop a r) (spell_before m.bytes m.pieces b i.pieces)

pub text_paste : (p : ℕ) (m : Machine) → Proper m
    → text (paste p m) ≡ take p (text m) ++ (spell m.bytes (clipped m) ++ drop p (text m))
text_paste p m i =
    let s : List ℕ = m.bytes in
    let g : List Piece = m.pieces in
    spell_append s (before p g) (clipped m ++ after p g)
    ∙ ap₂ (λ (l r : List ℕ). l ++ r)
    (spell_before s g p i.pieces)
    (spell_append s (clipped m) (after p g) ∙ ap (λ r. spell s (clipped m) ++ r) (spell_after s g p i.pieces))
