-- Marks by their gaps against the marks of the plain machine: what moving, dropping and adding one does.
use Rattle.std.proofs.Common.{◌≡◌, ℕ, ◌+◌, ◌-◌, ◌<◌, ◌≤◌, Bool, cond, ltb, leb, ◌⊎◌, List, [], ◌∷◌, ◌++◌, length, Some, None, Option, refl, ap, ◌∙◌, ap₂, inl, inr, arith}
use Rattle.std.proofs.lemmas.Bool.{le-leb, lt-leb, lt-ltb, le-ltb}
use Rattle.plain.specs.Lists.{find}
use Rattle.plain.specs.Marks.{mark_at, grown, shrunk, marked}
use Rattle.plain.specs.declared.answers.Mark.{Mark}
use Rattle.measures.specs.Law.{weights}
use Rattle.measures.specs.MarkTotals.{gaps, placed}
use Rattle.measures.specs.declared.mark_totals.MarkRow.{MarkRow}
use Rattle.slots.specs.Values.{flat, wt}
use Rattle.pieces.specs.Sound.{itself}

abbrev pub gapped : ℕ → ℕ → MarkRow
gapped g l = record { gap = g; label = l }

pub flat_itself : (xs : List MarkRow) → flat itself xs ≡ xs
flat_itself [] = refl
flat_itself (x ∷ xs) = ap (λ r. x ∷ r) (flat_itself xs)

pub gaps_append : (xs ys : List MarkRow) → gaps (xs ++ ys) ≡ gaps xs + gaps ys
gaps_append [] ys = omega arith
gaps_append (x ∷ xs) ys = omega (arith, gaps_append xs ys)

weigh_all : (xs : List MarkRow) → weights (λ (m : MarkRow). m.gap + 1) xs ≡ gaps xs + length xs
weigh_all [] = refl
weigh_all (x ∷ xs) = omega (arith, weigh_all xs)

pub mark_weight : (xs : List MarkRow) → wt (λ (m : MarkRow). m.gap + 1) itself xs ≡ gaps xs + length xs
mark_weight xs = ap (weights (λ (m : MarkRow). m.gap + 1)) (flat_itself xs) ∙ weigh_all xs

-- the first of a list of marks and the others, at another place
moved : (a b l : ℕ) (r r' : List Mark) → a ≡ b → r ≡ r' → mark_at a l ∷ r ≡ mark_at b l ∷ r'
moved a b l r r' e f = ap₂ (λ (o : ℕ) (t : List Mark). mark_at o l ∷ t) e f

-- n bytes more at p: marks before p stay, those after move
pub grown_below : (a p n : ℕ) (xs : List MarkRow) → a + gaps xs < p → grown p n (placed a xs) ≡ placed a xs
grown_below a p n [] h = refl
grown_below a p n (x ∷ xs) h = moved _ _ x.label _ _
    (ap (λ (b : Bool). a + x.gap + cond b n 0) (lt-leb p (a + x.gap) (omega arith)) ∙ omega arith)
    (grown_below (a + x.gap) p n xs (omega arith))

pub grown_above : (a p n : ℕ) (xs : List MarkRow) → p ≤ a → grown p n (placed a xs) ≡ placed (a + n) xs
grown_above a p n [] h = refl
grown_above a p n (x ∷ xs) h =
    let e : a + x.gap + n ≡ a + n + x.gap = omega arith in
    moved _ _ x.label _ _
    (ap (λ (b : Bool). a + x.gap + cond b n 0) (le-leb p (a + x.gap) (omega arith)) ∙ e)
    (grown_above (a + x.gap) p n xs (omega arith) ∙ ap (λ (k : ℕ). placed k xs) e)

-- so the gap of the first mark that moves grows
pub grown_turn : (a p n : ℕ) (xs : List MarkRow) (x : MarkRow) (ys : List MarkRow) → (xs ≡ []) ⊎ (a + gaps xs < p) → p ≤ a + gaps xs + x.gap
    → grown p n (placed a (xs ++ (x ∷ ys))) ≡ placed a (xs ++ (gapped (x.gap + n) x.label ∷ ys))
grown_turn a p n [] x ys low high =
    let e : a + x.gap + n ≡ a + (x.gap + n) = omega arith in
    moved _ _ x.label _ _
    (ap (λ (b : Bool). a + x.gap + cond b n 0) (le-leb p (a + x.gap) (omega arith)) ∙ e)
    (grown_above (a + x.gap) p n ys (omega arith) ∙ ap (λ (k : ℕ). placed k ys) e)
grown_turn a p n (z ∷ xs) x ys (inl e) high = absurd (let q : ◌≡◌ {A = ℕ} 0 1 = cc in omega arith)
grown_turn a p n (z ∷ xs) x ys (inr low) high = moved _ _ z.label _ _
    (ap (λ (b : Bool). a + z.gap + cond b n 0) (lt-leb p (a + z.gap) (omega arith)) ∙ omega arith)
    (grown_turn (a + z.gap) p n xs x ys (inr (omega arith)) (omega arith))

-- The bytes from a to b gone. One mark at o:
abbrev shrink : ℕ → ℕ → ℕ → ℕ → List Mark → List Mark
shrink a b o l r = cond (leb o a) (mark_at o l ∷ r) (cond (ltb o b) r (mark_at (o - (b - a)) l ∷ r))

stays : (a b o l : ℕ) (r : List Mark) → o ≤ a → shrink a b o l r ≡ mark_at o l ∷ r
stays a b o l r h = ap (λ (t : Bool). cond t (mark_at o l ∷ r) (cond (ltb o b) r (mark_at (o - (b - a)) l ∷ r))) (le-leb o a h)

goes : (a b o l : ℕ) (r : List Mark) → a < o → o < b → shrink a b o l r ≡ r
goes a b o l r h k =
    ap (λ (t : Bool). cond t (mark_at o l ∷ r) (cond (ltb o b) r (mark_at (o - (b - a)) l ∷ r))) (lt-leb o a h)
    ∙ ap (λ (t : Bool). cond t r (mark_at (o - (b - a)) l ∷ r)) (lt-ltb o b k)

falls : (a b o l : ℕ) (r : List Mark) → a < o → b ≤ o → shrink a b o l r ≡ mark_at (o - (b - a)) l ∷ r
falls a b o l r h k =
    ap (λ (t : Bool). cond t (mark_at o l ∷ r) (cond (ltb o b) r (mark_at (o - (b - a)) l ∷ r))) (lt-leb o a h)
    ∙ ap (λ (t : Bool). cond t r (mark_at (o - (b - a)) l ∷ r)) (le-ltb o b k)

-- marks up to a stay, whatever follows them
pub shrunk_after : (a b o : ℕ) (xs ys : List MarkRow) (r : List Mark) → o + gaps xs ≤ a
    → shrunk a b (placed (o + gaps xs) ys) ≡ r → shrunk a b (placed o (xs ++ ys)) ≡ placed o xs ++ r
shrunk_after a b o [] ys r h e = ap (λ (k : ℕ). shrunk a b (placed k ys)) (omega arith) ∙ e
shrunk_after a b o (x ∷ xs) ys r h e =
    stays a b (o + x.gap) x.label (shrunk a b (placed (o + x.gap) (xs ++ ys))) (omega arith)
    ∙ ap (λ (t : List Mark). mark_at (o + x.gap) x.label ∷ t)
    (shrunk_after a b (o + x.gap) xs ys r (omega arith) (ap (λ (k : ℕ). shrunk a b (placed k ys)) (omega arith) ∙ e))

-- marks strictly between go
pub shrunk_between : (a b o : ℕ) (xs ys : List MarkRow) → a < o → o + gaps xs < b
    → shrunk a b (placed o (xs ++ ys)) ≡ shrunk a b (placed (o + gaps xs) ys)
shrunk_between a b o [] ys h k = ap (λ (n : ℕ). shrunk a b (placed n ys)) (omega arith)
shrunk_between a b o (x ∷ xs) ys h k =
    goes a b (o + x.gap) x.label (shrunk a b (placed (o + x.gap) (xs ++ ys))) (omega arith) (omega arith)
    ∙ shrunk_between a b (o + x.gap) xs ys (omega arith) (omega arith)
    ∙ ap (λ (n : ℕ). shrunk a b (placed n ys)) (omega arith)

-- the first one alone, which may stand far from what is before it
pub shrunk_drop : (a b o : ℕ) (x : MarkRow) (ys : List MarkRow) → a < o + x.gap → o + x.gap < b
    → shrunk a b (placed o (x ∷ ys)) ≡ shrunk a b (placed (o + x.gap) ys)
shrunk_drop a b o x ys h k = goes a b (o + x.gap) x.label (shrunk a b (placed (o + x.gap) ys)) h k

-- marks at b and after it move back
pub shrunk_above : (a b o : ℕ) (xs : List MarkRow) → a < b → b ≤ o → shrunk a b (placed o xs) ≡ placed (o - (b - a)) xs
shrunk_above a b o [] h k = refl
shrunk_above a b o (x ∷ xs) h k =
    let e : o + x.gap - (b - a) ≡ o - (b - a) + x.gap = omega arith in
    falls a b (o + x.gap) x.label (shrunk a b (placed (o + x.gap) xs)) (omega arith) (omega arith)
    ∙ moved _ _ x.label _ _ e
    (shrunk_above a b (o + x.gap) xs h (omega arith) ∙ ap (λ (n : ℕ). placed n xs) e)

-- the first of them is then g after the marks that stay, which end at l
pub shrunk_turn : (a b o l g : ℕ) (x : MarkRow) (ys : List MarkRow) → a < b → b ≤ o + x.gap → l + g + (b - a) ≡ o + x.gap
    → shrunk a b (placed o (x ∷ ys)) ≡ placed l (gapped g x.label ∷ ys)
shrunk_turn a b o l g x ys h k e =
    falls a b (o + x.gap) x.label (shrunk a b (placed (o + x.gap) ys)) (omega arith) k
    ∙ moved _ _ x.label _ _ (omega arith)
    (shrunk_above a b (o + x.gap) ys h k ∙ ap (λ (n : ℕ). placed n ys) (omega arith))

-- marks of two lists
pub placed_append : (o : ℕ) (xs ys : List MarkRow) → placed o (xs ++ ys) ≡ placed o xs ++ placed (o + gaps xs) ys
placed_append o [] ys = ap (λ (n : ℕ). placed n ys) (omega arith)
placed_append o (x ∷ xs) ys = ap (λ (t : List Mark). mark_at (o + x.gap) x.label ∷ t)
    (placed_append (o + x.gap) xs ys ∙ ap (λ (n : ℕ). placed (o + x.gap) xs ++ placed n ys) (omega arith))

-- one mark more at q, after all marks up to q
pub marked_end : (q l o : ℕ) (xs : List MarkRow) → o + gaps xs ≤ q
    → marked q l (placed o xs) ≡ placed o (xs ++ (gapped (q - (o + gaps xs)) l ∷ []))
marked_end q l o [] h = moved _ _ l _ _ (omega arith) refl
marked_end q l o (x ∷ xs) h =
    ap (λ (t : Bool). cond t (mark_at (o + x.gap) x.label ∷ marked q l (placed (o + x.gap) xs)) (mark_at q l ∷ placed o (x ∷ xs))) (le-leb (o + x.gap) q (omega arith))
    ∙ ap (λ (t : List Mark). mark_at (o + x.gap) x.label ∷ t)
    (marked_end q l (o + x.gap) xs (omega arith) ∙ ap (λ (n : ℕ). placed (o + x.gap) (xs ++ (gapped n l ∷ []))) (omega arith))

pub marked_turn : (q l o : ℕ) (xs : List MarkRow) (x : MarkRow) (ys : List MarkRow) → o + gaps xs ≤ q → q < o + gaps xs + x.gap
    → marked q l (placed o (xs ++ (x ∷ ys)))
    ≡ placed o (xs ++ (gapped (q - (o + gaps xs)) l ∷ gapped (o + gaps xs + x.gap - q) x.label ∷ ys))
marked_turn q l o [] x ys h k =
    ap (λ (t : Bool). cond t (mark_at (o + x.gap) x.label ∷ marked q l (placed (o + x.gap) ys)) (mark_at q l ∷ placed o (x ∷ ys))) (lt-leb (o + x.gap) q (omega arith))
    ∙ moved _ _ l _ _ (omega arith) (moved _ _ x.label _ _ (omega arith) (ap (λ (n : ℕ). placed n ys) (omega arith)))
marked_turn q l o (z ∷ xs) x ys h k =
    ap (λ (t : Bool). cond t (mark_at (o + z.gap) z.label ∷ marked q l (placed (o + z.gap) (xs ++ (x ∷ ys)))) (mark_at q l ∷ placed o (z ∷ (xs ++ (x ∷ ys))))) (le-leb (o + z.gap) q (omega arith))
    ∙ ap (λ (t : List Mark). mark_at (o + z.gap) z.label ∷ t)
    (marked_turn q l (o + z.gap) xs x ys (omega arith) (omega arith)
    ∙ ap₂ (λ (g k : ℕ). placed (o + z.gap) (xs ++ (gapped g l ∷ gapped k x.label ∷ ys))) (omega arith) (omega arith))

-- the first mark at or after q
abbrev pub first_from : ℕ → List Mark → Option Mark
first_from q h = find (λ (m : Mark). leb q m.offset) h

pub first_none : (q o : ℕ) (xs : List MarkRow) → o + gaps xs < q → first_from q (placed o xs) ≡ None
first_none q o [] h = refl
first_none q o (x ∷ xs) h =
    ap (λ (t : Bool). cond t (Some (mark_at (o + x.gap) x.label)) (first_from q (placed (o + x.gap) xs))) (lt-leb q (o + x.gap) (omega arith))
    ∙ first_none q (o + x.gap) xs (omega arith)

pub first_turn : (q o : ℕ) (xs : List MarkRow) (x : MarkRow) (ys : List MarkRow) → (xs ≡ []) ⊎ (o + gaps xs < q) → q ≤ o + gaps xs + x.gap
    → first_from q (placed o (xs ++ (x ∷ ys))) ≡ Some (mark_at (o + gaps xs + x.gap) x.label)
first_turn q o [] x ys low high =
    ap (λ (t : Bool). cond t (Some (mark_at (o + x.gap) x.label)) (first_from q (placed (o + x.gap) ys))) (le-leb q (o + x.gap) (omega arith))
    ∙ ap (λ (n : ℕ). Some (mark_at n x.label)) (omega arith)
first_turn q o (z ∷ xs) x ys (inl e) high = absurd (let k : ◌≡◌ {A = ℕ} 0 1 = cc in omega arith)
first_turn q o (z ∷ xs) x ys (inr low) high =
    ap (λ (t : Bool). cond t (Some (mark_at (o + z.gap) z.label)) (first_from q (placed (o + z.gap) (xs ++ (x ∷ ys))))) (lt-leb q (o + z.gap) (omega arith))
    ∙ first_turn q (o + z.gap) xs x ys (inr (omega arith)) (omega arith)
    ∙ ap (λ (n : ℕ). Some (mark_at n x.label)) (omega arith)
