use Rattle.std.proofs.Common.{◌≡◌, ℕ, zero, suc, ◌+◌, ◌≤◌, min, max, Bool, true, false, cond, List, [], ◌∷◌, ◌++◌, sym, refl, ap, subst, ◌∙◌, arith}
use Rattle.plain.specs.Lists.{greatest}
use Rattle.plain.specs.Tokens.{feed}
use Rattle.plain.specs.Questions.{lengthened, line_lengths, longest}
use Rattle.measures.specs.Law.{Joins, weights, heaviest}
use Rattle.measures.specs.Lines.{inner, last, edges, lines, longest_in}
use Rattle.measures.specs.declared.longest_line.LongestLine.{LongestLine}
use Rattle.measures.specs.declared.longest_line.LongestLine.TheVariants.{Whole, Parted}

whole_eq : {m n : ℕ} → m ≡ n → Whole m ≡ Whole n
whole_eq e = cc

parted_eq : {m n p m' n' p' : ℕ} → m ≡ m' → n ≡ n' → p ≡ p' → Parted m n p ≡ Parted m' n' p'
parted_eq e f g = cc

-- one byte more in front, a line feed or not
abbrev front : Bool → LongestLine → LongestLine
front true (Whole n) = Parted 0 0 n
front true (Parted m n p) = Parted 0 (max m n) p
front false (Whole n) = Whole (n + 1)
front false (Parted m n p) = Parted (m + 1) n p

-- there is always a first line
pub some_line : (P : List ℕ → Type 0) → ((n : ℕ) (ns : List ℕ) → P (n ∷ ns)) → (bs : List ℕ) → P (line_lengths bs)
some_line P k [] = k 0 []
some_line P k (b ∷ bs) = some_line (λ ns. P (cond (feed b) (0 ∷ ns) (lengthened ns))) (at (feed b)) bs
  where
    at : (f : Bool) (n : ℕ) (ns : List ℕ) → P (cond f (0 ∷ (n ∷ ns)) (suc n ∷ ns))
    at true n ns = k 0 (n ∷ ns)
    at false n ns = k (suc n) ns

edges_front : (f : Bool) (n : ℕ) (ns : List ℕ) → edges (cond f (0 ∷ (n ∷ ns)) (lengthened (n ∷ ns))) ≡ front f (edges (n ∷ ns))
edges_front true n [] = refl
edges_front true n (m ∷ ns) = refl
edges_front false n [] = whole_eq (omega arith)
edges_front false n (m ∷ ns) = parted_eq (omega arith) refl refl

lines_front : (b : ℕ) (bs : List ℕ) → lines (b ∷ bs) ≡ front (feed b) (lines bs)
lines_front b bs = some_line (λ ns. edges (cond (feed b) (0 ∷ ns) (lengthened ns)) ≡ front (feed b) (edges ns)) (edges_front (feed b)) bs

-- two lists one after the other: the last line of one goes on in the first of the other
abbrev linked : LongestLine → LongestLine → LongestLine
linked (Whole x) (Whole y) = Whole (x + y)
linked (Whole x) (Parted m n p) = Parted (x + m) n p
linked (Parted m n p) (Whole y) = Parted m n (p + y)
linked (Parted m n p) (Parted m' n' p') = Parted m (max (max n n') (p + m')) p'

linked_none : (v : LongestLine) → linked (lines []) v ≡ v
linked_none (Whole y) = whole_eq (omega arith)
linked_none (Parted m n p) = parted_eq (omega arith) refl refl

linked_front : (f : Bool) (v w : LongestLine) → linked (front f v) w ≡ front f (linked v w)
linked_front true (Whole x) (Whole y) = refl
linked_front true (Whole x) (Parted m n p) = parted_eq refl (omega arith) refl
linked_front true (Parted m n p) (Whole y) = refl
linked_front true (Parted m n p) (Parted m' n' p') = parted_eq refl (omega arith) refl
linked_front false (Whole x) (Whole y) = whole_eq (omega arith)
linked_front false (Whole x) (Parted m n p) = parted_eq (omega arith) refl refl
linked_front false (Parted m n p) (Whole y) = refl
linked_front false (Parted m n p) (Parted m' n' p') = refl

linked_lines : (xs ys : List ℕ) → linked (lines xs) (lines ys) ≡ lines (xs ++ ys)
linked_lines [] ys = linked_none (lines ys)
linked_lines (x ∷ xs) ys =
    ap (λ u. linked u (lines ys)) (lines_front x xs)
    ∙ linked_front (feed x) (lines xs) (lines ys)
    ∙ ap (front (feed x)) (linked_lines xs ys)
    ∙ sym (lines_front x (xs ++ ys))

-- no line is longer than the list
abbrev Within : ℕ → LongestLine → Type 0
Within s (Whole n) = n ≤ s
Within s (Parted m n p) = (m + n ≤ s) × (p ≤ s)

front_within : (f : Bool) (v : LongestLine) (s : ℕ) → Within s v → Within (suc s) (front f v)
front_within true (Whole n) s h = (omega arith, omega arith)
front_within true (Parted m n p) s h = (omega arith, omega arith)
front_within false (Whole n) s h = omega arith
front_within false (Parted m n p) s h = (omega arith, omega arith)

lines_within : (xs : List ℕ) (s : ℕ) → weights (λ _. 1) xs ≤ s → Within s (lines xs)
lines_within [] s h = omega arith
lines_within (x ∷ xs) zero h = absurd (omega arith)
lines_within (x ∷ xs) (suc s) h = rw (lines_front x xs) (front_within (feed x) (lines xs) s (lines_within xs s (omega arith)))

-- what the code makes, in words of 32 bits that stay at the largest
abbrev pub joined : LongestLine → LongestLine → LongestLine
joined (Whole x) (Whole y) = Whole (min (x + y) 4294967295)
joined (Whole x) (Parted m n p) = Parted (min (x + m) 4294967295) n p
joined (Parted m n p) (Whole y) = Parted m n (min (p + y) 4294967295)
joined (Parted m n p) (Parted m' n' p') = Parted m (max (max n n') (min (p + m') 4294967295)) p'

-- is exact within the limit
exact : (v w : LongestLine) → Within heaviest (linked v w) → joined v w ≡ linked v w
exact (Whole x) (Whole y) h = whole_eq (omega arith)
exact (Whole x) (Parted m n p) h = parted_eq (omega arith) refl refl
exact (Parted m n p) (Whole y) h = parted_eq refl refl (omega arith)
exact (Parted m n p) (Parted m' n' p') h = parted_eq refl (omega arith) refl

pub join_lines : (a b r : LongestLine) → r ≡ joined a b → Joins (λ _. 1) lines a b r
join_lines a b r made = record {
  joins = λ xs ys light e f.
      let law : linked a b ≡ lines (xs ++ ys) = rw (e, f) (linked_lines xs ys) in
      made ∙ exact a b (subst (Within heaviest) (sym law) (lines_within (xs ++ ys) heaviest light)) ∙ law;
}

-- the longest line is the greatest of the three
inner_last : (n : ℕ) (ns : List ℕ) → max (inner (n ∷ ns)) (last n ns) ≡ greatest (n ∷ ns)
inner_last n [] = omega arith
inner_last n (m ∷ ns) = omega (arith, inner_last m ns)

edges_greatest : (n : ℕ) (ns : List ℕ) → longest_in (edges (n ∷ ns)) ≡ greatest (n ∷ ns)
edges_greatest n [] = omega arith
edges_greatest n (m ∷ ns) = omega (arith, inner_last m ns)

pub lines_longest : (bs : List ℕ) → longest_in (lines bs) ≡ longest bs
lines_longest bs = some_line (λ ns. longest_in (edges ns) ≡ greatest ns) edges_greatest bs
