-- Words on lists and tests that the other definitions use.
use Rattle.std.specs.Prelude.{ℕ, zero, suc, ◌+◌, ◌-◌, max, Bool, true, false, cond, ◌&&◌, List, [], ◌∷◌, take, drop, Some, None, Option, ◌==◌, nat_le}

-- lo ≤ b ≤ hi
abbrev pub within : ℕ → ℕ → ℕ → Bool
within lo hi b = nat_le lo b && nat_le b hi

-- b is one of the list
abbrev pub among : List ℕ → ℕ → Bool
among [] b = false
among (x ∷ xs) b = cond (x == b) true (among xs b)

-- the two lists are the same bytes
abbrev pub same : List ℕ → List ℕ → Bool
same [] [] = true
same [] (y ∷ ys) = false
same (x ∷ xs) [] = false
same (x ∷ xs) (y ∷ ys) = x == y && same xs ys

-- the value beside the first test that passes, or else d
abbrev pub first : {A : Type 0} → List (Bool × A) → A → A
first [] d = d
first (p ∷ ps) d = cond p.0 p.1 (first ps d)

-- what stands beside the first test that fails
abbrev pub first_no : {A : Type 0} → List (Bool × A) → Option A
first_no [] = None
first_no (p ∷ ps) = cond p.0 (first_no ps) (Some p.1)

-- the first element that passes the test
abbrev pub find : {A : Type 0} → (A → Bool) → List A → Option A
find f [] = None
find f (x ∷ xs) = cond (f x) (Some x) (find f xs)

-- the elements that pass the test
abbrev pub keep : {A : Type 0} → (A → Bool) → List A → List A
keep f [] = []
keep f (x ∷ xs) = let rest = keep f xs in cond (f x) (x ∷ rest) rest

-- how many elements pass the test
abbrev pub count : {A : Type 0} → (A → Bool) → List A → ℕ
count f [] = 0
count f (x ∷ xs) = cond (f x) 1 0 + count f xs

-- the element at k, counted from 0, and the k-th, counted from 1
abbrev pub at : {A : Type 0} → List A → ℕ → Option A
at [] k = None
at (x ∷ xs) zero = Some x
at (x ∷ xs) (suc k) = at xs k

abbrev pub nth : {A : Type 0} → List A → ℕ → Option A
nth xs zero = None
nth xs (suc k) = at xs k

-- the part from a to b
abbrev pub slice : {A : Type 0} → List A → ℕ → ℕ → List A
slice t a b = take (b - a) (drop a t)

abbrev pub greatest : List ℕ → ℕ
greatest [] = 0
greatest (n ∷ ns) = max n (greatest ns)
