-- How many pass a test, in a list made of two.
use Rattle.std.specs.Prelude.{◌≡◌, ◌+◌, ◌≤◌, Bool, true, false, cond, List, [], ◌∷◌, ◌++◌, length}
use Rattle.std.proofs.Common.{arith}
use Rattle.plain.specs.Lists.{count}

pub one_at_most : (b : Bool) → cond b 1 0 ≤ 1
one_at_most true = omega arith
one_at_most false = omega arith

pub count_append : {X : Type 0} (f : X → Bool) (xs ys : List X) → count f (xs ++ ys) ≡ count f xs + count f ys
count_append f [] ys = omega arith
count_append f (x ∷ xs) ys = omega (arith, count_append f xs ys)

pub count_length : {X : Type 0} (f : X → Bool) (xs : List X) → count f xs ≤ length xs
count_length f [] = omega arith
count_length f (x ∷ xs) = omega (arith, count_length f xs, one_at_most (f x))
