-- What a probe of one side of a pair owes about lifetimes: a type lives as long as the measure that names it.
use Rattle.std.proofs.Common.{ℕ, List, [], ◌++◌}
use mathlib.Core.List.{mem-append_left, mem-append_right}
use contract.BorrowLft.{◌⊑◌, ⊑_meet, ⊑_static}

pub item_lives : (p l r item : List ℕ) → l ⊑ item → (p ++ ((l ++ r) ++ (l ++ r))) ⊑ item
item_lives p l r item h = λ a m. mem-append_right p (mem-append_left (l ++ r) (mem-append_left r (h a m)))

pub value_lives : (p l r v w : List ℕ) → l ⊑ v → r ⊑ w → (p ++ ((l ++ (r ++ [])) ++ (l ++ (r ++ [])))) ⊑ ((v ++ (w ++ [])) ++ (v ++ (w ++ [])))
value_lives p l r v w h k =
    let q = l ++ (r ++ []) in
    let from = p ++ (q ++ q) in
    let left : from ⊑ v = λ a m. mem-append_right p (mem-append_left q (mem-append_left (r ++ []) (h a m))) in
    let right : from ⊑ w = λ a m. mem-append_right p (mem-append_left q (mem-append_right l (mem-append_left [] (k a m)))) in
    let both : from ⊑ (v ++ (w ++ [])) = ⊑_meet from v (w ++ []) left (⊑_meet from w [] right (⊑_static from)) in
    ⊑_meet from (v ++ (w ++ [])) (v ++ (w ++ [])) both both
