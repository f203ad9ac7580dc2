-- How edits move the marks.
use Rattle.std.specs.Prelude.{ℕ, ◌+◌, ◌-◌, cond, List, [], ◌∷◌, nat_le, nat_lt}
use Rattle.plain.specs.declared.answers.Mark.{Mark}

abbrev pub mark_at : ℕ → ℕ → Mark
mark_at q l = record { offset = q; label = l }

-- n bytes more at p: marks at p or after it move on
abbrev pub grown : ℕ → ℕ → List Mark → List Mark
grown p n [] = []
grown p n (m ∷ ms) = mark_at (m.offset + cond (nat_le p m.offset) n 0) m.label ∷ grown p n ms

-- the bytes from a to b gone: marks up to a stay, those strictly between go, the others move back
abbrev pub shrunk : ℕ → ℕ → List Mark → List Mark
shrunk a b [] = []
shrunk a b (m ∷ ms) =
    let rest = shrunk a b ms in
    cond (nat_le m.offset a) (m ∷ rest)
    (cond (nat_lt m.offset b) rest (mark_at (m.offset - (b - a)) m.label ∷ rest))

-- one mark more, after all marks up to q
abbrev pub marked : ℕ → ℕ → List Mark → List Mark
marked q l [] = mark_at q l ∷ []
marked q l (m ∷ ms) = let rest = marked q l ms in cond (nat_le m.offset q) (m ∷ rest) (mark_at q l ∷ m ∷ ms)
