-- The opens that wait for a close while a text is read.
use Rattle.std.specs.Prelude.{ℕ, suc, List, [], ◌∷◌}
use Rattle.plain.specs.Tokens.{step}
use Rattle.plain.specs.Brackets.{waiting}

-- the offsets of the opens that wait, the nearest first, after a list was read from offset i and state s; before it those of os waited
abbrev pub waited : ℕ → ℕ → List ℕ → List ℕ → List ℕ
waited s i os [] = os
waited s i os (b ∷ bs) = let n = (step s b).0 in waited n (suc i) (waiting n i os) bs
