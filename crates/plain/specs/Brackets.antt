-- The brackets of a text. A close pairs with the nearest earlier open that is not paired yet.
use Rattle.std.specs.Prelude.{ℕ, suc, Bool, true, false, cond, ◌&&◌, ◌||◌, List, [], ◌∷◌, ◌++◌, map, ◌==◌}
use mathlib.Core.List.{tail}
use Rattle.plain.specs.Lists.{first}
use Rattle.plain.specs.Tokens.{step}

-- What becomes of a bracket, by offsets: an open and a close are paired, a close without an open is stray,
-- an open left over is unmet.
pub data Settled : Type 0 where
  pair : ℕ → ℕ → Settled
  stray : ℕ → Settled
  unmet : ℕ → Settled

-- A byte that leads to state 6 is an open, one that leads to state 7 a close. `os` are the opens not paired yet,
-- the nearest first: what the byte at i, which led to state s, makes of them, and what it settles.
abbrev pub waiting : ℕ → ℕ → List ℕ → List ℕ
waiting s i os = first (((s == 6), i ∷ os) ∷ ((s == 7), tail os) ∷ []) os

abbrev pub closed : List ℕ → ℕ → Settled
closed [] i = stray i
closed (o ∷ os) i = pair o i

abbrev pub settled : ℕ → ℕ → List ℕ → List Settled
settled s i os = cond (s == 7) (closed os i ∷ []) []

abbrev pub brackets_from : ℕ → ℕ → List ℕ → List ℕ → List Settled
brackets_from s i os [] = map unmet os
brackets_from s i os (b ∷ bs) =
    let n = (step s b).0 in settled n i os ++ brackets_from n (suc i) (waiting n i os) bs

abbrev pub brackets : List ℕ → List Settled
brackets t = brackets_from 0 0 [] t

abbrev pub is_stray : Settled → Bool
is_stray (pair o c) = false
is_stray (stray c) = true
is_stray (unmet o) = false

abbrev pub is_unmet : Settled → Bool
is_unmet (pair o c) = false
is_unmet (stray c) = false
is_unmet (unmet o) = true

-- p is one of its offsets
abbrev pub touches : ℕ → Settled → Bool
touches p (pair o c) = o == p || c == p
touches p (stray c) = c == p
touches p (unmet o) = o == p

-- two bytes are (), [] or {}
abbrev pub fitting : ℕ → ℕ → Bool
fitting x y = (x == 0x28 && y == 0x29) || (x == 0x5b && y == 0x5d) || (x == 0x7b && y == 0x7d)
