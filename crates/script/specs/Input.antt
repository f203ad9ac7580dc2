-- The lines that are left of an input, and the number of the first of them.
use Rattle.std.specs.Prelude.{◌≡◌, ℕ, ◌+◌, List, [], ◌∷◌, Option, MatchOption}
use Rattle.plain.specs.Script.{lines_of}
use Rattle.script.specs.declared.input.Line.{Line}
use Rattle.script.specs.declared.input.Lines.{Lines}

abbrev pub left : Lines → List (List ℕ)
left s = lines_of s.rest.now

abbrev pub next_number : Lines → ℕ
next_number s = s.number

-- A call of `next` gave the first line that was left, with its number, and left the others.
abbrev pub TakesLine : Lines → Option Line → Lines → Type 0
TakesLine s r t = MatchOption r (left s ≡ []) (λ line.
    (line.number ≡ next_number s) × (next_number t ≡ next_number s + 1) × (left s ≡ line.bytes.now ∷ left t))
