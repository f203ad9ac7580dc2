-- What the questions answer: readings of the text t and of its marks h from left to right.
use Rattle.std.specs.Prelude.{ℕ, suc, ◌+◌, cond, List, [], ◌∷◌, length, take, Option, ◌==◌, nat_le, nat_lt, slice_index}
use Rattle.std.specs.Option.{option_map}
use Rattle.plain.specs.Lists.{find, count, nth, greatest}
use Rattle.plain.specs.Tokens.{feed, tokens}
use Rattle.plain.specs.Brackets.{Settled, pair, stray, unmet, brackets, is_stray, is_unmet, touches, fitting}
use Rattle.plain.specs.declared.answers.Token.{Token}
use Rattle.plain.specs.declared.answers.Place.{Place}
use Rattle.plain.specs.declared.answers.Match.TheVariants.{Fits, Crossed}
use Rattle.plain.specs.declared.answers.Bracket.{Bracket}
use Rattle.plain.specs.declared.answers.Bracket.TheVariants.{Paired, Alone}
use Rattle.plain.specs.declared.answers.Mark.{Mark}
use Rattle.plain.specs.declared.answers.Summary.{Summary}

-- how many bytes follow the last line feed; c of them were read before
abbrev pub column : ℕ → List ℕ → ℕ
column c [] = c
column c (b ∷ bs) = column (cond (feed b) 0 (suc c)) bs

-- the line that p lies in, and how far from its start
abbrev pub line_of_offset : List ℕ → ℕ → Place
line_of_offset t p = record { line = 1 + count feed (take p t); column = column 0 (take p t) }

-- the offsets after each line feed, from offset i on: a line starts there
abbrev pub starts : ℕ → List ℕ → List ℕ
starts i [] = []
starts i (b ∷ bs) = let rest = starts (suc i) bs in cond (feed b) (suc i ∷ rest) rest

abbrev pub start_of_line : List ℕ → ℕ → Option ℕ
start_of_line t k = nth (0 ∷ starts 0 t) k

abbrev pub token_of_offset : List ℕ → ℕ → Option Token
token_of_offset t p = find (λ x. nat_lt p x.end) (tokens t)

abbrev pub token_of_number : List ℕ → ℕ → Option Token
token_of_number t k = nth (tokens t) k

-- what stands against the bracket at p
abbrev pub against : List ℕ → ℕ → Settled → Bracket
against t p (pair o c) = Paired (cond (o == p) c o) (cond (fitting (slice_index t o) (slice_index t c)) Fits Crossed)
against t p (stray c) = Alone
against t p (unmet o) = Alone

abbrev pub bracket_of_offset : List ℕ → ℕ → Option Bracket
bracket_of_offset t p = option_map (against t p) (find (touches p) (brackets t))

-- the first mark at or after q
abbrev pub mark_of_offset : List Mark → ℕ → Option Mark
mark_of_offset h q = find (λ m. nat_le q m.offset) h

abbrev pub summary : List ℕ → Summary
summary t = record {
  bytes = length t;
  lines = 1 + count feed t;
  tokens = length (tokens t);
  strays = count is_stray (brackets t);
  unmet = count is_unmet (brackets t);
}

-- the lengths of the lines, and the longest: the measure that a script adds
abbrev pub lengthened : List ℕ → List ℕ
lengthened [] = []
lengthened (n ∷ ns) = suc n ∷ ns

abbrev pub line_lengths : List ℕ → List ℕ
line_lengths [] = 0 ∷ []
line_lengths (b ∷ bs) = let rest = line_lengths bs in cond (feed b) (0 ∷ rest) (lengthened rest)

abbrev pub longest : List ℕ → ℕ
longest t = greatest (line_lengths t)
