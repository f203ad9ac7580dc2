-- What a list of bytes tells of the longest line of a text that it is part of.
use Rattle.std.specs.Prelude.{◌≡◌, ℕ, max, Bool, true, false, List, [], ◌∷◌}
use Rattle.plain.specs.Questions.{line_lengths}
use Rattle.measures.specs.declared.longest_line.LongestLine.{LongestLine}
use Rattle.measures.specs.declared.longest_line.LongestLine.TheVariants.{Whole, Parted}

-- the greatest before the last, and the last
abbrev pub inner : List ℕ → ℕ
inner [] = 0
inner (n ∷ []) = 0
inner (n ∷ (m ∷ ns)) = max n (inner (m ∷ ns))

abbrev pub last : ℕ → List ℕ → ℕ
last n [] = n
last n (m ∷ ns) = last m ns

-- of the lengths of lines: the one, or the first, the greatest between and the last; a line feed parts two lines
abbrev pub edges : List ℕ → LongestLine
edges [] = Whole 0
edges (n ∷ []) = Whole n
edges (n ∷ (m ∷ ns)) = Parted n (inner (m ∷ ns)) (last m ns)

abbrev pub lines : List ℕ → LongestLine
lines bs = edges (line_lengths bs)

-- how long the longest of them is
abbrev pub longest_in : LongestLine → ℕ
longest_in (Whole n) = n
longest_in (Parted m n p) = max (max m n) p

-- whether a line feed occurs, and the lengths of the first line, of the longest between and of the last; the one line is first and last
abbrev pub has_feed_in : LongestLine → Bool
has_feed_in (Whole n) = false
has_feed_in (Parted m n p) = true

abbrev pub first_in : LongestLine → ℕ
first_in (Whole n) = n
first_in (Parted m n p) = m

abbrev pub inner_in : LongestLine → ℕ
inner_in (Whole n) = 0
inner_in (Parted m n p) = n

abbrev pub last_in : LongestLine → ℕ
last_in (Whole n) = n
last_in (Parted m n p) = p

-- These are its three lengths.
pub record IsOfParts (v : LongestLine) (m n p : ℕ) : Type 0 where
  pub first : first_in v ≡ m
  pub inner : inner_in v ≡ n
  pub last : last_in v ≡ p
