-- Reading through a part of the store until a goal is reached.
use Rattle.std.specs.Prelude.{◌≡◌, ℕ, ◌+◌, ◌<◌, ◌≤◌, Bool, true, false, ◌⊎◌, List, ◌++◌, length, take, drop, Ok, Result, nat_le, slice_index}
use Rattle.measures.specs.Law.{heaviest}
use Rattle.lexer.specs.Reading.{read_from}
use Rattle.lexer.specs.declared.tokens.TokenRow.{TokenRow}
use Rattle.stores.specs.Stores.{Contents}
use Rattle.slots.specs.declared.records.Unsound.{Unsound}
use Rattle.token_questions.specs.declared.scan.Goal.{Goal}
use Rattle.token_questions.specs.declared.scan.Goal.TheVariants.{Bytes, Tokens, Strays}
use Rattle.token_questions.specs.declared.scan.Stop.{Stop}

-- n bytes of the part are read, and r is the row of all that was read
abbrev pub reached : Goal → ℕ → TokenRow → Bool
reached (Bytes m) n r = nat_le m n
reached (Tokens m) n r = nat_le m r.tokens
reached (Strays m) n r = nat_le m r.strays

-- After the list w, which was read from state q, the goal is reached at this byte of bs and at none before it.
pub record Stops (q : ℕ) (w bs : List ℕ) (goal : Goal) (x : Stop) : Type 0 where
  pub within : x.index < length bs
  pub byte : x.byte ≡ slice_index bs x.index
  pub before : x.before ≡ read_from q (w ++ take x.index bs)
  pub after : x.after ≡ read_from q (w ++ take (x.index + 1) bs)
  pub yes : reached goal (x.index + 1) x.after ≡ true
  pub no : (x.index ≡ 0) ⊎ (reached goal x.index x.before ≡ false)

-- the n bytes at address a were read on from the row
pub record Scanned {S : Type 0} (contents : S → Contents) (s s' : S) (a n : ℕ) (row : TokenRow) (goal : Goal) (r : Result Stop Unsound) : Type 0 where
  pub stops : (q : ℕ) (w bs : List ℕ) → bs ≡ take n (drop a (contents s).bytes) → row ≡ read_from q w → a + n ≤ length (contents s).bytes → length w + n ≤ heaviest
      → reached goal n (read_from q (w ++ bs)) ≡ true → (x : Stop) × (r ≡ Ok x) × Stops q w bs goal x
  pub few : (contents s').reads ≤ (contents s).reads + 256
  pub same_bytes : (contents s').bytes ≡ (contents s).bytes
  pub same_capacity : (contents s').capacity ≡ (contents s).capacity
