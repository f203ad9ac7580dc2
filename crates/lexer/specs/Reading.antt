-- A list of bytes read from each state.
use Rattle.std.specs.Prelude.{◌≡◌, ℕ, ◌+◌, min, cond, List, [], ◌∷◌, map, length, slice_index_or}
use Rattle.std.specs.List.{range_with_len}
use Rattle.plain.specs.Lists.{count}
use Rattle.plain.specs.Tokens.{step, end_state, tokens}
use Rattle.plain.specs.Brackets.{brackets_from, brackets, is_stray, is_unmet}
use Rattle.lexer.specs.Numbers.{number_of, state_of}
use Rattle.lexer.specs.declared.states.State.TheVariants.{Start}
use Rattle.lexer.specs.declared.tokens.TokenRow.{TokenRow}

-- how many of the bytes begin a token
abbrev pub beginnings : ℕ → List ℕ → ℕ
beginnings s [] = 0
beginnings s (b ∷ bs) = cond (step s b).1 1 0 + beginnings (step s b).0 bs

unfoldable pub read_from : ℕ → List ℕ → TokenRow
read_from s bs = record {
  state = state_of (end_state s bs);
  tokens = beginnings s bs;
  strays = count is_stray (brackets_from s 0 [] bs);
  unmet = count is_unmet (brackets_from s 0 [] bs);
}

abbrev pub reading : List ℕ → List TokenRow
reading bs = map (λ s. read_from s bs) (range_with_len 0 13)

-- the row of state s, or of the last state; there are always 13
abbrev pub row_at : List TokenRow → ℕ → TokenRow
row_at rows s = slice_index_or rows (min s 12) (record { state = Start; tokens = 0; strays = 0; unmet = 0 })

-- What row 0 says of a whole text.
pub record Whole (bs : List ℕ) (r : TokenRow) : Type 0 where
  pub end : number_of r.state ≡ end_state 0 bs
  pub begun : r.tokens ≡ length (tokens bs)
  pub stray : r.strays ≡ count is_stray (brackets bs)
  pub left : r.unmet ≡ count is_unmet (brackets bs)
