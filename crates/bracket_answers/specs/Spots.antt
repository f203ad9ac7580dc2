-- Where a bracket stands in a text, and what it is answered by what stands against it.
use Rattle.std.specs.Prelude.{◌≡◌, ℕ, ◌+◌, ◌<◌, cond, List, ◌∷◌, ◌++◌, length, take, Some, None, Ok, Option, Result, slice_index}
use Rattle.plain.specs.Brackets.{fitting}
use Rattle.plain.specs.Tokens.{end_state}
use Rattle.plain.specs.declared.answers.Match.{Match}
use Rattle.plain.specs.declared.answers.Match.TheVariants.{Fits, Crossed}
use Rattle.plain.specs.declared.answers.Bracket.{Bracket}
use Rattle.plain.specs.declared.answers.Bracket.TheVariants.{Paired, Alone}
use Rattle.lexer.specs.Reading.{read_from}
use Rattle.stores.specs.Stores.{Contents}
use Rattle.slots.specs.Ghost.{rows}
use Rattle.slots.specs.Values.{flat}
use Rattle.slots.specs.declared.records.Record.{Record}
use Rattle.slots.specs.declared.records.Tree.{Tree}
use Rattle.slots.specs.declared.records.Unsound.{Unsound}
use Rattle.pieces.specs.Rows.{bytes_of, Good}
use Rattle.pieces.specs.Sound.{TextValue}
use Rattle.pieces.specs.declared.rows.PieceRow.{PieceRow}
use Rattle.asking.specs.Texts.{TextAt, Reads}
use Rattle.opens.specs.Walks.{Follows}
use Rattle.bracket_answers.specs.declared.spot.Spot.{Spot}
use Rattle.bracket_answers.specs.declared.spot.Other.{Other}

abbrev pub match_of : ℕ → ℕ → Match
match_of x y = cond (fitting x y) Fits Crossed

-- an open, whose close is given, and a close, whose open is
abbrev pub after_open_of : ℕ → Option Other → Bracket
after_open_of b None = Alone
after_open_of b (Some y) = Paired y.offset (match_of b y.byte)

abbrev pub before_close_of : ℕ → Option Other → Bracket
before_close_of b None = Alone
before_close_of b (Some y) = Paired y.offset (match_of y.byte b)

-- The byte at the offset p of a text that the rows R stand for in the store B.
pub record StandsAt (B : List ℕ) (R : List PieceRow) (p : ℕ) (x : Spot) : Type 0 where
  pub xs : List PieceRow
  pub ys : List PieceRow
  pub parts : R ≡ xs ++ (x.row ∷ ys)
  pub good : Good B x.row
  pub start : Follows (flat (bytes_of B) xs) x.start
  pub place : p ≡ length (flat (bytes_of B) xs) + x.stop.index
  pub within : x.stop.index < x.row.length
  pub byte : x.stop.byte ≡ slice_index (bytes_of B x.row) x.stop.index
  pub before : x.stop.before ≡ read_from (end_state 0 (flat (bytes_of B) xs)) (take x.stop.index (bytes_of B x.row))
  pub after : x.stop.after ≡ read_from (end_state 0 (flat (bytes_of B) xs)) (take (x.stop.index + 1) (bytes_of B x.row))

module _ {S : Type 0} (contents : S → Contents) where
  pub record SpotFound {A : Type 0} (am : List ℕ → A) (rs : List (Record PieceRow (TextValue A))) (tr : Tree) (p : ℕ) (s s' : S) (r : Result Spot Unsound) : Type 0 where
    pub finds : (T : List ℕ) (X : TextAt am (contents s).bytes rs tr T) → p < length T → (x : Spot) × (r ≡ Ok x) × StandsAt (contents s).bytes (rows X.t) p x
    pub reading : Reads contents 256 s s'
