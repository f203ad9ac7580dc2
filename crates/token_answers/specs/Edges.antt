-- Where tokens begin in a text, and what finding it promises.
use Rattle.std.specs.Prelude.{◌≡◌, ℕ, ◌+◌, ◌<◌, ◌≤◌, true, false, List, length, take, Ok, Result, slice_index}
use Rattle.plain.specs.Tokens.{step, end_state}
use Rattle.lexer.specs.Numbers.{number_of}
use Rattle.lexer.specs.Reading.{beginnings}
use Rattle.stores.specs.Stores.{Contents}
use Rattle.slots.specs.declared.records.Record.{Record}
use Rattle.slots.specs.declared.records.Tree.{Tree}
use Rattle.slots.specs.declared.records.Unsound.{Unsound}
use Rattle.pieces.specs.Sound.{TextValue}
use Rattle.pieces.specs.declared.rows.PieceRow.{PieceRow}
use Rattle.asking.specs.Texts.{TextAt, Reads}
use Rattle.token_answers.specs.declared.edges.TokenEdge.{TokenEdge}

-- The byte at offset a of the text t begins token k.
pub record BeginsAt (t : List ℕ) (k a : ℕ) : Type 0 where
  pub within : a < length t
  pub begins : (step (end_state 0 (take a t)) (slice_index t a)).1 ≡ true
  pub number : k ≡ beginnings 0 (take a t) + 1

-- The edge x is where token k of t begins; or the end of t, where fewer than k tokens begin.
pub record EdgeOf (t : List ℕ) (k : ℕ) (x : TokenEdge) : Type 0 where
  pub state : number_of x.state ≡ end_state 0 (take x.at t)
  pub some : x.begins ≡ true → BeginsAt t k x.at
  pub none : x.begins ≡ false → (x.at ≡ length t) × (beginnings 0 t < k)

module _ {S : Type 0} (contents : S → Contents) where
  -- where token k of the text begins was looked for
  pub record EdgeFound {A : Type 0} (am : List ℕ → A) (rs : List (Record PieceRow (TextValue A))) (tr : Tree) (k : ℕ) (s s' : S) (r : Result TokenEdge Unsound) : Type 0 where
    pub finds : (T : List ℕ) → TextAt am (contents s).bytes rs tr T → 1 ≤ k → (x : TokenEdge) × (r ≡ Ok x) × EdgeOf T k x
    pub reading : Reads contents 256 s s'
