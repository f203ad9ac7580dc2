-- Where an offset falls among rows.
use Rattle.std.specs.Prelude.{◌≡◌, ℕ, ◌+◌, ◌<◌, ◌≤◌, ◌⊎◌, List, ◌∷◌, ◌++◌, length, Some, None, Ok, Option, Result}
use Rattle.slots.specs.Ghost.{Finger, tree_of, rows, Fit}
use Rattle.slots.specs.Holds.{most}
use Rattle.slots.specs.declared.records.Record.{Record}
use Rattle.slots.specs.declared.records.Tree.{Tree}
use Rattle.slots.specs.declared.records.Unsound.{Unsound}
use Rattle.pieces.specs.Rows.{AllGood, sizes}
use Rattle.pieces.specs.Sound.{TextValue, text_mean}
use Rattle.pieces.specs.declared.rows.PieceRow.{PieceRow}
use Rattle.edits.specs.declared.edges.Edge.{Edge}

-- the offset p lies k bytes into the row x of the rows T
pub record Falls (p : ℕ) (T : List PieceRow) : Type 0 where
  pub xs : List PieceRow
  pub x : PieceRow
  pub ys : List PieceRow
  pub k : ℕ
  pub text : T ≡ xs ++ (x ∷ ys)
  pub at : p ≡ sizes xs + k
  pub within : k < x.length

abbrev pub edge_of : {p : ℕ} {T : List PieceRow} → Falls p T → Edge
edge_of f = record { start = sizes f.xs; length = f.x.length }

abbrev pub Lies : ℕ → List PieceRow → Result (Option Edge) Unsound → Type 0
Lies p T r = ((sizes T ≤ p) × (r ≡ Ok None)) ⊎ ((f : Falls p T) × (r ≡ Ok (Some (edge_of f))))

pub record EdgeFound {A : Type 0} (am : List ℕ → A) (rs : List (Record PieceRow (TextValue A))) (tr : Tree) (p : ℕ) (r : Result (Option Edge) Unsound) : Type 0 where
  pub lies : (B : List ℕ) (t : Finger PieceRow (TextValue A)) → tree_of t ≡ tr → Fit (text_mean am B) rs t 0 → AllGood B (rows t) → length (rows t) ≤ most → Lies p (rows t) r
