-- What putting a piece into the text's tree promises.
use Rattle.std.specs.Prelude.{◌≡◌, ℕ, ◌+◌, ◌*◌, ◌≤◌, List, [], ◌∷◌, ◌++◌, map, length, Some, None, Ok, Err, Option, Result, slice_index_or}
use Rattle.plain.specs.Machine.{limit}
use Rattle.plain.specs.Pieces.{Piece, before, after}
use Rattle.stores.specs.Stores.{Contents}
use Rattle.slots.specs.Words.{unsound}
use Rattle.slots.specs.Ghost.{Finger, occ_list, none, tree_of, rows, levels, Calm}
use Rattle.slots.specs.declared.records.Unsound.{Unsound}
use Rattle.slots.specs.Words.{Link}
use Rattle.slots.specs.declared.records.Tree.{Tree}
use Rattle.slots.specs.declared.records.Digit.{Digit}
use Rattle.slots.specs.declared.records.Digit.TheVariants.{One, Two, Three, Four}
use Rattle.slots.specs.declared.records.Record.{Record}
use Rattle.concat.specs.Post.{added}
use Rattle.pieces.specs.Leaves.{Bounded}
use Rattle.pieces.specs.Rows.{piece_of, Good, AllGood}
use Rattle.pieces.specs.Sound.{TextValue, text_mean, Laid}
use Rattle.pieces.specs.declared.rows.PieceRow.{PieceRow}

abbrev pub added_one : Option Digit → Option Digit → Result (Option Digit) Unsound
added_one part None = Ok part
added_one part (Some (One x)) = added part x
added_one part (Some (Two x y)) = Err unsound
added_one part (Some (Three x y z)) = Err unsound
added_one part (Some (Four x y z w)) = Err unsound

-- The slots hold a tree of the pieces G beside the chain; at most 4 new nodes for each of its levels and `leaves` more are new.
pub record TextMade {A : Type 0} (am : List ℕ → A) (B : List ℕ) (rs rs' : List (Record PieceRow (TextValue A))) (f' : Link) (r : Result Tree Unsound) (G : List Piece) (nodes leaves : ℕ) : Type 0 where
  pub t' : Finger PieceRow (TextValue A)
  pub fs' : List ℕ
  pub js : List ℕ
  pub ok : r ≡ Ok (tree_of t')
  pub laid : Laid (text_mean am B) rs' f' (tree_of t') t' fs'
  pub len : length rs' ≡ length rs
  pub pieces : map piece_of (rows t') ≡ G
  pub good : AllGood B (rows t')
  pub few : length js ≤ nodes * levels t' + leaves
  pub fresh : (i : ℕ) → occ_list js i ≡ 0 → Calm (slice_index_or rs i none) (slice_index_or rs' i none)

module _ {A S : Type 0} (am : List ℕ → A) (contents : S → Contents) where
  pub record PutInto (s s' : S) (rs rs' : List (Record PieceRow (TextValue A))) (f f' : Link) (tr : Tree) (p : ℕ) (x : PieceRow) (v : TextValue A) (r : Result Tree Unsound) : Type 0 where
    pub puts : (t : Finger PieceRow (TextValue A)) (fs : List ℕ) → Bounded contents s → AllGood (contents s).bytes (rows t) → Laid (text_mean am (contents s).bytes) rs f tr t fs
        → Good (contents s).bytes x → v ≡ text_mean am (contents s).bytes (x ∷ []) → length (before p (map piece_of (rows t)) ++ (piece_of x ∷ after p (map piece_of (rows t)))) ≤ limit (length rs)
        → TextMade am (contents s).bytes rs rs' f' r (before p (map piece_of (rows t)) ++ (piece_of x ∷ after p (map piece_of (rows t)))) 4 3
    pub few_reads : (t : Finger PieceRow (TextValue A)) (fs : List ℕ) → Bounded contents s → AllGood (contents s).bytes (rows t) → Laid (text_mean am (contents s).bytes) rs f tr t fs → (contents s').reads ≤ (contents s).reads + 256
    pub same_bytes : (contents s').bytes ≡ (contents s).bytes
    pub same_capacity : (contents s').capacity ≡ (contents s).capacity
