-- What cutting a part out of the text promises.
use Rattle.std.specs.Prelude.{◌≡◌, ℕ, ◌+◌, ◌*◌, ◌<◌, ◌≤◌, List, ◌∷◌, ◌++◌, map, length, Ok, Option, Result, slice_index_or}
use Rattle.plain.specs.Machine.{limit}
use Rattle.plain.specs.Pieces.{Piece, before, after, between}
use Rattle.stores.specs.Stores.{Contents}
use Rattle.slots.specs.Ghost.{Arm, Finger, same, occ_list, none, part_of, tree_of, rows_part, rows, levels, size_part, occ_part, occ, FitPart, Fit, Calm}
use Rattle.slots.specs.declared.records.Unsound.{Unsound}
use Rattle.slots.specs.Words.{Link}
use Rattle.slots.specs.declared.records.Tree.{Tree}
use Rattle.slots.specs.declared.records.Record.{Record}
use Rattle.pieces.specs.Leaves.{Bounded}
use Rattle.pieces.specs.Rows.{piece_of, AllGood, front_of, sizes}
use Rattle.pieces.specs.Sound.{TextValue, text_mean, Laid, LaidTwo}
use Rattle.pieces.specs.declared.rows.PieceRow.{PieceRow}
use Rattle.excisions.specs.Moves.{Moved}
use Rattle.excisions.specs.Spots.{Behind}
use Rattle.excisions.specs.declared.spots.Spot.{Spot}
use Rattle.excisions.specs.declared.cutting.Taken.{Taken}
use Rattle.excisions.specs.declared.cutting.CutText.{CutText}

-- The slots hold a tree of the pieces G and one of the pieces H beside the chain. At most 4 nodes for each level of the first
-- are new, 2 for each of the second, and 4 leaves.
pub record TwoMade {A : Type 0} (am : List ℕ → A) (B : List ℕ) (rs rs' : List (Record PieceRow (TextValue A))) (f' : Link) (r : Result CutText Unsound) (G H : List Piece) : Type 0 where
  pub t' : Finger PieceRow (TextValue A)
  pub k' : Finger PieceRow (TextValue A)
  pub fs' : List ℕ
  pub js : List ℕ
  pub ok : r ≡ Ok (record { text = tree_of t'; clip = tree_of k' })
  pub laid : LaidTwo (text_mean am B) rs' f' (tree_of t') (tree_of k') t' k' fs'
  pub len : length rs' ≡ length rs
  pub pieces : map piece_of (rows t') ≡ G
  pub clipped : map piece_of (rows k') ≡ H
  pub good : AllGood B (rows t')
  pub good_clip : AllGood B (rows k')
  pub few : length js ≤ 4 * levels t' + (2 * levels k' + 4)
  pub fresh : (i : ℕ) → occ_list js i ≡ 0 → Calm (slice_index_or rs i none) (slice_index_or rs' i none)

module _ {A S : Type 0} (am : List ℕ → A) (contents : S → Contents) where
  -- The leaf of a spot and the tree q behind it in three: F is before the n bytes from the spot on, then C, the tree m and D
  -- hold these, and G and the tree q' are behind them.
  pub record Took (B : List ℕ) (rs rs' : List (Record PieceRow (TextValue A))) (f' : Link) (spot : Spot) (n : ℕ) (r : Result Taken Unsound) (q : Finger PieceRow (TextValue A)) (fs : List ℕ) : Type 0 where
    pub F : Option (Arm PieceRow (TextValue A))
    pub C : Option (Arm PieceRow (TextValue A))
    pub m : Finger PieceRow (TextValue A)
    pub D : Option (Arm PieceRow (TextValue A))
    pub G : Option (Arm PieceRow (TextValue A))
    pub q' : Finger PieceRow (TextValue A)
    pub fs' : List ℕ
    pub js : List ℕ
    pub ok : r ≡ Ok (record { front = part_of F; first = part_of C; middle = tree_of m; last = part_of D; back = part_of G; right = tree_of q' })
    pub front_is : rows_part F ≡ front_of spot.into spot.row
    pub between_is : map piece_of (rows_part C ++ (rows m ++ rows_part D)) ≡ between spot.into (spot.into + n) (map piece_of (spot.row ∷ rows q))
    pub after_is : map piece_of (rows_part G ++ rows q') ≡ after (spot.into + n) (map piece_of (spot.row ∷ rows q))
    pub small_f : size_part F ≤ 1
    pub small_c : size_part C ≤ 1
    pub small_d : size_part D ≤ 1
    pub small_g : size_part G ≤ 1
    pub good_between : AllGood B (rows_part C ++ (rows m ++ rows_part D))
    pub good_after : AllGood B (rows_part G ++ rows q')
    pub fit_f : FitPart (text_mean am B) rs' F 0
    pub fit_c : FitPart (text_mean am B) rs' C 0
    pub fit_m : Fit (text_mean am B) rs' m 0
    pub fit_d : FitPart (text_mean am B) rs' D 0
    pub fit_g : FitPart (text_mean am B) rs' G 0
    pub fit_q : Fit (text_mean am B) rs' q' 0
    pub moved : Moved rs rs' f' (λ j. same spot.at j + occ q j) (λ j. occ_part F j + (occ_part C j + (occ m j + (occ_part D j + (occ_part G j + occ q' j))))) fs fs' js
    pub few : length js ≤ 4

  pub record TakenFrom (s s' : S) (rs rs' : List (Record PieceRow (TextValue A))) (f f' : Link) (spot : Spot) (n : ℕ) (r : Result Taken Unsound) : Type 0 where
    pub takes : (v : TextValue A) (q : Finger PieceRow (TextValue A)) (fs : List ℕ) → Behind am contents s rs f spot v q fs → 0 < n → spot.into + n ≤ sizes (spot.row ∷ rows q) → Took (contents s).bytes rs rs' f' spot n r q fs
    pub few_reads : (v : TextValue A) (q : Finger PieceRow (TextValue A)) (fs : List ℕ) → Behind am contents s rs f spot v q fs → 0 < n → spot.into + n ≤ sizes (spot.row ∷ rows q) → (contents s').reads ≤ (contents s).reads + 512
    pub same_bytes : (contents s').bytes ≡ (contents s).bytes
    pub same_capacity : (contents s').capacity ≡ (contents s).capacity

  -- The text t without the bytes from a to b, and the tree of these.
  pub record CutOut (s s' : S) (rs rs' : List (Record PieceRow (TextValue A))) (f f' : Link) (tr : Tree) (a b : ℕ) (r : Result CutText Unsound) : Type 0 where
    pub cuts : (t : Finger PieceRow (TextValue A)) (fs : List ℕ) → Bounded contents s → AllGood (contents s).bytes (rows t) → Laid (text_mean am (contents s).bytes) rs f tr t fs → a < b → b ≤ sizes (rows t)
        → length (before a (map piece_of (rows t)) ++ after b (map piece_of (rows t))) + length (between a b (map piece_of (rows t))) ≤ limit (length rs)
        → TwoMade am (contents s).bytes rs rs' f' r (before a (map piece_of (rows t)) ++ after b (map piece_of (rows t))) (between a b (map piece_of (rows t)))
    pub few_reads : (t : Finger PieceRow (TextValue A)) (fs : List ℕ) → Bounded contents s → AllGood (contents s).bytes (rows t) → Laid (text_mean am (contents s).bytes) rs f tr t fs → a < b → b ≤ sizes (rows t) → (contents s').reads ≤ (contents s).reads + 512
    pub same_bytes : (contents s').bytes ≡ (contents s).bytes
    pub same_capacity : (contents s').capacity ≡ (contents s).capacity
