-- What deleting a part of the text promises.
use Rattle.std.specs.Prelude.{◌≡◌, ℕ, suc, ◌+◌, ◌<◌, ◌≤◌, List, ◌∷◌, ◌++◌, map, length, Some, None, Ok, Option, Result}
use Rattle.plain.specs.Machine.{limit}
use Rattle.plain.specs.Pieces.{Piece, before, after}
use Rattle.stores.specs.Stores.{Contents}
use Rattle.slots.specs.Ghost.{Arm, Finger, same, part_of, tree_of, rows_part, rows, size_part, occ_part, occ, FitPart, Fit}
use Rattle.slots.specs.Holds.{Holds}
use Rattle.slots.specs.declared.records.Unsound.{Unsound}
use Rattle.slots.specs.Words.{Link}
use Rattle.slots.specs.declared.records.Digit.{Digit}
use Rattle.slots.specs.declared.records.Tree.{Tree}
use Rattle.slots.specs.declared.records.Record.{Record}
use Rattle.pieces.specs.Leaves.{Bounded}
use Rattle.pieces.specs.Rows.{piece_of, bytes_of, AllGood, front_of, sizes}
use Rattle.pieces.specs.Sound.{TextValue, text_means, text_mean, Laid}
use Rattle.pieces.specs.declared.rows.PieceRow.{PieceRow}
use Rattle.edits.specs.Inserting.{TextMade}
use Rattle.excisions.specs.Moves.{Moved}
use Rattle.excisions.specs.Spots.{Behind}
use Rattle.excisions.specs.declared.spots.Spot.{Spot}
use Rattle.excisions.specs.declared.deleting.Rest.{Rest}
use Rattle.excisions.specs.declared.deleting.Dropped.{Dropped}
use Rattle.excisions.specs.declared.deleting.Deleted.{Deleted}

-- the leaves of a part of at most one
abbrev pub one_part_of : Option Digit → ℕ
one_part_of None = 0
one_part_of (Some d) = 1

-- The text's tree is one of the pieces G, which are counted.
pub record DeleteMade {A : Type 0} (am : List ℕ → A) (B : List ℕ) (rs rs' : List (Record PieceRow (TextValue A))) (f' : Link) (r : Result Deleted Unsound) (G : List Piece) : Type 0 where
  pub tree : Tree
  pub made : TextMade am B rs rs' f' (Ok tree) G 4 4
  pub ok : r ≡ Ok (record { text = tree; pieces = length (rows made.t') })

module _ {A S : Type 0} (am : List ℕ → A) (contents : S → Contents) where
  -- The tree t without its first n bytes: a part of at most one leaf and the tree q. `gone` counts the leaves that are not in q.
  pub record Cleared (B : List ℕ) (rs rs' : List (Record PieceRow (TextValue A))) (f' : Link) (n : ℕ) (r : Result Rest Unsound) (t : Finger PieceRow (TextValue A)) (fs : List ℕ) : Type 0 where
    pub G : Option (Arm PieceRow (TextValue A))
    pub q : Finger PieceRow (TextValue A)
    pub gone : ℕ
    pub fs' : List ℕ
    pub js : List ℕ
    pub ok : r ≡ Ok (record { back = part_of G; right = tree_of q; gone = gone })
    pub after_is : map piece_of (rows_part G ++ rows q) ≡ after n (map piece_of (rows t))
    pub count : gone + length (rows q) ≡ length (rows t)
    pub small_g : size_part G ≤ 1
    pub good_after : AllGood B (rows_part G ++ rows q)
    pub fit_g : FitPart (text_mean am B) rs' G 0
    pub fit_q : Fit (text_mean am B) rs' q 0
    pub moved : Moved rs rs' f' (occ t) (λ j. occ_part G j + occ q j) fs fs' js
    pub few : length js ≤ 2

  pub record FrontDropped (s s' : S) (rs rs' : List (Record PieceRow (TextValue A))) (f f' : Link) (tr : Tree) (n : ℕ) (r : Result Rest Unsound) : Type 0 where
    pub drops : (t : Finger PieceRow (TextValue A)) (fs : List ℕ) → Bounded contents s → AllGood (contents s).bytes (rows t) → Holds (λ _. 1) (text_means am) (bytes_of (contents s).bytes) rs f tr t fs → Cleared (contents s).bytes rs rs' f' n r t fs
    pub few_reads : (t : Finger PieceRow (TextValue A)) (fs : List ℕ) → Bounded contents s → AllGood (contents s).bytes (rows t) → Holds (λ _. 1) (text_means am) (bytes_of (contents s).bytes) rs f tr t fs → (contents s').reads ≤ (contents s).reads + 256
    pub same_bytes : (contents s').bytes ≡ (contents s).bytes
    pub same_capacity : (contents s').capacity ≡ (contents s).capacity

  -- The leaf of a spot and the tree q behind it without the n bytes from the spot on.
  pub record Skipped (B : List ℕ) (rs rs' : List (Record PieceRow (TextValue A))) (f' : Link) (spot : Spot) (n : ℕ) (r : Result Dropped Unsound) (q : Finger PieceRow (TextValue A)) (fs : List ℕ) : Type 0 where
    pub F : Option (Arm PieceRow (TextValue A))
    pub G : Option (Arm PieceRow (TextValue A))
    pub q' : Finger PieceRow (TextValue A)
    pub gone : ℕ
    pub fs' : List ℕ
    pub js : List ℕ
    pub ok : r ≡ Ok (record { front = part_of F; rest = record { back = part_of G; right = tree_of q'; gone = gone } })
    pub front_is : rows_part F ≡ front_of spot.into spot.row
    pub after_is : map piece_of (rows_part G ++ rows q') ≡ after (spot.into + n) (map piece_of (spot.row ∷ rows q))
    pub count : gone + length (rows q') ≡ suc (length (rows q))
    pub small_f : size_part F ≤ 1
    pub small_g : size_part G ≤ 1
    pub good_after : AllGood B (rows_part G ++ rows q')
    pub fit_f : FitPart (text_mean am B) rs' F 0
    pub fit_g : FitPart (text_mean am B) rs' G 0
    pub fit_q : Fit (text_mean am B) rs' q' 0
    pub moved : Moved rs rs' f' (λ j. same spot.at j + occ q j) (λ j. occ_part F j + (occ_part G j + occ q' j)) fs fs' js
    pub few : length js ≤ 4

  pub record DroppedFrom (s s' : S) (rs rs' : List (Record PieceRow (TextValue A))) (f f' : Link) (spot : Spot) (n : ℕ) (r : Result Dropped Unsound) : Type 0 where
    pub drops : (v : TextValue A) (q : Finger PieceRow (TextValue A)) (fs : List ℕ) → Behind am contents s rs f spot v q fs → spot.into + n ≤ sizes (spot.row ∷ rows q) → Skipped (contents s).bytes rs rs' f' spot n r q fs
    pub few_reads : (v : TextValue A) (q : Finger PieceRow (TextValue A)) (fs : List ℕ) → Behind am contents s rs f spot v q fs → spot.into + n ≤ sizes (spot.row ∷ rows q) → (contents s').reads ≤ (contents s).reads + 512
    pub same_bytes : (contents s').bytes ≡ (contents s).bytes
    pub same_capacity : (contents s').capacity ≡ (contents s).capacity

  -- The text t, which has n pieces, without the bytes from a to b.
  pub record DeletedFrom (s s' : S) (rs rs' : List (Record PieceRow (TextValue A))) (f f' : Link) (tr : Tree) (n a b : ℕ) (r : Result Deleted Unsound) : Type 0 where
    pub deletes : (t : Finger PieceRow (TextValue A)) (fs : List ℕ) → Bounded contents s → AllGood (contents s).bytes (rows t) → Laid (text_mean am (contents s).bytes) rs f tr t fs → n ≡ length (rows t) → a < b → b ≤ sizes (rows t)
        → length (before a (map piece_of (rows t)) ++ after b (map piece_of (rows t))) ≤ limit (length rs)
        → DeleteMade am (contents s).bytes rs rs' f' r (before a (map piece_of (rows t)) ++ after b (map piece_of (rows t)))
    pub few_reads : (t : Finger PieceRow (TextValue A)) (fs : List ℕ) → Bounded contents s → AllGood (contents s).bytes (rows t) → Laid (text_mean am (contents s).bytes) rs f tr t fs → a < b → b ≤ sizes (rows t) → (contents s').reads ≤ (contents s).reads + 512
    pub same_bytes : (contents s').bytes ≡ (contents s).bytes
    pub same_capacity : (contents s').capacity ≡ (contents s).capacity
