-- What is left on both sides becomes one tree.
use Rattle.std.specs.Prelude.{◌≡◌, ℕ, ◌+◌, ◌*◌, ◌≤◌, List, ◌++◌, length, Ok, Option, Result}
use Rattle.slots.specs.Ghost.{Arm, Finger, occ_list, head_of, part_of, tree_of, rows_part, rows, size_part, levels, occ_part, occ, FitPart, Fit, Chain}
use Rattle.slots.specs.Holds.{most, spare}
use Rattle.slots.specs.declared.records.Unsound.{Unsound}
use Rattle.slots.specs.Words.{Link}
use Rattle.slots.specs.declared.records.Digit.{Digit}
use Rattle.slots.specs.declared.records.Tree.{Tree}
use Rattle.slots.specs.declared.records.Record.{Record}
use Rattle.pieces.specs.Rows.{AllGood}
use Rattle.pieces.specs.Sound.{TextValue, text_mean}
use Rattle.pieces.specs.declared.rows.PieceRow.{PieceRow}
use Rattle.excisions.specs.Moves.{Moved}

module _ {A : Type 0} (am : List ℕ → A) where
  -- The slots hold the trees l and q with the parts F and G of at most one leaf between them, and the chain fs, each slot at most once.
  pub record Sides (B : List ℕ) (rs : List (Record PieceRow (TextValue A))) (f : Link) (tl : Tree) (d e : Option Digit) (tr : Tree) (l : Finger PieceRow (TextValue A)) (F G : Option (Arm PieceRow (TextValue A))) (q : Finger PieceRow (TextValue A)) (fs : List ℕ) : Type 0 where
    pub left : tree_of l ≡ tl
    pub front : part_of F ≡ d
    pub back : part_of G ≡ e
    pub right : tree_of q ≡ tr
    pub small_f : size_part F ≤ 1
    pub small_g : size_part G ≤ 1
    pub first : head_of fs ≡ f
    pub fit_l : Fit (text_mean am B) rs l 0
    pub fit_f : FitPart (text_mean am B) rs F 0
    pub fit_g : FitPart (text_mean am B) rs G 0
    pub fit_q : Fit (text_mean am B) rs q 0
    pub chain : Chain rs fs
    pub once : (i : ℕ) → (occ l i + (occ_part F i + (occ_part G i + occ q i))) + occ_list fs i ≤ 1
    pub good : AllGood B (rows l ++ (rows_part F ++ (rows_part G ++ rows q)))
    pub small : length (rows l ++ (rows_part F ++ (rows_part G ++ rows q))) ≤ most
    pub long : spare ≤ length fs

  -- the tree t' of all that they hold
  pub record Closing (B : List ℕ) (rs rs' : List (Record PieceRow (TextValue A))) (f' : Link) (r : Result Tree Unsound) (l : Finger PieceRow (TextValue A)) (F G : Option (Arm PieceRow (TextValue A))) (q : Finger PieceRow (TextValue A)) (fs : List ℕ) : Type 0 where
    pub t' : Finger PieceRow (TextValue A)
    pub fs' : List ℕ
    pub js : List ℕ
    pub ok : r ≡ Ok (tree_of t')
    pub text : rows t' ≡ rows l ++ (rows_part F ++ (rows_part G ++ rows q))
    pub fit : Fit (text_mean am B) rs' t' 0
    pub moved : Moved rs rs' f' (λ i. occ l i + (occ_part F i + (occ_part G i + occ q i))) (occ t') fs fs' js
    pub few : length js ≤ 4 * levels t'

  pub record Closed (rs rs' : List (Record PieceRow (TextValue A))) (f f' : Link) (tl : Tree) (d e : Option Digit) (tr : Tree) (r : Result Tree Unsound) : Type 0 where
    pub closes : (B : List ℕ) (l : Finger PieceRow (TextValue A)) (F G : Option (Arm PieceRow (TextValue A))) (q : Finger PieceRow (TextValue A)) (fs : List ℕ) → Sides B rs f tl d e tr l F G q fs → Closing B rs rs' f' r l F G q fs
