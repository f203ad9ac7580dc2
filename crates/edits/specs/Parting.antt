-- What taking the text's tree apart at an offset promises.
use Rattle.std.specs.Prelude.{◌≡◌, ℕ, ◌+◌, ◌≤◌, List, [], ◌∷◌, ◌++◌, map, length, Ok, Err, Option, Result, slice_index_or}
use Rattle.plain.specs.Pieces.{before, after}
use Rattle.stores.specs.Stores.{Contents}
use Rattle.slots.specs.Ghost.{Arm, Finger, occ_list, none, head_of, part_of, tree_of, rows_part, rows, size_part, levels, occ_part, occ, FitPart, Fit, Chain, Calm, Off}
use Rattle.slots.specs.Holds.{Holds}
use Rattle.slots.specs.declared.records.Unsound.{Unsound}
use Rattle.slots.specs.Words.{Link}
use Rattle.slots.specs.declared.records.Tree.{Tree}
use Rattle.slots.specs.declared.records.Record.{Record}
use Rattle.pieces.specs.Leaves.{Bounded}
use Rattle.pieces.specs.Rows.{piece_of, bytes_of, AllGood}
use Rattle.pieces.specs.Sound.{TextValue, text_means, text_mean}
use Rattle.pieces.specs.declared.rows.PieceRow.{PieceRow}
use Rattle.edits.specs.declared.parting.Parts.{Parts}

module _ {A S : Type 0} (am : List ℕ → A) (contents : S → Contents) where
  -- The tree t became the trees l and q with the parts F and G between them.
  pub record Apart (B : List ℕ) (rs rs' : List (Record PieceRow (TextValue A))) (f' : Link) (p : ℕ) (r : Result Parts Unsound) (t : Finger PieceRow (TextValue A)) (fs : List ℕ) : Type 0 where
    pub l : Finger PieceRow (TextValue A)
    pub F : Option (Arm PieceRow (TextValue A))
    pub G : Option (Arm PieceRow (TextValue A))
    pub q : Finger PieceRow (TextValue A)
    pub fs' : List ℕ
    pub js : List ℕ
    pub ok : r ≡ Ok (record { left = tree_of l; front = part_of F; back = part_of G; right = tree_of q })
    pub first : head_of fs' ≡ f'
    pub before_is : map piece_of (rows l ++ rows_part F) ≡ before p (map piece_of (rows t))
    pub after_is : map piece_of (rows_part G ++ rows q) ≡ after p (map piece_of (rows t))
    pub small_f : size_part F ≤ 1
    pub small_g : size_part G ≤ 1
    pub good_before : AllGood B (rows l ++ rows_part F)
    pub good_after : AllGood B (rows_part G ++ rows q)
    pub fit_l : Fit (text_mean am B) rs' l 0
    pub fit_f : FitPart (text_mean am B) rs' F 0
    pub fit_g : FitPart (text_mean am B) rs' G 0
    pub fit_q : Fit (text_mean am B) rs' q 0
    pub chain : Chain rs' fs'
    pub kept : (i : ℕ) → occ l i + (occ_part F i + (occ_part G i + (occ q i + occ_list fs' i))) ≡ occ t i + occ_list fs i
    pub frame : Off rs rs' (λ i. occ t i + occ_list fs i)
    pub spent : length fs ≤ length fs' + 3
    pub few : length js ≤ 2
    pub fresh : (i : ℕ) → occ_list js i ≡ 0 → Calm (slice_index_or rs i none) (slice_index_or rs' i none)

  pub record PartedAt (s s' : S) (rs rs' : List (Record PieceRow (TextValue A))) (f f' : Link) (tr : Tree) (p : ℕ) (r : Result Parts Unsound) : Type 0 where
    pub parts : (t : Finger PieceRow (TextValue A)) (fs : List ℕ) → Bounded contents s → AllGood (contents s).bytes (rows t) → Holds (λ _. 1) (text_means am) (bytes_of (contents s).bytes) rs f tr t fs → Apart (contents s).bytes rs rs' f' p r t fs
    pub few_reads : (t : Finger PieceRow (TextValue A)) (fs : List ℕ) → Bounded contents s → AllGood (contents s).bytes (rows t) → Holds (λ _. 1) (text_means am) (bytes_of (contents s).bytes) rs f tr t fs → (contents s').reads ≤ (contents s).reads + 256
    pub same_bytes : (contents s').bytes ≡ (contents s).bytes
    pub same_capacity : (contents s').capacity ≡ (contents s).capacity
