-- Where an offset lies in the text's tree.
use Rattle.std.specs.Prelude.{◌≡◌, ℕ, ◌+◌, ◌<◌, ◌≤◌, ◌⊎◌, List, [], ◌∷◌, ◌++◌, length, Some, None, Ok, Option, Result}
use Rattle.stores.specs.Stores.{Contents}
use Rattle.slots.specs.Ghost.{Finger, same, occ_list, head_of, tree_of, rows, occ, At, Fit, Chain}
use Rattle.slots.specs.Holds.{Holds, most, spare}
use Rattle.slots.specs.declared.records.Unsound.{Unsound}
use Rattle.slots.specs.Words.{Link}
use Rattle.slots.specs.declared.records.Tree.{Tree}
use Rattle.slots.specs.declared.records.Record.{Record}
use Rattle.slots.specs.declared.records.Record.TheVariants.{Leaf}
use Rattle.pieces.specs.Leaves.{Bounded}
use Rattle.pieces.specs.Rows.{bytes_of, AllGood, sizes}
use Rattle.pieces.specs.Sound.{TextValue, text_means, text_mean}
use Rattle.pieces.specs.declared.rows.PieceRow.{PieceRow}
use Rattle.excisions.specs.Moves.{Moved}
use Rattle.excisions.specs.declared.spots.Spot.{Spot}

module _ {A : Type 0} (am : List ℕ → A) where
  -- The offset p lies k bytes into the row x of the leaf in slot i; l and q are the trees before it and behind it.
  pub record Opened (B : List ℕ) (rs rs' : List (Record PieceRow (TextValue A))) (f' : Link) (p : ℕ) (r : Result (Option Spot) Unsound) (t : Finger PieceRow (TextValue A)) (fs : List ℕ) : Type 0 where
    pub l : Finger PieceRow (TextValue A)
    pub i : ℕ
    pub x : PieceRow
    pub v : TextValue A
    pub k : ℕ
    pub q : Finger PieceRow (TextValue A)
    pub fs' : List ℕ
    pub ok : r ≡ Ok (Some (record { left = tree_of l; at = i; row = x; into = k; right = tree_of q }))
    pub text : rows t ≡ rows l ++ (x ∷ rows q)
    pub offset : p ≡ sizes (rows l) + k
    pub within : k < x.length
    pub fit_l : Fit (text_mean am B) rs' l 0
    pub at : At rs' i (Leaf x v)
    pub value : v ≡ text_mean am B (x ∷ [])
    pub fit_q : Fit (text_mean am B) rs' q 0
    pub moved : Moved rs rs' f' (occ t) (λ j. occ l j + (same i j + occ q j)) fs fs' []
    pub spent : length fs ≤ length fs' + 1

  pub record OpenedAt (rs rs' : List (Record PieceRow (TextValue A))) (f f' : Link) (tr : Tree) (p : ℕ) (r : Result (Option Spot) Unsound) : Type 0 where
    pub opens : (B : List ℕ) (t : Finger PieceRow (TextValue A)) (fs : List ℕ) → AllGood B (rows t) → Holds (λ _. 1) (text_means am) (bytes_of B) rs f tr t fs
        → ((sizes (rows t) ≤ p) × (r ≡ Ok None) × (rs' ≡ rs) × (f' ≡ f)) ⊎ Opened B rs rs' f' p r t fs

  -- The slots hold the leaf of a spot and the tree q behind it, beside the chain fs, each slot at most once.
  pub record Behind {S : Type 0} (contents : S → Contents) (s : S) (rs : List (Record PieceRow (TextValue A))) (f : Link) (spot : Spot) (v : TextValue A) (q : Finger PieceRow (TextValue A)) (fs : List ℕ) : Type 0 where
    pub bounded : Bounded contents s
    pub good : AllGood (contents s).bytes (spot.row ∷ rows q)
    pub into : spot.into < spot.row.length
    pub at : At rs spot.at (Leaf spot.row v)
    pub value : v ≡ text_mean am (contents s).bytes (spot.row ∷ [])
    pub tree : tree_of q ≡ spot.right
    pub first : head_of fs ≡ f
    pub fit : Fit (text_mean am (contents s).bytes) rs q 0
    pub chain : Chain rs fs
    pub once : (j : ℕ) → same spot.at j + (occ q j + occ_list fs j) ≤ 1
    pub small : length (rows q) ≤ most
    -- cutting the leaf takes two slots at most
    pub long : spare + 2 ≤ length fs
