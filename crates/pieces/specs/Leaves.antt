-- What making and cutting leaves promises.
use Rattle.std.specs.declared.option.Option.TheVariants.{Some}
use Rattle.std.specs.Prelude.{◌≡◌, ℕ, ◌+◌, ◌≤◌, List, [], ◌∷◌, length, Some, None, Ok, Option, Result, slice_index_or, slice_set}
use Rattle.stores.specs.Stores.{Contents, largest}
use Rattle.slots.specs.Ghost.{Arm, same, occ_list, none, head_of, part_of, rows_part, size_part, occ_part, At, FitPart, Chain, Calm, Off}
use Rattle.slots.specs.Values.{mean}
use Rattle.slots.specs.declared.records.Unsound.{Unsound}
use Rattle.slots.specs.Words.{Link}
use Rattle.slots.specs.declared.records.Digit.{Digit}
use Rattle.slots.specs.declared.records.Digit.TheVariants.{One}
use Rattle.slots.specs.declared.records.Record.{Record}
use Rattle.slots.specs.declared.records.Record.TheVariants.{Leaf}
use Rattle.pieces.specs.Rows.{bytes_of, Good, front_of, rest_of}
use Rattle.pieces.specs.declared.rows.PieceRow.{PieceRow}
use Rattle.pieces.specs.declared.leaves.Ends.{Ends}

-- a store never has more bytes than its capacity, nor that more than the largest address
abbrev pub Bounded : {S : Type 0} → (S → Contents) → S → Type 0
Bounded contents s = (length (contents s).bytes ≤ (contents s).capacity) × ((contents s).capacity ≤ largest)

module _ {S V : Type 0} (means : List ℕ → V) (contents : S → Contents) where
  pub record PartPut (s s' : S) (rs rs' : List (Record PieceRow V)) (f f' : Link) (x : PieceRow) (r : Result (Option Digit) Unsound) : Type 0 where
    pub empty : x.length ≡ 0 → (r ≡ Ok None) × (rs' ≡ rs) × (f' ≡ f)
    pub puts : (n : ℕ) (ns : List ℕ) → Bounded contents s → Good (contents s).bytes x → f ≡ Some n → Chain rs (n ∷ ns)
        → (r ≡ Ok (Some (One n))) × (f' ≡ head_of ns) × (rs' ≡ slice_set rs n (Leaf x (means (bytes_of (contents s).bytes x))))
    pub few : (contents s').reads ≤ (contents s).reads + x.length
    pub same_bytes : (contents s').bytes ≡ (contents s).bytes
    pub same_capacity : (contents s').capacity ≡ (contents s).capacity

  -- the slot i holds a leaf of the row x, and fs are free
  pub record Cuttable (s : S) (rs : List (Record PieceRow V)) (f : Link) (i k j : ℕ) (x : PieceRow) (v : V) (fs : List ℕ) : Type 0 where
    pub bounded : Bounded contents s
    pub at : At rs i (Leaf x v)
    pub value : v ≡ mean means (bytes_of (contents s).bytes) (x ∷ [])
    pub good : Good (contents s).bytes x
    pub order : k ≤ j
    pub within : j ≤ x.length
    pub first : head_of fs ≡ f
    pub chain : Chain rs fs
    pub once : (q : ℕ) → same i q + occ_list fs q ≤ 1
    pub long : 1 ≤ length fs

  -- the first k bytes of x are left in one part, those from j on in another
  pub record Cut (s : S) (rs rs' : List (Record PieceRow V)) (f' : Link) (i k j : ℕ) (r : Result Ends Unsound) (x : PieceRow) (fs : List ℕ) : Type 0 where
    pub F : Option (Arm PieceRow V)
    pub G : Option (Arm PieceRow V)
    pub fs' : List ℕ
    pub js : List ℕ
    pub ok : r ≡ Ok (record { front = part_of F; back = part_of G })
    pub first : head_of fs' ≡ f'
    pub rows_front : rows_part F ≡ front_of k x
    pub rows_back : rows_part G ≡ rest_of j x
    pub small_front : size_part F ≤ 1
    pub small_back : size_part G ≤ 1
    pub fit_front : FitPart (mean means (bytes_of (contents s).bytes)) rs' F 0
    pub fit_back : FitPart (mean means (bytes_of (contents s).bytes)) rs' G 0
    pub chain : Chain rs' fs'
    pub kept : (q : ℕ) → occ_part F q + (occ_part G q + occ_list fs' q) ≡ same i q + occ_list fs q
    pub frame : Off rs rs' (λ q. same i q + occ_list fs q)
    pub spent : length fs ≤ length fs' + 2
    pub few : length js ≤ 2
    pub fresh : (q : ℕ) → occ_list js q ≡ 0 → Calm (slice_index_or rs q none) (slice_index_or rs' q none)

  pub record EndsKept (s s' : S) (rs rs' : List (Record PieceRow V)) (f f' : Link) (i k j : ℕ) (r : Result Ends Unsound) : Type 0 where
    pub keeps : (x : PieceRow) (v : V) (fs : List ℕ) → Cuttable s rs f i k j x v fs → Cut s rs rs' f' i k j r x fs
    pub few_reads : (x : PieceRow) (v : V) (fs : List ℕ) → Cuttable s rs f i k j x v fs → (contents s').reads ≤ (contents s).reads + 256
    pub same_bytes : (contents s').bytes ≡ (contents s).bytes
    pub same_capacity : (contents s').capacity ≡ (contents s).capacity
