-- What joining trees promises.
use Rattle.std.specs.Prelude.{◌≡◌, List, ◌++◌, ℕ, zero, suc, ◌+◌, ◌*◌, ◌≤◌, length, get_or}
use Rattle.std.specs.declared.option.Option.{Option}
use Rattle.std.specs.declared.option.Option.TheVariants.{None, Some}
use Rattle.std.specs.declared.result.Result.{Result}
use Rattle.std.specs.declared.result.Result.TheVariants.{Ok, Err}
use Rattle.tree.specs.Words.{Unsound, unsound, Link, Digit, One, Tree, Empty, Record, Side, Back, Grown, Room, Over}
use Rattle.slots.specs.Ghost.{Twig, Arm, a1, Finger, nil, occ_list, head_of, none, root, digit_of, part_of, tree_of, rows_twig, rows_arm, rows_part, rows, levels, size, size_part, occ_twig, occ_arm, occ_part, occ, FitTwig, FitArm, FitPart, Fit, Chain, Off, Calm}
use Rattle.slots.specs.Sides.{pick, ends, grown}
use Rattle.slots.specs.Holds.{Beside}
use Rattle.slots.specs.Values.{mean, wt, value_in}
use Rattle.measures.specs.Law.{heaviest}
use Rattle.tree.specs.Post.{load, Made}
use Rattle.concat.specs.declared.bundles.Batch.{Batch}

abbrev pub roomy : Grown → Result (Option Digit) Unsound
roomy (Room d) = Ok (Some d)
roomy (Over keep parts) = Err unsound

-- one slot more behind up to three
abbrev pub added : Option Digit → ℕ → Result (Option Digit) Unsound
added None x = Ok (Some (One x))
added (Some d) x = roomy (grown Back d x)

abbrev pub times : ℕ → ℕ → ℕ
times zero x = 0
times (suc n) x = x + times n x

module _ {R I V : Type 0} (weigh : I → ℕ) (means : List I → V) where
  -- The slots hold the nodes W and then the digit A, of a row that is being grouped, and the chain fs.
  pub record Stock (items : R → List I) (rs : List (Record R V)) (f : Link) (batch : Batch) (W : Option (Arm R V)) (A : Arm R V) (fs : List ℕ) (k : ℕ) : Type 0 where
    pub made_is : part_of W ≡ batch.made
    pub rest_is : digit_of A ≡ batch.rest
    pub first : head_of fs ≡ f
    pub fits : FitPart (mean means items) rs W (suc k)
    pub fit : FitArm (mean means items) rs A k
    pub chain : Chain rs fs
    pub supply : 4 ≤ length fs + size_part W

  -- the same with twigs P yet to come, each slot at most once
  pub record Coming (items : R → List I) (rs : List (Record R V)) (W : Option (Arm R V)) (A : Arm R V) (P : Option (Arm R V)) (fs : List ℕ) (k : ℕ) : Type 0 where
    pub fits : FitPart (mean means items) rs P k
    pub once : (j : ℕ) → occ_part W j + (occ_arm A j + (occ_part P j + occ_list fs j)) ≤ 1
    pub light : wt weigh items (rows_part W) + (wt weigh items (rows_arm A) + wt weigh items (rows_part P)) ≤ heaviest
    pub count : 3 * size_part W + (size A + size_part P) ≤ 12

  pub record Fed (items : R → List I) (rs rs' : List (Record R V)) (f' : Link) (r : Result Batch Unsound) (W : Option (Arm R V)) (A : Arm R V) (P : Option (Arm R V)) (fs : List ℕ) (k : ℕ) : Type 0 where
    pub batch : Batch
    pub W' : Option (Arm R V)
    pub A' : Arm R V
    pub fs' : List ℕ
    pub js : List ℕ
    pub ok : r ≡ Ok batch
    pub stock : Stock items rs' f' batch W' A' fs' k
    pub text : rows_part W' ++ rows_arm A' ≡ (rows_part W ++ rows_arm A) ++ rows_part P
    pub kept : (j : ℕ) → occ_part W' j + (occ_arm A' j + occ_list fs' j) ≡ occ_part W j + (occ_arm A j + (occ_part P j + occ_list fs j))
    pub frame : Off rs rs' (occ_list fs)
    pub count : 3 * size_part W' + size A' ≡ 3 * size_part W + (size A + size_part P)
    pub least : 2 ≤ size A + size_part P → 2 ≤ size A'
    pub few : length js + size_part W ≡ size_part W'
    pub spent : length fs ≡ length fs' + length js
    pub drew : (j : ℕ) → occ_list fs j ≡ occ_list js j + occ_list fs' j
    pub fresh : (j : ℕ) → occ_list js j ≡ 0 → Calm (get_or rs j none) (get_or rs' j none)

  pub record FedOne (rs rs' : List (Record R V)) (f f' : Link) (batch : Batch) (x : ℕ) (r : Result Batch Unsound) : Type 0 where
    pub feeds : (items : R → List I) (W : Option (Arm R V)) (A : Arm R V) (u : Twig R V) (fs : List ℕ) (k : ℕ) → root u ≡ x
        → Stock items rs f batch W A fs k → Coming items rs W A (Some (a1 u)) fs k → Fed items rs rs' f' r W A (Some (a1 u)) fs k

  pub record FedPart (rs rs' : List (Record R V)) (f f' : Link) (batch : Batch) (p : Option Digit) (r : Result Batch Unsound) : Type 0 where
    pub feeds : (items : R → List I) (W : Option (Arm R V)) (A : Arm R V) (P : Option (Arm R V)) (fs : List ℕ) (k : ℕ) → part_of P ≡ p
        → Stock items rs f batch W A fs k → Coming items rs W A P fs k → Fed items rs rs' f' r W A P fs k

  -- the nodes W of the rows T in slots that τ counts, n₀ of them made before
  pub record Nodes (items : R → List I) (rs rs' : List (Record R V)) (f' : Link) (r : Result (Option Digit) Unsound) (T : List R) (τ : ℕ → ℕ) (fs : List ℕ) (n₀ k : ℕ) : Type 0 where
    pub W : Option (Arm R V)
    pub fs' : List ℕ
    pub js : List ℕ
    pub ok : r ≡ Ok (part_of W)
    pub first : head_of fs' ≡ f'
    pub fits : FitPart (mean means items) rs' W (suc k)
    pub chain : Chain rs' fs'
    pub text : rows_part W ≡ T
    pub kept : (j : ℕ) → occ_part W j + occ_list fs' j ≡ τ j + occ_list fs j
    pub frame : Off rs rs' (occ_list fs)
    pub few : length js + n₀ ≡ size_part W
    pub spent : length fs ≡ length fs' + length js
    pub drew : (j : ℕ) → occ_list fs j ≡ occ_list js j + occ_list fs' j
    pub fresh : (j : ℕ) → occ_list js j ≡ 0 → Calm (get_or rs j none) (get_or rs' j none)

  pub record Finished (rs rs' : List (Record R V)) (f f' : Link) (batch : Batch) (r : Result (Option Digit) Unsound) : Type 0 where
    pub finishes : (items : R → List I) (W : Option (Arm R V)) (A : Arm R V) (fs : List ℕ) (k : ℕ) → 2 ≤ size A
        → Stock items rs f batch W A fs k → Coming items rs W A None fs k → Nodes items rs rs' f' r (rows_part W ++ rows_arm A) (λ j. occ_part W j + occ_arm A j) fs (size_part W) k

  pub record Bundled (rs rs' : List (Record R V)) (f f' : Link) (back : Digit) (p : Option Digit) (front : Digit) (r : Result (Option Digit) Unsound) : Type 0 where
    pub bundles : (items : R → List I) (A : Arm R V) (P : Option (Arm R V)) (C : Arm R V) (fs : List ℕ) (k : ℕ) → digit_of A ≡ back → part_of P ≡ p → digit_of C ≡ front → head_of fs ≡ f
        → FitArm (mean means items) rs A k → FitPart (mean means items) rs P k → FitArm (mean means items) rs C k → Chain rs fs → 4 ≤ length fs
        → ((j : ℕ) → occ_arm A j + (occ_part P j + (occ_arm C j + occ_list fs j)) ≤ 1)
        → wt weigh items (rows_arm A) + (wt weigh items (rows_part P) + wt weigh items (rows_arm C)) ≤ heaviest
        → Nodes items rs rs' f' r (rows_arm A ++ (rows_part P ++ rows_arm C)) (λ j. occ_arm A j + (occ_part P j + occ_arm C j)) fs 0 k

  pub record JoinedBetween (rs : List (Record R V)) (i : ℕ) (p : Option Digit) (j : ℕ) (r : Result V Unsound) : Type 0 where
    pub joins : (items : R → List I) (xs : List R) (P : Option (Arm R V)) (zs : List R) (k : ℕ) → part_of P ≡ p → FitPart (mean means items) rs P k
        → value_in (get_or rs i none) ≡ Ok (mean means items xs) → value_in (get_or rs j none) ≡ Ok (mean means items zs)
        → wt weigh items xs + (wt weigh items (rows_part P) + wt weigh items zs) ≤ heaviest → r ≡ Ok (mean means items (xs ++ (rows_part P ++ zs)))

  -- The slots hold the tree t at height k, the twigs P and the chain fs, each slot at most once; d bounds the levels.
  pub record Beyond (items : R → List I) (rs : List (Record R V)) (f : Link) (fuel : ℕ) (tr : Tree) (p : Option Digit) (t : Finger R V) (P : Option (Arm R V)) (fs : List ℕ) (k d : ℕ) : Type 0 where
    pub tree : tree_of t ≡ tr
    pub part_is : part_of P ≡ p
    pub first : head_of fs ≡ f
    pub fit : Fit (mean means items) rs t k
    pub fits : FitPart (mean means items) rs P k
    pub chain : Chain rs fs
    pub once : (i : ℕ) → occ t i + (occ_part P i + occ_list fs i) ≤ 1
    pub light : wt weigh items (rows_part P) + wt weigh items (rows t) ≤ heaviest
    pub top : levels t + size_part P ≤ d
    pub fuelled : d ≤ fuel
    pub long : times (size_part P) (d + 1) ≤ length fs

  pub record Extend (items : R → List I) (rs rs' : List (Record R V)) (f' : Link) (side : Side) (r : Result Tree Unsound) (t : Finger R V) (P : Option (Arm R V)) (fs : List ℕ) (k : ℕ) : Type 0 where
    pub made : Made weigh means items rs rs' f' r (ends side (rows_part P) (rows t)) (λ i. occ t i + (occ_part P i + occ_list fs i)) k
    -- how often the digit on that side was full
    pub rolls : ℕ
    pub low : levels t ≤ levels made.t'
    pub high : levels made.t' ≤ levels t + size_part P
    pub spent : length fs + levels t ≤ length made.fs' + (length made.js + levels made.t')
    pub few : length made.js ≤ times rolls (levels made.t')
    pub loads : 3 * rolls + load side made.t' ≤ load side t + size_part P

  pub record Extended (rs rs' : List (Record R V)) (f f' : Link) (fuel : ℕ) (side : Side) (tr : Tree) (p : Option Digit) (r : Result Tree Unsound) : Type 0 where
    pub extends : (items : R → List I) (t : Finger R V) (P : Option (Arm R V)) (fs : List ℕ) (k d : ℕ) → Beyond items rs f fuel tr p t P fs k d → Extend items rs rs' f' side r t P fs k

  -- the part and then the twig w beyond it
  pub record ExtendPast (items : R → List I) (rs rs' : List (Record R V)) (f' : Link) (side : Side) (r : Result Tree Unsound) (t : Finger R V) (P : Option (Arm R V)) (w : Twig R V) (fs : List ℕ) (k : ℕ) : Type 0 where
    pub made : Made weigh means items rs rs' f' r (ends side (rows_twig w) (ends side (rows_part P) (rows t))) (λ i. occ t i + (occ_twig w i + (occ_part P i + occ_list fs i))) k
    pub low : levels t ≤ levels made.t'
    pub high : levels made.t' ≤ levels t + 5
    pub spent : length fs + levels t ≤ length made.fs' + (length made.js + levels made.t')
    pub few : length made.js ≤ 4 * levels made.t'

  pub record ExtendedPast (rs rs' : List (Record R V)) (f f' : Link) (fuel : ℕ) (side : Side) (tr : Tree) (p : Option Digit) (x : ℕ) (r : Result Tree Unsound) : Type 0 where
    pub extends : (items : R → List I) (t : Finger R V) (P : Option (Arm R V)) (w : Twig R V) (fs : List ℕ) (k d : ℕ) → tree_of t ≡ tr → part_of P ≡ p → root w ≡ x → head_of fs ≡ f
        → Fit (mean means items) rs t k → FitPart (mean means items) rs P k → FitTwig (mean means items) rs w k → Chain rs fs → ((i : ℕ) → occ t i + (occ_twig w i + (occ_part P i + occ_list fs i)) ≤ 1)
        → wt weigh items (rows_twig w) + (wt weigh items (rows_part P) + wt weigh items (rows t)) ≤ heaviest → levels t ≤ d → d + 5 ≤ fuel → 5 * d + 30 ≤ length fs → ExtendPast items rs rs' f' side r t P w fs k

  -- The slots hold the trees l and s, the twigs P between them and the chain fs, each slot at most once; d bounds the levels.
  pub record Meeting (items : R → List I) (rs : List (Record R V)) (f : Link) (fuel : ℕ) (left : Tree) (p : Option Digit) (right : Tree) (l : Finger R V) (P : Option (Arm R V)) (s : Finger R V) (fs : List ℕ) (k d : ℕ) : Type 0 where
    pub left_is : tree_of l ≡ left
    pub part_is : part_of P ≡ p
    pub right_is : tree_of s ≡ right
    pub first : head_of fs ≡ f
    pub fit_l : Fit (mean means items) rs l k
    pub fits : FitPart (mean means items) rs P k
    pub fit_s : Fit (mean means items) rs s k
    pub chain : Chain rs fs
    pub once : (i : ℕ) → occ l i + (occ_part P i + (occ s i + occ_list fs i)) ≤ 1
    pub light : wt weigh items (rows l) + (wt weigh items (rows_part P) + wt weigh items (rows s)) ≤ heaviest
    pub top_l : levels l ≤ d
    pub top_s : levels s ≤ d
    pub fuelled : d + 5 ≤ fuel
    pub long : 5 * d + 30 ≤ length fs

  pub record Melt (items : R → List I) (rs rs' : List (Record R V)) (f' : Link) (r : Result Tree Unsound) (l : Finger R V) (P : Option (Arm R V)) (s : Finger R V) (fs : List ℕ) (k : ℕ) : Type 0 where
    pub made : Made weigh means items rs rs' f' r (rows l ++ (rows_part P ++ rows s)) (λ i. occ l i + (occ_part P i + (occ s i + occ_list fs i))) k
    pub low_l : levels l ≤ levels made.t'
    pub low_s : levels s ≤ levels made.t'
    pub high : (d : ℕ) → levels l ≤ d → levels s ≤ d → levels made.t' ≤ d + 5
    pub spent : length fs + (levels l + levels s) ≤ length made.fs' + (length made.js + levels made.t')
    -- four new nodes for each level of the result
    pub few : length made.js ≤ 4 * levels made.t'

  pub record Melted (rs rs' : List (Record R V)) (f f' : Link) (fuel : ℕ) (left : Tree) (p : Option Digit) (right : Tree) (r : Result Tree Unsound) : Type 0 where
    pub melts : (items : R → List I) (l : Finger R V) (P : Option (Arm R V)) (s : Finger R V) (fs : List ℕ) (k d : ℕ) → Meeting items rs f fuel left p right l P s fs k d → Melt items rs rs' f' r l P s fs k

  -- the tree t with the leaves Q at that side
  pub record Extension (items : R → List I) (rs rs' : List (Record R V)) (f' : Link) (side : Side) (r : Result Tree Unsound) (t : Finger R V) (Q : Option (Arm R V)) (fs : List ℕ) : Type 0 where
    pub made : Made weigh means items rs rs' f' r (ends side (rows_part Q) (rows t)) (λ i. occ t i + (occ_part Q i + occ_list fs i)) 0
    pub low : levels t ≤ levels made.t'
    pub high : levels made.t' ≤ levels t + size_part Q
    pub spent : length fs + levels t ≤ length made.fs' + (length made.js + levels made.t')
    -- two new nodes for each level of the result, and one where there are three leaves at most
    pub few : length made.js ≤ 2 * levels made.t'
    pub fewer : size_part Q ≤ 3 → length made.js ≤ levels made.t'

  pub record Extends (rs rs' : List (Record R V)) (f f' : Link) (side : Side) (tr : Tree) (d : Option Digit) (r : Result Tree Unsound) : Type 0 where
    pub extends : (items : R → List I) (t : Finger R V) (Q : Option (Arm R V)) (fs : List ℕ) → Beside weigh means items rs f (pick side Empty tr) d (pick side tr Empty) (pick side nil t) Q (pick side t nil) fs
        → Extension items rs rs' f' side r t Q fs

  pub record Concat (rs rs' : List (Record R V)) (f f' : Link) (left : Tree) (d : Option Digit) (right : Tree) (r : Result Tree Unsound) : Type 0 where
    pub melts : (items : R → List I) (l : Finger R V) (Q : Option (Arm R V)) (s : Finger R V) (fs : List ℕ) → Beside weigh means items rs f left d right l Q s fs → Melt items rs rs' f' r l Q s fs 0
