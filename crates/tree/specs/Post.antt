-- What the calls on trees promise.
use Rattle.tree.specs.declared.ends.Popped.{Popped}
use Rattle.std.specs.Prelude.{◌≡◌, List, [], ◌∷◌, ◌⊎◌, ℕ, suc, ◌+◌, ◌-◌, ◌≤◌, ◌<◌, length, get_or, set}
use Rattle.std.specs.declared.option.Option.{Option}
use Rattle.std.specs.declared.option.Option.TheVariants.{None, Some}
use Rattle.std.specs.declared.result.Result.{Result}
use Rattle.std.specs.declared.result.Result.TheVariants.{Ok}
use Rattle.tree.specs.Words.{Unsound, Link, Digit, Tree, Empty, Deep, Record, Free, Level, Side}
use Rattle.slots.specs.Ghost.{Twig, Arm, a1, a2, a3, a4, Finger, nil, one, deep, same, occ_list, head_of, none, root, digit_of, part_of, tree_of, rows_twig, rows_arm, rows_part, rows, levels, Full, occ_twig, occ_arm, occ_part, occ, FitTwig, FitArm, FitPart, Fit, Chain, Off, Calm}
use Rattle.slots.specs.Sides.{pick, ends}
use Rattle.slots.specs.Values.{mean, wt, value_in, parts_in, node_of}
use Rattle.slots.specs.Holds.{Holds}
use Rattle.measures.specs.Law.{heaviest}

module _ {R V : Type 0} where
  -- a level was written
  pub record LevelPut (rs rs' : List (Record R V)) (i : ℕ) (f : Digit) (t : Tree) (b : Digit) (value : Result V Unsound) (r : Result Tree Unsound) : Type 0 where
    pub puts : (v : V) → value ≡ Ok v → i < length rs → (r ≡ Ok (Deep i)) × (rs' ≡ set rs i (Level f t b v))

  -- a node was read and its slot given back
  pub record NodeTaken (rs rs' : List (Record R V)) (f f' : Link) (n : ℕ) (r : Result Digit Unsound) : Type 0 where
    pub takes : (d : Digit) → parts_in (get_or rs n none) ≡ Ok d → n < length rs → (r ≡ Ok d) × (f' ≡ Some n) × (rs' ≡ set rs n (Free f))

  -- how far a digit is above two twigs
  abbrev pub fill : Arm R V → ℕ
  fill (a1 a) = 0
  fill (a2 a b) = 0
  fill (a3 a b c) = 1
  fill (a4 a b c d) = 2

  -- the same of a tree's digit on that side
  abbrev pub load : Side → Finger R V → ℕ
  load s nil = 0
  load s (one w) = 0
  load s (deep i v f m b) = fill (pick s f b)

module _ {R I V : Type 0} (weigh : I → ℕ) (means : List I → V) where
  pub record JoinedEnds (rs : List (Record R V)) (side : Side) (x i : ℕ) (r : Result V Unsound) : Type 0 where
    pub joins : (items : R → List I) (xs ys : List R) → value_in (get_or rs x none) ≡ Ok (mean means items xs) → value_in (get_or rs i none) ≡ Ok (mean means items ys)
        → wt weigh items (ends side xs ys) ≤ heaviest → r ≡ Ok (mean means items (ends side xs ys))

  pub record NodePut (rs rs' : List (Record R V)) (f f' : Link) (d : Digit) (r : Result ℕ Unsound) : Type 0 where
    pub puts : (items : R → List I) (A : Arm R V) (c : Record R V) (k n : ℕ) (is : List ℕ) → digit_of A ≡ d → f ≡ Some n → Chain rs (n ∷ is) → FitArm (mean means items) rs A k → wt weigh items (rows_arm A) ≤ heaviest
        → node_of d (mean means items (rows_arm A)) ≡ Ok c → (r ≡ Ok n) × (f' ≡ head_of is) × (rs' ≡ set rs n c)

  -- A tree of the rows T, whose twigs are k high, was made from slots that τ counts; js are the new leaves and nodes.
  pub record Made (items : R → List I) (rs rs' : List (Record R V)) (f' : Link) (r : Result Tree Unsound) (T : List R) (τ : ℕ → ℕ) (k : ℕ) : Type 0 where
    pub t' : Finger R V
    pub fs' : List ℕ
    pub js : List ℕ
    pub ok : r ≡ Ok (tree_of t')
    pub first : head_of fs' ≡ f'
    pub text : rows t' ≡ T
    pub fit : Fit (mean means items) rs' t' k
    pub chain : Chain rs' fs'
    pub kept : (i : ℕ) → occ t' i + occ_list fs' i ≡ τ i
    pub frame : Off rs rs' τ
    pub fresh : (i : ℕ) → occ_list js i ≡ 0 → Calm (get_or rs i none) (get_or rs' i none)

  -- The slots hold the tree t at height k, the twig u and the chain fs, each slot at most once.
  pub record Ready (items : R → List I) (rs : List (Record R V)) (f : Link) (fuel : ℕ) (tr : Tree) (x : ℕ) (t : Finger R V) (u : Twig R V) (fs : List ℕ) (k : ℕ) : Type 0 where
    pub tree : tree_of t ≡ tr
    pub twig : root u ≡ x
    pub first : head_of fs ≡ f
    pub fit : Fit (mean means items) rs t k
    pub fit_u : FitTwig (mean means items) rs u k
    pub chain : Chain rs fs
    pub once : (i : ℕ) → occ t i + (occ_twig u i + occ_list fs i) ≤ 1
    pub light : wt weigh items (rows_twig u) + wt weigh items (rows t) ≤ heaviest
    pub fuelled : levels t ≤ fuel
    pub long : levels t < length fs

  pub record Push (items : R → List I) (rs rs' : List (Record R V)) (f' : Link) (side : Side) (r : Result Tree Unsound) (t : Finger R V) (u : Twig R V) (fs : List ℕ) (k : ℕ) : Type 0 where
    pub made : Made items rs rs' f' r (ends side (rows_twig u) (rows t)) (λ i. occ t i + (occ_twig u i + occ_list fs i)) k
    pub low : levels t ≤ levels made.t'
    pub high : levels made.t' ≤ levels t + 1
    pub spent : length fs + levels t ≤ length made.fs' + (length made.js + levels made.t')
    pub few : length made.js ≤ levels t
    -- no new node, or the digit on that side was full and has two twigs now
    pub roll : ((length made.js ≡ 0) × (load side made.t' ≤ load side t + 1)) ⊎ ((load side t ≡ 2) × (load side made.t' ≡ 0))

  pub record Pushed (rs rs' : List (Record R V)) (f f' : Link) (fuel : ℕ) (side : Side) (tr : Tree) (x : ℕ) (r : Result Tree Unsound) : Type 0 where
    pub pushes : (items : R → List I) (t : Finger R V) (u : Twig R V) (fs : List ℕ) (k : ℕ) → Ready items rs f fuel tr x t u fs k → Push items rs rs' f' side r t u fs k

  -- The same with no new leaf or node, at most top levels and at least len free slots.
  pub record Shrunk (items : R → List I) (rs rs' : List (Record R V)) (f' : Link) (r : Result Tree Unsound) (T : List R) (τ : ℕ → ℕ) (top len k : ℕ) : Type 0 where
    pub made : Made items rs rs' f' r T τ k
    pub old : made.js ≡ []
    pub high : levels made.t' ≤ top
    pub more : len ≤ length made.fs'

  -- The slots hold what a level in slot i is made of, and the chain fs, each slot at most once: at that side the rows N in slots that ν counts.
  pub record Parts (items : R → List I) (rs : List (Record R V)) (f : Link) (i : ℕ) (N : List R) (ν : ℕ → ℕ) (m : Finger R V) (B : Arm R V) (fs : List ℕ) (k : ℕ) : Type 0 where
    pub first : head_of fs ≡ f
    pub within : i < length rs
    pub fit_m : Fit (mean means items) rs m (suc k)
    pub fit_b : FitArm (mean means items) rs B k
    pub chain : Chain rs fs
    pub light : wt weigh items N + (wt weigh items (rows m) + wt weigh items (rows_arm B)) ≤ heaviest
    pub once : (j : ℕ) → same i j + (ν j + (occ m j + (occ_arm B j + occ_list fs j))) ≤ 1

  -- the level of these parts
  abbrev pub Whole : (R → List I) → List (Record R V) → List (Record R V) → Link → Side → ℕ → Result Tree Unsound → List R → (ℕ → ℕ) → Finger R V → Arm R V → List ℕ → ℕ → Type 0
  Whole items rs rs' f' side i r N ν m B fs k = Shrunk items rs rs' f' r (ends side N (ends side (rows m) (rows_arm B))) (λ j. same i j + (ν j + (occ m j + (occ_arm B j + occ_list fs j)))) (suc (levels m)) (length fs) k

  pub record Settled (rs rs' : List (Record R V)) (side : Side) (i : ℕ) (n : Digit) (tm : Tree) (d : Digit) (r : Result Tree Unsound) : Type 0 where
    pub settles : (items : R → List I) (f : Link) (N : Arm R V) (m : Finger R V) (B : Arm R V) (fs : List ℕ) (k : ℕ) → digit_of N ≡ n → tree_of m ≡ tm → digit_of B ≡ d → FitArm (mean means items) rs N k
        → Parts items rs f i (rows_arm N) (occ_arm N) m B fs k → Whole items rs rs' f side i r (rows_arm N) (occ_arm N) m B fs k

  pub record Refilled (rs rs' : List (Record R V)) (f f' : Link) (side : Side) (i n : ℕ) (tm : Tree) (d : Digit) (r : Result Tree Unsound) : Type 0 where
    pub refills : (items : R → List I) (w : Twig R V) (m : Finger R V) (B : Arm R V) (fs : List ℕ) (k : ℕ) → root w ≡ n → tree_of m ≡ tm → digit_of B ≡ d → FitTwig (mean means items) rs w (suc k)
        → Parts items rs f i (rows_twig w) (occ_twig w) m B fs k → Whole items rs rs' f' side i r (rows_twig w) (occ_twig w) m B fs k

  pub record Deepened (rs rs' : List (Record R V)) (f f' : Link) (fuel : ℕ) (side : Side) (i : ℕ) (n : Option Digit) (tm : Tree) (d : Digit) (r : Result Tree Unsound) : Type 0 where
    pub deepens : (items : R → List I) (Q : Option (Arm R V)) (m : Finger R V) (B : Arm R V) (fs : List ℕ) (k : ℕ) → part_of Q ≡ n → tree_of m ≡ tm → digit_of B ≡ d → FitPart (mean means items) rs Q k
        → Parts items rs f i (rows_part Q) (occ_part Q) m B fs k → levels m ≤ fuel → Whole items rs rs' f' side i r (rows_part Q) (occ_part Q) m B fs k

  pub record Replanted (rs rs' : List (Record R V)) (f f' : Link) (i : ℕ) (d : Digit) (r : Result Tree Unsound) : Type 0 where
    pub grows : (items : R → List I) (A : Arm R V) (fs : List ℕ) (k : ℕ) → digit_of A ≡ d → head_of fs ≡ f → i < length rs → FitArm (mean means items) rs A k → Chain rs fs → wt weigh items (rows_arm A) ≤ heaviest
        → ((j : ℕ) → same i j + (occ_arm A j + occ_list fs j) ≤ 1) → Shrunk items rs rs' f' r (rows_arm A) (λ j. same i j + (occ_arm A j + occ_list fs j)) 1 (length fs) k

  pub record Planted (rs rs' : List (Record R V)) (f f' : Link) (d : Option Digit) (r : Result Tree Unsound) : Type 0 where
    pub plants : (items : R → List I) (Q : Option (Arm R V)) (fs : List ℕ) (k : ℕ) → part_of Q ≡ d → head_of fs ≡ f → FitPart (mean means items) rs Q k → Chain rs fs → wt weigh items (rows_part Q) ≤ heaviest
        → ((j : ℕ) → occ_part Q j + occ_list fs j ≤ 1) → 0 < length fs → Shrunk items rs rs' f' r (rows_part Q) (λ j. occ_part Q j + occ_list fs j) 1 (length fs - 1) k

  -- the twig u was taken off the tree t
  pub record Pop (items : R → List I) (rs rs' : List (Record R V)) (f' : Link) (side : Side) (r : Result (Option Popped) Unsound) (t : Finger R V) (fs : List ℕ) (k : ℕ) : Type 0 where
    pub u : Twig R V
    pub t' : Finger R V
    pub fs' : List ℕ
    pub ok : r ≡ Ok (Some (record { slot = root u; rest = tree_of t' }))
    pub first : head_of fs' ≡ f'
    pub text : rows t ≡ ends side (rows_twig u) (rows t')
    pub fit_u : FitTwig (mean means items) rs' u k
    pub fit : Fit (mean means items) rs' t' k
    pub chain : Chain rs' fs'
    pub kept : (i : ℕ) → occ t' i + (occ_twig u i + occ_list fs' i) ≡ occ t i + occ_list fs i
    pub frame : Off rs rs' (λ i. occ t i + occ_list fs i)
    pub high : levels t' ≤ levels t
    pub more : length fs ≤ length fs'
    pub calm : (i : ℕ) → Calm (get_or rs i none) (get_or rs' i none)

  -- The slots hold the tree t at height k and the chain fs, each slot at most once.
  pub record Has (items : R → List I) (rs : List (Record R V)) (f : Link) (tr : Tree) (t : Finger R V) (fs : List ℕ) (k : ℕ) : Type 0 where
    pub tree : tree_of t ≡ tr
    pub first : head_of fs ≡ f
    pub fit : Fit (mean means items) rs t k
    pub chain : Chain rs fs
    pub once : (i : ℕ) → occ t i + occ_list fs i ≤ 1
    pub light : wt weigh items (rows t) ≤ heaviest

  pub record Pops (rs rs' : List (Record R V)) (f f' : Link) (fuel : ℕ) (side : Side) (tr : Tree) (r : Result (Option Popped) Unsound) : Type 0 where
    pub nothing : tr ≡ Empty → (r ≡ Ok None) × (rs' ≡ rs) × (f' ≡ f)
    pub pops : (items : R → List I) (t : Finger R V) (fs : List ℕ) (k : ℕ) → Full t → Has items rs f tr t fs k → levels t ≤ fuel → Pop items rs rs' f' side r t fs k

  pub record PopsFirst (rs rs' : List (Record R V)) (f f' : Link) (side : Side) (tr : Tree) (r : Result (Option Popped) Unsound) : Type 0 where
    pub nothing : tr ≡ Empty → (r ≡ Ok None) × (rs' ≡ rs) × (f' ≡ f)
    pub pops : (items : R → List I) (t : Finger R V) (fs : List ℕ) → Full t → Holds weigh means items rs f tr t fs → Pop items rs rs' f' side r t fs 0
