-- What the split promises.
use Rattle.std.specs.Prelude.{◌≡◌, Bool, true, List, [], ◌∷◌, ◌++◌, ◌⊎◌, ℕ, suc, ◌+◌, ◌-◌, ◌≤◌, ◌<◌, length, get_or}
use Rattle.std.specs.declared.option.Option.{Option}
use Rattle.std.specs.declared.option.Option.TheVariants.{None, Some}
use Rattle.std.specs.declared.result.Result.{Result}
use Rattle.std.specs.declared.result.Result.TheVariants.{Ok}
use Rattle.split.specs.Words.{Unsound, Link, Tree, Record, Free, Leaf, Side, Spine, Cut}
use Rattle.slots.specs.Ghost.{Twig, Arm, Finger, same, occ_list, head_of, none, root, digit_of, part_of, tree_of, rows_twig, rows_arm, rows_part, rows, levels, occ_twig, occ_arm, occ_part, occ, At, FitTwig, FitArm, FitPart, Fit, Chain, Calm, Off}
use Rattle.slots.specs.Holds.{Holds}
use Rattle.slots.specs.Sides.{pick, ends}
use Rattle.slots.specs.Values.{mean, wt}
use Rattle.measures.specs.Law.{weights, heaviest}
use Rattle.tree.specs.Post.{Parts, Has}
use Rattle.seek.specs.Places.{upto, Past, Never}
use Rattle.seek.specs.Post.{cut_of}
use Rattle.split.specs.declared.halves.Halves.{Halves}

-- the outer tree is the one at that side
abbrev pub halves : Side → Tree → ℕ → Tree → Halves
halves side outer i inner = record { left = pick side outer inner; at = i; right = pick side inner outer }

module _ {R I V : Type 0} (weigh : I → ℕ) (means : List I → V) where
  -- Two trees were made, of the rows T and U, with slot n between them, from slots that τ counts; no leaf or node is new.
  pub record Halved (items : R → List I) (rs rs' : List (Record R V)) (f' : Link) (r : Result (Option Halves) Unsound) (n : ℕ) (T U : List R) (τ : ℕ → ℕ) (top len k : ℕ) : Type 0 where
    pub l : Finger R V
    pub q : Finger R V
    pub fs' : List ℕ
    pub ok : r ≡ Ok (Some (record { left = tree_of l; at = n; right = tree_of q }))
    pub first : head_of fs' ≡ f'
    pub text_l : rows l ≡ T
    pub text_r : rows q ≡ U
    pub fit_l : Fit (mean means items) rs' l k
    pub fit_r : Fit (mean means items) rs' q k
    pub chain : Chain rs' fs'
    pub kept : (j : ℕ) → occ l j + (occ q j + occ_list fs' j) ≡ τ j
    pub frame : Off rs rs' τ
    pub high_l : levels l ≤ top
    pub high_r : levels q ≤ top
    pub more : len ≤ length fs'
    pub calm : (j : ℕ) → Calm (get_or rs j none) (get_or rs' j none)

  -- the digit at that side is in the parts P, outside, and Q, beside the middle m; B is the other digit
  pub record Edged (rs rs' : List (Record R V)) (f f' : Link) (fuel : ℕ) (side : Side) (i : ℕ) (level : Spine) (c : Cut) (r : Result (Option Halves) Unsound) : Type 0 where
    pub edges : (items : R → List I) (P Q : Option (Arm R V)) (m : Finger R V) (B : Arm R V) (fs : List ℕ) (k : ℕ) → part_of P ≡ pick side c.left c.right → part_of Q ≡ pick side c.right c.left → tree_of m ≡ level.middle
        → digit_of B ≡ pick side level.back level.front → FitPart (mean means items) rs P k → FitPart (mean means items) rs Q k → Parts weigh means items rs f i (rows_part Q) (occ_part Q) m B fs k → levels m ≤ fuel
        → wt weigh items (rows_part P) ≤ heaviest → ((j : ℕ) → occ_part P j + (same i j + (occ_part Q j + (occ m j + (occ_arm B j + occ_list fs j)))) ≤ 1) → 0 < length fs
        → Halved items rs rs' f' r c.at (pick side (rows_part P) (ends side (rows_part Q) (ends side (rows m) (rows_arm B)))) (pick side (ends side (rows_part Q) (ends side (rows m) (rows_arm B))) (rows_part P))
        (λ j. occ_part P j + (same i j + (occ_part Q j + (occ m j + (occ_arm B j + occ_list fs j))))) (suc (levels m)) (length fs - 1) k

  -- the middle is in the trees a and b, and between them the parts L and Q of a node
  pub record Rejoined (rs rs' : List (Record R V)) (f f' : Link) (fuel i : ℕ) (level : Spine) (s : Halves) (c : Cut) (r : Result (Option Halves) Unsound) : Type 0 where
    pub joins : (items : R → List I) (F : Arm R V) (a : Finger R V) (L Q : Option (Arm R V)) (b : Finger R V) (B : Arm R V) (fs : List ℕ) (top k : ℕ)
        → digit_of F ≡ level.front → tree_of a ≡ s.left → part_of L ≡ c.left → part_of Q ≡ c.right → tree_of b ≡ s.right → digit_of B ≡ level.back
        → FitPart (mean means items) rs L k → FitPart (mean means items) rs Q k → Fit (mean means items) rs b (suc k) → FitArm (mean means items) rs B k
        → Parts weigh means items rs f i (rows_part L) (occ_part L) a F fs k → levels a ≤ fuel → levels b ≤ fuel → levels a < top → levels b < top
        → wt weigh items (rows_part Q) + (wt weigh items (rows b) + wt weigh items (rows_arm B)) ≤ heaviest
        → ((j : ℕ) → (occ_part Q j + (occ b j + occ_arm B j)) + (same i j + (occ_part L j + (occ a j + (occ_arm F j + occ_list fs j)))) ≤ 1) → 0 < length fs
        → Halved items rs rs' f' r c.at ((rows_arm F ++ rows a) ++ rows_part L) (rows_part Q ++ (rows b ++ rows_arm B))
        (λ j. (occ_part Q j + (occ b j + occ_arm B j)) + (same i j + (occ_part L j + (occ a j + (occ_arm F j + occ_list fs j))))) top (length fs - 1) k

  module _ (says : V → Bool) where
    -- the probe turns yes at the twig u of the node w, whose slot is free then
    pub record Reopen (items : R → List I) (rs rs' : List (Record R V)) (f f' : Link) (v : List I) (p' : V) (r : Result Cut Unsound) (w : Twig R V) (k : ℕ) : Type 0 where
      pub L : Option (Arm R V)
      pub u : Twig R V
      pub Q : Option (Arm R V)
      pub ok : r ≡ Ok (cut_of L u Q)
      pub text : rows_twig w ≡ rows_part L ++ (rows_twig u ++ rows_part Q)
      pub occs : (j : ℕ) → occ_twig w j ≡ same (root w) j + (occ_part L j + (occ_twig u j + occ_part Q j))
      pub fit_l : FitPart (mean means items) rs' L k
      pub fit_u : FitTwig (mean means items) rs' u k
      pub fit_r : FitPart (mean means items) rs' Q k
      pub first : Some (root w) ≡ f'
      pub at : At rs' (root w) (Free f)
      pub off : Off rs rs' (same (root w))
      pub calm : (j : ℕ) → Calm (get_or rs j none) (get_or rs' j none)
      pub past : Past means says items v (rows_part L) p'
      pub yes : says (means (upto items (upto items v (rows_part L)) (rows_twig u))) ≡ true

    pub record Reopened (rs rs' : List (Record R V)) (f f' : Link) (n : ℕ) (p p' : V) (r : Result Cut Unsound) : Type 0 where
      pub opens : (items : R → List I) (v : List I) (w : Twig R V) (k : ℕ) → root w ≡ n → FitTwig (mean means items) rs w (suc k) → ((j : ℕ) → occ_twig w j ≤ 1) → weights weigh (upto items v (rows_twig w)) ≤ heaviest
          → p ≡ means v → says (means (upto items v (rows_twig w))) ≡ true → Reopen items rs rs' f f' v p' r w k

    -- the probe turns yes at the twig u of the tree t; l and q are the trees before it and after it
    pub record Cleft (items : R → List I) (rs rs' : List (Record R V)) (f' : Link) (v : List I) (p' : V) (r : Result (Option Halves) Unsound) (t : Finger R V) (fs : List ℕ) (k : ℕ) : Type 0 where
      pub l : Finger R V
      pub u : Twig R V
      pub q : Finger R V
      pub fs' : List ℕ
      pub ok : r ≡ Ok (Some (record { left = tree_of l; at = root u; right = tree_of q }))
      pub first : head_of fs' ≡ f'
      pub text : rows t ≡ rows l ++ (rows_twig u ++ rows q)
      pub past : Past means says items v (rows l) p'
      pub yes : says (means (upto items (upto items v (rows l)) (rows_twig u))) ≡ true
      pub fit_l : Fit (mean means items) rs' l k
      pub fit_u : FitTwig (mean means items) rs' u k
      pub fit_r : Fit (mean means items) rs' q k
      pub chain : Chain rs' fs'
      pub kept : (j : ℕ) → occ l j + (occ_twig u j + (occ q j + occ_list fs' j)) ≡ occ t j + occ_list fs j
      pub frame : Off rs rs' (λ j. occ t j + occ_list fs j)
      pub high_l : levels l ≤ levels t
      pub high_r : levels q ≤ levels t
      pub spent : length fs ≤ length fs' + 1
      pub calm : (j : ℕ) → Calm (get_or rs j none) (get_or rs' j none)

    -- or nothing changes but the place, which moves past all
    abbrev pub Uncut : (R → List I) → List (Record R V) → List (Record R V) → Link → Link → List I → V → Result (Option Halves) Unsound → Finger R V → Type 0
    Uncut items rs rs' f f' v p' r t = (r ≡ Ok None) × (rs' ≡ rs) × (f' ≡ f) × Past means says items v (rows t) p'

    pub record Splits (rs rs' : List (Record R V)) (f f' : Link) (fuel : ℕ) (tr : Tree) (p p' : V) (r : Result (Option Halves) Unsound) : Type 0 where
      pub splits : (items : R → List I) (v : List I) (t : Finger R V) (fs : List ℕ) (k : ℕ) → Has weigh means items rs f tr t fs k → levels t ≤ fuel → weights weigh (upto items v (rows t)) ≤ heaviest → 0 < length fs → p ≡ means v
          → Uncut items rs rs' f f' v p' r t ⊎ Cleft items rs rs' f' v p' r t fs k

    -- A tree of leaves taken apart at the leaf in slot i, which has the first row up to and with which the probe is yes.
    pub record Parted (items : R → List I) (rs rs' : List (Record R V)) (f' : Link) (v : List I) (p' : V) (r : Result (Option Halves) Unsound) (t : Finger R V) (fs : List ℕ) : Type 0 where
      pub l : Finger R V
      pub i : ℕ
      pub row : R
      pub value : V
      pub q : Finger R V
      pub fs' : List ℕ
      pub ok : r ≡ Ok (Some (record { left = tree_of l; at = i; right = tree_of q }))
      pub first : head_of fs' ≡ f'
      pub text : rows t ≡ rows l ++ (row ∷ rows q)
      pub past : Past means says items v (rows l) p'
      pub never : Never means says items v (rows l)
      pub yes : says (means (upto items v (rows l ++ (row ∷ [])))) ≡ true
      pub fit_l : Fit (mean means items) rs' l 0
      pub at : At rs' i (Leaf row value)
      pub right : value ≡ mean means items (row ∷ [])
      pub fit_r : Fit (mean means items) rs' q 0
      pub chain : Chain rs' fs'
      -- the slots are those of before
      pub kept : (j : ℕ) → occ l j + (same i j + (occ q j + occ_list fs' j)) ≡ occ t j + occ_list fs j
      pub frame : Off rs rs' (λ j. occ t j + occ_list fs j)
      pub high_l : levels l ≤ levels t
      pub high_r : levels q ≤ levels t
      -- at most one slot is taken
      pub spent : length fs ≤ length fs' + 1
      -- no leaf or node is new
      pub calm : (j : ℕ) → Calm (get_or rs j none) (get_or rs' j none)

    pub record SplitAt (rs rs' : List (Record R V)) (f f' : Link) (tr : Tree) (p p' : V) (r : Result (Option Halves) Unsound) : Type 0 where
      pub splits : (items : R → List I) (v : List I) (t : Finger R V) (fs : List ℕ) → Holds weigh means items rs f tr t fs → weights weigh (upto items v (rows t)) ≤ heaviest → p ≡ means v
          → (Uncut items rs rs' f f' v p' r t × Never means says items v (rows t)) ⊎ Parted items rs rs' f' v p' r t fs
