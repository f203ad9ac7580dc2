-- What the searches promise.
use Rattle.std.specs.Prelude.{◌≡◌, Bool, true, false, List, ◌++◌, ◌⊎◌, ℕ, ◌+◌, ◌≤◌, length, get_or}
use Rattle.std.specs.declared.option.Option.{Option}
use Rattle.std.specs.declared.option.Option.TheVariants.{None, Some}
use Rattle.std.specs.declared.result.Result.{Result}
use Rattle.std.specs.declared.result.Result.TheVariants.{Ok}
use Rattle.seek.specs.Words.{Unsound, Digit, Tree, Record}
use Rattle.slots.specs.Ghost.{Twig, Arm, Finger, none, root, digit_of, part_of, tree_of, rows_twig, rows_arm, rows_part, rows, levels, occ_twig, occ_arm, occ_part, FitTwig, FitArm, FitPart, Fit}
use Rattle.slots.specs.Values.{mean, value_in}
use Rattle.slots.specs.Holds.{most}
use Rattle.measures.specs.Law.{weights, heaviest}
use Rattle.seek.specs.declared.digits.Cut.{Cut}
use Rattle.seek.specs.Places.{upto, Past, Found, Lands, Finds}

module _ {R V : Type 0} where
  abbrev pub cut_of : Option (Arm R V) → Twig R V → Option (Arm R V) → Cut
  cut_of L u Q = record { left = part_of L; at = root u; right = part_of Q }

  -- the digit is the left part, the twig and the right part
  pub record Slit (mn : List R → V) (rs : List (Record R V)) (k : ℕ) (A : Arm R V) (L : Option (Arm R V)) (u : Twig R V) (Q : Option (Arm R V)) : Type 0 where
    pub text : rows_arm A ≡ rows_part L ++ (rows_twig u ++ rows_part Q)
    pub occs : (j : ℕ) → occ_arm A j ≡ occ_part L j + (occ_twig u j + occ_part Q j)
    pub fit_l : FitPart mn rs L k
    pub fit_u : FitTwig mn rs u k
    pub fit_r : FitPart mn rs Q k

module _ {R I V : Type 0} (weigh : I → ℕ) (means : List I → V) (says : V → Bool) where
  -- the probe is yes after the rows T, or the place moves past them
  abbrev pub Passes : (R → List I) → List I → List R → V → V → Result Bool Unsound → Type 0
  Passes items w T p p' r = ((r ≡ Ok true) × (p' ≡ p) × (says (means (upto items w T)) ≡ true)) ⊎ ((r ≡ Ok false) × Past means says items w T p')

  pub record Passed (rs : List (Record R V)) (i : ℕ) (p p' : V) (r : Result Bool Unsound) : Type 0 where
    pub passes : (items : R → List I) (w : List I) (T : List R) → value_in (get_or rs i none) ≡ Ok (mean means items T) → weights weigh (upto items w T) ≤ heaviest → p ≡ means w → Passes items w T p p' r

  pub record TreePassed (rs : List (Record R V)) (tr : Tree) (p p' : V) (r : Result Bool Unsound) : Type 0 where
    pub passes : (items : R → List I) (w : List I) (t : Finger R V) (k : ℕ) → tree_of t ≡ tr → Fit (mean means items) rs t k → weights weigh (upto items w (rows t)) ≤ heaviest → p ≡ means w → Passes items w (rows t) p p' r

  -- the probe turns yes at the twig u of the digit A
  pub record Struck (items : R → List I) (rs : List (Record R V)) (w : List I) (A : Arm R V) (k : ℕ) (p : V) (r : Result (Option Cut) Unsound) : Type 0 where
    pub L : Option (Arm R V)
    pub u : Twig R V
    pub Q : Option (Arm R V)
    pub ok : r ≡ Ok (Some (cut_of L u Q))
    pub slit : Slit (mean means items) rs k A L u Q
    pub past : Past means says items w (rows_part L) p
    pub yes : says (means (upto items (upto items w (rows_part L)) (rows_twig u))) ≡ true

  -- the rows X of the digit have been tried
  abbrev pub Tries : (R → List I) → List (Record R V) → List I → Arm R V → ℕ → List R → V → Result (Option Cut) Unsound → Type 0
  Tries items rs w A k X p r = ((r ≡ Ok None) × Past means says items w X p) ⊎ Struck items rs w A k p r

  pub record Tried (rs : List (Record R V)) (before : Result (Option Cut) Unsound) (c : Cut) (p p' : V) (r : Result (Option Cut) Unsound) : Type 0 where
    pub tries : (items : R → List I) (w : List I) (A : Arm R V) (L : Option (Arm R V)) (u : Twig R V) (Q : Option (Arm R V)) (k : ℕ) → c ≡ cut_of L u Q → Slit (mean means items) rs k A L u Q
        → weights weigh (upto items w (rows_arm A)) ≤ heaviest → Tries items rs w A k (rows_part L) p before → Tries items rs w A k (rows_part L ++ rows_twig u) p' r

  pub record Picked (rs : List (Record R V)) (d : Digit) (p p' : V) (r : Result (Option Cut) Unsound) : Type 0 where
    pub picks : (items : R → List I) (w : List I) (A : Arm R V) (k : ℕ) → digit_of A ≡ d → FitArm (mean means items) rs A k → weights weigh (upto items w (rows_arm A)) ≤ heaviest → p ≡ means w → Tries items rs w A k (rows_arm A) p' r

  pub record TwigSearched (rs : List (Record R V)) (height i : ℕ) (p p' : V) (r : Result ℕ Unsound) : Type 0 where
    pub finds : (items : R → List I) (w : List I) (u : Twig R V) → root u ≡ i → FitTwig (mean means items) rs u height → weights weigh (upto items w (rows_twig u)) ≤ heaviest → p ≡ means w
        → says (means (upto items w (rows_twig u))) ≡ true → (j : ℕ) × (r ≡ Ok j) × Found means says items rs w (rows_twig u) p' j

  pub record DigitSearched (rs : List (Record R V)) (height : ℕ) (d : Digit) (p p' : V) (r : Result (Option ℕ) Unsound) : Type 0 where
    pub finds : (items : R → List I) (w : List I) (A : Arm R V) → digit_of A ≡ d → FitArm (mean means items) rs A height → weights weigh (upto items w (rows_arm A)) ≤ heaviest → p ≡ means w → Lands means says items rs w (rows_arm A) p' r

  pub record TreeSearched (rs : List (Record R V)) (height : ℕ) (tr : Tree) (p p' : V) (r : Result (Option ℕ) Unsound) : Type 0 where
    pub finds : (items : R → List I) (w : List I) (t : Finger R V) → tree_of t ≡ tr → Fit (mean means items) rs t height → height + levels t ≤ 16 → weights weigh (upto items w (rows t)) ≤ heaviest → p ≡ means w → Lands means says items rs w (rows t) p' r

  pub record Searched (rs : List (Record R V)) (tr : Tree) (p p' : V) (r : Result (Option ℕ) Unsound) : Type 0 where
    pub finds : (items : R → List I) (w : List I) (t : Finger R V) → tree_of t ≡ tr → Fit (mean means items) rs t 0 → length (rows t) ≤ most → weights weigh (upto items w (rows t)) ≤ heaviest → p ≡ means w → Finds means says items rs w (rows t) p' r
