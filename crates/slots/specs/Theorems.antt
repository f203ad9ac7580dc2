-- Laws of sound memory.
use Rattle.std.specs.Prelude.{◌≡◌, List, [], ◌∷◌, ℕ, zero, suc, ◌+◌, ◌*◌, ◌≤◌, length, ◌^◌}
use Rattle.slots.specs.Words.{Record}
use Rattle.slots.specs.Ghost.{Twig, Finger, head_of, tree_of, rows_twig, rows, levels, occ_twig, occ, Fit, Chain}

-- how often the first w slots are counted by τ
unfoldable pub total : ℕ → (ℕ → ℕ) → ℕ
total zero τ = 0
total (suc w) τ = τ w + total w τ

module _ {R V : Type 0} where
  abbrev pub occ_trees : List (Finger R V) → ℕ → ℕ
  occ_trees [] k = 0
  occ_trees (t ∷ ts) k = occ t k + occ_trees ts k

  abbrev pub occ_twigs : List (Twig R V) → ℕ → ℕ
  occ_twigs [] k = 0
  occ_twigs (u ∷ us) k = occ_twig u k + occ_twigs us k

  abbrev pub count_trees : List (Finger R V) → ℕ
  count_trees [] = 0
  count_trees (t ∷ ts) = length (rows t) + count_trees ts

  abbrev pub count_twigs : List (Twig R V) → ℕ
  count_twigs [] = 0
  count_twigs (u ∷ us) = length (rows_twig u) + count_twigs us

-- Trees and loose twigs name at most two slots for each of their elements.
pub record Economy (R V : Type 0) : Type 0 where
  pub frugal : (w : ℕ) (ts : List (Finger R V)) (us : List (Twig R V)) → total w (λ i. occ_trees ts i + occ_twigs us i) ≤ 2 * (count_trees ts + count_twigs us)

-- A tree of d levels has at least 2 ^ (d + 1) - 2 elements.
pub record Shallow (R V : Type 0) : Type 0 where
  pub elements : (mean : List R → V) (rs : List (Record R V)) (t : Finger R V) → Fit mean rs t 0 → 2 ^ (levels t + 1) ≤ length (rows t) + 2

-- Slots hold at most one tree at a root, and one chain.
pub record Unique (R V : Type 0) : Type 0 where
  pub tree : (mean : List R → V) (rs : List (Record R V)) (k : ℕ) (s t : Finger R V) → tree_of s ≡ tree_of t → Fit mean rs s k → Fit mean rs t k → s ≡ t
  pub chain : (rs : List (Record R V)) (is js : List ℕ) → head_of is ≡ head_of js → Chain rs is → Chain rs js → is ≡ js
