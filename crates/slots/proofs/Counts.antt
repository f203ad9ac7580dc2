-- How many slots stay free: slots in use are at most twice the elements. Assumes nothing.
use Rattle.std.proofs.Common.{ltb, sym, refl, ap, subst, ⊎_elim, arith, length-append, lt-ltb}
use Rattle.std.specs.Prelude.{◌≡◌, Bool, true, false, cond, List, [], ◌∷◌, ◌++◌, ℕ, zero, suc, ◌+◌, ◌*◌, ◌≤◌, ◌<◌, length}
use Rattle.std.specs.declared.option.Option.{Option}
use Rattle.std.specs.declared.option.Option.TheVariants.{None, Some}
use Rattle.slots.specs.Ghost.{Twig, leaf, two, three, Arm, a1, a2, a3, a4, Finger, nil, one, deep, same, named, occ_list, rows_twig, rows_arm, rows_part, rows, occ_twig, occ_arm, occ_part, occ}
use Rattle.slots.specs.Theorems.{total, occ_trees, occ_twigs, count_trees, count_twigs, Economy}
use Rattle.slots.proofs.Frames.{same_cases, same_self}

total_zero : (τ : ℕ → ℕ) → total 0 τ ≡ 0
unfolding total
total_zero τ = refl

total_suc : (w : ℕ) (τ : ℕ → ℕ) → total (suc w) τ ≡ τ w + total w τ
unfolding total
total_suc w τ = refl

pub total_le : (w : ℕ) (σ τ : ℕ → ℕ) → ((i : ℕ) → i < w → σ i ≤ τ i) → total w σ ≤ total w τ
total_le zero σ τ h = omega (arith, total_zero σ)
total_le (suc w) σ τ h = omega (arith, total_suc w σ, total_suc w τ, h w (omega arith), total_le w σ τ (λ i lt. h i (omega arith)))

pub total_add : (w : ℕ) (σ τ : ℕ → ℕ) → total w (λ i. σ i + τ i) ≡ total w σ + total w τ
total_add zero σ τ = omega (arith, total_zero (λ i. σ i + τ i), total_zero σ, total_zero τ)
total_add (suc w) σ τ = omega (arith, total_suc w (λ i. σ i + τ i), total_suc w σ, total_suc w τ, total_add w σ τ)

total_none : (w i : ℕ) → w ≤ i → total w (same i) ≡ 0
total_none zero i h = total_zero (same i)
total_none (suc w) i h = ⊎_elim (λ e. absurd (omega arith)) (λ z. omega (arith, z.0, total_suc w (same i), total_none w i (omega arith))) (same_cases i w)

pub total_same : (w i : ℕ) → total w (same i) ≤ 1
total_same zero i = omega (arith, total_zero (same i))
total_same (suc w) i = ⊎_elim
    (λ (e : w ≡ i). omega (arith, total_suc w (same i), total_none w i (omega arith), subst (λ k. same i k ≡ 1) (sym e) (same_self i)))
    (λ z. omega (arith, z.0, total_suc w (same i), total_same w i)) (same_cases i w)

total_nothing : (w : ℕ) → total w (λ _. 0) ≤ 0
total_nothing zero = omega (arith, total_zero (λ _. 0))
total_nothing (suc w) = omega (arith, total_suc w (λ _. 0), total_nothing w)

pub total_list : (w : ℕ) (fs : List ℕ) → total w (occ_list fs) ≤ length fs
total_list w [] = total_nothing w
total_list w (i ∷ fs) = omega (arith, total_add w (same i) (occ_list fs), total_same w i, total_list w fs)

pub named_one : (w i : ℕ) → i < w → named w i ≡ 1
unfolding named
named_one w i h = ap (λ b. cond b 1 0) (lt-ltb i w h)

pub named_le : (w i : ℕ) → named w i ≤ 1
unfolding named
named_le w i = go (ltb i w)
  where
    go : (b : Bool) → cond b 1 0 ≤ 1
    go true = omega arith
    go false = omega arith

total_named : (w k : ℕ) → k ≤ w → k ≤ total k (named w)
total_named w zero h = omega arith
total_named w (suc k) h = omega (arith, total_suc k (named w), named_one w k (omega arith), total_named w k (omega arith))

-- what τ and the chain name together are all of the first w slots: what τ does not name is free
pub supply : (w n : ℕ) (τ : ℕ → ℕ) (fs : List ℕ) → ((i : ℕ) → τ i + occ_list fs i ≡ named w i) → total w τ ≤ n → w ≤ n + length fs
supply w n τ fs h le = omega (arith, total_named w w (omega arith), total_le w (named w) (λ i. τ i + occ_list fs i) (λ i lt. omega (arith, h i)), total_add w τ (occ_list fs), total_list w fs)

module _ {R V : Type 0} where
  pub twig_count : (w : ℕ) (u : Twig R V) → total w (occ_twig u) + 1 ≤ 2 * length (rows_twig u)
  twig_count w (leaf i row v) = omega (arith, total_same w i)
  twig_count w (two i v l r) = omega (arith, total_add w (same i) (λ k. occ_twig l k + occ_twig r k), total_add w (occ_twig l) (occ_twig r), total_same w i, twig_count w l, twig_count w r, length-append (rows_twig l) (rows_twig r))
  twig_count w (three i v l m r) = omega (arith, total_add w (same i) (λ k. occ_twig l k + (occ_twig m k + occ_twig r k)), total_add w (occ_twig l) (λ k. occ_twig m k + occ_twig r k), total_add w (occ_twig m) (occ_twig r), total_same w i, twig_count w l, twig_count w m, twig_count w r, length-append (rows_twig l ++ rows_twig m) (rows_twig r), length-append (rows_twig l) (rows_twig m))

  pub arm_count : (w : ℕ) (a : Arm R V) → total w (occ_arm a) + 1 ≤ 2 * length (rows_arm a)
  arm_count w (a1 a) = twig_count w a
  arm_count w (a2 a b) = omega (arith, total_add w (occ_twig a) (occ_twig b), twig_count w a, twig_count w b, length-append (rows_twig a) (rows_twig b))
  arm_count w (a3 a b c) = omega (arith, total_add w (occ_twig a) (λ k. occ_twig b k + occ_twig c k), total_add w (occ_twig b) (occ_twig c), twig_count w a, twig_count w b, twig_count w c, length-append (rows_twig a ++ rows_twig b) (rows_twig c), length-append (rows_twig a) (rows_twig b))
  arm_count w (a4 a b c d) = omega (arith, total_add w (occ_twig a) (λ k. occ_twig b k + (occ_twig c k + occ_twig d k)), total_add w (occ_twig b) (λ k. occ_twig c k + occ_twig d k), total_add w (occ_twig c) (occ_twig d), twig_count w a, twig_count w b, twig_count w c, twig_count w d, length-append ((rows_twig a ++ rows_twig b) ++ rows_twig c) (rows_twig d), length-append (rows_twig a ++ rows_twig b) (rows_twig c), length-append (rows_twig a) (rows_twig b))

  pub part_count : (w : ℕ) (a : Option (Arm R V)) → total w (occ_part a) ≤ 2 * length (rows_part a)
  part_count w None = omega (arith, total_nothing w)
  part_count w (Some a) = omega (arith, arm_count w a)

  pub tree_count : (w : ℕ) (t : Finger R V) → total w (occ t) ≤ 2 * length (rows t)
  tree_count w nil = omega (arith, total_nothing w)
  tree_count w (one u) = omega (arith, twig_count w u)
  tree_count w (deep i v f m b) = omega (arith, total_add w (same i) (λ k. occ_arm f k + (occ m k + occ_arm b k)), total_add w (occ_arm f) (λ k. occ m k + occ_arm b k), total_add w (occ m) (occ_arm b), total_same w i, arm_count w f, tree_count w m, arm_count w b, length-append (rows_arm f ++ rows m) (rows_arm b), length-append (rows_arm f) (rows m))

  trees_count : (w : ℕ) (ts : List (Finger R V)) → total w (occ_trees ts) ≤ 2 * count_trees ts
  trees_count w [] = omega (arith, total_nothing w)
  trees_count w (t ∷ ts) = omega (arith, total_add w (occ t) (occ_trees ts), tree_count w t, trees_count w ts)

  twigs_count : (w : ℕ) (us : List (Twig R V)) → total w (occ_twigs us) ≤ 2 * count_twigs us
  twigs_count w [] = omega (arith, total_nothing w)
  twigs_count w (u ∷ us) = omega (arith, total_add w (occ_twig u) (occ_twigs us), twig_count w u, twigs_count w us)

pub economy : (R V : Type 0) → Economy R V
economy R V = record { frugal = λ w ts us. omega (arith, total_add w (occ_trees ts) (occ_twigs us), trees_count w ts, twigs_count w us) }
