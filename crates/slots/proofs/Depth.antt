-- A tree of many levels has many rows. Assumes nothing.
use Rattle.std.proofs.Common.{◌^◌, ap, ⊎_elim, arith, length-append, pow_mono}
use native.Mathlib.Nat.{two-pow-succ}
use Rattle.std.proofs.lemmas.Bool.{cases_lt}
use Rattle.std.specs.Prelude.{◌≡◌, List, ◌++◌, ℕ, zero, suc, ◌+◌, ◌≤◌, ◌<◌, length}
use Rattle.slots.specs.Words.{Record}
use Rattle.slots.specs.Ghost.{Twig, leaf, two, three, Arm, a1, a2, a3, a4, Finger, nil, one, deep, rows_twig, rows_arm, rows, levels, FitTwig, FitArm, Fit}
use Rattle.slots.specs.Theorems.{Shallow}

module _ {R V : Type 0} (mn : List R → V) (rs : List (Record R V)) where
  twig_rows : (t : Twig R V) (k : ℕ) → FitTwig mn rs t k → 2 ^ k ≤ length (rows_twig t)
  twig_rows (leaf i row v) zero fit = omega arith
  twig_rows (leaf i row v) (suc k) fit = absurd fit
  twig_rows (two i v l r) zero fit = absurd fit
  twig_rows (two i v l r) (suc k) fit = omega (arith, two-pow-succ k, length-append (rows_twig l) (rows_twig r), twig_rows l k fit.2, twig_rows r k fit.3)
  twig_rows (three i v l m r) zero fit = absurd fit
  twig_rows (three i v l m r) (suc k) fit = omega (arith, two-pow-succ k, length-append (rows_twig l ++ rows_twig m) (rows_twig r), length-append (rows_twig l) (rows_twig m), twig_rows l k fit.2, twig_rows r k fit.4)

  arm_rows : (a : Arm R V) (k : ℕ) → FitArm mn rs a k → 2 ^ k ≤ length (rows_arm a)
  arm_rows (a1 a) k fit = twig_rows a k fit
  arm_rows (a2 a b) k fit = omega (arith, length-append (rows_twig a) (rows_twig b), twig_rows a k fit.0)
  arm_rows (a3 a b c) k fit = omega (arith, length-append (rows_twig a ++ rows_twig b) (rows_twig c), twig_rows c k fit.2)
  arm_rows (a4 a b c d) k fit = omega (arith, length-append ((rows_twig a ++ rows_twig b) ++ rows_twig c) (rows_twig d), twig_rows d k fit.3)

  -- over twigs k high
  pub tree_rows : (t : Finger R V) (k : ℕ) → Fit mn rs t k → 2 ^ suc (k + levels t) ≤ length (rows t) + 2 ^ suc k
  tree_rows nil k fit = let e : 2 ^ suc (k + 0) ≡ 2 ^ suc k = ap (λ q. 2 ^ suc q) (omega arith) in omega arith
  tree_rows (one t) k fit = let e : 2 ^ suc (k + 0) ≡ 2 ^ suc k = ap (λ q. 2 ^ suc q) (omega arith) in omega arith
  tree_rows (deep i v f m b) k fit =
      let e : 2 ^ suc (k + suc (levels m)) ≡ 2 ^ suc (suc k + levels m) = ap (λ q. 2 ^ suc q) (omega arith) in
      omega (arith, e, tree_rows m (suc k) fit.3, two-pow-succ k, two-pow-succ (suc k), arm_rows f k fit.2, arm_rows b k fit.4, length-append (rows_arm f ++ rows m) (rows_arm b), length-append (rows_arm f) (rows m))

  pub elements : (t : Finger R V) → Fit mn rs t 0 → 2 ^ (levels t + 1) ≤ length (rows t) + 2
  elements t fit =
      let e : 2 ^ (levels t + 1) ≡ 2 ^ suc (0 + levels t) = ap (λ q. 2 ^ q) (omega arith) in
      let h : 2 ^ suc (0 + levels t) ≤ length (rows t) + 2 = tree_rows t 0 fit in
      omega arith

  -- as many rows as the slots of a slice can hold, and a few more
  pub few_levels : (t : Finger R V) → Fit mn rs t 0 → length (rows t) ≤ 4100 → levels t ≤ 11
  few_levels t fit few = ⊎_elim (λ (lt : levels t < 12). omega arith) (λ (ge : 12 ≤ levels t).
      let h : 2 ^ 13 ≤ 2 ^ (levels t + 1) = pow_mono {i = 13} {j = levels t + 1} (omega arith) in
      let g : 8192 ≤ 2 ^ (levels t + 1) = h in
      absurd (omega (arith, elements t fit))) (cases_lt (levels t) 12)

pub shallow : (R V : Type 0) → Shallow R V
shallow R V = record { elements = λ mn rs t fit. elements mn rs t fit }
