-- A tree whose rows mean the same by two readings fits by the one if by the other; so it does when the store grows.
use Rattle.std.proofs.Common.{◌≡◌, ℕ, zero, suc, List, ◌++◌, sym, ap, ◌∙◌}
use Rattle.slots.specs.Ghost.{Twig, leaf, two, three, Arm, a1, a2, a3, a4, Finger, nil, one, deep, rows_twig, rows_arm, rows, FitTwig, FitArm, Fit}
use Rattle.slots.specs.declared.records.Record.{Record}
use Rattle.pieces.specs.Rows.{AllGood}
use Rattle.pieces.specs.Sound.{TextValue, text_means, text_mean}
use Rattle.pieces.specs.declared.rows.PieceRow.{PieceRow}
use Rattle.pieces.proofs.RowParts.{all_left, all_right, flat_more}

-- P is kept by both parts of a list
module _ {R V : Type 0} (rs : List (Record R V)) (mn mn' : List R → V) (P : List R → Type 0)
    (left : (xs ys : List R) → P (xs ++ ys) → P xs) (right : (xs ys : List R) → P (xs ++ ys) → P ys)
    (eq : (xs : List R) → P xs → mn xs ≡ mn' xs) where
  to_twig : (u : Twig R V) (k : ℕ) → P (rows_twig u) → FitTwig mn rs u k → FitTwig mn' rs u k
  to_twig (leaf i row v) zero a fit = (fit.0, fit.1 ∙ eq _ a)
  to_twig (leaf i row v) (suc k) a fit = fit
  to_twig (two i v l r) zero a fit = fit
  to_twig (two i v l r) (suc k) a fit =
      (fit.0, fit.1 ∙ eq _ a, to_twig l k (left (rows_twig l) (rows_twig r) a) fit.2, to_twig r k (right (rows_twig l) (rows_twig r) a) fit.3)
  to_twig (three i v l m r) zero a fit = fit
  to_twig (three i v l m r) (suc k) a fit =
      let b = left (rows_twig l ++ rows_twig m) (rows_twig r) a in
      (fit.0, fit.1 ∙ eq _ a, to_twig l k (left (rows_twig l) (rows_twig m) b) fit.2, to_twig m k (right (rows_twig l) (rows_twig m) b) fit.3, to_twig r k (right (rows_twig l ++ rows_twig m) (rows_twig r) a) fit.4)

  to_arm : (u : Arm R V) (k : ℕ) → P (rows_arm u) → FitArm mn rs u k → FitArm mn' rs u k
  to_arm (a1 x) k a fit = to_twig x k a fit
  to_arm (a2 x y) k a fit = (to_twig x k (left (rows_twig x) (rows_twig y) a) fit.0, to_twig y k (right (rows_twig x) (rows_twig y) a) fit.1)
  to_arm (a3 x y z) k a fit =
      let b = left (rows_twig x ++ rows_twig y) (rows_twig z) a in
      (to_twig x k (left (rows_twig x) (rows_twig y) b) fit.0, to_twig y k (right (rows_twig x) (rows_twig y) b) fit.1, to_twig z k (right (rows_twig x ++ rows_twig y) (rows_twig z) a) fit.2)
  to_arm (a4 x y z w) k a fit =
      let c = left ((rows_twig x ++ rows_twig y) ++ rows_twig z) (rows_twig w) a in
      let b = left (rows_twig x ++ rows_twig y) (rows_twig z) c in
      (to_twig x k (left (rows_twig x) (rows_twig y) b) fit.0, to_twig y k (right (rows_twig x) (rows_twig y) b) fit.1, to_twig z k (right (rows_twig x ++ rows_twig y) (rows_twig z) c) fit.2, to_twig w k (right ((rows_twig x ++ rows_twig y) ++ rows_twig z) (rows_twig w) a) fit.3)

  pub to_tree : (t : Finger R V) (k : ℕ) → P (rows t) → Fit mn rs t k → Fit mn' rs t k
  to_tree nil k a fit = fit
  to_tree (one u) k a fit = to_twig u k a fit
  to_tree (deep i v f m b) k a fit =
      let c = left (rows_arm f ++ rows m) (rows_arm b) a in
      (fit.0, fit.1 ∙ eq _ a, to_arm f k (left (rows_arm f) (rows m) c) fit.2, to_tree m (suc k) (right (rows_arm f) (rows m) c) fit.3, to_arm b k (right (rows_arm f ++ rows m) (rows_arm b) a) fit.4)

pub fit_more : {A : Type 0} (am : List ℕ → A) (B s : List ℕ) (rs : List (Record PieceRow (TextValue A))) (t : Finger PieceRow (TextValue A)) (k : ℕ)
    → AllGood B (rows t) → Fit (text_mean am B) rs t k → Fit (text_mean am (B ++ s)) rs t k
fit_more am B s rs t k g fit = to_tree rs (text_mean am B) (text_mean am (B ++ s)) (AllGood B) (all_left B) (all_right B) (λ xs h. ap (text_means am) (sym (flat_more B s xs h))) t k g fit
