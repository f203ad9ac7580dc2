-- Slots hold at most one ghost at a root. Assumes nothing.
use Rattle.std.proofs.Common.{sym, refl, ap, ◌∙◌, arith}
use Rattle.std.specs.Prelude.{◌≡◌, List, [], ◌∷◌, ℕ, zero, suc, get_or}
use Rattle.slots.specs.Words.{Record, Free, Leaf, Node2, Node3, Level}
use Rattle.slots.specs.Theorems.{Unique}
use Rattle.slots.specs.Ghost.{Twig, leaf, two, three, Arm, a1, a2, a3, a4, Finger, nil, one, deep, none, root, digit_of, tree_of, At, FitTwig, FitArm, Fit, head_of, Chain}
use Rattle.slots.proofs.Shapes.{arm_one, arm_two, arm_three, arm_four, tree_empty, tree_single}

module _ {R V : Type 0} where
  pub at_same : {rs : List (Record R V)} {i j : ℕ} {c d : Record R V} → i ≡ j → At rs i c → At rs j d → c ≡ d
  at_same {rs} e x y = sym x.is ∙ ap (λ q. get_or rs q none) e ∙ y.is

module _ {R V : Type 0} (mn : List R → V) (rs : List (Record R V)) where
  pub twig_same : (k : ℕ) (x y : Twig R V) → root x ≡ root y → FitTwig mn rs x k → FitTwig mn rs y k → x ≡ y
  twig_same zero (leaf i row v) (leaf j row₁ v₁) e fx fy = let h : Leaf row v ≡ Leaf row₁ v₁ = at_same e fx.0 fy.0 in cc
  twig_same zero (leaf i row v) (two j v₁ l₁ r₁) e fx fy = absurd fy
  twig_same zero (leaf i row v) (three j v₁ l₁ m₁ r₁) e fx fy = absurd fy
  twig_same zero (two i v l r) y e fx fy = absurd fx
  twig_same zero (three i v l m r) y e fx fy = absurd fx
  twig_same (suc k) (leaf i row v) y e fx fy = absurd fx
  twig_same (suc k) (two i v l r) (leaf j row₁ v₁) e fx fy = absurd fy
  twig_same (suc k) (two i v l r) (two j v₁ l₁ r₁) e fx fy =
      let h : Node2 (root l) (root r) v ≡ Node2 (root l₁) (root r₁) v₁ = at_same e fx.0 fy.0 in
      let p : l ≡ l₁ = twig_same k l l₁ (cc) fx.2 fy.2 in
      let q : r ≡ r₁ = twig_same k r r₁ (cc) fx.3 fy.3 in
      cc
  twig_same (suc k) (two i v l r) (three j v₁ l₁ m₁ r₁) e fx fy =
      let h : Node2 (root l) (root r) v ≡ Node3 (root l₁) (root m₁) (root r₁) v₁ = at_same e fx.0 fy.0 in
      absurd (let z : ◌≡◌ {A = ℕ} 0 1 = cc in omega arith)
  twig_same (suc k) (three i v l m r) (leaf j row₁ v₁) e fx fy = absurd fy
  twig_same (suc k) (three i v l m r) (two j v₁ l₁ r₁) e fx fy =
      let h : Node3 (root l) (root m) (root r) v ≡ Node2 (root l₁) (root r₁) v₁ = at_same e fx.0 fy.0 in
      absurd (let z : ◌≡◌ {A = ℕ} 0 1 = cc in omega arith)
  twig_same (suc k) (three i v l m r) (three j v₁ l₁ m₁ r₁) e fx fy =
      let h : Node3 (root l) (root m) (root r) v ≡ Node3 (root l₁) (root m₁) (root r₁) v₁ = at_same e fx.0 fy.0 in
      let p : l ≡ l₁ = twig_same k l l₁ (cc) fx.2 fy.2 in
      let q : m ≡ m₁ = twig_same k m m₁ (cc) fx.3 fy.3 in
      let o : r ≡ r₁ = twig_same k r r₁ (cc) fx.4 fy.4 in
      cc

  pub arm_same : (k : ℕ) (x y : Arm R V) → digit_of x ≡ digit_of y → FitArm mn rs x k → FitArm mn rs y k → x ≡ y
  arm_same k (a1 a) y e fx fy = arm_one (λ A. FitArm mn rs A k → a1 a ≡ A) (root a)
      (λ b p f. ap a1 (twig_same k a b (sym p) fx f)) y (sym e) fy
  arm_same k (a2 a₁ a₂) y e fx fy = arm_two (λ A. FitArm mn rs A k → a2 a₁ a₂ ≡ A) (root a₁) (root a₂)
      (λ b₁ b₂ p₁ p₂ f. let q₁ = twig_same k a₁ b₁ (sym p₁) fx.0 f.0 in let q₂ = twig_same k a₂ b₂ (sym p₂) fx.1 f.1 in cc) y (sym e) fy
  arm_same k (a3 a₁ a₂ a₃) y e fx fy = arm_three (λ A. FitArm mn rs A k → a3 a₁ a₂ a₃ ≡ A) (root a₁) (root a₂) (root a₃)
      (λ b₁ b₂ b₃ p₁ p₂ p₃ f. let q₁ = twig_same k a₁ b₁ (sym p₁) fx.0 f.0 in let q₂ = twig_same k a₂ b₂ (sym p₂) fx.1 f.1 in let q₃ = twig_same k a₃ b₃ (sym p₃) fx.2 f.2 in cc) y (sym e) fy
  arm_same k (a4 a₁ a₂ a₃ a₄) y e fx fy = arm_four (λ A. FitArm mn rs A k → a4 a₁ a₂ a₃ a₄ ≡ A) (root a₁) (root a₂) (root a₃) (root a₄)
      (λ b₁ b₂ b₃ b₄ p₁ p₂ p₃ p₄ f. let q₁ = twig_same k a₁ b₁ (sym p₁) fx.0 f.0 in let q₂ = twig_same k a₂ b₂ (sym p₂) fx.1 f.1 in let q₃ = twig_same k a₃ b₃ (sym p₃) fx.2 f.2 in let q₄ = twig_same k a₄ b₄ (sym p₄) fx.3 f.3 in cc) y (sym e) fy

  pub tree_same : (k : ℕ) (x y : Finger R V) → tree_of x ≡ tree_of y → Fit mn rs x k → Fit mn rs y k → x ≡ y
  tree_same k nil y e fx fy = tree_empty (λ t. nil ≡ t) refl y (sym e)
  tree_same k (one a) y e fx fy = tree_single (λ t. Fit mn rs t k → one a ≡ t) (root a) (λ b p f. ap one (twig_same k a b (sym p) fx f)) y (sym e) fy
  tree_same k (deep i v f m b) nil e fx fy = absurd (let z : ◌≡◌ {A = ℕ} 0 1 = cc in omega arith)
  tree_same k (deep i v f m b) (one a) e fx fy = absurd (let z : ◌≡◌ {A = ℕ} 0 1 = cc in omega arith)
  tree_same k (deep i v f m b) (deep j v₁ f₁ m₁ b₁) e fx fy =
      let h : Level (digit_of f) (tree_of m) (digit_of b) v ≡ Level (digit_of f₁) (tree_of m₁) (digit_of b₁) v₁ = at_same (cc) fx.0 fy.0 in
      let p : f ≡ f₁ = arm_same k f f₁ (cc) fx.2 fy.2 in
      let q : m ≡ m₁ = tree_same (suc k) m m₁ (cc) fx.3 fy.3 in
      let o : b ≡ b₁ = arm_same k b b₁ (cc) fx.4 fy.4 in
      cc

module _ {R V : Type 0} (rs : List (Record R V)) where
  pub chain_same : (xs ys : List ℕ) → head_of xs ≡ head_of ys → Chain rs xs → Chain rs ys → xs ≡ ys
  chain_same [] [] e fx fy = refl
  chain_same [] (j ∷ ys) e fx fy = absurd (let z : ◌≡◌ {A = ℕ} 0 1 = cc in omega arith)
  chain_same (i ∷ xs) [] e fx fy = absurd (let z : ◌≡◌ {A = ℕ} 0 1 = cc in omega arith)
  chain_same (i ∷ xs) (j ∷ ys) e fx fy =
      let ij : i ≡ j = cc in
      let h : ◌≡◌ {A = Record R V} (Free (head_of xs)) (Free (head_of ys)) = at_same ij fx.0 fy.0 in
      let p : xs ≡ ys = chain_same xs ys (cc) fx.1 fy.1 in
      cc

pub unique : (R V : Type 0) → Unique R V
unique R V = record { tree = λ mn rs k s t e fs ft. tree_same mn rs k s t e fs ft; chain = λ rs is js e fi fj. chain_same rs is js e fi fj }
