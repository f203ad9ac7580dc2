-- Which ghost a digit, a tree or a result stands for. Assumes nothing.
use Rattle.std.proofs.Common.{is_err, sym, refl, ap, ◌∙◌, subst, arith}
use Rattle.std.specs.Prelude.{◌≡◌, true, List, ℕ, get_or}
use Rattle.std.specs.declared.option.Option.{Option}
use Rattle.std.specs.declared.option.Option.TheVariants.{None, Some}
use Rattle.std.specs.declared.result.Result.{Result}
use Rattle.std.specs.declared.result.Result.TheVariants.{Ok, Err}
use Rattle.slots.specs.Words.{Unsound, unsound, Digit, One, Two, Three, Four, Empty, Single, Deep, Spine, Record}
use Rattle.slots.specs.Ghost.{Twig, Arm, a1, a2, a3, a4, Finger, nil, one, deep, none, root, digit_of, part_of, tree_of, Fit}
use Rattle.slots.specs.Values.{spine_in}

pub ok_err : {A E : Type 0} {r : Result A E} {v : A} {e : E} → r ≡ Ok v → r ≡ Err e → ⊥
ok_err p q = let z : ◌≡◌ {A = ℕ} 0 1 = cc in omega arith

pub ok_same : {A E : Type 0} {r : Result A E} {v w : A} → r ≡ Ok v → r ≡ Ok w → v ≡ w
ok_same p q = cc

-- there is one error
pub err_only : {A : Type 0} (r : Result A Unsound) → is_err r ≡ true → r ≡ Err unsound
err_only (Ok x) e = absurd (let z : ◌≡◌ {A = ℕ} 0 1 = cc in omega arith)
err_only (Err e) q = refl

module _ {R V : Type 0} where
  pub arm_one : (P : Arm R V → Type 0) (a : ℕ) → ((x : Twig R V) → root x ≡ a → P (a1 x)) → (A : Arm R V) → digit_of A ≡ One a → P A
  arm_one P a f (a1 x) e = f x (cc)
  arm_one P a f (a2 x y) e = absurd (let z : ◌≡◌ {A = ℕ} 0 1 = cc in omega arith)
  arm_one P a f (a3 x y z) e = absurd (let z : ◌≡◌ {A = ℕ} 0 1 = cc in omega arith)
  arm_one P a f (a4 x y z w) e = absurd (let z : ◌≡◌ {A = ℕ} 0 1 = cc in omega arith)

  pub arm_two : (P : Arm R V → Type 0) (a b : ℕ) → ((x y : Twig R V) → root x ≡ a → root y ≡ b → P (a2 x y)) → (A : Arm R V) → digit_of A ≡ Two a b → P A
  arm_two P a b f (a1 x) e = absurd (let z : ◌≡◌ {A = ℕ} 0 1 = cc in omega arith)
  arm_two P a b f (a2 x y) e = f x y (cc) (cc)
  arm_two P a b f (a3 x y z) e = absurd (let z : ◌≡◌ {A = ℕ} 0 1 = cc in omega arith)
  arm_two P a b f (a4 x y z w) e = absurd (let z : ◌≡◌ {A = ℕ} 0 1 = cc in omega arith)

  pub arm_three : (P : Arm R V → Type 0) (a b c : ℕ) → ((x y z : Twig R V) → root x ≡ a → root y ≡ b → root z ≡ c → P (a3 x y z)) → (A : Arm R V) → digit_of A ≡ Three a b c → P A
  arm_three P a b c f (a1 x) e = absurd (let z : ◌≡◌ {A = ℕ} 0 1 = cc in omega arith)
  arm_three P a b c f (a2 x y) e = absurd (let z : ◌≡◌ {A = ℕ} 0 1 = cc in omega arith)
  arm_three P a b c f (a3 x y z) e = f x y z (cc) (cc) (cc)
  arm_three P a b c f (a4 x y z w) e = absurd (let z : ◌≡◌ {A = ℕ} 0 1 = cc in omega arith)

  pub arm_four : (P : Arm R V → Type 0) (a b c d : ℕ) → ((x y z w : Twig R V) → root x ≡ a → root y ≡ b → root z ≡ c → root w ≡ d → P (a4 x y z w)) → (A : Arm R V) → digit_of A ≡ Four a b c d → P A
  arm_four P a b c d f (a1 x) e = absurd (let z : ◌≡◌ {A = ℕ} 0 1 = cc in omega arith)
  arm_four P a b c d f (a2 x y) e = absurd (let z : ◌≡◌ {A = ℕ} 0 1 = cc in omega arith)
  arm_four P a b c d f (a3 x y z) e = absurd (let z : ◌≡◌ {A = ℕ} 0 1 = cc in omega arith)
  arm_four P a b c d f (a4 x y z w) e = f x y z w (cc) (cc) (cc) (cc)

  pub part_none : (P : Option (Arm R V) → Type 0) → P None → (Q : Option (Arm R V)) → part_of Q ≡ None → P Q
  part_none P f None e = f
  part_none P f (Some A) e = absurd (let z : ◌≡◌ {A = ℕ} 0 1 = cc in omega arith)

  pub part_some : (P : Option (Arm R V) → Type 0) (d : Digit) → ((A : Arm R V) → digit_of A ≡ d → P (Some A)) → (Q : Option (Arm R V)) → part_of Q ≡ Some d → P Q
  part_some P d f None e = absurd (let z : ◌≡◌ {A = ℕ} 0 1 = cc in omega arith)
  part_some P d f (Some A) e = f A (cc)

  pub tree_empty : (P : Finger R V → Type 0) → P nil → (t : Finger R V) → tree_of t ≡ Empty → P t
  tree_empty P f nil e = f
  tree_empty P f (one w) e = absurd (let z : ◌≡◌ {A = ℕ} 0 1 = cc in omega arith)
  tree_empty P f (deep i v x m y) e = absurd (let z : ◌≡◌ {A = ℕ} 0 1 = cc in omega arith)

  pub tree_single : (P : Finger R V → Type 0) (i : ℕ) → ((w : Twig R V) → root w ≡ i → P (one w)) → (t : Finger R V) → tree_of t ≡ Single i → P t
  tree_single P i f nil e = absurd (let z : ◌≡◌ {A = ℕ} 0 1 = cc in omega arith)
  tree_single P i f (one w) e = f w (cc)
  tree_single P i f (deep j v x m y) e = absurd (let z : ◌≡◌ {A = ℕ} 0 1 = cc in omega arith)

  pub tree_deep : (P : Finger R V → Type 0) (i : ℕ) → ((j : ℕ) (v : V) (x : Arm R V) (m : Finger R V) (y : Arm R V) → j ≡ i → P (deep j v x m y)) → (t : Finger R V) → tree_of t ≡ Deep i → P t
  tree_deep P i f nil e = absurd (let z : ◌≡◌ {A = ℕ} 0 1 = cc in omega arith)
  tree_deep P i f (one w) e = absurd (let z : ◌≡◌ {A = ℕ} 0 1 = cc in omega arith)
  tree_deep P i f (deep j v x m y) e = f j v x m y (cc)

  -- the spine that was read at a level's slot
  pub at_level : (rs : List (Record R V)) {i : ℕ} {s : Spine} {r : Result Spine Unsound} → r ≡ spine_in (get_or rs i none) → r ≡ Ok s
      → (P : Finger R V → Type 0) → ((v : V) (F : Arm R V) (m : Finger R V) (B : Arm R V) → digit_of F ≡ s.front → tree_of m ≡ s.middle → digit_of B ≡ s.back → P (deep i v F m B))
      → (mn : List R → V) (t : Finger R V) (k : ℕ) → Fit mn rs t k → tree_of t ≡ Deep i → P t
  at_level rs {i} {s} rd ok P f mn t k fit e =
      tree_deep (λ t. Fit mn rs t k → P t) i
      (λ j v F m B ji ft.
      let is : spine_in (get_or rs i none) ≡ Ok (record { front = digit_of F; middle = tree_of m; back = digit_of B }) = ap (λ q. spine_in (get_or rs q none)) (sym ji) ∙ ap spine_in ft.0.is in
      let s-is : s ≡ record { front = digit_of F; middle = tree_of m; back = digit_of B } = ok_same ok (rd ∙ is) in
      subst (λ q. P (deep q v F m B)) (sym ji) (f v F m B (ap (λ (q : Spine). q.front) (sym s-is)) (ap (λ (q : Spine). q.middle) (sym s-is)) (ap (λ (q : Spine). q.back) (sym s-is))))
      t e fit
