-- Digits and levels seen from one of their sides. Assumes nothing.
use Rattle.std.proofs.Common.{sym, refl, ap, ◌∙◌, subst, append_assoc, arith}
use Rattle.std.proofs.lemmas.List.{append-nil}
use Rattle.std.specs.Prelude.{◌≡◌, List, [], ℕ, suc, ◌+◌, ◌≤◌, ◌<◌, length, get_or}
use Rattle.std.specs.declared.option.Option.{Option}
use Rattle.std.specs.declared.option.Option.TheVariants.{None, Some}
use Rattle.std.specs.declared.result.Result.TheVariants.{Ok}
use Rattle.slots.specs.Words.{Digit, One, Two, Three, Four, Side, Front, Back, Grown, Room, Over, Peel, Record}
use Rattle.slots.specs.Ghost.{Twig, leaf, two, three, Arm, a1, a2, a3, a4, Finger, deep, same, none, root, digit_of, part_of, rows_twig, rows_arm, rows_part, rows, size, size_part, occ_twig, occ_arm, occ_part, At, FitTwig, FitArm, FitPart}
use Rattle.slots.specs.Sides.{pick, flipped, ends, grown, peeled, count}
use Rattle.slots.specs.Values.{wt, node_of, parts_in}
use Rattle.slots.proofs.Weights.{wt_ends}

module _ {A : Type 0} where
  pub ends_assoc : (s : Side) (a b c : List A) → ends s a (ends s b c) ≡ ends s (ends s a b) c
  ends_assoc Front a b c = simp append_assoc
  ends_assoc Back a b c = simp append_assoc

  pub ends_nil : (s : Side) (a : List A) → ends s a [] ≡ a
  ends_nil Front a = append-nil a
  ends_nil Back a = refl

  pub nil_ends : (s : Side) (a : List A) → ends s [] a ≡ a
  nil_ends Front a = refl
  nil_ends Back a = append-nil a

  pub ends_flipped : (s : Side) (a b : List A) → ends (flipped s) a b ≡ ends s b a
  ends_flipped Front a b = refl
  ends_flipped Back a b = refl

pub pick_flipped : {A : Type 0} (s : Side) (a b : A) → pick (flipped s) a b ≡ pick s b a
pick_flipped Front a b = refl
pick_flipped Back a b = refl

-- each side takes its own of the four
pub peel_four : (s : Side) (d : Digit) {a b c e : ℕ} {x : ℕ} {r : Digit} → d ≡ Four a b c e → x ≡ pick s a e → r ≡ pick s (Three b c e) (Three a b c) → ◌≡◌ {A = Peel} (record { slot = x; rest = Some r }) (peeled s d)
peel_four Front d is xe re = cc
peel_four Back d is xe re = cc

-- one slot less
pub count_peeled : (s : Side) (d : Digit) {o : Peel} → o ≡ peeled s d → count o.rest < count (Some d)
count_peeled s d is = omega (arith, ap (λ (q : Peel). count q.rest) is, go s d)
  where
    go : (s : Side) (d : Digit) → count (peeled s d).rest < count (Some d)
    go Front (One a) = omega arith
    go Front (Two a b) = omega arith
    go Front (Three a b c) = omega arith
    go Front (Four a b c d) = omega arith
    go Back (One a) = omega arith
    go Back (Two a b) = omega arith
    go Back (Three a b c) = omega arith
    go Back (Four a b c d) = omega arith

pub count_four : (p : Option Digit) → count p ≤ 4
count_four None = omega arith
count_four (Some (One a)) = omega arith
count_four (Some (Two a b)) = omega arith
count_four (Some (Three a b c)) = omega arith
count_four (Some (Four a b c d)) = omega arith

module _ {R V : Type 0} where
  -- a level whose digit on side s is N, and on the other X
  abbrev pub sided : Side → ℕ → V → Arm R V → Finger R V → Arm R V → Finger R V
  sided s i v N m X = deep i v (pick s N X) m (pick s X N)

  pub by_side : (s : Side) (P : Arm R V → Arm R V → Type 0) {front back : Digit} → ((N X : Arm R V) → digit_of N ≡ pick s front back → digit_of X ≡ pick s back front → P (pick s N X) (pick s X N))
      → (F B : Arm R V) → digit_of F ≡ front → digit_of B ≡ back → P F B
  by_side Front P f F B ef eb = f F B ef eb
  by_side Back P f F B ef eb = f B F eb ef

  pub digit_sided : (s : Side) (N X : Arm R V) → digit_of (pick s N X) ≡ pick s (digit_of N) (digit_of X)
  digit_sided Front N X = refl
  digit_sided Back N X = refl

  pub rows_sided : (s : Side) (i : ℕ) (v : V) (N : Arm R V) (m : Finger R V) (X : Arm R V) → rows (sided s i v N m X) ≡ ends s (rows_arm N) (ends s (rows m) (rows_arm X))
  rows_sided Front i v N m X = append_assoc (rows_arm N) (rows m) (rows_arm X)
  rows_sided Back i v N m X = refl

  pub wt_sided : {I : Type 0} (weigh : I → ℕ) (items : R → List I) (s : Side) (i : ℕ) (v : V) (N : Arm R V) (m : Finger R V) (X : Arm R V)
      → wt weigh items (rows (sided s i v N m X)) ≡ wt weigh items (rows_arm N) + (wt weigh items (rows m) + wt weigh items (rows_arm X))
  wt_sided weigh items s i v N m X = ap (wt weigh items) (rows_sided s i v N m X) ∙ wt_ends weigh items s (rows_arm N) (ends s (rows m) (rows_arm X)) ∙ ap (λ q. wt weigh items (rows_arm N) + q) (wt_ends weigh items s (rows m) (rows_arm X))

  pub occ_sided : (s : Side) (N X : Arm R V) (j : ℕ) → occ_arm (pick s N X) j + occ_arm (pick s X N) j ≡ occ_arm N j + occ_arm X j
  occ_sided Front N X j = refl
  occ_sided Back N X j = omega arith

  pub fit_sided : (s : Side) (mn : List R → V) (rs : List (Record R V)) (N X : Arm R V) (k : ℕ) → FitArm mn rs (pick s N X) k → FitArm mn rs (pick s X N) k → FitArm mn rs N k × FitArm mn rs X k
  fit_sided Front mn rs N X k p q = (p, q)
  fit_sided Back mn rs N X k p q = (q, p)

  pub size_one : (A : Arm R V) → 1 ≤ size A
  size_one (a1 a) = omega arith
  size_one (a2 a b) = omega arith
  size_one (a3 a b c) = omega arith
  size_one (a4 a b c d) = omega arith

  pub size_four : (A : Arm R V) → size A ≤ 4
  size_four (a1 a) = omega arith
  size_four (a2 a b) = omega arith
  size_four (a3 a b c) = omega arith
  size_four (a4 a b c d) = omega arith

  pub part_four : (Q : Option (Arm R V)) → size_part Q ≤ 4
  part_four None = omega arith
  part_four (Some A) = size_four A

  -- the digit had room
  pub record Roomed (s : Side) (A : Arm R V) (u : Twig R V) (d : Digit) : Type 0 where
    pub arm : Arm R V
    pub is : digit_of arm ≡ d
    pub text : rows_arm arm ≡ ends s (rows_twig u) (rows_arm A)
    pub occs : (j : ℕ) → occ_arm arm j ≡ occ_twig u j + occ_arm A j
    pub fit : (mn : List R → V) (rs : List (Record R V)) (k : ℕ) → FitTwig mn rs u k → FitArm mn rs A k → FitArm mn rs arm k
    pub sizes : size arm ≡ size A + 1

  room : (s : Side) (A : Arm R V) (u : Twig R V) {d : Digit} → Room d ≡ grown s (digit_of A) (root u) → Roomed s A u d
  room Front (a1 a) u e = record { arm = a2 u a; is = cc; text = refl; occs = λ j. omega arith; fit = λ mn rs k p q. (p, q); sizes = omega arith }
  room Front (a2 a b) u e = record { arm = a3 u a b; is = cc; text = simp append_assoc; occs = λ j. omega arith; fit = λ mn rs k p q. (p, q.0, q.1); sizes = omega arith }
  room Front (a3 a b c) u e = record { arm = a4 u a b c; is = cc; text = simp append_assoc; occs = λ j. omega arith; fit = λ mn rs k p q. (p, q.0, q.1, q.2); sizes = omega arith }
  room Front (a4 a b c d) u e = absurd (let z : ◌≡◌ {A = ℕ} 0 1 = cc in omega arith)
  room Back (a1 a) u e = record { arm = a2 a u; is = cc; text = refl; occs = λ j. omega arith; fit = λ mn rs k p q. (q, p); sizes = omega arith }
  room Back (a2 a b) u e = record { arm = a3 a b u; is = cc; text = refl; occs = λ j. omega arith; fit = λ mn rs k p q. (q.0, q.1, p); sizes = omega arith }
  room Back (a3 a b c) u e = record { arm = a4 a b c u; is = cc; text = refl; occs = λ j. omega arith; fit = λ mn rs k p q. (q.0, q.1, q.2, p); sizes = omega arith }
  room Back (a4 a b c d) u e = absurd (let z : ◌≡◌ {A = ℕ} 0 1 = cc in omega arith)

  grown_at : (s : Side) (A : Arm R V) (u : Twig R V) {n : Digit} {x : ℕ} {g : Grown} → digit_of A ≡ n → root u ≡ x → g ≡ grown s n x → g ≡ grown s (digit_of A) (root u)
  grown_at s A u {n} {x} p q e = e ∙ ap (λ o. grown s o x) (sym p) ∙ ap (λ o. grown s (digit_of A) o) (sym q)

  pub roomed : (s : Side) (A : Arm R V) (u : Twig R V) {n d : Digit} {x : ℕ} → digit_of A ≡ n → root u ≡ x → Room d ≡ grown s n x → Roomed s A u d
  roomed s A u p q e = room s A u (grown_at s A u p q e)

  -- two or three twigs
  abbrev pub Nodal : Arm R V → Type 0
  Nodal (a1 a) = ⊥
  Nodal (a2 a b) = Unit {0}
  Nodal (a3 a b c) = Unit {0}
  Nodal (a4 a b c d) = ⊥

  -- the digit was full
  pub record Overed (s : Side) (A : Arm R V) (u : Twig R V) (kd pd : Digit) : Type 0 where
    pub keep : Arm R V
    pub parts : Arm R V
    pub keep_is : digit_of keep ≡ kd
    pub parts_is : digit_of parts ≡ pd
    pub node : Nodal parts
    pub text : ends s (rows_arm keep) (rows_arm parts) ≡ ends s (rows_twig u) (rows_arm A)
    pub occs : (j : ℕ) → occ_arm keep j + occ_arm parts j ≡ occ_twig u j + occ_arm A j
    pub fit : (mn : List R → V) (rs : List (Record R V)) (k : ℕ) → FitTwig mn rs u k → FitArm mn rs A k → FitArm mn rs keep k
    pub fit_parts : (mn : List R → V) (rs : List (Record R V)) (k : ℕ) → FitArm mn rs A k → FitArm mn rs parts k
    pub full : size A ≡ 4
    pub left : size keep ≡ 2

  over : (s : Side) (A : Arm R V) (u : Twig R V) {kd pd : Digit} → Over kd pd ≡ grown s (digit_of A) (root u) → Overed s A u kd pd
  over Front (a1 a) u e = absurd (let z : ◌≡◌ {A = ℕ} 0 1 = cc in omega arith)
  over Front (a2 a b) u e = absurd (let z : ◌≡◌ {A = ℕ} 0 1 = cc in omega arith)
  over Front (a3 a b c) u e = absurd (let z : ◌≡◌ {A = ℕ} 0 1 = cc in omega arith)
  over Front (a4 a b c d) u e = record { keep = a2 u a; parts = a3 b c d; keep_is = cc; parts_is = cc; node = tt; text = simp append_assoc; occs = λ j. omega arith; fit = λ mn rs k p q. (p, q.0); fit_parts = λ mn rs k q. (q.1, q.2, q.3); full = refl; left = refl }
  over Back (a1 a) u e = absurd (let z : ◌≡◌ {A = ℕ} 0 1 = cc in omega arith)
  over Back (a2 a b) u e = absurd (let z : ◌≡◌ {A = ℕ} 0 1 = cc in omega arith)
  over Back (a3 a b c) u e = absurd (let z : ◌≡◌ {A = ℕ} 0 1 = cc in omega arith)
  over Back (a4 a b c d) u e = record { keep = a2 d u; parts = a3 a b c; keep_is = cc; parts_is = cc; node = tt; text = simp append_assoc; occs = λ j. omega arith; fit = λ mn rs k p q. (q.3, p); fit_parts = λ mn rs k q. (q.0, q.1, q.2); full = refl; left = refl }

  pub overed : (s : Side) (A : Arm R V) (u : Twig R V) {n kd pd : Digit} {x : ℕ} → digit_of A ≡ n → root u ≡ x → Over kd pd ≡ grown s n x → Overed s A u kd pd
  overed s A u p q e = over s A u (grown_at s A u p q e)

  -- the digit without its twig at the side
  pub record Peeled (s : Side) (A : Arm R V) (p : Peel) : Type 0 where
    pub u : Twig R V
    pub Q : Option (Arm R V)
    pub slot_is : root u ≡ p.slot
    pub rest_is : part_of Q ≡ p.rest
    pub text : rows_arm A ≡ ends s (rows_twig u) (rows_part Q)
    pub occs : (j : ℕ) → occ_arm A j ≡ occ_twig u j + occ_part Q j
    pub fit : (mn : List R → V) (rs : List (Record R V)) (k : ℕ) → FitArm mn rs A k → FitTwig mn rs u k × FitPart mn rs Q k
    pub sizes : size A ≡ suc (size_part Q)

  peel : (s : Side) (A : Arm R V) → Peeled s A (peeled s (digit_of A))
  peel Front (a1 x) = record { u = x; Q = None; slot_is = refl; rest_is = refl; text = sym (append-nil (rows_twig x)); occs = λ j. omega arith; fit = λ mn rs k f. (f, tt); sizes = refl }
  peel Front (a2 x y) = record { u = x; Q = Some (a1 y); slot_is = refl; rest_is = refl; text = refl; occs = λ j. omega arith; fit = λ mn rs k f. (f.0, f.1); sizes = refl }
  peel Front (a3 x y z) = record { u = x; Q = Some (a2 y z); slot_is = refl; rest_is = refl; text = simp append_assoc; occs = λ j. omega arith; fit = λ mn rs k f. (f.0, (f.1, f.2)); sizes = refl }
  peel Front (a4 x y z w) = record { u = x; Q = Some (a3 y z w); slot_is = refl; rest_is = refl; text = simp append_assoc; occs = λ j. omega arith; fit = λ mn rs k f. (f.0, (f.1, f.2, f.3)); sizes = refl }
  peel Back (a1 x) = record { u = x; Q = None; slot_is = refl; rest_is = refl; text = refl; occs = λ j. omega arith; fit = λ mn rs k f. (f, tt); sizes = refl }
  peel Back (a2 x y) = record { u = y; Q = Some (a1 x); slot_is = refl; rest_is = refl; text = refl; occs = λ j. omega arith; fit = λ mn rs k f. (f.1, f.0); sizes = refl }
  peel Back (a3 x y z) = record { u = z; Q = Some (a2 x y); slot_is = refl; rest_is = refl; text = refl; occs = λ j. omega arith; fit = λ mn rs k f. (f.2, (f.0, f.1)); sizes = refl }
  peel Back (a4 x y z w) = record { u = w; Q = Some (a3 x y z); slot_is = refl; rest_is = refl; text = refl; occs = λ j. omega arith; fit = λ mn rs k f. (f.3, (f.0, f.1, f.2)); sizes = refl }

  pub peel_arm : (s : Side) (A : Arm R V) {d : Digit} {p : Peel} → digit_of A ≡ d → p ≡ peeled s d → Peeled s A p
  peel_arm s A {d} {p} e is = subst (λ q. Peeled s A q) (ap (λ q. peeled s q) e ∙ sym is) (peel s A)

  -- a node of these twigs
  abbrev pub pack : ℕ → V → Arm R V → Twig R V
  pack n v (a1 a) = a
  pack n v (a2 a b) = two n v a b
  pack n v (a3 a b c) = three n v a b c
  pack n v (a4 a b c d) = a

  pub pack_root : (n : ℕ) (v : V) (A : Arm R V) → Nodal A → root (pack n v A) ≡ n
  pack_root n v (a1 a) nd = absurd nd
  pack_root n v (a2 a b) nd = refl
  pack_root n v (a3 a b c) nd = refl
  pack_root n v (a4 a b c d) nd = absurd nd

  pub pack_rows : (n : ℕ) (v : V) (A : Arm R V) → Nodal A → rows_twig (pack n v A) ≡ rows_arm A
  pack_rows n v (a1 a) nd = absurd nd
  pack_rows n v (a2 a b) nd = refl
  pack_rows n v (a3 a b c) nd = refl
  pack_rows n v (a4 a b c d) nd = absurd nd

  pub pack_occ : (n : ℕ) (v : V) (A : Arm R V) → Nodal A → (j : ℕ) → occ_twig (pack n v A) j ≡ same n j + occ_arm A j
  pack_occ n v (a1 a) nd j = absurd nd
  pack_occ n v (a2 a b) nd j = refl
  pack_occ n v (a3 a b c) nd j = refl
  pack_occ n v (a4 a b c d) nd j = absurd nd

  pub pack_fit : (mn : List R → V) (rs : List (Record R V)) (n : ℕ) (v : V) (A : Arm R V) (k : ℕ) (c : Record R V) → Nodal A → node_of (digit_of A) v ≡ Ok c → At rs n c → v ≡ mn (rows_arm A) → FitArm mn rs A k → FitTwig mn rs (pack n v A) (suc k)
  pack_fit mn rs n v (a1 a) k c nd is at e fit = absurd nd
  pack_fit mn rs n v (a2 a b) k c nd is at e fit = (record { within = at.within; is = at.is ∙ cc }, e, fit.0, fit.1)
  pack_fit mn rs n v (a3 a b d) k c nd is at e fit = (record { within = at.within; is = at.is ∙ cc }, e, fit.0, fit.1, fit.2)
  pack_fit mn rs n v (a4 a b d e₁) k c nd is at e fit = absurd nd

  -- a node taken apart
  pub record Parted (mn : List R → V) (rs : List (Record R V)) (w : Twig R V) (k : ℕ) : Type 0 where
    pub arm : Arm R V
    pub reads : parts_in (get_or rs (root w) none) ≡ Ok (digit_of arm)
    pub within : root w < length rs
    pub text : rows_arm arm ≡ rows_twig w
    pub occs : (j : ℕ) → occ_twig w j ≡ same (root w) j + occ_arm arm j
    pub fit : FitArm mn rs arm k
    pub node : Nodal arm

  pub parted : (mn : List R → V) (rs : List (Record R V)) (w : Twig R V) (k : ℕ) → FitTwig mn rs w (suc k) → Parted mn rs w k
  parted mn rs (leaf i row v) k fit = absurd fit
  parted mn rs (two i v l r) k fit = record { arm = a2 l r; reads = ap parts_in fit.0.is; within = fit.0.within; text = refl; occs = λ j. refl; fit = (fit.2, fit.3); node = tt }
  parted mn rs (three i v l m r) k fit = record { arm = a3 l m r; reads = ap parts_in fit.0.is; within = fit.0.within; text = refl; occs = λ j. refl; fit = (fit.2, fit.3, fit.4); node = tt }
