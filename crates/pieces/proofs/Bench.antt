-- A slice in the middle of an edit: what holds from call to call, and what is left of it at the end.
use Rattle.std.proofs.Common.{◌≡◌, ℕ, zero, suc, ◌+◌, ◌*◌, ◌<◌, ◌≤◌, true, false, ◌⊎◌, List, [], ◌∷◌, ◌++◌, length, get_or, Option, refl, ap, ◌∙◌, inl, inr, ⊎_elim, arith, length-append}
use Rattle.std.proofs.lemmas.Bool.{cases_lt}
use Rattle.slots.specs.Ghost.{Twig, leaf, two, three, Arm, a1, a2, a3, a4, Finger, nil, one, deep, same, named, occ_list, head_of, none, levels, occ_twig, occ_arm, occ_part, occ, At, FitTwig, FitArm, FitPart, Fit, Chain, loose, Calm, Off}
use Rattle.slots.specs.Theorems.{total}
use Rattle.slots.specs.Words.{Link}
use Rattle.slots.specs.declared.records.Record.{Record}
use Rattle.slots.specs.declared.records.Record.TheVariants.{Free}
use Rattle.slots.proofs.Frames.{same_cases, occ_list_append, calm_then, frame, frame_part}
use Rattle.slots.proofs.Counts.{named_le, named_one, supply}
use Rattle.pieces.specs.Edited.{Fresh}

module _ {R V : Type 0} where
  -- Of the slots of rs₀, each named once, those that τ counts are in use; js are the new leaves and nodes so far.
  pub record Bench (rs₀ rs : List (Record R V)) (f : Link) (τ : ℕ → ℕ) (fs js : List ℕ) : Type 0 where
    pub len : length rs ≡ length rs₀
    pub first : head_of fs ≡ f
    pub chain : Chain rs fs
    pub kept : (i : ℕ) → τ i + occ_list fs i ≡ named (length rs₀) i
    pub fresh : (i : ℕ) → occ_list js i ≡ 0 → Calm (get_or rs₀ i none) (get_or rs i none)

  pub bench_start : {rs : List (Record R V)} {f : Link} {τ : ℕ → ℕ} {fs : List ℕ} → head_of fs ≡ f → Chain rs fs
      → ((i : ℕ) → τ i + occ_list fs i ≡ named (length rs) i) → Bench rs rs f τ fs []
  bench_start first chain kept = record { len = refl; first = first; chain = chain; kept = kept; fresh = λ i z. inr refl }

  -- the same slots, counted in another order
  pub bench_by : {rs₀ rs : List (Record R V)} {f : Link} {τ : ℕ → ℕ} {fs js : List ℕ} (τ' : ℕ → ℕ) → ((i : ℕ) → τ i ≡ τ' i)
      → Bench rs₀ rs f τ fs js → Bench rs₀ rs f τ' fs js
  bench_by τ' e b = record { len = b.len; first = b.first; chain = b.chain; kept = λ i. omega (arith, e i, b.kept i); fresh = b.fresh }

  -- each slot is named at most once
  pub bench_once : {rs₀ rs : List (Record R V)} {f : Link} {τ : ℕ → ℕ} {fs js : List ℕ} → Bench rs₀ rs f τ fs js → (i : ℕ) → τ i + occ_list fs i ≤ 1
  bench_once {rs₀} b i = omega (arith, b.kept i, named_le (length rs₀) i)

  -- A call used the slots that α counts, and the chain; those that σ counts stay.
  module _ {rs₀ rs rs' : List (Record R V)} {f : Link} (α σ : ℕ → ℕ) {fs js : List ℕ}
      (b : Bench rs₀ rs f (λ i. α i + σ i) fs js) (off : Off rs rs' (λ i. α i + occ_list fs i)) where
    pub bench_step : {f' : Link} (β : ℕ → ℕ) (fs' js' : List ℕ) → head_of fs' ≡ f' → Chain rs' fs' → ((i : ℕ) → β i + occ_list fs' i ≡ α i + occ_list fs i)
        → ((i : ℕ) → occ_list js' i ≡ 0 → Calm (get_or rs i none) (get_or rs' i none)) → Bench rs₀ rs' f' (λ i. β i + σ i) fs' (js ++ js')
    bench_step β fs' js' first chain kept fresh = record {
      len = off.len ∙ b.len;
      first = first;
      chain = chain;
      kept = λ i. omega (arith, kept i, b.kept i);
      fresh = λ i z. let e = occ_list_append js js' i in calm_then (b.fresh i (omega arith)) (fresh i (omega arith));
    }

    pub stays_tree : (mn : List R → V) (t : Finger R V) (k : ℕ) → ((i : ℕ) → occ t i ≤ σ i) → Fit mn rs t k → Fit mn rs' t k
    stays_tree mn t k le fit = frame off mn t k (λ i. omega (arith, le i, bench_once b i)) fit

    pub stays_part : (mn : List R → V) (Q : Option (Arm R V)) (k : ℕ) → ((i : ℕ) → occ_part Q i ≤ σ i) → FitPart mn rs Q k → FitPart mn rs' Q k
    stays_part mn Q k le fit = frame_part off mn Q k (λ i. omega (arith, le i, bench_once b i)) fit

  -- how many slots are free
  pub bench_spare : {rs₀ rs : List (Record R V)} {f : Link} {τ : ℕ → ℕ} {fs js : List ℕ} (n : ℕ) → Bench rs₀ rs f τ fs js
      → total (length rs₀) τ ≤ n → length rs₀ ≤ n + length fs
  bench_spare {rs₀} {τ = τ} {fs = fs} n b le = supply (length rs₀) n τ fs b.kept le

  -- The slots of the levels of a tree.
  pub level_slots : Finger R V → List ℕ
  level_slots nil = []
  level_slots (one w) = []
  level_slots (deep i v f m b) = i ∷ level_slots m

  pub level_count : (t : Finger R V) → length (level_slots t) ≡ levels t
  unfolding level_slots
  level_count nil = refl
  level_count (one w) = refl
  level_count (deep i v f m b) = ap suc (level_count m)

  module _ (mn : List R → V) (rs : List (Record R V)) where
    tight_at : (q i : ℕ) (c : Record R V) → At rs i c → loose c ≡ false → 1 ≤ same i q → loose (get_or rs q none) ≡ false
    tight_at q i c at l h = ⊎_elim
        (λ (e : q ≡ i). ap (λ (j : ℕ). loose (get_or rs j none)) e ∙ ap loose at.is ∙ l)
        (λ n. absurd (let z : same i q ≡ 0 = n.0 in omega arith)) (same_cases i q)

    one_of : (a b : ℕ) → 1 ≤ a + b → (1 ≤ a) ⊎ (1 ≤ b)
    one_of zero b h = inr (omega arith)
    one_of (suc a) b h = inl (omega arith)

    -- what a leaf or a node lies in is no free record and no level
    tight_twig : (w : Twig R V) (k q : ℕ) → FitTwig mn rs w k → 1 ≤ occ_twig w q → loose (get_or rs q none) ≡ false
    tight_twig (leaf i row v) zero q fit h = tight_at q i _ fit.0 refl h
    tight_twig (leaf i row v) (suc k) q fit h = absurd fit
    tight_twig (two i v l r) zero q fit h = absurd fit
    tight_twig (two i v l r) (suc k) q fit h = ⊎_elim (λ here. tight_at q i _ fit.0 refl here)
        (λ below. ⊎_elim (tight_twig l k q fit.2) (tight_twig r k q fit.3) (one_of (occ_twig l q) (occ_twig r q) below))
        (one_of (same i q) (occ_twig l q + occ_twig r q) h)
    tight_twig (three i v l m r) zero q fit h = absurd fit
    tight_twig (three i v l m r) (suc k) q fit h = ⊎_elim (λ here. tight_at q i _ fit.0 refl here)
        (λ below. ⊎_elim (tight_twig l k q fit.2)
        (λ rest. ⊎_elim (tight_twig m k q fit.3) (tight_twig r k q fit.4) (one_of (occ_twig m q) (occ_twig r q) rest))
        (one_of (occ_twig l q) (occ_twig m q + occ_twig r q) below))
        (one_of (same i q) (occ_twig l q + (occ_twig m q + occ_twig r q)) h)

    tight_arm : (a : Arm R V) (k q : ℕ) → FitArm mn rs a k → 1 ≤ occ_arm a q → loose (get_or rs q none) ≡ false
    tight_arm (a1 x) k q fit h = tight_twig x k q fit h
    tight_arm (a2 x y) k q fit h = ⊎_elim (tight_twig x k q fit.0) (tight_twig y k q fit.1) (one_of (occ_twig x q) (occ_twig y q) h)
    tight_arm (a3 x y z) k q fit h = ⊎_elim (tight_twig x k q fit.0)
        (λ r. ⊎_elim (tight_twig y k q fit.1) (tight_twig z k q fit.2) (one_of (occ_twig y q) (occ_twig z q) r))
        (one_of (occ_twig x q) (occ_twig y q + occ_twig z q) h)
    tight_arm (a4 x y z w) k q fit h = ⊎_elim (tight_twig x k q fit.0)
        (λ r. ⊎_elim (tight_twig y k q fit.1)
        (λ t. ⊎_elim (tight_twig z k q fit.2) (tight_twig w k q fit.3) (one_of (occ_twig z q) (occ_twig w q) t))
        (one_of (occ_twig y q) (occ_twig z q + occ_twig w q) r))
        (one_of (occ_twig x q) (occ_twig y q + (occ_twig z q + occ_twig w q)) h)

    pub tight_tree : (t : Finger R V) (k q : ℕ) → Fit mn rs t k → occ_list (level_slots t) q ≡ 0 → 1 ≤ occ t q → loose (get_or rs q none) ≡ false
    unfolding level_slots
    tight_tree nil k q fit z h = absurd (omega arith)
    tight_tree (one w) k q fit z h = tight_twig w k q fit h
    tight_tree (deep i v f m b) k q fit z h = ⊎_elim (λ front. tight_arm f k q fit.2 front)
        (λ r. ⊎_elim (tight_tree m (suc k) q fit.3 (omega arith)) (tight_arm b k q fit.4) (one_of (occ m q) (occ_arm b q) r))
        (one_of (occ_arm f q) (occ m q + occ_arm b q) (omega arith))

    free_in_chain : (fs : List ℕ) (q : ℕ) → Chain rs fs → 1 ≤ occ_list fs q → (n : Link) × (get_or rs q none ≡ Free n)
    free_in_chain [] q chain h = absurd (omega arith)
    free_in_chain (i ∷ fs) q chain h = ⊎_elim
        (λ (e : q ≡ i). (head_of fs, ap (λ (j : ℕ). get_or rs j none) e ∙ chain.0.is))
        (λ n. free_in_chain fs q chain.1 (let z : same i q ≡ 0 = n.0 in omega arith)) (same_cases i q)

    past_end : (q : ℕ) → length rs ≤ q → get_or rs q none ≡ none
    past_end q h = get_d_past rs q none h
      where
        get_d_past : {X : Type 0} (xs : List X) (q : ℕ) (d : X) → length xs ≤ q → get_or xs q d ≡ d
        get_d_past [] q d h = refl
        get_d_past (x ∷ xs) zero d h = absurd (omega arith)
        get_d_past (x ∷ xs) (suc q) d h = get_d_past xs q d (omega arith)

  -- At the end two trees are in use (one may be empty). Each slot outside js and the levels is free or as it was.
  pub bench_fresh : {rs₀ rs : List (Record R V)} {f : Link} {fs js : List ℕ} (mn : List R → V) (t k : Finger R V) (d : ℕ) → Bench rs₀ rs f (λ i. occ t i + occ k i) fs js
      → Fit mn rs t 0 → Fit mn rs k 0 → length js + (levels t + levels k) ≤ 9 * d + 4 → Fresh rs₀ rs d
  bench_fresh {rs₀} {rs} {f} {fs} {js} mn t k d b fit-t fit-k le = record {
    js = js ++ (level_slots t ++ level_slots k);
    few = omega (arith, length-append js (level_slots t ++ level_slots k), length-append (level_slots t) (level_slots k), level_count t, level_count k);
    others = λ q z.
        let e = occ_list_append js (level_slots t ++ level_slots k) q in
        let e' = occ_list_append (level_slots t) (level_slots k) q in
        ⊎_elim (λ l. inl (settled q l (omega arith) (omega arith))) (λ same'. inr same') (b.fresh q (omega arith));
  }
    where
      clash : (q : ℕ) → loose (get_or rs q none) ≡ true → loose (get_or rs q none) ≡ false → ⊥
      clash q p r = let z : ◌≡◌ {A = ℕ} 0 1 = cc in omega arith

      settled : (q : ℕ) → loose (get_or rs q none) ≡ true → occ_list (level_slots t) q ≡ 0 → occ_list (level_slots k) q ≡ 0 → (n : Link) × (get_or rs q none ≡ Free n)
      settled q l zt zk = ⊎_elim
          (λ (lt : q < length rs₀). ⊎_elim
          (λ used. ⊎_elim (λ in-t. absurd (clash q l (tight_tree mn rs t 0 q fit-t zt in-t))) (λ in-k. absurd (clash q l (tight_tree mn rs k 0 q fit-k zk in-k))) (split_sum (occ t q) (occ k q) used))
          (λ free. free_in_chain mn rs fs q b.chain free)
          (split_sum (occ t q + occ k q) (occ_list fs q) (omega (arith, b.kept q, named_one (length rs₀) q lt))))
          (λ past. (_, past_end mn rs q (omega (arith, b.len))))
          (cases_lt q (length rs₀))
        where
          split_sum : (a b : ℕ) → 1 ≤ a + b → (1 ≤ a) ⊎ (1 ≤ b)
          split_sum zero b h = inr (omega arith)
          split_sum (suc a) b h = inl (omega arith)
