-- The paths of release_part, release_down and release. Assumes nothing.
use Rattle.std.proofs.Common.{◌≡◌, ℕ, zero, suc, ◌+◌, ◌-◌, ◌<◌, ◌≤◌, min, List, ◌∷◌, ◌++◌, length, get_or, Some, None, Ok, Err, Option, Result, sym, refl, ap, ◌∙◌, subst, ap₂, inr, ⊎_elim, arith, length-append}
use Rattle.slots.specs.declared.records.Unsound.{Unsound}
use Rattle.slots.specs.Words.{Link}
use Rattle.slots.specs.declared.records.Digit.{Digit}
use Rattle.slots.specs.declared.records.Digit.TheVariants.{One}
use Rattle.slots.specs.declared.records.Tree.{Tree}
use Rattle.slots.specs.declared.records.Tree.TheVariants.{Empty, Single, Deep}
use Rattle.slots.specs.declared.records.Record.{Record}
use Rattle.slots.specs.declared.records.Record.TheVariants.{Free}
use Rattle.slots.specs.declared.records.Side.TheVariants.{Front}
use Rattle.slots.specs.declared.records.Peel.{Peel}
use Rattle.slots.specs.declared.records.Spine.{Spine}
use Rattle.slots.specs.Ghost.{Twig, leaf, two, three, Arm, a1, a2, a3, Finger, deep, same, occ_list, head_of, none, root, digit_of, part_of, tree_of, rows_twig, rows_arm, rows_part, rows, levels, occ_twig, occ_arm, occ_part, occ, At, FitTwig, FitPart, Fit, Chain, Off, Calm}
use Rattle.slots.specs.Sides.{peeled}
use Rattle.slots.specs.Values.{below_in, spine_in}
use Rattle.slots.specs.Post.{Given}
use Rattle.release.specs.Post.{counted, stopped, reach, Back, FreeKept, PartReleased, TreeReleased, Released}
use Rattle.std.proofs.lemmas.Bool.{cases_lt}
use Rattle.slots.proofs.Frames.{same_cases, calm_then, off_refl, off_then, off_more, Put, put, put_calm, frame_arm, frame_part, frame, frame_chain}
use Rattle.slots.proofs.Shapes.{ok_err, ok_same, part_none, part_some, tree_empty, tree_single, tree_deep, at_level}
use Rattle.slots.proofs.Depth.{few_levels}
use Rattle.slots.proofs.Ends.{Peeled, peel_arm}

counted_stopped : (q : Option Digit) (n : ℕ) → counted q (stopped n) ≡ stopped (counted q n)
counted_stopped None n = refl
counted_stopped (Some d) n = refl

module _ {R V : Type 0} where
  -- what lies below a twig
  record Below (mn : List R → V) (rs : List (Record R V)) (w : Twig R V) (k : ℕ) : Type 0 where
    pub Q : Option (Arm R V)
    pub h : ℕ
    pub reads : below_in (get_or rs (root w) none) ≡ Ok (part_of Q)
    pub within : root w < length rs
    pub occs : (j : ℕ) → occ_twig w j ≡ same (root w) j + occ_part Q j
    pub fit : FitPart mn rs Q h
    pub low : reach Q h ≤ k
    pub leaves : length (rows_twig w) ≡ counted (part_of Q) (length (rows_part Q))

  below : (mn : List R → V) (rs : List (Record R V)) (w : Twig R V) (k : ℕ) → FitTwig mn rs w k → Below mn rs w k
  below mn rs (leaf i row v) zero fit = record { Q = None; h = 0; reads = ap below_in fit.0.is; within = fit.0.within; occs = λ j. omega arith; fit = tt; low = omega arith; leaves = refl }
  below mn rs (leaf i row v) (suc k) fit = absurd fit
  below mn rs (two i v l r) zero fit = absurd fit
  below mn rs (two i v l r) (suc k) fit = record { Q = Some (a2 l r); h = k; reads = ap below_in fit.0.is; within = fit.0.within; occs = λ j. refl; fit = (fit.2, fit.3); low = omega arith; leaves = refl }
  below mn rs (three i v l m r) zero fit = absurd fit
  below mn rs (three i v l m r) (suc k) fit = record { Q = Some (a3 l m r); h = k; reads = ap below_in fit.0.is; within = fit.0.within; occs = λ j. refl; fit = (fit.2, fit.3, fit.4); low = omega arith; leaves = refl }

  -- the slots that τ counts are in the chain now
  record Freed (rs rs' : List (Record R V)) (f' : Link) (τ : ℕ → ℕ) (fs : List ℕ) : Type 0 where
    pub fs' : List ℕ
    pub first : head_of fs' ≡ f'
    pub chain : Chain rs' fs'
    pub kept : (i : ℕ) → occ_list fs' i ≡ τ i + occ_list fs i
    pub frame : Off rs rs' τ
    pub calm : (i : ℕ) → Calm (get_or rs i none) (get_or rs' i none)

  freed : {rs rs' : List (Record R V)} {f' : Link} {r : Result ℕ Unsound} {τ : ℕ → ℕ} {n : ℕ} {fs : List ℕ} → Back rs rs' f' r τ n fs → Freed rs rs' f' τ fs
  freed b = record { fs' = b.fs'; first = b.first; chain = b.chain; kept = b.kept; frame = b.frame; calm = b.calm }

  told : {rs rs' : List (Record R V)} {f' : Link} {r : Result ℕ Unsound} {τ : ℕ → ℕ} {n : ℕ} {fs : List ℕ} → Freed rs rs' f' τ fs → r ≡ Ok n → Back rs rs' f' r τ n fs
  told b e = record { fs' = b.fs'; ok = e; first = b.first; chain = b.chain; kept = b.kept; frame = b.frame; calm = b.calm }

  nothing : {rs : List (Record R V)} {f : Link} (fs : List ℕ) → head_of fs ≡ f → Chain rs fs → Back rs rs f (Ok 0) (λ i. 0) 0 fs
  nothing fs ef chain = record { fs' = fs; ok = refl; first = ef; chain = chain; kept = λ i. omega arith; frame = off_refl; calm = λ i. inr refl }

  -- one slot
  gift : {rs rs' : List (Record R V)} {f f' : Link} {i : ℕ} {w : Result (Unit {0}) Unsound} → Given rs rs' f f' i w → (fs : List ℕ) → i < length rs → head_of fs ≡ f → Chain rs fs → ((j : ℕ) → same i j + occ_list fs j ≤ 1) → Freed rs rs' f' (same i) fs
  gift {rs} {rs'} {f} {f'} {i} give fs within ef chain once =
      let g = give.gives within in
      let p : Put rs rs' i (Free f) = put within g.2 in
      record {
        fs' = i ∷ fs;
        first = sym g.1;
        chain = (subst (λ q. At rs' i (Free q)) (sym ef) p.at, frame_chain p.off fs (λ j. omega (arith, once j)) chain);
        kept = λ j. refl;
        frame = p.off;
        calm = put_calm p refl;
      }

  -- some slots and then others
  then : {rs rs₁ rs₂ : List (Record R V)} {f₁ f₂ : Link} {τ τ₁ : ℕ → ℕ} (τ' : ℕ → ℕ) (fs : List ℕ) (A : Freed rs rs₁ f₁ τ fs) → Freed rs₁ rs₂ f₂ τ₁ A.fs' → ((j : ℕ) → τ' j ≡ τ j + τ₁ j) → Freed rs rs₂ f₂ τ' fs
  then τ' fs A B is = record {
    fs' = B.fs';
    first = B.first;
    chain = B.chain;
    kept = λ j. omega (arith, B.kept j, A.kept j, is j);
    frame = off_more τ' (λ j z. omega (arith, is j)) (off_then A.frame B.frame);
    calm = λ j. calm_then (A.calm j) (B.calm j);
  }

  -- a slot that was not free is given back
  kept_gift : {rs rs' : List (Record R V)} {f f' : Link} {i : ℕ} {w : Result (Unit {0}) Unsound} → Given rs rs' f f' i w → ((n : Link) → get_or rs i none ≡ Free n → ⊥) → FreeKept rs rs'
  kept_gift {rs} {rs'} {f} {i = i} give used = record {
    stays = λ j n e. ⊎_elim
        (λ (lt : i < length rs).
        let p : Put rs rs' i (Free f) = put lt (give.gives lt).2 in
        ⊎_elim (λ (is : j ≡ i). absurd (used n (ap (λ (q : ℕ). get_or rs q none) (sym is) ∙ e))) (λ o. p.off.reads j o.0 ∙ e) (same_cases i j))
        (λ ge. ap (λ (q : List (Record R V)). get_or q j none) (give.refuses ge).2 ∙ e)
        (cases_lt i (length rs));
  }

  kept_all : {rs : List (Record R V)} → FreeKept rs rs
  kept_all = record { stays = λ i n e. e }

  kept_then : {rs rs₁ rs₂ : List (Record R V)} → FreeKept rs rs₁ → FreeKept rs₁ rs₂ → FreeKept rs rs₂
  kept_then A B = record { stays = λ i n e. B.stays i n (A.stays i n e) }

  -- a twig's slot, and a level's, was not free
  kept_twig : {rs rs' : List (Record R V)} {f f' : Link} {i : ℕ} {w : Result (Unit {0}) Unsound} {b : Result (Option Digit) Unsound} {q : Option Digit} → Given rs rs' f f' i w → b ≡ below_in (get_or rs i none) → b ≡ Ok q → FreeKept rs rs'
  kept_twig give rd got = kept_gift give (λ n e. ok_err got (rd ∙ ap below_in e))

  kept_level : {rs rs' : List (Record R V)} {f f' : Link} {i : ℕ} {w : Result (Unit {0}) Unsound} {b : Result Spine Unsound} {q : Spine} → Given rs rs' f f' i w → b ≡ spine_in (get_or rs i none) → b ≡ Ok q → FreeKept rs rs'
  kept_level give rd got = kept_gift give (λ n e. ok_err got (rd ∙ ap spine_in e))

  pub part_nothing : {rs : List (Record R V)} {f : Link} {fuel : ℕ} {p : Option Digit} → p ≡ None → PartReleased rs rs f f fuel p (Ok 0)
  part_nothing {rs} {f} is = record { frees = λ mn P fs k ep ef fit chain once low. part_none (λ P. Back rs rs f (Ok 0) (occ_part P) (stopped (length (rows_part P))) fs) (nothing fs ef chain) P (ep ∙ is); free_kept = kept_all }

  pub part_no_fuel : {rs : List (Record R V)} {f f' : Link} {fuel : ℕ} {p : Option Digit} {d : Digit} {r : Result ℕ Unsound} → p ≡ Some d → fuel ≡ 0 → PartReleased rs rs f f' fuel p r
  part_no_fuel {rs} {f} {f'} {fuel} {d = d} {r} is z = record {
    frees = λ mn P fs k ep ef fit chain once low.
        part_some (λ P. reach P k ≤ fuel → Back rs rs f' r (occ_part P) (stopped (length (rows_part P))) fs) d (λ A ea low. absurd (omega (arith, low))) P (ep ∙ is) low;
    free_kept = kept_all;
  }

  -- what is known at a first twig
  record First (rs : List (Record R V)) (f : Link) (fuel : ℕ) (o : Peel) (b : Result (Option Digit) Unsound) (mn : List R → V) (D : Arm R V) (fs : List ℕ) (k : ℕ) : Type 0 where
    pub N : Peeled Front D o
    pub B : Below mn rs N.u k
    pub ok : b ≡ Ok (part_of B.Q)
    pub within : o.slot < length rs
    pub occs : (j : ℕ) → occ_arm D j ≡ same o.slot j + (occ_part B.Q j + occ_part N.Q j)
    pub fit : FitPart mn rs N.Q k
    pub first : head_of fs ≡ f
    pub chain : Chain rs fs
    pub once : (j : ℕ) → occ_arm D j + occ_list fs j ≤ 1
    pub low : suc k ≤ fuel
    pub leaves : length (rows_arm D) ≡ counted (part_of B.Q) (length (rows_part B.Q)) + length (rows_part N.Q)

  module _ {rs : List (Record R V)} {f : Link} {fuel : ℕ} {p : Option Digit} {d : Digit} {o : Peel} {b : Result (Option Digit) Unsound} (is : p ≡ Some d) (peel-is : o ≡ peeled Front d) (rd : b ≡ below_in (get_or rs o.slot none)) where
    -- every path at a first twig
    at_first : {rs' : List (Record R V)} {f' : Link} {r : Result ℕ Unsound} → FreeKept rs rs' → ((mn : List R → V) (D : Arm R V) (fs : List ℕ) (k : ℕ) → First rs f fuel o b mn D fs k → Back rs rs' f' r (occ_arm D) (stopped (length (rows_arm D))) fs) → PartReleased rs rs' f f' fuel p r
    at_first {rs'} {f'} {r} kept go = record {
      frees = λ mn P fs k ep ef fit chain once low.
          part_some (λ P. FitPart mn rs P k → ((j : ℕ) → occ_part P j + occ_list fs j ≤ 1) → reach P k ≤ fuel → Back rs rs' f' r (occ_part P) (stopped (length (rows_part P))) fs) d
          (λ D ed fd once low.
          let N = peel_arm Front D ed peel-is in
          let fits = N.fit mn rs k fd in
          let B = below mn rs N.u k fits.0 in
          let e = N.slot_is in
          let len : length (rows_arm D) ≡ length (rows_twig N.u) + length (rows_part N.Q) = ap length N.text ∙ length-append (rows_twig N.u) (rows_part N.Q) in
          go mn D fs k (record {
            N = N;
            B = B;
            ok = rd ∙ ap (λ q. below_in (get_or rs q none)) (sym e) ∙ B.reads;
            within = omega (arith, B.within, e);
            occs = λ j. N.occs j ∙ ap (λ q. q + occ_part N.Q j) (B.occs j ∙ ap (λ q. same q j + occ_part B.Q j) e) ∙ omega arith;
            fit = fits.1;
            first = ef;
            chain = chain;
            once = once;
            low = low;
            leaves = len ∙ ap (λ (q : ℕ). q + length (rows_part N.Q)) B.leaves;
          })) P (ep ∙ is) fit once low;
      free_kept = kept;
    }

    pub part_no_twig : {f' : Link} {e : Unsound} {r : Result ℕ Unsound} → b ≡ Err e → PartReleased rs rs f f' fuel p r
    part_no_twig bad = at_first kept_all (λ mn D fs k X. absurd (ok_err X.ok bad))

    module _ {rs₁ : List (Record R V)} {f₁ : Link} {w : Result (Unit {0}) Unsound} (give : Given rs rs₁ f f₁ o.slot w) where
      pub part_no_gift : {f' : Link} {q : Option Digit} {e : Unsound} {r : Result ℕ Unsound} → b ≡ Ok q → w ≡ Err e → PartReleased rs rs₁ f f' fuel p r
      part_no_gift got bad = at_first (kept_twig give rd got) (λ mn D fs k X. absurd (ok_err (give.gives X.within).0 bad))

      module _ {rs₂ : List (Record R V)} {f₂ : Link} {q : Option Digit} {x : Result ℕ Unsound} (got : b ≡ Ok q) (down : PartReleased rs₁ rs₂ f₁ f₂ (fuel - 1) q x) where
        taken : (mn : List R → V) (D : Arm R V) (fs : List ℕ) (k : ℕ) → First rs f fuel o b mn D fs k → Freed rs rs₁ f₁ (same o.slot) fs
        taken mn D fs k X = gift give fs X.within X.first X.chain (λ j. omega (arith, X.once j, X.occs j))

        -- all below the first twig
        under_back : (mn : List R → V) (D : Arm R V) (fs : List ℕ) (k : ℕ) (X : First rs f fuel o b mn D fs k) → Back rs₁ rs₂ f₂ x (occ_part X.B.Q) (stopped (length (rows_part X.B.Q))) (taken mn D fs k X).fs'
        under_back mn D fs k X =
            let G = taken mn D fs k X in
            let B = X.B in
            down.frees mn B.Q G.fs' B.h (ok_same X.ok got) G.first (frame_part G.frame mn B.Q B.h (λ j. omega (arith, X.once j, X.occs j)) B.fit) G.chain (λ j. omega (arith, X.once j, X.occs j, G.kept j)) (omega (arith, B.low, X.low))

        -- the first twig and all below it
        first_back : (mn : List R → V) (D : Arm R V) (fs : List ℕ) (k : ℕ) (X : First rs f fuel o b mn D fs k) → Freed rs rs₂ f₂ (λ j. same o.slot j + occ_part X.B.Q j) fs
        first_back mn D fs k X = then (λ j. same o.slot j + occ_part X.B.Q j) fs (taken mn D fs k X) (freed (under_back mn D fs k X)) (λ j. refl)

        pub part_no_below : {f' : Link} {e : Unsound} {r : Result ℕ Unsound} → x ≡ Err e → PartReleased rs rs₂ f f' fuel p r
        part_no_below bad = at_first (kept_then (kept_twig give rd got) down.free_kept) (λ mn D fs k X. absurd (ok_err (under_back mn D fs k X).ok bad))

        module _ {rs₃ : List (Record R V)} {f₃ : Link} {y : Result ℕ Unsound} (rest : PartReleased rs₂ rs₃ f₂ f₃ fuel o.rest y) where
          rest_back : (mn : List R → V) (D : Arm R V) (fs : List ℕ) (k : ℕ) (X : First rs f fuel o b mn D fs k) → Back rs₂ rs₃ f₃ y (occ_part X.N.Q) (stopped (length (rows_part X.N.Q))) (first_back mn D fs k X).fs'
          rest_back mn D fs k X =
              let F = first_back mn D fs k X in
              let N = X.N in
              rest.frees mn N.Q F.fs' k N.rest_is F.first (frame_part F.frame mn N.Q k (λ j. omega (arith, X.once j, X.occs j)) X.fit) F.chain (λ j. omega (arith, X.once j, X.occs j, F.kept j)) (rest_low N.Q k X.low)
            where
              rest_low : (Q : Option (Arm R V)) (k : ℕ) → suc k ≤ fuel → reach Q k ≤ fuel
              rest_low None k low = omega arith
              rest_low (Some A) k low = low

          pub part_no_rest : {f' : Link} {e : Unsound} {r : Result ℕ Unsound} → y ≡ Err e → PartReleased rs rs₃ f f' fuel p r
          part_no_rest bad = at_first (kept_then (kept_twig give rd got) (kept_then down.free_kept rest.free_kept)) (λ mn D fs k X. absurd (ok_err (rest_back mn D fs k X).ok bad))

          pub part_freed : {under others own all : ℕ} → x ≡ Ok under → y ≡ Ok others → own ≡ counted q under → all ≡ min (own + others) 4294967295 → PartReleased rs rs₃ f f₃ fuel p (Ok all)
          part_freed {under} {others} {own} {all} got-x got-y own_is all_is = at_first (kept_then (kept_twig give rd got) (kept_then down.free_kept rest.free_kept)) (λ mn D fs k X.
              let q-is : q ≡ part_of X.B.Q = ok_same got X.ok in
              let under-is : under ≡ stopped (length (rows_part X.B.Q)) = ok_same got-x (under_back mn D fs k X).ok in
              let others-is : others ≡ stopped (length (rows_part X.N.Q)) = ok_same got-y (rest_back mn D fs k X).ok in
              let one : own ≡ stopped (counted (part_of X.B.Q) (length (rows_part X.B.Q))) = own_is ∙ ap₂ counted q-is under-is ∙ counted_stopped (part_of X.B.Q) (length (rows_part X.B.Q)) in
              told (then (occ_arm D) fs (first_back mn D fs k X) (freed (rest_back mn D fs k X)) (λ j. omega (arith, X.occs j)))
              (ap Ok (omega (arith, X.leaves))))

  pub tree_nothing : {rs : List (Record R V)} {f : Link} {fuel : ℕ} {tr : Tree} → tr ≡ Empty → TreeReleased rs rs f f fuel tr (Ok 0)
  tree_nothing {rs} {f} is = record { frees = λ mn t fs k et ef fit chain once low top. tree_empty (λ t. Back rs rs f (Ok 0) (occ t) (stopped (length (rows t))) fs) (nothing fs ef chain) t (et ∙ is); free_kept = kept_all }

  pub tree_one : {rs rs' : List (Record R V)} {f f' : Link} {fuel i : ℕ} {tr : Tree} {r : Result ℕ Unsound} → tr ≡ Single i → PartReleased rs rs' f f' 16 (Some (One i)) r → TreeReleased rs rs' f f' fuel tr r
  tree_one {rs} {rs'} {f} {f'} {i = i} {r = r} is part = record {
    frees = λ mn t fs k et ef fit chain once low top.
        tree_single (λ t. Fit mn rs t k → ((j : ℕ) → occ t j + occ_list fs j ≤ 1) → Back rs rs' f' r (occ t) (stopped (length (rows t))) fs) i
        (λ w ew fit once. part.frees mn (Some (a1 w)) fs k (ap (λ q. Some (One q)) ew) ef fit chain once (omega (arith, top))) t (et ∙ is) fit once;
    free_kept = part.free_kept;
  }

  pub tree_no_fuel : {rs : List (Record R V)} {f f' : Link} {fuel i : ℕ} {tr : Tree} {r : Result ℕ Unsound} → tr ≡ Deep i → fuel ≡ 0 → TreeReleased rs rs f f' fuel tr r
  tree_no_fuel {rs} {f} {f'} {fuel} {i} {r = r} is z = record {
    frees = λ mn t fs k et ef fit chain once low top.
        tree_deep (λ t. levels t ≤ fuel → Back rs rs f' r (occ t) (stopped (length (rows t))) fs) i (λ j v F m B ji low. absurd (omega (arith, low))) t (et ∙ is) low;
    free_kept = kept_all;
  }

  pub tree_no_level : {rs : List (Record R V)} {f f' : Link} {fuel i : ℕ} {tr : Tree} {sp : Result Spine Unsound} {e : Unsound} {r : Result ℕ Unsound} → tr ≡ Deep i → sp ≡ spine_in (get_or rs i none) → sp ≡ Err e → TreeReleased rs rs f f' fuel tr r
  tree_no_level {rs} {f} {f'} {i = i} {r = r} is rd bad = record {
    frees = λ mn t fs k et ef fit chain once low top.
        tree_deep (λ t. Fit mn rs t k → Back rs rs f' r (occ t) (stopped (length (rows t))) fs) i (λ j v F m B ji fit. absurd (ok_err (rd ∙ ap (λ q. spine_in (get_or rs q none)) (sym ji) ∙ ap spine_in fit.0.is) bad)) t (et ∙ is) fit;
    free_kept = kept_all;
  }

  -- what is known at a level
  record There (rs rs₁ : List (Record R V)) (f₁ : Link) (fuel i : ℕ) (level : Spine) (w : Result (Unit {0}) Unsound) (mn : List R → V) (v : V) (F : Arm R V) (m : Finger R V) (B : Arm R V) (fs : List ℕ) (k : ℕ) : Type 0 where
    pub front_is : digit_of F ≡ level.front
    pub middle_is : tree_of m ≡ level.middle
    pub back_is : digit_of B ≡ level.back
    pub fit : Fit mn rs (deep i v F m B) k
    pub given : w ≡ Ok tt
    pub gone : Freed rs rs₁ f₁ (same i) fs
    pub once : (j : ℕ) → occ (deep i v F m B) j + occ_list fs j ≤ 1
    pub low : suc (levels m) ≤ fuel
    pub top : k + suc (levels m) < 16
    pub leaves : length (rows (deep i v F m B)) ≡ (length (rows_arm F) + length (rows m)) + length (rows_arm B)

  module _ {rs rs₁ : List (Record R V)} {f f₁ : Link} {fuel i : ℕ} {tr : Tree} {sp : Result Spine Unsound} {level : Spine} {w : Result (Unit {0}) Unsound}
      (deep_is : tr ≡ Deep i) (rd : sp ≡ spine_in (get_or rs i none)) (read : sp ≡ Ok level) (give : Given rs rs₁ f f₁ i w) where
    -- every path at a level
    at_deep : {rs' : List (Record R V)} {f' : Link} {r : Result ℕ Unsound} → FreeKept rs rs'
        → ((mn : List R → V) (v : V) (F : Arm R V) (m : Finger R V) (B : Arm R V) (fs : List ℕ) (k : ℕ) → There rs rs₁ f₁ fuel i level w mn v F m B fs k → Back rs rs' f' r (occ (deep i v F m B)) (stopped (length (rows (deep i v F m B)))) fs)
        → TreeReleased rs rs' f f' fuel tr r
    at_deep {rs'} {f'} {r} kept go = record {
      frees = λ mn t fs k et ef fit chain once low top.
          at_level rs rd read (λ t. Fit mn rs t k → ((j : ℕ) → occ t j + occ_list fs j ≤ 1) → levels t ≤ fuel → k + levels t < 16 → Back rs rs' f' r (occ t) (stopped (length (rows t))) fs)
          (λ v F m B eF em eB fit once low top. go mn v F m B fs k (record {
            front_is = eF;
            middle_is = em;
            back_is = eB;
            fit = fit;
            given = (give.gives fit.0.within).0;
            gone = gift give fs fit.0.within ef chain (λ j. omega (arith, once j));
            once = once;
            low = low;
            top = top;
            leaves = omega (arith, length-append (rows_arm F ++ rows m) (rows_arm B), length-append (rows_arm F) (rows m));
          })) mn t k fit (et ∙ deep_is) fit once low top;
      free_kept = kept;
    }

    pub tree_no_gift : {f' : Link} {e : Unsound} {r : Result ℕ Unsound} → w ≡ Err e → TreeReleased rs rs₁ f f' fuel tr r
    tree_no_gift bad = at_deep (kept_level give rd read) (λ mn v F m B fs k X. absurd (ok_err X.given bad))

    module _ {rs₂ : List (Record R V)} {f₂ : Link} {x : Result ℕ Unsound} (front : PartReleased rs₁ rs₂ f₁ f₂ 16 (Some level.front) x) where
      front_back : (mn : List R → V) (v : V) (F : Arm R V) (m : Finger R V) (B : Arm R V) (fs : List ℕ) (k : ℕ) (X : There rs rs₁ f₁ fuel i level w mn v F m B fs k) → Back rs₁ rs₂ f₂ x (occ_arm F) (stopped (length (rows_arm F))) X.gone.fs'
      front_back mn v F m B fs k X =
          let G = X.gone in
          front.frees mn (Some F) G.fs' k (ap Some X.front_is) G.first (frame_arm G.frame mn F k (λ j. omega (arith, X.once j)) X.fit.2) G.chain (λ j. omega (arith, X.once j, G.kept j)) (omega (arith, X.top))

      pub tree_no_front : {f' : Link} {e : Unsound} {r : Result ℕ Unsound} → x ≡ Err e → TreeReleased rs rs₂ f f' fuel tr r
      tree_no_front bad = at_deep (kept_then (kept_level give rd read) front.free_kept) (λ mn v F m B fs k X. absurd (ok_err (front_back mn v F m B fs k X).ok bad))

      module _ {rs₃ : List (Record R V)} {f₃ : Link} {y : Result ℕ Unsound} (inner : TreeReleased rs₂ rs₃ f₂ f₃ (fuel - 1) level.middle y) where
        -- a level's slot and its front digit
        half_back : (mn : List R → V) (v : V) (F : Arm R V) (m : Finger R V) (B : Arm R V) (fs : List ℕ) (k : ℕ) → There rs rs₁ f₁ fuel i level w mn v F m B fs k → Freed rs rs₂ f₂ (λ j. same i j + occ_arm F j) fs
        half_back mn v F m B fs k X = then (λ j. same i j + occ_arm F j) fs X.gone (freed (front_back mn v F m B fs k X)) (λ j. refl)

        middle_back : (mn : List R → V) (v : V) (F : Arm R V) (m : Finger R V) (B : Arm R V) (fs : List ℕ) (k : ℕ) (X : There rs rs₁ f₁ fuel i level w mn v F m B fs k) → Back rs₂ rs₃ f₃ y (occ m) (stopped (length (rows m))) (half_back mn v F m B fs k X).fs'
        middle_back mn v F m B fs k X =
            let A = half_back mn v F m B fs k X in
            inner.frees mn m A.fs' (suc k) X.middle_is A.first (frame A.frame mn m (suc k) (λ j. omega (arith, X.once j)) X.fit.3) A.chain (λ j. omega (arith, X.once j, A.kept j)) (omega (arith, X.low)) (omega (arith, X.top))

        pub tree_no_middle : {f' : Link} {e : Unsound} {r : Result ℕ Unsound} → y ≡ Err e → TreeReleased rs rs₃ f f' fuel tr r
        tree_no_middle bad = at_deep (kept_then (kept_level give rd read) (kept_then front.free_kept inner.free_kept)) (λ mn v F m B fs k X. absurd (ok_err (middle_back mn v F m B fs k X).ok bad))

        module _ {rs₄ : List (Record R V)} {f₄ : Link} {z : Result ℕ Unsound} (back : PartReleased rs₃ rs₄ f₃ f₄ 16 (Some level.back) z) where
          most_back : (mn : List R → V) (v : V) (F : Arm R V) (m : Finger R V) (B : Arm R V) (fs : List ℕ) (k : ℕ) → There rs rs₁ f₁ fuel i level w mn v F m B fs k → Freed rs rs₃ f₃ (λ j. (same i j + occ_arm F j) + occ m j) fs
          most_back mn v F m B fs k X = then (λ j. (same i j + occ_arm F j) + occ m j) fs (half_back mn v F m B fs k X) (freed (middle_back mn v F m B fs k X)) (λ j. refl)

          last_back : (mn : List R → V) (v : V) (F : Arm R V) (m : Finger R V) (B : Arm R V) (fs : List ℕ) (k : ℕ) (X : There rs rs₁ f₁ fuel i level w mn v F m B fs k) → Back rs₃ rs₄ f₄ z (occ_arm B) (stopped (length (rows_arm B))) (most_back mn v F m B fs k X).fs'
          last_back mn v F m B fs k X =
              let A = most_back mn v F m B fs k X in
              back.frees mn (Some B) A.fs' k (ap Some X.back_is) A.first (frame_arm A.frame mn B k (λ j. omega (arith, X.once j)) X.fit.4) A.chain (λ j. omega (arith, X.once j, A.kept j)) (omega (arith, X.top))

          pub tree_no_back : {f' : Link} {e : Unsound} {r : Result ℕ Unsound} → z ≡ Err e → TreeReleased rs rs₄ f f' fuel tr r
          tree_no_back bad = at_deep (kept_then (kept_level give rd read) (kept_then front.free_kept (kept_then inner.free_kept back.free_kept))) (λ mn v F m B fs k X. absurd (ok_err (last_back mn v F m B fs k X).ok bad))

          pub tree_freed : {a b c half all : ℕ} → x ≡ Ok a → y ≡ Ok b → z ≡ Ok c → half ≡ min (a + b) 4294967295 → all ≡ min (half + c) 4294967295 → TreeReleased rs rs₄ f f₄ fuel tr (Ok all)
          tree_freed {a} {b} {c} {half} {all} got-x got-y got-z half_is all_is = at_deep (kept_then (kept_level give rd read) (kept_then front.free_kept (kept_then inner.free_kept back.free_kept))) (λ mn v F m B fs k X.
              let a-is : a ≡ stopped (length (rows_arm F)) = ok_same got-x (front_back mn v F m B fs k X).ok in
              let b-is : b ≡ stopped (length (rows m)) = ok_same got-y (middle_back mn v F m B fs k X).ok in
              let c-is : c ≡ stopped (length (rows_arm B)) = ok_same got-z (last_back mn v F m B fs k X).ok in
              told (then (occ (deep i v F m B)) fs (most_back mn v F m B fs k X) (freed (last_back mn v F m B fs k X)) (λ j. omega arith))
              (ap Ok (omega (arith, X.leaves))))

  pub released : {rs rs' : List (Record R V)} {f f' : Link} {tr : Tree} {r : Result ℕ Unsound} → TreeReleased rs rs' f f' 16 tr r → Released rs rs' f f' tr r
  released {rs} T = record {
    frees = λ mn t fs et ef fit chain once small.
        let few = few_levels mn rs t fit small in
        let b = T.frees mn t fs 0 et ef fit chain once (omega arith) (omega arith) in
        told (freed b) (b.ok ∙ ap Ok (omega arith));
    free_kept = T.free_kept;
  }
