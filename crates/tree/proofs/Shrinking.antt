-- The paths of settle, replant, plant, refill, deep and pop. Assumes nothing.
use Rattle.std.proofs.Common.{sym, refl, ap, ◌∙◌, subst, inr, append_assoc, arith}
use Rattle.measures.specs.Law.{heaviest}
use Rattle.std.specs.Prelude.{◌≡◌, List, [], ◌∷◌, ◌++◌, ℕ, suc, ◌+◌, ◌-◌, ◌≤◌, ◌<◌, length, get_or}
use Rattle.std.specs.declared.option.Option.{Option}
use Rattle.std.specs.declared.option.Option.TheVariants.{None, Some}
use Rattle.std.specs.declared.result.Result.{Result}
use Rattle.std.specs.declared.result.Result.TheVariants.{Ok, Err}
use Rattle.tree.specs.Words.{Unsound, Link, Digit, One, Two, Three, Four, Tree, Empty, Single, Deep, Record, Free, Side, Front, Back, Peel, Spine}
use Rattle.slots.specs.Ghost.{Twig, Arm, a1, a2, a3, a4, Finger, nil, one, deep, same, occ_list, head_of, none, root, digit_of, tree_of, rows_twig, rows_arm, rows_part, rows, levels, Full, occ_twig, occ_arm, occ_part, occ, At, FitTwig, FitArm, FitPart, Fit, Chain, Calm, Off}
use Rattle.slots.specs.Sides.{pick, flipped, ends, peeled}
use Rattle.slots.specs.Values.{mean, wt, spine_in}
use Rattle.slots.specs.Post.{LevelValued, Taken, Given}
use Rattle.tree.specs.declared.ends.Popped.{Popped}
use Rattle.tree.specs.Post.{LevelPut, NodeTaken, Shrunk, Parts, Whole, Settled, Refilled, Deepened, Replanted, Planted, Has, Pop, Pops, PopsFirst}
use Rattle.slots.proofs.Frames.{calm_then, off_refl, off_then, off_more, put, put_calm, frame_twig, frame_arm, frame, frame_chain}
use Rattle.slots.proofs.Shapes.{ok_err, ok_same, arm_one, arm_two, arm_three, arm_four, part_none, part_some, tree_empty, tree_single, tree_deep, at_level}
use Rattle.slots.proofs.Weights.{wt_append, wt_ends}
use Rattle.slots.proofs.Depth.{few_levels}
use Rattle.slots.proofs.Ends.{ends_assoc, ends_nil, nil_ends, pick_flipped, sided, by_side, rows_sided, wt_sided, occ_sided, fit_sided, Peeled, peel_arm}
use Rattle.tree.proofs.Levels.{side_done, unpacked}

popped_is : (p : Popped) (x : ℕ) (t : Tree) → p.slot ≡ x → p.rest ≡ t → p ≡ record { slot = x; rest = t }
popped_is p x t ex et = ap (λ q. record { slot = q; rest = p.rest }) ex ∙ ap (λ q. record { slot = x; rest = q }) et

module _ {R V : Type 0} where
  no_slot_go : {rs : List (Record R V)} {f f' : Link} {p : Result ℕ Unsound} {e : Unsound} (fs : List ℕ) → Taken rs f f' p → p ≡ Err e → head_of fs ≡ f → Chain rs fs → 0 < length fs → ⊥
  no_slot_go [] took bad ef chain long = omega (arith, long)
  no_slot_go (n ∷ ns) took bad ef chain long = ok_err (took.takes n ns (sym ef) chain).0 bad

module _ {R I V : Type 0} {weigh : I → ℕ} {means : List I → V} where
  -- what was made after some other change
  pub shrunk_after : {rs rs₁ rs₂ : List (Record R V)} {f' : Link} {r : Result Tree Unsound} {T T' : List R} {τ : ℕ → ℕ} {top top' len len' k : ℕ} (items : R → List I) (τ₁ τ' : ℕ → ℕ)
      → Off rs rs₁ τ₁ → ((j : ℕ) → Calm (get_or rs j none) (get_or rs₁ j none)) → Shrunk weigh means items rs₁ rs₂ f' r T τ top len k
      → T ≡ T' → ((j : ℕ) → τ j ≡ τ' j) → ((j : ℕ) → τ' j ≡ 0 → τ₁ j ≡ 0) → top ≤ top' → len' ≤ len → Shrunk weigh means items rs rs₂ f' r T' τ' top' len' k
  shrunk_after items τ₁ τ' off calm S eT eτ le lo hi =
      let G = S.made in
      record {
        made = record {
          t' = G.t';
          fs' = G.fs';
          js = G.js;
          ok = G.ok;
          first = G.first;
          text = G.text ∙ eT;
          fit = G.fit;
          chain = G.chain;
          kept = λ j. G.kept j ∙ eτ j;
          frame = off_more τ' (λ j z. omega (arith, le j z, eτ j)) (off_then off G.frame);
          fresh = λ j z. calm_then (calm j) (G.fresh j z);
        };
        old = S.old;
        high = omega (arith, S.high);
        more = omega (arith, S.more);
      }

  pub shrunk_calm : {rs rs' : List (Record R V)} {f' : Link} {r : Result Tree Unsound} {T : List R} {τ : ℕ → ℕ} {top len k : ℕ} {items : R → List I} → Shrunk weigh means items rs rs' f' r T τ top len k → (j : ℕ) → Calm (get_or rs j none) (get_or rs' j none)
  shrunk_calm S j = S.made.fresh j (ap (λ q. occ_list q j) S.old)

  level_joined : (s : Side) {rs : List (Record R V)} {n d : Digit} {tm : Tree} {value : Result V Unsound} → LevelValued weigh means rs (pick s n d) tm (pick s d n) value
      → (items : R → List I) (N : Arm R V) (m : Finger R V) (B : Arm R V) (k : ℕ) → digit_of N ≡ n → tree_of m ≡ tm → digit_of B ≡ d → FitArm (mean means items) rs N k → Fit (mean means items) rs m (suc k) → FitArm (mean means items) rs B k
      → wt weigh items (rows_arm N) + (wt weigh items (rows m) + wt weigh items (rows_arm B)) ≤ heaviest → value ≡ Ok (mean means items (ends s (rows_arm N) (ends s (rows m) (rows_arm B))))
  level_joined Front va items N m B k en et eb fn fm fb light =
      va.values items N m B k (suc k) en et eb fn fm fb (omega (arith, light, wt_append weigh items (rows_arm N ++ rows m) (rows_arm B), wt_append weigh items (rows_arm N) (rows m)))
      ∙ ap (λ q. Ok (mean means items q)) (append_assoc (rows_arm N) (rows m) (rows_arm B))
  level_joined Back va items N m B k en et eb fn fm fb light =
      va.values items B m N k (suc k) eb et en fb fm fn (omega (arith, light, wt_append weigh items (rows_arm B ++ rows m) (rows_arm N), wt_append weigh items (rows_arm B) (rows m)))

  pub settled : {rs rs' : List (Record R V)} {s : Side} {i : ℕ} {n d a b : Digit} {tm : Tree} {value : Result V Unsound} {r : Result Tree Unsound}
      → a ≡ pick s n d → b ≡ pick s d n → LevelValued weigh means rs a tm b value → LevelPut rs rs' i (pick s n d) tm (pick s d n) value r → Settled weigh means rs rs' s i n tm d r
  settled {rs} {s = s} {i} {n} {d} {a} {b} {tm} {value} ea eb₁ va lp = record {
    settles = λ items f N m B fs k en et eb fn h.
        let mn : List R → V = mean means items in
        let T : List R = ends s (rows_arm N) (ends s (rows m) (rows_arm B)) in
        let va₁ : LevelValued weigh means rs (pick s n d) tm (pick s d n) value = subst (λ q. LevelValued weigh means rs (pick s n d) tm q value) eb₁ (subst (λ q. LevelValued weigh means rs q tm b value) ea va) in
        let L = side_done mn s lp N m B k T en et eb h.within fn h.fit_m h.fit_b (level_joined s va₁ items N m B k en et eb fn h.fit_m h.fit_b h.light) refl (λ j. omega (arith, h.once j)) in
        record {
          made = record {
            t' = sided s i L.v N m B;
            fs' = fs;
            js = [];
            ok = L.ok;
            first = h.first;
            text = rows_sided s i L.v N m B;
            fit = L.fit;
            chain = frame_chain L.off fs (λ j. omega (arith, h.once j)) h.chain;
            kept = λ j. omega (arith, occ_sided s N B j);
            frame = off_more _ (λ j z. omega arith) L.off;
            fresh = λ j z. L.calm j;
          };
          old = refl;
          high = omega arith;
          more = omega arith;
        };
  }

  -- a digit of one slot needs no level
  pub replant_one : {rs rs' : List (Record R V)} {f f' : Link} {i a : ℕ} {d : Digit} {w : Result (Unit {0}) Unsound} → d ≡ One a → Given rs rs' f f' i w → Replanted weigh means rs rs' f f' i d (Ok (Single a))
  replant_one {rs} {rs'} {f} {f'} {i} {a} is give = record {
    grows = λ items A fs k ea ef within fit chain light once.
        arm_one (λ A. FitArm (mean means items) rs A k → ((j : ℕ) → same i j + (occ_arm A j + occ_list fs j) ≤ 1) → Shrunk weigh means items rs rs' f' (Ok (Single a)) (rows_arm A) (λ j. same i j + (occ_arm A j + occ_list fs j)) 1 (length fs) k) a
        (λ x e fx once.
        let g = give.gives within in
        let p = put within g.2 in
        let at₁ : At rs' i (Free (head_of fs)) = subst (λ q. At rs' i (Free q)) (sym ef) p.at in
        record {
          made = record {
            t' = one x;
            fs' = i ∷ fs;
            js = [];
            ok = ap (λ q. Ok (Single q)) (sym e);
            first = sym g.1;
            text = refl;
            fit = frame_twig p.off (mean means items) x k (λ j. omega (arith, once j)) fx;
            chain = (at₁, frame_chain p.off fs (λ j. omega (arith, once j)) chain);
            kept = λ j. omega arith;
            frame = off_more _ (λ j z. omega arith) p.off;
            fresh = λ j z. put_calm p refl j;
          };
          old = refl;
          high = omega arith;
          more = omega arith;
        }) A (ea ∙ is) fit once;
  }

  pub replant_no_gift : {rs rs' rs'' : List (Record R V)} {f f' f'' : Link} {i : ℕ} {d : Digit} {w : Result (Unit {0}) Unsound} {e : Unsound} {r : Result Tree Unsound} → Given rs rs' f f' i w → w ≡ Err e → Replanted weigh means rs rs'' f f'' i d r
  replant_no_gift give bad = record { grows = λ items A fs k ea ef within fit chain light once. absurd (ok_err (give.gives within).0 bad) }

  -- a digit of more than one slot becomes two digits
  module _ {rs rs' : List (Record R V)} {f : Link} {i : ℕ} {r : Result Tree Unsound} where
    two_arms : {n d : Digit} → Settled weigh means rs rs' Front i n Empty d r → (items : R → List I) (N B : Arm R V) (A : List R) (α : ℕ → ℕ) (fs : List ℕ) (k : ℕ) → digit_of N ≡ n → digit_of B ≡ d → head_of fs ≡ f → i < length rs
        → FitArm (mean means items) rs N k → FitArm (mean means items) rs B k → Chain rs fs → wt weigh items A ≤ heaviest → rows_arm N ++ rows_arm B ≡ A → ((j : ℕ) → occ_arm N j + occ_arm B j ≡ α j)
        → ((j : ℕ) → same i j + (α j + occ_list fs j) ≤ 1) → Shrunk weigh means items rs rs' f r A (λ j. same i j + (α j + occ_list fs j)) 1 (length fs) k
    two_arms st items N B A α fs k en eb ef within fn fb chain light text occs once =
        let w₁ : wt weigh items (rows_arm N) + wt weigh items (rows_arm B) ≡ wt weigh items A = sym (wt_append weigh items (rows_arm N) (rows_arm B)) ∙ ap (wt weigh items) text in
        let S = st.settles items f N nil B fs k en refl eb fn (record { first = ef; within = within; fit_m = tt; fit_b = fb; chain = chain; light = omega (arith, light, w₁); once = λ j. omega (arith, once j, occs j) }) in
        shrunk_after items (λ j. 0) (λ j. same i j + (α j + occ_list fs j)) off_refl (λ j. inr refl) S text (λ j. omega (arith, occs j)) (λ j z. refl) (omega arith) (omega arith)

    pub replant_two : {a b : ℕ} {d : Digit} → d ≡ Two a b → Settled weigh means rs rs' Front i (One a) Empty (One b) r → Replanted weigh means rs rs' f f i d r
    replant_two {a} {b} is st = record {
      grows = λ items A fs k ea ef within fit chain light once.
          arm_two (λ A. FitArm (mean means items) rs A k → wt weigh items (rows_arm A) ≤ heaviest → ((j : ℕ) → same i j + (occ_arm A j + occ_list fs j) ≤ 1) → Shrunk weigh means items rs rs' f r (rows_arm A) (λ j. same i j + (occ_arm A j + occ_list fs j)) 1 (length fs) k) a b
          (λ x y p q fx l once. two_arms st items (a1 x) (a1 y) (rows_twig x ++ rows_twig y) (occ_arm (a2 x y)) fs k (ap One p) (ap One q) ef within fx.0 fx.1 chain l refl (λ j. refl) once) A (ea ∙ is) fit light once;
    }

    pub replant_three : {a b c : ℕ} {d : Digit} → d ≡ Three a b c → Settled weigh means rs rs' Front i (Two a b) Empty (One c) r → Replanted weigh means rs rs' f f i d r
    replant_three {a} {b} {c} is st = record {
      grows = λ items A fs k ea ef within fit chain light once.
          arm_three (λ A. FitArm (mean means items) rs A k → wt weigh items (rows_arm A) ≤ heaviest → ((j : ℕ) → same i j + (occ_arm A j + occ_list fs j) ≤ 1) → Shrunk weigh means items rs rs' f r (rows_arm A) (λ j. same i j + (occ_arm A j + occ_list fs j)) 1 (length fs) k) a b c
          (λ x y z p q o fx l once. two_arms st items (a2 x y) (a1 z) ((rows_twig x ++ rows_twig y) ++ rows_twig z) (occ_arm (a3 x y z)) fs k (cc) (ap One o) ef within (fx.0, fx.1) fx.2 chain l refl (λ j. omega arith) once) A (ea ∙ is) fit light once;
    }

    pub replant_four : {a b c h : ℕ} {d : Digit} → d ≡ Four a b c h → Settled weigh means rs rs' Front i (Two a b) Empty (Two c h) r → Replanted weigh means rs rs' f f i d r
    replant_four {a} {b} {c} {h} is st = record {
      grows = λ items A fs k ea ef within fit chain light once.
          arm_four (λ A. FitArm (mean means items) rs A k → wt weigh items (rows_arm A) ≤ heaviest → ((j : ℕ) → same i j + (occ_arm A j + occ_list fs j) ≤ 1) → Shrunk weigh means items rs rs' f r (rows_arm A) (λ j. same i j + (occ_arm A j + occ_list fs j)) 1 (length fs) k) a b c h
          (λ x y z w p q o n fx l once. two_arms st items (a2 x y) (a2 z w) (((rows_twig x ++ rows_twig y) ++ rows_twig z) ++ rows_twig w) (occ_arm (a4 x y z w)) fs k (cc) (cc) ef within (fx.0, fx.1) (fx.2, fx.3) chain l (simp append_assoc) (λ j. omega arith) once) A (ea ∙ is) fit light once;
    }

  pub plant_none : {rs : List (Record R V)} {f : Link} {d : Option Digit} → d ≡ None → Planted weigh means rs rs f f d (Ok Empty)
  plant_none {rs} {f} is = record {
    plants = λ items Q fs k eq ef fq chain light once long.
        part_none (λ Q. Shrunk weigh means items rs rs f (Ok Empty) (rows_part Q) (λ j. occ_part Q j + occ_list fs j) 1 (length fs - 1) k)
        (record {
          made = record { t' = nil; fs' = fs; js = []; ok = refl; first = ef; text = refl; fit = tt; chain = chain; kept = λ j. omega arith; frame = off_refl; fresh = λ j z. inr refl };
          old = refl;
          high = omega arith;
          more = omega arith;
        }) Q (eq ∙ is);
  }

  plant_go : {rs rs' : List (Record R V)} {f f₁ f' : Link} {d : Digit} {i : ℕ} {p : Result ℕ Unsound} {r : Result Tree Unsound} → Taken rs f f₁ p → p ≡ Ok i → Replanted weigh means rs rs' f₁ f' i d r
      → (items : R → List I) (A : Arm R V) (fs : List ℕ) (k : ℕ) → digit_of A ≡ d → head_of fs ≡ f → FitArm (mean means items) rs A k → Chain rs fs → wt weigh items (rows_arm A) ≤ heaviest
      → ((j : ℕ) → occ_arm A j + occ_list fs j ≤ 1) → 0 < length fs → Shrunk weigh means items rs rs' f' r (rows_arm A) (λ j. occ_arm A j + occ_list fs j) 1 (length fs - 1) k
  plant_go took got rp items A [] k ea ef fit chain light once long = absurd (omega (arith, long))
  plant_go {rs} {rs'} {f} {f₁} {f'} {d} {i} {p} {r} took got rp items A (n ∷ ns) k ea ef fit chain light once long =
      let t = took.takes n ns (sym ef) chain in
      let rp₁ : Replanted weigh means rs rs' f₁ f' n d r = subst (λ q. Replanted weigh means rs rs' f₁ f' q d r) (ok_same got t.0) rp in
      let S = rp₁.grows items A ns k ea (sym t.1) chain.0.within fit chain.1 light (λ j. omega (arith, once j)) in
      shrunk_after items (λ j. 0) (λ j. occ_arm A j + occ_list (n ∷ ns) j) off_refl (λ j. inr refl) S refl (λ j. omega arith) (λ j z. refl) (omega arith) (omega arith)

  pub plant_some : {rs rs₁ rs' : List (Record R V)} {f f₁ f' : Link} {o : Option Digit} {d : Digit} {i : ℕ} {p : Result ℕ Unsound} {r : Result Tree Unsound} → o ≡ Some d → Taken rs f f₁ p → rs₁ ≡ rs → p ≡ Ok i → Replanted weigh means rs₁ rs' f₁ f' i d r → Planted weigh means rs rs' f f' o r
  plant_some {rs} {rs₁} {rs'} {f} {f₁} {f'} {o} {d} {i} {r = r} is took kept got rp = record {
    plants = λ items Q fs k eq ef fq chain light once long.
        part_some (λ Q. FitPart (mean means items) rs Q k → wt weigh items (rows_part Q) ≤ heaviest → ((j : ℕ) → occ_part Q j + occ_list fs j ≤ 1) → Shrunk weigh means items rs rs' f' r (rows_part Q) (λ j. occ_part Q j + occ_list fs j) 1 (length fs - 1) k) d
        (λ A ea fa l on. plant_go took got (subst (λ q. Replanted weigh means q rs' f₁ f' i d r) kept rp) items A fs k ea ef fa chain l on long) Q (eq ∙ is) fq light once;
  }

  pub plant_no_slot : {rs rs' : List (Record R V)} {f f₁ f' : Link} {o : Option Digit} {p : Result ℕ Unsound} {e : Unsound} {r : Result Tree Unsound} → Taken rs f f₁ p → p ≡ Err e → Planted weigh means rs rs' f f' o r
  plant_no_slot took bad = record { plants = λ items Q fs k eq ef fq chain light once long. absurd (no_slot_go fs took bad ef chain long) }

  -- the digit is the parts of a node
  pub refilled : {rs rs₁ rs₂ : List (Record R V)} {f f₁ : Link} {s : Side} {i n : ℕ} {tm : Tree} {d d₁ : Digit} {p : Result Digit Unsound} {r : Result Tree Unsound}
      → NodeTaken rs rs₁ f f₁ n p → p ≡ Ok d₁ → Settled weigh means rs₁ rs₂ s i d₁ tm d r → Refilled weigh means rs rs₂ f f₁ s i n tm d r
  refilled {rs} {rs₁} {rs₂} {f} {f₁} {s} {i} nt got st = record {
    refills = λ items w m B fs k ew et eb fw h.
        let mn : List R → V = mean means items in
        let U = unpacked nt mn w k ew fw in
        let A : Arm R V = U.arm in
        let n : ℕ = root w in
        let at₁ : At rs₁ n (Free (head_of fs)) = subst (λ q. At rs₁ n (Free q)) (sym h.first) U.at in
        let S = st.settles items f₁ A m B (n ∷ fs) k (ok_same U.ok got) et eb (frame_arm U.off mn A k (λ j. omega (arith, h.once j, U.occs j)) U.fit) (record {
          first = U.first;
          within = omega (arith, U.off.len, h.within);
          fit_m = frame U.off mn m (suc k) (λ j. omega (arith, h.once j, U.occs j)) h.fit_m;
          fit_b = frame_arm U.off mn B k (λ j. omega (arith, h.once j, U.occs j)) h.fit_b;
          chain = (at₁, frame_chain U.off fs (λ j. omega (arith, h.once j, U.occs j)) h.chain);
          light = omega (arith, h.light, ap (wt weigh items) U.text);
          once = λ j. omega (arith, h.once j, U.occs j);
        }) in
        shrunk_after items (same n) (λ j. same i j + (occ_twig w j + (occ m j + (occ_arm B j + occ_list fs j)))) U.off U.calm S
        (ap (λ q. ends s q (ends s (rows m) (rows_arm B))) U.text) (λ j. omega (arith, U.occs j)) (λ j z. omega (arith, z, U.occs j)) (omega arith) (omega arith);
  }

  pub refill_no_node : {rs rs₁ rs₂ : List (Record R V)} {f f₁ f₂ : Link} {s : Side} {i n : ℕ} {tm : Tree} {d : Digit} {p : Result Digit Unsound} {e : Unsound} {r : Result Tree Unsound}
      → NodeTaken rs rs₁ f f₁ n p → p ≡ Err e → Refilled weigh means rs rs₂ f f₂ s i n tm d r
  refill_no_node nt bad = record { refills = λ items w m B fs k ew et eb fw h. absurd (ok_err (unpacked nt (mean means items) w k ew fw).ok bad) }

  pub deep_some : {rs rs' : List (Record R V)} {f : Link} {fuel : ℕ} {s : Side} {i : ℕ} {o : Option Digit} {n d : Digit} {tm : Tree} {r : Result Tree Unsound} → o ≡ Some n → Settled weigh means rs rs' s i n tm d r → Deepened weigh means rs rs' f f fuel s i o tm d r
  deep_some {rs} {rs'} {f} {s = s} {i} {n = n} {r = r} is st = record {
    deepens = λ items Q m B fs k eq et eb fq h low.
        part_some (λ Q. FitPart (mean means items) rs Q k → Parts weigh means items rs f i (rows_part Q) (occ_part Q) m B fs k → Whole weigh means items rs rs' f s i r (rows_part Q) (occ_part Q) m B fs k) n
        (λ N en fn h. st.settles items f N m B fs k en et eb fn h) Q (eq ∙ is) fq h;
  }

  -- the digit is missing, and the middle is empty
  pub deep_empty : {rs rs' : List (Record R V)} {f f' : Link} {fuel : ℕ} {s : Side} {i : ℕ} {o : Option Digit} {d : Digit} {tm : Tree} {r : Result Tree Unsound} → o ≡ None → tm ≡ Empty → Replanted weigh means rs rs' f f' i d r → Deepened weigh means rs rs' f f' fuel s i o tm d r
  deep_empty {rs} {rs'} {f} {f'} {s = s} {i} {r = r} is empty rp = record {
    deepens = λ items Q m B fs k eq et eb fq h low.
        part_none (λ Q. Parts weigh means items rs f i (rows_part Q) (occ_part Q) m B fs k → Whole weigh means items rs rs' f' s i r (rows_part Q) (occ_part Q) m B fs k)
        (λ h. tree_empty (λ m. Parts weigh means items rs f i [] (λ j. 0) m B fs k → Whole weigh means items rs rs' f' s i r [] (λ j. 0) m B fs k)
        (λ h. shrunk_after items (λ j. 0) (λ j. same i j + (0 + (0 + (occ_arm B j + occ_list fs j)))) off_refl (λ j. inr refl)
        (rp.grows items B fs k eb h.first h.within h.fit_b h.chain (omega (arith, h.light)) (λ j. omega (arith, h.once j)))
        (sym (nil_ends s (ends s [] (rows_arm B)) ∙ nil_ends s (rows_arm B))) (λ j. omega arith) (λ j z. refl) (omega arith) (omega arith)) m (et ∙ empty) h) Q (eq ∙ is) h;
  }

  -- the digit is missing, and the middle is one node
  pub deep_single : {rs rs' : List (Record R V)} {f f' : Link} {fuel n : ℕ} {s : Side} {i : ℕ} {o : Option Digit} {d : Digit} {tm : Tree} {r : Result Tree Unsound} → o ≡ None → tm ≡ Single n → Refilled weigh means rs rs' f f' s i n Empty d r → Deepened weigh means rs rs' f f' fuel s i o tm d r
  deep_single {rs} {rs'} {f} {f'} {n = n} {s} {i} {r = r} is single rf = record {
    deepens = λ items Q m B fs k eq et eb fq h low.
        part_none (λ Q. Parts weigh means items rs f i (rows_part Q) (occ_part Q) m B fs k → Whole weigh means items rs rs' f' s i r (rows_part Q) (occ_part Q) m B fs k)
        (λ h. tree_single (λ m. Parts weigh means items rs f i [] (λ j. 0) m B fs k → Whole weigh means items rs rs' f' s i r [] (λ j. 0) m B fs k) n
        (λ w ew h. shrunk_after items (λ j. 0) (λ j. same i j + (0 + (occ_twig w j + (occ_arm B j + occ_list fs j)))) off_refl (λ j. inr refl)
        (rf.refills items w nil B fs k ew refl eb h.fit_m (record { first = h.first; within = h.within; fit_m = tt; fit_b = h.fit_b; chain = h.chain; light = omega (arith, h.light); once = λ j. omega (arith, h.once j) }))
        (ap (λ q. ends s (rows_twig w) q) (nil_ends s (rows_arm B)) ∙ sym (nil_ends s (ends s (rows_twig w) (rows_arm B)))) (λ j. omega arith) (λ j z. refl) (omega arith) (omega arith)) m (et ∙ single) h) Q (eq ∙ is) h;
  }

-- a level without its first twig at a side
record Inside {R I V : Type 0} (weigh : I → ℕ) (means : List I → V) (items : R → List I) (rs rs₁ : List (Record R V)) (f₁ : Link) (s : Side) (j : ℕ) (p : Peel) (q : Result Tree Unsound) (N : Arm R V) (m : Finger R V) (X : Arm R V) (fs : List ℕ) (k : ℕ) : Type 0 where
  pub P : Peeled s N p
  pub fit_u : FitTwig (mean means items) rs P.u k
  pub S : Whole weigh means items rs rs₁ f₁ s j q (rows_part P.Q) (occ_part P.Q) m X fs k
  pub text : (v : V) → rows (sided s j v N m X) ≡ ends s (rows_twig P.u) (ends s (rows_part P.Q) (ends s (rows m) (rows_arm X)))

module _ {R I V : Type 0} {weigh : I → ℕ} {means : List I → V} where
  inside : {rs rs₁ : List (Record R V)} {f f₁ : Link} {fuel : ℕ} {s : Side} {j : ℕ} {nd xd : Digit} {p : Peel} {mt : Tree} {q : Result Tree Unsound}
      → p ≡ peeled s nd → Deepened weigh means rs rs₁ f f₁ fuel s j p.rest mt xd q
      → (items : R → List I) (v : V) (N : Arm R V) (m : Finger R V) (X : Arm R V) (fs : List ℕ) (k : ℕ) → digit_of N ≡ nd → tree_of m ≡ mt → digit_of X ≡ xd
      → Fit (mean means items) rs (sided s j v N m X) k → head_of fs ≡ f → Chain rs fs → wt weigh items (rows (sided s j v N m X)) ≤ heaviest → ((o : ℕ) → occ (sided s j v N m X) o + occ_list fs o ≤ 1) → levels m ≤ fuel
      → Inside weigh means items rs rs₁ f₁ s j p q N m X fs k
  inside {rs} {s = s} {j} {p = p} pis dp items v N m X fs k en et ex fit ef chain light once low =
      let mn : List R → V = mean means items in
      let P₁ = peel_arm s N en pis in
      let fits = fit_sided s mn rs N X k fit.2 fit.4 in
      let fp = P₁.fit mn rs k fits.0 in
      let w₁ : wt weigh items (rows_arm N) ≡ wt weigh items (rows_twig P₁.u) + wt weigh items (rows_part P₁.Q) = ap (wt weigh items) P₁.text ∙ wt_ends weigh items s (rows_twig P₁.u) (rows_part P₁.Q) in
      let w₂ = wt_sided weigh items s j v N m X in
      record {
        P = P₁;
        fit_u = fp.0;
        S = dp.deepens items P₁.Q m X fs k P₁.rest_is et ex fp.1 (record {
          first = ef;
          within = fit.0.within;
          fit_m = fit.3;
          fit_b = fits.1;
          chain = chain;
          light = omega (arith, light, w₁, w₂);
          once = λ o. omega (arith, once o, P₁.occs o, occ_sided s N X o);
        }) low;
        text = λ w. rows_sided s j w N m X ∙ ap (λ q. ends s q (ends s (rows m) (rows_arm X))) P₁.text ∙ sym (ends_assoc s (rows_twig P₁.u) (rows_part P₁.Q) (ends s (rows m) (rows_arm X)));
      }

  deep_go : {rs rs₁ rs₂ : List (Record R V)} {f f₁ f₂ : Link} {s : Side} {i j : ℕ} {p : Peel} {mt : Tree} {d : Digit} {q r : Result Tree Unsound} → q ≡ Ok mt → Refilled weigh means rs₁ rs₂ f₁ f₂ s i p.slot mt d r
      → (items : R → List I) (v : V) (N : Arm R V) (m : Finger R V) (X B : Arm R V) (fs : List ℕ) (k : ℕ) → digit_of B ≡ d → Inside weigh means items rs rs₁ f₁ s j p q N m X fs (suc k)
      → Parts weigh means items rs f i [] (λ o. 0) (sided s j v N m X) B fs k → Whole weigh means items rs rs₂ f₂ s i r [] (λ o. 0) (sided s j v N m X) B fs k
  deep_go {rs} {rs₁} {rs₂} {s = s} {i} {j} went rf items v N m X B fs k eb In h =
      let mn : List R → V = mean means items in
      let P = In.P in
      let G = In.S.made in
      let u : Twig R V = P.u in
      let text₁ : rows (sided s j v N m X) ≡ ends s (rows_twig u) (rows G.t') = In.text v ∙ ap (λ q. ends s (rows_twig u) q) (sym G.text) in
      let w₁ : wt weigh items (rows (sided s j v N m X)) ≡ wt weigh items (rows_twig u) + wt weigh items (rows G.t') = ap (wt weigh items) text₁ ∙ wt_ends weigh items s (rows_twig u) (rows G.t') in
      let S = rf.refills items u G.t' B G.fs' k P.slot_is (ok_same G.ok went) eb (frame_twig G.frame mn u (suc k) (λ o. omega (arith, h.once o, P.occs o, occ_sided s N X o)) In.fit_u) (record {
        first = G.first;
        within = omega (arith, G.frame.len, h.within);
        fit_m = G.fit;
        fit_b = frame_arm G.frame mn B k (λ o. omega (arith, h.once o, P.occs o, occ_sided s N X o)) h.fit_b;
        chain = G.chain;
        light = omega (arith, h.light, w₁);
        once = λ o. omega (arith, h.once o, G.kept o, P.occs o, occ_sided s N X o);
      }) in
      shrunk_after items (λ o. same j o + (occ_part P.Q o + (occ m o + (occ_arm X o + occ_list fs o)))) (λ o. same i o + (0 + (occ (sided s j v N m X) o + (occ_arm B o + occ_list fs o)))) G.frame (shrunk_calm In.S) S
      (ends_assoc s (rows_twig u) (rows G.t') (rows_arm B) ∙ ap (λ q. ends s q (rows_arm B)) (sym text₁) ∙ sym (nil_ends s (ends s (rows (sided s j v N m X)) (rows_arm B))))
      (λ o. omega (arith, G.kept o, P.occs o, occ_sided s N X o)) (λ o z. omega (arith, z, P.occs o, occ_sided s N X o)) (omega (arith, In.S.high)) (omega (arith, In.S.more))

  module _ {rs : List (Record R V)} {f : Link} {fuel : ℕ} {s : Side} {i j : ℕ} {o : Option Digit} {tm : Tree} (none_is : o ≡ None) (deep_is : tm ≡ Deep j) where
    pub deep_no_fuel : {rs' : List (Record R V)} {f' : Link} {d : Digit} {r : Result Tree Unsound} → fuel ≡ 0 → Deepened weigh means rs rs' f f' fuel s i o tm d r
    deep_no_fuel {rs'} {f'} {r = r} is = record {
      deepens = λ items Q m B fs k eq et eb fq h low.
          tree_deep (λ m. levels m ≤ fuel → Whole weigh means items rs rs' f' s i r (rows_part Q) (occ_part Q) m B fs k) j (λ j₁ v F m B₁ ji low. absurd (omega (arith, low))) m (et ∙ deep_is) low;
    }

    pub deep_no_level : {rs' : List (Record R V)} {f' : Link} {d : Digit} {r : Result Tree Unsound} {sp : Result Spine Unsound} {e : Unsound} → sp ≡ spine_in (get_or rs j none) → sp ≡ Err e → Deepened weigh means rs rs' f f' fuel s i o tm d r
    deep_no_level {rs'} {f'} {r = r} rd bad = record {
      deepens = λ items Q m B fs k eq et eb fq h low.
          tree_deep (λ m. Fit (mean means items) rs m (suc k) → Whole weigh means items rs rs' f' s i r (rows_part Q) (occ_part Q) m B fs k) j
          (λ j₁ v F m B₁ ji fit. absurd (ok_err (rd ∙ ap (λ q. spine_in (get_or rs q none)) (sym ji) ∙ ap spine_in fit.0.is) bad)) m (et ∙ deep_is) h.fit_m;
    }

    module _ {fl : Side} {sp : Result Spine Unsound} {level : Spine} {nd xd : Digit} {p : Peel} {rs₁ : List (Record R V)} {f₁ : Link} {q : Result Tree Unsound}
        (rd : sp ≡ spine_in (get_or rs j none)) (read : sp ≡ Ok level) (n-is : nd ≡ pick s level.front level.back) (pis : p ≡ peeled s nd) (fl-is : fl ≡ flipped s) (x-is : xd ≡ pick fl level.front level.back)
        (dp : Deepened weigh means rs rs₁ f f₁ (fuel - 1) s j p.rest level.middle xd q) where
      deep_deep : {rs' : List (Record R V)} {f' : Link} {d : Digit} {r : Result Tree Unsound}
          → ((items : R → List I) (v : V) (N : Arm R V) (m : Finger R V) (X B : Arm R V) (fs : List ℕ) (k : ℕ) → digit_of B ≡ d → Inside weigh means items rs rs₁ f₁ s j p q N m X fs (suc k)
          → Parts weigh means items rs f i [] (λ o. 0) (sided s j v N m X) B fs k → Whole weigh means items rs rs' f' s i r [] (λ o. 0) (sided s j v N m X) B fs k)
          → Deepened weigh means rs rs' f f' fuel s i o tm d r
      deep_deep {rs'} {f'} {d} {r} go = record {
        deepens = λ items Q m B fs k eq et eb fq h low.
            part_none (λ Q. Parts weigh means items rs f i (rows_part Q) (occ_part Q) m B fs k → Whole weigh means items rs rs' f' s i r (rows_part Q) (occ_part Q) m B fs k)
            (λ h. at_level rs rd read (λ m. Parts weigh means items rs f i [] (λ o. 0) m B fs k → levels m ≤ fuel → Whole weigh means items rs rs' f' s i r [] (λ o. 0) m B fs k)
            (λ v F m B₁ ef em eb₁. by_side s (λ F B₁. Parts weigh means items rs f i [] (λ o. 0) (deep j v F m B₁) B fs k → suc (levels m) ≤ fuel → Whole weigh means items rs rs' f' s i r [] (λ o. 0) (deep j v F m B₁) B fs k)
            (λ N X en ex h low. go items v N m X B fs k eb
            (inside pis dp items v N m X fs (suc k) (en ∙ sym n-is) em (ex ∙ sym (x-is ∙ ap (λ q. pick q level.front level.back) fl-is ∙ pick_flipped s level.front level.back))
            h.fit_m h.first h.chain (omega (arith, h.light)) (λ o. omega (arith, h.once o)) (omega (arith, low))) h) F B₁ ef eb₁)
            (mean means items) m (suc k) h.fit_m (et ∙ deep_is) h low) Q (eq ∙ none_is) h;
      }

      pub deep_roll : {rs₂ : List (Record R V)} {f₂ : Link} {d : Digit} {mt : Tree} {r : Result Tree Unsound} → q ≡ Ok mt → Refilled weigh means rs₁ rs₂ f₁ f₂ s i p.slot mt d r → Deepened weigh means rs rs₂ f f₂ fuel s i o tm d r
      deep_roll went rf = deep_deep (λ items v N m X B fs k eb In h. deep_go went rf items v N m X B fs k eb In h)

      pub deep_no_rest : {rs₂ : List (Record R V)} {f₂ : Link} {d : Digit} {e : Unsound} {r : Result Tree Unsound} → q ≡ Err e → Deepened weigh means rs rs₂ f f₂ fuel s i o tm d r
      deep_no_rest bad = deep_deep (λ items v N m X B fs k eb In h. absurd (ok_err In.S.made.ok bad))

  pub pop_empty : {rs : List (Record R V)} {f : Link} {fuel : ℕ} {s : Side} {tr : Tree} → tr ≡ Empty → Pops weigh means rs rs f f fuel s tr (Ok None)
  pop_empty {rs} {f} {s = s} is = record {
    nothing = λ e. (refl, refl, refl);
    pops = λ items t fs k full h low. tree_empty (λ t. Full t → Pop weigh means items rs rs f s (Ok None) t fs k) (λ full. absurd full) t (h.tree ∙ is) full;
  }

  pub pop_single : {rs : List (Record R V)} {f : Link} {fuel x : ℕ} {s : Side} {tr : Tree} {p : Popped} → tr ≡ Single x → p.slot ≡ x → p.rest ≡ Empty → Pops weigh means rs rs f f fuel s tr (Ok (Some p))
  pop_single {rs} {f} {fuel} {x} {s} {tr} {p} is sl rt = record {
    nothing = λ e. absurd (let z : ◌≡◌ {A = ℕ} 0 1 = cc in omega arith);
    pops = λ items t fs k full h low.
        tree_single (λ t. Has weigh means items rs f tr t fs k → Pop weigh means items rs rs f s (Ok (Some p)) t fs k) x
        (λ w ew h. record {
          u = w;
          t' = nil;
          fs' = fs;
          ok = ap (λ q. Ok (Some q)) (popped_is p (root w) Empty (sl ∙ sym ew) rt);
          first = h.first;
          text = sym (ends_nil s (rows_twig w));
          fit_u = h.fit;
          fit = tt;
          chain = h.chain;
          kept = λ j. omega arith;
          frame = off_refl;
          high = omega arith;
          more = omega arith;
          calm = λ j. inr refl;
        }) t (h.tree ∙ is) h;
  }

  pub pop_no_level : {rs rs' : List (Record R V)} {f f' : Link} {fuel i : ℕ} {s : Side} {tr : Tree} {sp : Result Spine Unsound} {e : Unsound} {r : Result (Option Popped) Unsound} → tr ≡ Deep i → sp ≡ spine_in (get_or rs i none) → sp ≡ Err e → Pops weigh means rs rs' f f' fuel s tr r
  pop_no_level {rs} {rs'} {f} {f'} {i = i} {s} {r = r} is rd bad = record {
    nothing = λ e. absurd (let z : ◌≡◌ {A = ℕ} 0 1 = cc in omega arith);
    pops = λ items t fs k full h low. tree_deep (λ t. Fit (mean means items) rs t k → Pop weigh means items rs rs' f' s r t fs k) i
        (λ j v F m B ji fit. absurd (ok_err (rd ∙ ap (λ q. spine_in (get_or rs q none)) (sym ji) ∙ ap spine_in fit.0.is) bad)) t (h.tree ∙ is) h.fit;
  }

  module _ {rs rs₁ : List (Record R V)} {f f₁ : Link} {fuel i : ℕ} {s fl : Side} {tr : Tree} {sp : Result Spine Unsound} {level : Spine} {nd xd : Digit} {p : Peel} {q : Result Tree Unsound}
      (deep_is : tr ≡ Deep i) (rd : sp ≡ spine_in (get_or rs i none)) (read : sp ≡ Ok level) (n-is : nd ≡ pick s level.front level.back) (pis : p ≡ peeled s nd) (fl-is : fl ≡ flipped s) (x-is : xd ≡ pick fl level.front level.back)
      (dp : Deepened weigh means rs rs₁ f f₁ fuel s i p.rest level.middle xd q) where
    pop_deep : {rs' : List (Record R V)} {f' : Link} {r : Result (Option Popped) Unsound}
        → ((items : R → List I) (v : V) (N : Arm R V) (m : Finger R V) (X : Arm R V) (fs : List ℕ) (k : ℕ) → Inside weigh means items rs rs₁ f₁ s i p q N m X fs k → Has weigh means items rs f tr (sided s i v N m X) fs k → Pop weigh means items rs rs' f' s r (sided s i v N m X) fs k)
        → Pops weigh means rs rs' f f' fuel s tr r
    pop_deep {rs'} {f'} {r} go = record {
      nothing = λ e. absurd (let z : ◌≡◌ {A = ℕ} 0 1 = cc in omega arith);
      pops = λ items t fs k full h low.
          at_level rs rd read (λ t. Has weigh means items rs f tr t fs k → levels t ≤ fuel → Pop weigh means items rs rs' f' s r t fs k)
          (λ v F m B ef em eb. by_side s (λ F B. Has weigh means items rs f tr (deep i v F m B) fs k → suc (levels m) ≤ fuel → Pop weigh means items rs rs' f' s r (deep i v F m B) fs k)
          (λ N X en ex h low. go items v N m X fs k
          (inside pis dp items v N m X fs k (en ∙ sym n-is) em (ex ∙ sym (x-is ∙ ap (λ q. pick q level.front level.back) fl-is ∙ pick_flipped s level.front level.back))
          h.fit h.first h.chain h.light h.once (omega (arith, low))) h) F B ef eb)
          (mean means items) t k h.fit (h.tree ∙ deep_is) h low;
    }

    pub pop_off : {t₁ : Tree} {o : Popped} → q ≡ Ok t₁ → o.slot ≡ p.slot → o.rest ≡ t₁ → Pops weigh means rs rs₁ f f₁ fuel s tr (Ok (Some o))
    pop_off {t₁} {o} went sl rt = pop_deep (λ items v N m X fs k In h.
        let P = In.P in
        let G = In.S.made in
        record {
          u = P.u;
          t' = G.t';
          fs' = G.fs';
          ok = ap (λ q. Ok (Some q)) (popped_is o (root P.u) (tree_of G.t') (sl ∙ sym P.slot_is) (rt ∙ ok_same went G.ok));
          first = G.first;
          text = In.text v ∙ ap (λ q. ends s (rows_twig P.u) q) (sym G.text);
          fit_u = frame_twig G.frame (mean means items) P.u k (λ j. omega (arith, h.once j, P.occs j, occ_sided s N X j)) In.fit_u;
          fit = G.fit;
          chain = G.chain;
          kept = λ j. omega (arith, G.kept j, P.occs j, occ_sided s N X j);
          frame = off_more _ (λ j z. omega (arith, z, P.occs j, occ_sided s N X j)) G.frame;
          high = In.S.high;
          more = In.S.more;
          calm = shrunk_calm In.S;
        })

    pub pop_no_rest : {rs' : List (Record R V)} {f' : Link} {e : Unsound} {r : Result (Option Popped) Unsound} → q ≡ Err e → Pops weigh means rs rs' f f' fuel s tr r
    pop_no_rest bad = pop_deep (λ items v N m X fs k In h. absurd (ok_err In.S.made.ok bad))

  pub pops_first : {rs rs' : List (Record R V)} {f f' : Link} {s : Side} {tr : Tree} {r : Result (Option Popped) Unsound} → Pops weigh means rs rs' f f' 16 s tr r → PopsFirst weigh means rs rs' f f' s tr r
  pops_first {rs} p = record {
    nothing = p.nothing;
    pops = λ items t fs full h. p.pops items t fs 0 full (record { tree = h.tree; first = h.first; fit = h.fit; chain = h.chain; once = h.once; light = h.light }) (omega (arith, few_levels (mean means items) rs t h.fit h.small));
  }

  -- the slots as the arena left them
  pub popped_at : {rs rs₁ rs' : List (Record R V)} {f f' : Link} {s : Side} {tr : Tree} {r : Result (Option Popped) Unsound} → rs₁ ≡ rs' → PopsFirst weigh means rs rs₁ f f' s tr r → PopsFirst weigh means rs rs' f f' s tr r
  popped_at {rs} {f = f} {f'} {s} {tr} {r} is p = subst (λ q. PopsFirst weigh means rs q f f' s tr r) is p
