-- The paths of push. Assumes nothing.
use Rattle.std.proofs.Common.{sym, refl, ap, ◌∙◌, subst, inl, inr, arith}
use Rattle.std.specs.Prelude.{◌≡◌, List, [], ◌∷◌, ℕ, suc, ◌+◌, ◌-◌, ◌≤◌, get_or}
use Rattle.std.specs.declared.result.Result.{Result}
use Rattle.std.specs.declared.result.Result.TheVariants.{Ok, Err}
use Rattle.tree.specs.Words.{Unsound, Link, Digit, One, Tree, Empty, Single, Deep, Record, Side, Front, Back, Grown, Room, Over, Spine}
use Rattle.slots.specs.Ghost.{Twig, Arm, a1, a2, a3, a4, Finger, nil, one, deep, same, occ_list, none, root, digit_of, tree_of, rows_twig, rows_arm, rows, size, occ_arm, occ, Fit, Off}
use Rattle.slots.specs.Sides.{pick, flipped, ends, grown}
use Rattle.slots.specs.Values.{mean, wt, spine_in}
use Rattle.slots.specs.Post.{Taken}
use Rattle.tree.specs.Post.{JoinedEnds, LevelPut, NodePut, fill, Ready, Push, Pushed}
use Rattle.slots.proofs.Frames.{calm_then, off_refl, off_then, off_more, frame_arm, frame, frame_chain}
use Rattle.slots.proofs.Shapes.{ok_err, ok_same, tree_empty, tree_single, tree_deep, at_level}
use Rattle.slots.proofs.Weights.{wt_ends}
use Rattle.slots.proofs.Joined.{twig_value, deep_value}
use Rattle.slots.proofs.Ends.{ends_assoc, ends_nil, nil_ends, pick_flipped, sided, by_side, rows_sided, wt_sided, occ_sided, fit_sided, roomed, Overed, overed}
use Rattle.tree.proofs.Levels.{side_done, Noded, node_done}

module _ {R V : Type 0} where
  pub fill_sided : (s : Side) (N X : Arm R V) → fill (pick s (pick s N X) (pick s X N)) ≡ fill N
  fill_sided Front N X = refl
  fill_sided Back N X = refl

  -- one twig more
  fill_more : (A B : Arm R V) → size B ≡ size A + 1 → fill B ≤ fill A + 1
  fill_more (a1 a) (a1 w) e = omega arith
  fill_more (a1 a) (a2 w x) e = omega arith
  fill_more (a1 a) (a3 w x y) e = omega arith
  fill_more (a1 a) (a4 w x y z) e = absurd (omega arith)
  fill_more (a2 a b) (a1 w) e = omega arith
  fill_more (a2 a b) (a2 w x) e = omega arith
  fill_more (a2 a b) (a3 w x y) e = omega arith
  fill_more (a2 a b) (a4 w x y z) e = absurd (omega arith)
  fill_more (a3 a b c) (a1 w) e = omega arith
  fill_more (a3 a b c) (a2 w x) e = omega arith
  fill_more (a3 a b c) (a3 w x y) e = omega arith
  fill_more (a3 a b c) (a4 w x y z) e = omega arith
  fill_more (a4 a b c d) (a1 w) e = omega arith
  fill_more (a4 a b c d) (a2 w x) e = omega arith
  fill_more (a4 a b c d) (a3 w x y) e = omega arith
  fill_more (a4 a b c d) (a4 w x y z) e = omega arith

  fill_full : (A : Arm R V) → size A ≡ 4 → fill A ≡ 2
  fill_full (a1 a) e = absurd (omega arith)
  fill_full (a2 a b) e = absurd (omega arith)
  fill_full (a3 a b c) e = absurd (omega arith)
  fill_full (a4 a b c d) e = refl

  fill_two : (A : Arm R V) → size A ≡ 2 → fill A ≡ 0
  fill_two (a1 a) e = refl
  fill_two (a2 a b) e = refl
  fill_two (a3 a b c) e = absurd (omega arith)
  fill_two (a4 a b c d) e = absurd (omega arith)

-- the middle after the node was made
record Overflow {R I V : Type 0} (weigh : I → ℕ) (means : List I → V) (items : R → List I) (rs rs₁ : List (Record R V)) (f₁ : Link) (fuel : ℕ) (s : Side) (mt : Tree) (p : Result ℕ Unsound) (N : Arm R V) (m : Finger R V) (u : Twig R V) (kd pd : Digit) (n : ℕ) (ns : List ℕ) (k : ℕ) : Type 0 where
  pub G : Overed s N u kd pd
  pub nd : Noded (mean means items) rs rs₁ f₁ p G.parts n ns k
  pub ready : Ready weigh means items rs₁ f₁ fuel mt n m nd.w ns (suc k)

module _ {R I V : Type 0} {weigh : I → ℕ} {means : List I → V} where
  -- the tree was empty
  pub push_empty : {rs : List (Record R V)} {f : Link} {fuel x : ℕ} {s : Side} {tr : Tree} → tr ≡ Empty → Pushed weigh means rs rs f f fuel s tr x (Ok (Single x))
  push_empty {rs} {f} {fuel} {x} {s} {tr} is = record {
    pushes = λ items t u fs k h.
        tree_empty (λ t. Ready weigh means items rs f fuel tr x t u fs k → Push weigh means items rs rs f s (Ok (Single x)) t u fs k)
        (λ h. record {
          made = record { t' = one u; fs' = fs; js = []; ok = ap (λ q. Ok (Single q)) (sym h.twig); first = h.first; text = sym (ends_nil s (rows_twig u)); fit = h.fit_u; chain = h.chain; kept = λ i. omega arith; frame = off_refl; fresh = λ i z. inr refl };
          low = omega arith;
          high = omega arith;
          spent = omega arith;
          few = omega arith;
          roll = inl (refl, omega arith);
        }) t (h.tree ∙ is) h;
  }

  -- the tree was one twig
  single_go : {rs rs' : List (Record R V)} {f f' : Link} {fuel x y i : ℕ} {s : Side} {tr : Tree} {value : Result V Unsound} {p : Result ℕ Unsound} {r : Result Tree Unsound}
      → JoinedEnds weigh means rs s x y value → Taken rs f f' p → p ≡ Ok i → LevelPut rs rs' i (pick s (One x) (One y)) Empty (pick s (One y) (One x)) value r
      → (items : R → List I) (w u : Twig R V) (fs : List ℕ) (k : ℕ) → root w ≡ y → Ready weigh means items rs f fuel tr x (one w) u fs k → Push weigh means items rs rs' f' s r (one w) u fs k
  single_go jo took got lp items w u [] k e h = absurd (omega (arith, h.long))
  single_go {rs} {rs'} {f} {f'} {fuel} {x} {y} {i} {s} {tr} {value} {p} {r} jo took got lp items w u (n ∷ ns) k e h =
      let mn : List R → V = mean means items in
      let T : List R = ends s (rows_twig u) (rows_twig w) in
      let took₁ = took.takes n ns (sym h.first) h.chain in
      let n-is : i ≡ n = ok_same got took₁.0 in
      let lp₁ : LevelPut rs rs' n (pick s (One x) (One y)) Empty (pick s (One y) (One x)) value r = subst (λ q. LevelPut rs rs' q (pick s (One x) (One y)) Empty (pick s (One y) (One x)) value r) n-is lp in
      let val = jo.joins items (rows_twig u) (rows_twig w) (twig_value mn rs u k x h.twig h.fit_u) (twig_value mn rs w k y e h.fit) (omega (arith, h.light, wt_ends weigh items s (rows_twig u) (rows_twig w))) in
      let d = side_done mn s lp₁ (a1 u) nil (a1 w) k T (ap One h.twig) refl (ap One e) h.chain.0.within h.fit_u tt h.fit val (ap (λ q. ends s (rows_twig u) q) (nil_ends s (rows_twig w))) (λ j. omega (arith, h.once j)) in
      let t₁ : Finger R V = sided s n d.v (a1 u) nil (a1 w) in
      record {
        made = record {
          t' = t₁;
          fs' = ns;
          js = [];
          ok = d.ok;
          first = sym took₁.1;
          text = rows_sided s n d.v (a1 u) nil (a1 w) ∙ ap (λ q. ends s (rows_twig u) q) (nil_ends s (rows_twig w));
          fit = d.fit;
          chain = frame_chain d.off ns (λ j. omega (arith, h.once j)) h.chain.1;
          kept = λ j. omega (arith, occ_sided s (a1 u) (a1 w) j);
          frame = off_more _ (λ j z. omega arith) d.off;
          fresh = λ j z. d.calm j;
        };
        low = omega arith;
        high = omega arith;
        spent = omega arith;
        few = omega arith;
        roll = inl (refl, omega (arith, fill_sided s (a1 u) (a1 w)));
      }

  -- nothing but the free link changed when the slot was taken
  pub push_single : {rs rs₁ rs' : List (Record R V)} {f f' : Link} {fuel x y i : ℕ} {s : Side} {tr : Tree} {value : Result V Unsound} {p : Result ℕ Unsound} {r : Result Tree Unsound}
      → tr ≡ Single y → JoinedEnds weigh means rs s x y value → Taken rs f f' p → rs₁ ≡ rs → p ≡ Ok i → LevelPut rs₁ rs' i (pick s (One x) (One y)) Empty (pick s (One y) (One x)) value r → Pushed weigh means rs rs' f f' fuel s tr x r
  push_single {rs} {rs₁} {rs'} {f} {f'} {fuel} {x} {y} {i} {s} {tr} {value} {r = r} is jo took kept got lp = record {
    pushes = λ items t u fs k h.
        tree_single (λ t. Ready weigh means items rs f fuel tr x t u fs k → Push weigh means items rs rs' f' s r t u fs k) y
        (λ w e h. single_go jo took got (subst (λ q. LevelPut q rs' i (pick s (One x) (One y)) Empty (pick s (One y) (One x)) value r) kept lp) items w u fs k e h) t (h.tree ∙ is) h;
  }

  push_no_slot_go : {rs : List (Record R V)} {f f' : Link} {fuel x : ℕ} {tr : Tree} {p : Result ℕ Unsound} {e : Unsound} (items : R → List I) (t : Finger R V) (u : Twig R V) (fs : List ℕ) (k : ℕ)
      → Taken rs f f' p → p ≡ Err e → Ready weigh means items rs f fuel tr x t u fs k → ⊥
  push_no_slot_go items t u [] k took bad h = omega (arith, h.long)
  push_no_slot_go items t u (n ∷ ns) k took bad h = ok_err (took.takes n ns (sym h.first) h.chain).0 bad

  pub push_no_slot : {rs rs' : List (Record R V)} {f f' : Link} {fuel x : ℕ} {s : Side} {tr : Tree} {p : Result ℕ Unsound} {e : Unsound} {r : Result Tree Unsound} → Taken rs f f' p → p ≡ Err e → Pushed weigh means rs rs' f f' fuel s tr x r
  push_no_slot took bad = record { pushes = λ items t u fs k h. absurd (push_no_slot_go items t u fs k took bad h) }

  -- the value of a level with one twig more
  deep_joined : {rs : List (Record R V)} {f : Link} {fuel x i : ℕ} {s : Side} {tr : Tree} {value : Result V Unsound} → JoinedEnds weigh means rs s x i value
      → (items : R → List I) (v : V) (F : Arm R V) (m : Finger R V) (B : Arm R V) (u : Twig R V) (fs : List ℕ) (k : ℕ) → Ready weigh means items rs f fuel tr x (deep i v F m B) u fs k
      → value ≡ Ok (mean means items (ends s (rows_twig u) (rows (deep i v F m B))))
  deep_joined {rs} {x = x} {i} {s} jo items v F m B u fs k h =
      let mn : List R → V = mean means items in
      jo.joins items (rows_twig u) (rows (deep i v F m B)) (twig_value mn rs u k x h.twig h.fit_u) (deep_value mn rs i v F m B k h.fit) (omega (arith, h.light, wt_ends weigh items s (rows_twig u) (rows (deep i v F m B))))

  -- the digit had room
  room_go : {rs rs' : List (Record R V)} {f : Link} {fuel x i : ℕ} {s : Side} {tr mt : Tree} {nd xd d₁ : Digit} {value : Result V Unsound} {r : Result Tree Unsound}
      → Room d₁ ≡ grown s nd x → JoinedEnds weigh means rs s x i value → LevelPut rs rs' i (pick s d₁ xd) mt (pick s xd d₁) value r
      → (items : R → List I) (v : V) (N : Arm R V) (m : Finger R V) (X : Arm R V) (u : Twig R V) (fs : List ℕ) (k : ℕ) → digit_of N ≡ nd → tree_of m ≡ mt → digit_of X ≡ xd
      → Ready weigh means items rs f fuel tr x (sided s i v N m X) u fs k → Push weigh means items rs rs' f s r (sided s i v N m X) u fs k
  room_go {rs} {rs'} {i = i} {s} grew jo lp items v N m X u fs k en et ex h =
      let mn : List R → V = mean means items in
      let G = roomed s N u en h.twig grew in
      let fits = fit_sided s mn rs N X k h.fit.2 h.fit.4 in
      let T : List R = ends s (rows_twig u) (rows (sided s i v N m X)) in
      let text₁ : ends s (rows_arm G.arm) (ends s (rows m) (rows_arm X)) ≡ T =
      ap (λ q. ends s q (ends s (rows m) (rows_arm X))) G.text ∙ sym (ends_assoc s (rows_twig u) (rows_arm N) (ends s (rows m) (rows_arm X))) ∙ ap (λ q. ends s (rows_twig u) q) (sym (rows_sided s i v N m X)) in
      let d = side_done mn s lp G.arm m X k T G.is et ex h.fit.0.within (G.fit mn rs k h.fit_u fits.0) h.fit.3 fits.1
      (deep_joined jo items v (pick s N X) m (pick s X N) u fs k h) text₁ (λ j. omega (arith, h.once j, G.occs j, occ_sided s N X j)) in
      record {
        made = record {
          t' = sided s i d.v G.arm m X;
          fs' = fs;
          js = [];
          ok = d.ok;
          first = h.first;
          text = rows_sided s i d.v G.arm m X ∙ text₁;
          fit = d.fit;
          chain = frame_chain d.off fs (λ j. omega (arith, h.once j)) h.chain;
          kept = λ j. omega (arith, G.occs j, occ_sided s N X j, occ_sided s G.arm X j);
          frame = off_more _ (λ j z. omega arith) d.off;
          fresh = λ j z. d.calm j;
        };
        low = omega arith;
        high = omega arith;
        spent = omega arith;
        few = omega arith;
        roll = inl (refl, omega (arith, fill_sided s G.arm X, fill_sided s N X, fill_more N G.arm G.sizes));
      }

  over_go : {rs rs₁ : List (Record R V)} {f f₁ : Link} {fuel x i : ℕ} {s : Side} {tr mt : Tree} {nd kd pd : Digit} {p : Result ℕ Unsound}
      → Over kd pd ≡ grown s nd x → NodePut weigh means rs rs₁ f f₁ pd p
      → (items : R → List I) (v : V) (N : Arm R V) (m : Finger R V) (X : Arm R V) (u : Twig R V) (n : ℕ) (ns : List ℕ) (k : ℕ) → digit_of N ≡ nd → tree_of m ≡ mt
      → Ready weigh means items rs f fuel tr x (sided s i v N m X) u (n ∷ ns) k → Overflow weigh means items rs rs₁ f₁ (fuel - 1) s mt p N m u kd pd n ns k
  over_go {rs} {rs₁} {i = i} {s} grew np items v N m X u n ns k en et h =
      let mn : List R → V = mean means items in
      let g = overed s N u en h.twig grew in
      let fits = fit_sided s mn rs N X k h.fit.2 h.fit.4 in
      let w₁ : wt weigh items (rows_arm g.keep) + wt weigh items (rows_arm g.parts) ≡ wt weigh items (rows_twig u) + wt weigh items (rows_arm N) =
      sym (wt_ends weigh items s (rows_arm g.keep) (rows_arm g.parts)) ∙ ap (wt weigh items) g.text ∙ wt_ends weigh items s (rows_twig u) (rows_arm N) in
      let w₂ = wt_sided weigh items s i v N m X in
      let nd₁ = node_done np items g.parts n ns k g.node g.parts_is h.first h.chain (g.fit_parts mn rs k fits.0) (omega (arith, h.light, w₁, w₂)) (λ j. omega (arith, h.once j, g.occs j, occ_sided s N X j)) in
      let w₃ : wt weigh items (rows_twig nd₁.w) ≡ wt weigh items (rows_arm g.parts) = ap (wt weigh items) nd₁.text in
      record {
        G = g;
        nd = nd₁;
        ready = record {
          tree = et;
          twig = nd₁.root_is;
          first = nd₁.first;
          fit = frame nd₁.off mn m (suc k) (λ j. omega (arith, h.once j)) h.fit.3;
          fit_u = nd₁.fit;
          chain = nd₁.chain;
          once = λ j. omega (arith, h.once j, nd₁.occs j, g.occs j, occ_sided s N X j);
          light = omega (arith, h.light, w₁, w₂, w₃);
          fuelled = omega (arith, h.fuelled);
          long = omega (arith, h.long);
        };
      }

  four_go : {rs rs₁ rs₂ rs' : List (Record R V)} {f f₁ f₂ : Link} {fuel x i n₁ : ℕ} {s : Side} {tr mt mt' : Tree} {nd xd kd pd : Digit} {value : Result V Unsound} {p : Result ℕ Unsound} {q r : Result Tree Unsound}
      → Over kd pd ≡ grown s nd x → JoinedEnds weigh means rs s x i value → NodePut weigh means rs rs₁ f f₁ pd p → p ≡ Ok n₁ → Pushed weigh means rs₁ rs₂ f₁ f₂ (fuel - 1) s mt n₁ q → q ≡ Ok mt' → LevelPut rs₂ rs' i (pick s kd xd) mt' (pick s xd kd) value r
      → (items : R → List I) (v : V) (N : Arm R V) (m : Finger R V) (X : Arm R V) (u : Twig R V) (fs : List ℕ) (k : ℕ) → digit_of N ≡ nd → tree_of m ≡ mt → digit_of X ≡ xd
      → Ready weigh means items rs f fuel tr x (sided s i v N m X) u fs k → Push weigh means items rs rs' f₂ s r (sided s i v N m X) u fs k
  four_go grew jo np got push went lp items v N m X u [] k en et ex h = absurd (omega (arith, h.long))
  four_go {rs} {rs₁} {rs₂} {rs'} {f} {f₁} {f₂} {fuel} {x} {i} {n₁} {s} {mt = mt} {q = q} grew jo np got push went lp items v N m X u (n ∷ ns) k en et ex h =
      let mn : List R → V = mean means items in
      let O = over_go grew np items v N m X u n ns k en et h in
      let G = O.G in
      let W = O.nd in
      let fits = fit_sided s mn rs N X k h.fit.2 h.fit.4 in
      let push₁ : Pushed weigh means rs₁ rs₂ f₁ f₂ (fuel - 1) s mt n q = subst (λ o. Pushed weigh means rs₁ rs₂ f₁ f₂ (fuel - 1) s mt o q) (ok_same got W.ok) push in
      let P = push₁.pushes items m W.w ns (suc k) O.ready in
      let D = P.made in
      let off₂ : Off rs rs₂ (λ j. occ m j + ((same n j + occ_arm G.parts j) + occ_list ns j)) = off_more _ (λ j e. omega (arith, e, W.occs j)) (off_then W.off D.frame) in
      let T : List R = ends s (rows_twig u) (rows (sided s i v N m X)) in
      let text₁ : ends s (rows_arm G.keep) (ends s (rows D.t') (rows_arm X)) ≡ T =
      ap (λ o. ends s (rows_arm G.keep) (ends s o (rows_arm X))) (D.text ∙ ap (λ o. ends s o (rows m)) W.text)
      ∙ ap (λ o. ends s (rows_arm G.keep) o) (sym (ends_assoc s (rows_arm G.parts) (rows m) (rows_arm X)))
      ∙ ends_assoc s (rows_arm G.keep) (rows_arm G.parts) (ends s (rows m) (rows_arm X))
      ∙ ap (λ o. ends s o (ends s (rows m) (rows_arm X))) G.text
      ∙ sym (ends_assoc s (rows_twig u) (rows_arm N) (ends s (rows m) (rows_arm X)))
      ∙ ap (λ o. ends s (rows_twig u) o) (sym (rows_sided s i v N m X)) in
      let e = side_done mn s lp G.keep D.t' X k T G.keep_is (ok_same D.ok went) ex (omega (arith, off₂.len, h.fit.0.within))
      (frame_arm off₂ mn G.keep k (λ j. omega (arith, h.once j, G.occs j, occ_sided s N X j)) (G.fit mn rs k h.fit_u fits.0))
      D.fit (frame_arm off₂ mn X k (λ j. omega (arith, h.once j, G.occs j, occ_sided s N X j)) fits.1)
      (deep_joined jo items v (pick s N X) m (pick s X N) u (n ∷ ns) k h) text₁ (λ j. omega (arith, h.once j, D.kept j, W.occs j, G.occs j, occ_sided s N X j)) in
      record {
        made = record {
          t' = sided s i e.v G.keep D.t' X;
          fs' = D.fs';
          js = n ∷ D.js;
          ok = e.ok;
          first = D.first;
          text = rows_sided s i e.v G.keep D.t' X ∙ text₁;
          fit = e.fit;
          chain = frame_chain e.off D.fs' (λ j. omega (arith, h.once j, D.kept j, W.occs j, G.occs j, occ_sided s N X j)) D.chain;
          kept = λ j. omega (arith, D.kept j, W.occs j, G.occs j, occ_sided s N X j, occ_sided s G.keep X j);
          frame = off_more _ (λ j o. omega (arith, o, G.occs j, occ_sided s N X j)) (off_then off₂ e.off);
          fresh = λ j o. calm_then (inr (W.off.reads j (omega arith))) (calm_then (D.fresh j (omega arith)) (e.calm j));
        };
        low = omega (arith, P.low);
        high = omega (arith, P.high);
        spent = omega (arith, P.spent);
        few = omega (arith, P.few);
        roll = inr (fill_sided s N X ∙ fill_full N G.full, fill_sided s G.keep X ∙ fill_two G.keep G.left);
      }

  -- the node could not be made, or the push on the middle
  no_node_go : (s : Side) {rs rs₁ : List (Record R V)} {f f₁ : Link} {fuel x i : ℕ} {tr mt : Tree} {nd kd pd : Digit} {p : Result ℕ Unsound} {e : Unsound}
      → Over kd pd ≡ grown s nd x → NodePut weigh means rs rs₁ f f₁ pd p → p ≡ Err e
      → (items : R → List I) (v : V) (N : Arm R V) (m : Finger R V) (X : Arm R V) (u : Twig R V) (fs : List ℕ) (k : ℕ) → digit_of N ≡ nd → tree_of m ≡ mt
      → Ready weigh means items rs f fuel tr x (sided s i v N m X) u fs k → ⊥
  no_node_go s grew np bad items v N m X u [] k en et h = omega (arith, h.long)
  no_node_go s grew np bad items v N m X u (n ∷ ns) k en et h = ok_err (over_go {s = s} grew np items v N m X u n ns k en et h).nd.ok bad

  no_push_go : {rs rs₁ rs₂ : List (Record R V)} {f f₁ f₂ : Link} {fuel x i n₁ : ℕ} {s : Side} {tr mt : Tree} {nd kd pd : Digit} {p : Result ℕ Unsound} {q : Result Tree Unsound} {e : Unsound}
      → Over kd pd ≡ grown s nd x → NodePut weigh means rs rs₁ f f₁ pd p → p ≡ Ok n₁ → Pushed weigh means rs₁ rs₂ f₁ f₂ (fuel - 1) s mt n₁ q → q ≡ Err e
      → (items : R → List I) (v : V) (N : Arm R V) (m : Finger R V) (X : Arm R V) (u : Twig R V) (fs : List ℕ) (k : ℕ) → digit_of N ≡ nd → tree_of m ≡ mt
      → Ready weigh means items rs f fuel tr x (sided s i v N m X) u fs k → ⊥
  no_push_go grew np got push bad items v N m X u [] k en et h = omega (arith, h.long)
  no_push_go {rs₁ = rs₁} {rs₂} {f₁ = f₁} {f₂} {fuel} {s = s} {mt = mt} {q = q} grew np got push bad items v N m X u (n ∷ ns) k en et h =
      let O = over_go {s = s} grew np items v N m X u n ns k en et h in
      let push₁ : Pushed weigh means rs₁ rs₂ f₁ f₂ (fuel - 1) s mt n q = subst (λ o. Pushed weigh means rs₁ rs₂ f₁ f₂ (fuel - 1) s mt o q) (ok_same got O.nd.ok) push in
      ok_err (push₁.pushes items m O.nd.w ns (suc k) O.ready).made.ok bad

  pub push_no_level : {rs rs' : List (Record R V)} {f f' : Link} {fuel x i : ℕ} {s : Side} {tr : Tree} {sp : Result Spine Unsound} {e : Unsound} {r : Result Tree Unsound}
      → tr ≡ Deep i → sp ≡ spine_in (get_or rs i none) → sp ≡ Err e → Pushed weigh means rs rs' f f' fuel s tr x r
  push_no_level {rs} {rs'} {f} {f'} {fuel} {x} {i} {s} {tr} {r = r} is rd bad = record {
    pushes = λ items t u fs k h.
        tree_deep (λ t. Fit (mean means items) rs t k → Push weigh means items rs rs' f' s r t u fs k) i
        (λ j v F m B ji fit. absurd (ok_err (rd ∙ ap (λ q. spine_in (get_or rs q none)) (sym ji) ∙ ap spine_in fit.0.is) bad)) t (h.tree ∙ is) h.fit;
  }

  module _ {rs : List (Record R V)} {f : Link} {fuel x i : ℕ} {s fl : Side} {tr : Tree} {sp : Result Spine Unsound} {level : Spine} {nd xd : Digit}
      (deep_is : tr ≡ Deep i) (rd : sp ≡ spine_in (get_or rs i none)) (read : sp ≡ Ok level) (n-is : nd ≡ pick s level.front level.back) (fl-is : fl ≡ flipped s) (x-is : xd ≡ pick fl level.front level.back) where
    -- every path at a level
    at_deep : {rs' : List (Record R V)} {f' : Link} {r : Result Tree Unsound}
        → ((items : R → List I) (v : V) (N : Arm R V) (m : Finger R V) (X : Arm R V) (u : Twig R V) (fs : List ℕ) (k : ℕ) → digit_of N ≡ nd → tree_of m ≡ level.middle → digit_of X ≡ xd
        → Ready weigh means items rs f fuel tr x (sided s i v N m X) u fs k → Push weigh means items rs rs' f' s r (sided s i v N m X) u fs k)
        → Pushed weigh means rs rs' f f' fuel s tr x r
    at_deep {rs'} {f'} {r} go = record {
      pushes = λ items t u fs k h.
          at_level rs rd read (λ t. Ready weigh means items rs f fuel tr x t u fs k → Push weigh means items rs rs' f' s r t u fs k)
          (λ v F m B ef et eb.
          by_side s (λ F B. Ready weigh means items rs f fuel tr x (deep i v F m B) u fs k → Push weigh means items rs rs' f' s r (deep i v F m B) u fs k)
          (λ N X en ex h. go items v N m X u fs k (en ∙ sym n-is) et (ex ∙ sym (x-is ∙ ap (λ q. pick q level.front level.back) fl-is ∙ pick_flipped s level.front level.back)) h) F B ef eb)
          (mean means items) t k h.fit (h.tree ∙ deep_is) h;
    }

    module _ {g : Grown} (grew : g ≡ grown s nd x) {value : Result V Unsound} where
      pub push_room : {rs' : List (Record R V)} {d : Digit} {r : Result Tree Unsound} → g ≡ Room d → JoinedEnds weigh means rs s x i value → LevelPut rs rs' i (pick s d xd) level.middle (pick s xd d) value r → Pushed weigh means rs rs' f f fuel s tr x r
      push_room is jo lp = at_deep (λ items v N m X u fs k en et ex h. room_go {s = s} (sym is ∙ grew) jo lp items v N m X u fs k en et ex h)

      pub push_over : {rs₁ rs₂ rs' : List (Record R V)} {f₁ f₂ : Link} {n₁ : ℕ} {mt' : Tree} {kd pd : Digit} {p : Result ℕ Unsound} {q r : Result Tree Unsound} → g ≡ Over kd pd → JoinedEnds weigh means rs s x i value
          → NodePut weigh means rs rs₁ f f₁ pd p → p ≡ Ok n₁ → Pushed weigh means rs₁ rs₂ f₁ f₂ (fuel - 1) s level.middle n₁ q → q ≡ Ok mt' → LevelPut rs₂ rs' i (pick s kd xd) mt' (pick s xd kd) value r
          → Pushed weigh means rs rs' f f₂ fuel s tr x r
      push_over is jo np got push went lp = at_deep (λ items v N m X u fs k en et ex h. four_go {s = s} (sym is ∙ grew) jo np got push went lp items v N m X u fs k en et ex h)

    pub push_no_fuel : {rs' : List (Record R V)} {f' : Link} {r : Result Tree Unsound} → fuel ≡ 0 → Pushed weigh means rs rs' f f' fuel s tr x r
    push_no_fuel is = at_deep (λ items v N m X u fs k en et ex h. absurd (omega (arith, h.fuelled)))

    module _ {g : Grown} (grew : g ≡ grown s nd x) where
      pub push_no_node : {rs₁ rs' : List (Record R V)} {f₁ f₂ : Link} {kd pd : Digit} {p : Result ℕ Unsound} {e : Unsound} {r : Result Tree Unsound}
          → g ≡ Over kd pd → NodePut weigh means rs rs₁ f f₁ pd p → p ≡ Err e → Pushed weigh means rs rs' f f₂ fuel s tr x r
      push_no_node is np bad = at_deep (λ items v N m X u fs k en et ex h. absurd (no_node_go s (sym is ∙ grew) np bad items v N m X u fs k en et h))

      pub push_no_push : {rs₁ rs₂ rs' : List (Record R V)} {f₁ f₂ f₃ : Link} {n₁ : ℕ} {kd pd : Digit} {p : Result ℕ Unsound} {q : Result Tree Unsound} {e : Unsound} {r : Result Tree Unsound}
          → g ≡ Over kd pd → NodePut weigh means rs rs₁ f f₁ pd p → p ≡ Ok n₁ → Pushed weigh means rs₁ rs₂ f₁ f₂ (fuel - 1) s level.middle n₁ q → q ≡ Err e → Pushed weigh means rs rs' f f₃ fuel s tr x r
      push_no_push is np got push bad = at_deep (λ items v N m X u fs k en et ex h. absurd (no_push_go {s = s} (sym is ∙ grew) np got push bad items v N m X u fs k en et h))
