-- The paths of feed, feed_part and finish. Assumes nothing.
use Rattle.std.proofs.Common.{sym, refl, ap, ◌∙◌, subst, inr, append_assoc, arith, length-append}
use Rattle.std.proofs.lemmas.List.{append-nil}
use Rattle.measures.specs.Law.{heaviest}
use Rattle.std.specs.Prelude.{◌≡◌, List, [], ◌∷◌, ◌++◌, ℕ, suc, ◌+◌, ◌≤◌}
use Rattle.std.specs.declared.option.Option.{Option}
use Rattle.std.specs.declared.option.Option.TheVariants.{None, Some}
use Rattle.std.specs.declared.result.Result.{Result}
use Rattle.std.specs.declared.result.Result.TheVariants.{Ok, Err}
use Rattle.tree.specs.Words.{Unsound, Link, Digit, Two, Four, Record, Front, Back, Grown, Room, Over, Peel}
use Rattle.slots.specs.Ghost.{Twig, Arm, a1, a2, a3, a4, same, occ_list, head_of, root, digit_of, part_of, rows_twig, rows_arm, rows_part, size, size_part, occ_twig, occ_arm, occ_part, FitTwig, FitArm, FitPart, Chain, Off}
use Rattle.slots.specs.Sides.{grown, peeled}
use Rattle.slots.specs.Values.{mean, wt}
use Rattle.tree.specs.Post.{NodePut}
use Rattle.concat.specs.declared.bundles.Batch.{Batch}
use Rattle.concat.specs.Post.{added, Stock, Coming, Fed, FedOne, FedPart, Nodes, Finished}
use Rattle.slots.proofs.Frames.{occ_list_append, calm_then, off_refl, off_then, off_more, frame_twig, frame_arm, frame_part}
use Rattle.slots.proofs.Shapes.{ok_err, ok_same, arm_four, part_none, part_some}
use Rattle.slots.proofs.Weights.{wt_append, wt_text}
use Rattle.slots.proofs.Ends.{Nodal, size_one, roomed, Overed, overed, Peeled, peel_arm}
use Rattle.tree.proofs.Levels.{Noded, node_done}

module _ {R V : Type 0} where
  -- one twig more behind up to three
  record Snoc (W : Option (Arm R V)) (w : Twig R V) : Type 0 where
    pub W' : Option (Arm R V)
    pub is : added (part_of W) (root w) ≡ Ok (part_of W')
    pub text : rows_part W' ≡ rows_part W ++ rows_twig w
    pub occs : (j : ℕ) → occ_part W' j ≡ occ_part W j + occ_twig w j
    pub fit : (mn : List R → V) (rs : List (Record R V)) (k : ℕ) → FitPart mn rs W k → FitTwig mn rs w k → FitPart mn rs W' k
    pub len : size_part W' ≡ size_part W + 1

  snoc : (W : Option (Arm R V)) (w : Twig R V) → size_part W ≤ 3 → Snoc W w
  snoc None w le = record { W' = Some (a1 w); is = refl; text = refl; occs = λ j. omega arith; fit = λ mn rs k p q. q; len = refl }
  snoc (Some (a1 a)) w le = record { W' = Some (a2 a w); is = refl; text = refl; occs = λ j. omega arith; fit = λ mn rs k p q. (p, q); len = refl }
  snoc (Some (a2 a b)) w le = record { W' = Some (a3 a b w); is = refl; text = refl; occs = λ j. omega arith; fit = λ mn rs k p q. (p.0, p.1, q); len = refl }
  snoc (Some (a3 a b c)) w le = record { W' = Some (a4 a b c w); is = refl; text = refl; occs = λ j. omega arith; fit = λ mn rs k p q. (p.0, p.1, p.2, q); len = refl }
  snoc (Some (a4 a b c d)) w le = absurd (omega arith)

  -- two or three twigs: not one, and not four
  nodal : (A : Arm R V) {rest : Digit} → 2 ≤ size A → digit_of A ≡ rest → ((a b c d : ℕ) → rest ≡ Four a b c d → ⊥) → Nodal A
  nodal (a1 a) le e not4 = absurd (omega (arith, le))
  nodal (a2 a b) le e not4 = tt
  nodal (a3 a b c) le e not4 = tt
  nodal (a4 a b c d) le e not4 = absurd (not4 (root a) (root b) (root c) (root d) (sym e))

  -- the twigs of A became a node behind the nodes W
  record Grouped (mn : List R → V) (rs rs₁ : List (Record R V)) (f₁ : Link) (q : Result (Option Digit) Unsound) (W : Option (Arm R V)) (A : Arm R V) (n : ℕ) (ns : List ℕ) (k : ℕ) : Type 0 where
    pub W' : Option (Arm R V)
    pub ok : q ≡ Ok (part_of W')
    pub first : head_of ns ≡ f₁
    pub off : Off rs rs₁ (same n)
    pub text : rows_part W' ≡ rows_part W ++ rows_arm A
    pub occs : (j : ℕ) → occ_part W' j ≡ occ_part W j + (same n j + occ_arm A j)
    pub fits : FitPart mn rs₁ W' (suc k)
    pub chain : Chain rs₁ ns
    pub len : size_part W' ≡ size_part W + 1

module _ {R I V : Type 0} {weigh : I → ℕ} {means : List I → V} where
  grouped : {rs rs₁ : List (Record R V)} {f f₁ : Link} {d : Digit} {x : ℕ} {p : Result ℕ Unsound} {made : Option Digit} {q : Result (Option Digit) Unsound} → NodePut weigh means rs rs₁ f f₁ d p → p ≡ Ok x → q ≡ added made x
      → (items : R → List I) (W : Option (Arm R V)) (A : Arm R V) (n : ℕ) (ns : List ℕ) (k : ℕ) → part_of W ≡ made → size_part W ≤ 3 → Nodal A → digit_of A ≡ d → Some n ≡ f → Chain rs (n ∷ ns)
      → FitPart (mean means items) rs W (suc k) → FitArm (mean means items) rs A k → wt weigh items (rows_arm A) ≤ heaviest → ((j : ℕ) → occ_part W j + (occ_arm A j + (same n j + occ_list ns j)) ≤ 1)
      → Grouped (mean means items) rs rs₁ f₁ q W A n ns k
  grouped {rs₁ = rs₁} {x = x} np got ad items W A n ns k ew le nd ed first chain fits fit light once =
      let mn : List R → V = mean means items in
      let N = node_done np items A n ns k nd ed first chain fit light (λ j. omega (arith, once j)) in
      let S = snoc W N.w le in
      let x-is : x ≡ root N.w = ok_same got N.ok ∙ sym N.root_is in
      record {
        W' = S.W';
        ok = ad ∙ ap (λ o. added o x) (sym ew) ∙ ap (λ o. added (part_of W) o) x-is ∙ S.is;
        first = N.first;
        off = N.off;
        text = S.text ∙ ap (λ o. rows_part W ++ o) N.text;
        occs = λ j. omega (arith, S.occs j, N.occs j);
        fits = S.fit mn rs₁ (suc k) (frame_part N.off mn W (suc k) (λ j. omega (arith, once j)) fits) N.fit;
        chain = N.chain;
        len = S.len;
      }

  pub feed_room : {rs : List (Record R V)} {f : Link} {batch b : Batch} {d : Digit} {x : ℕ} {g : Grown} → g ≡ grown Back batch.rest x → g ≡ Room d → b.made ≡ batch.made → b.rest ≡ d → FedOne weigh means rs rs f f batch x (Ok b)
  feed_room {rs} {f} {batch} {b} grew is bm br = record {
    feeds = λ items W A u fs k ru S C.
        let G = roomed Back A u S.rest_is ru (sym is ∙ grew) in
        record {
          batch = b;
          W' = W;
          A' = G.arm;
          fs' = fs;
          js = [];
          ok = refl;
          stock = record { made_is = S.made_is ∙ sym bm; rest_is = G.is ∙ sym br; first = S.first; fits = S.fits; fit = G.fit (mean means items) rs k C.fits S.fit; chain = S.chain; supply = S.supply };
          text = ap (λ q. rows_part W ++ q) G.text ∙ sym (append_assoc (rows_part W) (rows_arm A) (rows_twig u));
          kept = λ j. omega (arith, G.occs j);
          frame = off_refl;
          count = omega (arith, G.sizes);
          least = λ le. omega (arith, G.sizes, size_one A);
          few = omega arith;
          spent = omega arith;
          drew = λ j. omega arith;
          fresh = λ j z. inr refl;
        };
  }

  over_light : {rs : List (Record R V)} {kd pd : Digit} (items : R → List I) (W : Option (Arm R V)) (A : Arm R V) (u : Twig R V) (fs : List ℕ) (k : ℕ) (G : Overed Back A u kd pd) → Coming weigh means items rs W A (Some (a1 u)) fs k → wt weigh items (rows_arm G.parts) ≤ heaviest
  over_light items W A u fs k G C = omega (arith, wt_text weigh items (rows_arm G.parts) (rows_arm G.keep) (rows_arm A) (rows_twig u) G.text, C.light)

  module _ {rs rs₁ : List (Record R V)} {f f₁ : Link} {batch : Batch} {kd pd : Digit} {p : Result ℕ Unsound} (np : NodePut weigh means rs rs₁ f f₁ pd p) where
    over_grouped : {q : Result (Option Digit) Unsound} {n₁ : ℕ} → p ≡ Ok n₁ → q ≡ added batch.made n₁ → (items : R → List I) (W : Option (Arm R V)) (A : Arm R V) (u : Twig R V) (n : ℕ) (ns : List ℕ) (k : ℕ) (G : Overed Back A u kd pd)
        → Stock weigh means items rs f batch W A (n ∷ ns) k → Coming weigh means items rs W A (Some (a1 u)) (n ∷ ns) k → Grouped (mean means items) rs rs₁ f₁ q W G.parts n ns k
    over_grouped got ad items W A u n ns k G S C =
        grouped np got ad items W G.parts n ns k S.made_is (omega (arith, C.count, G.full)) G.node G.parts_is S.first S.chain S.fits (G.fit_parts (mean means items) rs k S.fit)
        (over_light items W A u (n ∷ ns) k G C) (λ j. omega (arith, C.once j, G.occs j))

    over_fed : {q : Result (Option Digit) Unsound} {n₁ : ℕ} {made : Option Digit} {b : Batch} → p ≡ Ok n₁ → q ≡ added batch.made n₁ → q ≡ Ok made → b.made ≡ made → b.rest ≡ kd
        → (items : R → List I) (W : Option (Arm R V)) (A : Arm R V) (u : Twig R V) (fs : List ℕ) (k : ℕ) (G : Overed Back A u kd pd)
        → Stock weigh means items rs f batch W A fs k → Coming weigh means items rs W A (Some (a1 u)) fs k → Fed weigh means items rs rs₁ f₁ (Ok b) W A (Some (a1 u)) fs k
    over_fed got ad is bm br items W A u [] k G S C = absurd (omega (arith, S.supply, C.count, G.full))
    over_fed {b = b} got ad is bm br items W A u (n ∷ ns) k G S C =
        let mn : List R → V = mean means items in
        let M = over_grouped got ad items W A u n ns k G S C in
        record {
          batch = b;
          W' = M.W';
          A' = G.keep;
          fs' = ns;
          js = n ∷ [];
          ok = refl;
          stock = record {
            made_is = ok_same M.ok is ∙ sym bm;
            rest_is = G.keep_is ∙ sym br;
            first = M.first;
            fits = M.fits;
            fit = frame_arm M.off mn G.keep k (λ j. omega (arith, C.once j, G.occs j)) (G.fit mn rs k C.fits S.fit);
            chain = M.chain;
            supply = omega (arith, S.supply, M.len);
          };
          text = ap (λ q. q ++ rows_arm G.keep) M.text ∙ append_assoc (rows_part W) (rows_arm G.parts) (rows_arm G.keep) ∙ ap (λ q. rows_part W ++ q) G.text ∙ sym (append_assoc (rows_part W) (rows_arm A) (rows_twig u));
          kept = λ j. omega (arith, G.occs j, M.occs j);
          frame = off_more _ (λ j z. omega arith) M.off;
          count = omega (arith, M.len, G.full, G.left);
          least = λ le. omega (arith, G.left);
          few = omega (arith, M.len);
          spent = omega arith;
          drew = λ j. omega arith;
          fresh = λ j z. inr (M.off.reads j (omega arith));
        }

    no_node_go : {e : Unsound} → p ≡ Err e → (items : R → List I) (W : Option (Arm R V)) (A : Arm R V) (u : Twig R V) (fs : List ℕ) (k : ℕ) (G : Overed Back A u kd pd)
        → Stock weigh means items rs f batch W A fs k → Coming weigh means items rs W A (Some (a1 u)) fs k → ⊥
    no_node_go bad items W A u [] k G S C = omega (arith, S.supply, C.count, G.full)
    no_node_go bad items W A u (n ∷ ns) k G S C =
        ok_err (node_done np items G.parts n ns k G.node G.parts_is S.first S.chain (G.fit_parts (mean means items) rs k S.fit) (over_light items W A u (n ∷ ns) k G C) (λ j. omega (arith, C.once j, G.occs j))).ok bad

    no_room_go : {q : Result (Option Digit) Unsound} {n₁ : ℕ} {e : Unsound} → p ≡ Ok n₁ → q ≡ added batch.made n₁ → q ≡ Err e → (items : R → List I) (W : Option (Arm R V)) (A : Arm R V) (u : Twig R V) (fs : List ℕ) (k : ℕ) (G : Overed Back A u kd pd)
        → Stock weigh means items rs f batch W A fs k → Coming weigh means items rs W A (Some (a1 u)) fs k → ⊥
    no_room_go got ad bad items W A u [] k G S C = omega (arith, S.supply, C.count, G.full)
    no_room_go got ad bad items W A u (n ∷ ns) k G S C = ok_err (over_grouped got ad items W A u n ns k G S C).ok bad

    module _ {x : ℕ} {g : Grown} (grew : g ≡ grown Back batch.rest x) (is : g ≡ Over kd pd) where
      pub feed_over : {q : Result (Option Digit) Unsound} {n₁ : ℕ} {made : Option Digit} {b : Batch} → p ≡ Ok n₁ → q ≡ added batch.made n₁ → q ≡ Ok made → b.made ≡ made → b.rest ≡ kd → FedOne weigh means rs rs₁ f f₁ batch x (Ok b)
      feed_over got ad ok bm br = record { feeds = λ items W A u fs k ru S C. over_fed got ad ok bm br items W A u fs k (overed Back A u S.rest_is ru (sym is ∙ grew)) S C }

      pub feed_no_node : {rs₂ : List (Record R V)} {f₂ : Link} {e : Unsound} {r : Result Batch Unsound} → p ≡ Err e → FedOne weigh means rs rs₂ f f₂ batch x r
      feed_no_node bad = record { feeds = λ items W A u fs k ru S C. absurd (no_node_go bad items W A u fs k (overed Back A u S.rest_is ru (sym is ∙ grew)) S C) }

      pub feed_no_room : {rs₂ : List (Record R V)} {f₂ : Link} {q : Result (Option Digit) Unsound} {n₁ : ℕ} {e : Unsound} {r : Result Batch Unsound} → p ≡ Ok n₁ → q ≡ added batch.made n₁ → q ≡ Err e → FedOne weigh means rs rs₂ f f₂ batch x r
      feed_no_room got ad bad = record { feeds = λ items W A u fs k ru S C. absurd (no_room_go got ad bad items W A u fs k (overed Back A u S.rest_is ru (sym is ∙ grew)) S C) }

  -- no twig is left to feed
  pub part_done : {rs : List (Record R V)} {f : Link} {batch : Batch} {p : Option Digit} → p ≡ None → FedPart weigh means rs rs f f batch p (Ok batch)
  part_done {rs} {f} {batch} is = record {
    feeds = λ items W A P fs k ep S C.
        part_none (λ P. Fed weigh means items rs rs f (Ok batch) W A P fs k)
        (record {
          batch = batch;
          W' = W;
          A' = A;
          fs' = fs;
          js = [];
          ok = refl;
          stock = S;
          text = sym (append-nil (rows_part W ++ rows_arm A));
          kept = λ j. omega arith;
          frame = off_refl;
          count = omega arith;
          least = λ le. omega arith;
          few = omega arith;
          spent = omega arith;
          drew = λ j. omega arith;
          fresh = λ j z. inr refl;
        }) P (ep ∙ is);
  }

  module _ {rs rs₁ : List (Record R V)} {f f₁ : Link} {batch : Batch} {o : Peel} {m : Result Batch Unsound} (fed : FedOne weigh means rs rs₁ f f₁ batch o.slot m) where
    first_fed : (items : R → List I) (W : Option (Arm R V)) (A D : Arm R V) (fs : List ℕ) (k : ℕ) (N : Peeled Front D o) → Stock weigh means items rs f batch W A fs k → Coming weigh means items rs W A (Some D) fs k
        → Fed weigh means items rs rs₁ f₁ m W A (Some (a1 N.u)) fs k
    first_fed items W A D fs k N S C =
        let w₁ : wt weigh items (rows_arm D) ≡ wt weigh items (rows_twig N.u) + wt weigh items (rows_part N.Q) = ap (wt weigh items) N.text ∙ wt_append weigh items (rows_twig N.u) (rows_part N.Q) in
        fed.feeds items W A N.u fs k N.slot_is S (record { fits = (N.fit (mean means items) rs k C.fits).0; once = λ j. omega (arith, C.once j, N.occs j); light = omega (arith, C.light, w₁); count = omega (arith, C.count, N.sizes) })

    rest_go : {rs₂ : List (Record R V)} {f₂ : Link} {more : Batch} {r : Result Batch Unsound} → m ≡ Ok more → FedPart weigh means rs₁ rs₂ f₁ f₂ more o.rest r
        → (items : R → List I) (W : Option (Arm R V)) (A D : Arm R V) (fs : List ℕ) (k : ℕ) (N : Peeled Front D o) → Stock weigh means items rs f batch W A fs k → Coming weigh means items rs W A (Some D) fs k → Fed weigh means items rs rs₂ f₂ r W A (Some D) fs k
    rest_go {rs₂} {f₂} {more} {r} got part-fed items W A D fs k N S C =
        let mn : List R → V = mean means items in
        let u : Twig R V = N.u in
        let Q : Option (Arm R V) = N.Q in
        let E = first_fed items W A D fs k N S C in
        let w₁ : wt weigh items (rows_arm D) ≡ wt weigh items (rows_twig u) + wt weigh items (rows_part Q) = ap (wt weigh items) N.text ∙ wt_append weigh items (rows_twig u) (rows_part Q) in
        let w₂ = wt_text weigh items (rows_part E.W') (rows_arm E.A') (rows_part W ++ rows_arm A) (rows_twig u) E.text in
        let w₃ = wt_append weigh items (rows_part W) (rows_arm A) in
        let stock₁ : Stock weigh means items rs₁ f₁ more E.W' E.A' E.fs' k = subst (λ q. Stock weigh means items rs₁ f₁ q E.W' E.A' E.fs' k) (ok_same E.ok got) E.stock in
        let F = part-fed.feeds items E.W' E.A' Q E.fs' k N.rest_is stock₁ (record {
          fits = frame_part E.frame mn Q k (λ j. omega (arith, C.once j, N.occs j)) (N.fit mn rs k C.fits).1;
          once = λ j. omega (arith, C.once j, N.occs j, E.kept j);
          light = omega (arith, C.light, w₁, w₂, w₃);
          count = omega (arith, C.count, N.sizes, E.count);
        }) in
        record {
          batch = F.batch;
          W' = F.W';
          A' = F.A';
          fs' = F.fs';
          js = E.js ++ F.js;
          ok = F.ok;
          stock = F.stock;
          text = F.text ∙ ap (λ q. q ++ rows_part Q) E.text ∙ append_assoc (rows_part W ++ rows_arm A) (rows_twig u) (rows_part Q) ∙ ap (λ q. (rows_part W ++ rows_arm A) ++ q) (sym N.text);
          kept = λ j. omega (arith, F.kept j, E.kept j, N.occs j);
          frame = off_more _ (λ j z. omega (arith, z, E.drew j)) (off_then E.frame F.frame);
          count = omega (arith, F.count, E.count, N.sizes);
          least = λ le. F.least (omega (arith, E.least (omega (arith, size_one A)), N.sizes));
          few = omega (arith, F.few, E.few, length-append E.js F.js);
          spent = omega (arith, F.spent, E.spent, length-append E.js F.js);
          drew = λ j. omega (arith, F.drew j, E.drew j, occ_list_append E.js F.js j);
          fresh = λ j z. calm_then (E.fresh j (omega (arith, z, occ_list_append E.js F.js j))) (F.fresh j (omega (arith, z, occ_list_append E.js F.js j)));
        }

    pub part_more : {rs₂ : List (Record R V)} {f₂ : Link} {d : Digit} {p : Option Digit} {more : Batch} {r : Result Batch Unsound} → o ≡ peeled Front d → p ≡ Some d → m ≡ Ok more → FedPart weigh means rs₁ rs₂ f₁ f₂ more o.rest r → FedPart weigh means rs rs₂ f f₂ batch p r
    part_more {rs₂} {f₂} {d} {r = r} peel-is is got part-fed = record {
      feeds = λ items W A P fs k ep S C.
          part_some (λ P. Coming weigh means items rs W A P fs k → Fed weigh means items rs rs₂ f₂ r W A P fs k) d (λ D ed C. rest_go got part-fed items W A D fs k (peel_arm Front D ed peel-is) S C) P (ep ∙ is) C;
    }

    pub part_no_more : {rs₂ : List (Record R V)} {f₂ : Link} {d : Digit} {p : Option Digit} {e : Unsound} {r : Result Batch Unsound} → o ≡ peeled Front d → p ≡ Some d → m ≡ Err e → FedPart weigh means rs rs₂ f f₂ batch p r
    part_no_more {rs₂} {f₂} {d} {r = r} peel-is is bad = record {
      feeds = λ items W A P fs k ep S C.
          part_some (λ P. Coming weigh means items rs W A P fs k → Fed weigh means items rs rs₂ f₂ r W A P fs k) d (λ D ed C. absurd (ok_err (first_fed items W A D fs k (peel_arm Front D ed peel-is) S C).ok bad)) P (ep ∙ is) C;
    }

  -- the twigs left are one node's
  one_go : {rs rs₁ : List (Record R V)} {f f₁ : Link} {batch : Batch} {n₁ : ℕ} {p : Result ℕ Unsound} {q : Result (Option Digit) Unsound} → NodePut weigh means rs rs₁ f f₁ batch.rest p → p ≡ Ok n₁ → q ≡ added batch.made n₁
      → (items : R → List I) (W : Option (Arm R V)) (A : Arm R V) (fs : List ℕ) (k : ℕ) → Nodal A → 2 ≤ size A
      → Stock weigh means items rs f batch W A fs k → Coming weigh means items rs W A None fs k → Nodes weigh means items rs rs₁ f₁ q (rows_part W ++ rows_arm A) (λ j. occ_part W j + occ_arm A j) fs (size_part W) k
  one_go np got ad items W A [] k nd two_up S C = absurd (omega (arith, S.supply, C.count))
  one_go np got ad items W A (n ∷ ns) k nd two_up S C =
      let M = grouped np got ad items W A n ns k S.made_is (omega (arith, C.count)) nd S.rest_is S.first S.chain S.fits S.fit (omega (arith, C.light)) (λ j. omega (arith, C.once j)) in
      record {
        W = M.W';
        fs' = ns;
        js = n ∷ [];
        ok = M.ok;
        first = M.first;
        fits = M.fits;
        chain = M.chain;
        text = M.text;
        kept = λ j. omega (arith, M.occs j);
        frame = off_more _ (λ j z. omega arith) M.off;
        few = omega (arith, M.len);
        spent = omega arith;
        drew = λ j. omega arith;
        fresh = λ j z. inr (M.off.reads j (omega arith));
      }

  one_no_node : {rs rs₁ : List (Record R V)} {f f₁ : Link} {batch : Batch} {p : Result ℕ Unsound} {e : Unsound} → NodePut weigh means rs rs₁ f f₁ batch.rest p → p ≡ Err e
      → (items : R → List I) (W : Option (Arm R V)) (A : Arm R V) (fs : List ℕ) (k : ℕ) → Nodal A → 2 ≤ size A → Stock weigh means items rs f batch W A fs k → Coming weigh means items rs W A None fs k → ⊥
  one_no_node np bad items W A [] k nd two_up S C = omega (arith, S.supply, C.count)
  one_no_node np bad items W A (n ∷ ns) k nd two_up S C = ok_err (node_done np items A n ns k nd S.rest_is S.first S.chain S.fit (omega (arith, C.light)) (λ j. omega (arith, C.once j))).ok bad

  module _ {rs rs₁ : List (Record R V)} {f f₁ : Link} {batch : Batch} {p : Result ℕ Unsound} (not4 : (a b c d : ℕ) → batch.rest ≡ Four a b c d → ⊥) (np : NodePut weigh means rs rs₁ f f₁ batch.rest p) where
    pub finish_one : {n₁ : ℕ} {q : Result (Option Digit) Unsound} → p ≡ Ok n₁ → q ≡ added batch.made n₁ → Finished weigh means rs rs₁ f f₁ batch q
    finish_one got ad = record { finishes = λ items W A fs k le S C. one_go np got ad items W A fs k (nodal A le S.rest_is not4) le S C }

    pub finish_no_one : {rs₂ : List (Record R V)} {f₂ : Link} {e : Unsound} {r : Result (Option Digit) Unsound} → p ≡ Err e → Finished weigh means rs rs₂ f f₂ batch r
    finish_no_one bad = record { finishes = λ items W A fs k le S C. absurd (one_no_node np bad items W A fs k (nodal A le S.rest_is not4) le S C) }

  -- the twigs left are two nodes'
  module _ {rs rs₁ : List (Record R V)} {f f₁ : Link} {batch : Batch} {a b n₁ : ℕ} {p : Result ℕ Unsound} {q : Result (Option Digit) Unsound} (np : NodePut weigh means rs rs₁ f f₁ (Two a b) p) (got : p ≡ Ok n₁) (ad : q ≡ added batch.made n₁) where
    half : (items : R → List I) (W : Option (Arm R V)) (x y z w : Twig R V) (n o : ℕ) (ns : List ℕ) (k : ℕ) → Two (root x) (root y) ≡ Two a b
        → Stock weigh means items rs f batch W (a4 x y z w) (n ∷ (o ∷ ns)) k → Coming weigh means items rs W (a4 x y z w) None (n ∷ (o ∷ ns)) k → Grouped (mean means items) rs rs₁ f₁ q W (a2 x y) n (o ∷ ns) k
    half items W x y z w n o ns k e S C =
        let l₁ = wt_append weigh items ((rows_twig x ++ rows_twig y) ++ rows_twig z) (rows_twig w) in
        let l₂ = wt_append weigh items (rows_twig x ++ rows_twig y) (rows_twig z) in
        grouped np got ad items W (a2 x y) n (o ∷ ns) k S.made_is (omega (arith, C.count)) tt e S.first S.chain S.fits (S.fit.0, S.fit.1) (omega (arith, C.light, l₁, l₂)) (λ j. omega (arith, C.once j))

    module _ {rs₂ : List (Record R V)} {f₂ : Link} {c d : ℕ} {made : Option Digit} {p₂ : Result ℕ Unsound} (is : q ≡ Ok made) (np₂ : NodePut weigh means rs₁ rs₂ f₁ f₂ (Two c d) p₂) where
      -- the second node's twigs, as they are after the first
      second : (items : R → List I) (W : Option (Arm R V)) (x y z w : Twig R V) (n o : ℕ) (ns : List ℕ) (k : ℕ) → Two (root x) (root y) ≡ Two a b → Two (root z) (root w) ≡ Two c d
          → Stock weigh means items rs f batch W (a4 x y z w) (n ∷ (o ∷ ns)) k → Coming weigh means items rs W (a4 x y z w) None (n ∷ (o ∷ ns)) k → Noded (mean means items) rs₁ rs₂ f₂ p₂ (a2 z w) o ns k
      second items W x y z w n o ns k e₁ e₂ S C =
          let mn : List R → V = mean means items in
          let M = half items W x y z w n o ns k e₁ S C in
          let l₁ = wt_append weigh items ((rows_twig x ++ rows_twig y) ++ rows_twig z) (rows_twig w) in
          let l₂ = wt_append weigh items (rows_twig x ++ rows_twig y) (rows_twig z) in
          let l₃ = wt_append weigh items (rows_twig z) (rows_twig w) in
          node_done np₂ items (a2 z w) o ns k tt e₂ M.first M.chain
          (frame_twig M.off mn z k (λ j. omega (arith, C.once j)) S.fit.2, frame_twig M.off mn w k (λ j. omega (arith, C.once j)) S.fit.3)
          (omega (arith, C.light, l₁, l₂, l₃)) (λ j. omega (arith, C.once j))

      four_go : {m₁ : ℕ} {r : Result (Option Digit) Unsound} → p₂ ≡ Ok m₁ → r ≡ added made m₁ → (items : R → List I) (W : Option (Arm R V)) (x y z w : Twig R V) (fs : List ℕ) (k : ℕ) → Two (root x) (root y) ≡ Two a b → Two (root z) (root w) ≡ Two c d
          → Stock weigh means items rs f batch W (a4 x y z w) fs k → Coming weigh means items rs W (a4 x y z w) None fs k
          → Nodes weigh means items rs rs₂ f₂ r (rows_part W ++ rows_arm (a4 x y z w)) (λ j. occ_part W j + occ_arm (a4 x y z w) j) fs (size_part W) k
      four_go got₂ ad₂ items W x y z w [] k e₁ e₂ S C = absurd (omega (arith, S.supply, C.count))
      four_go got₂ ad₂ items W x y z w (n ∷ []) k e₁ e₂ S C = absurd (omega (arith, S.supply, C.count))
      four_go {m₁} got₂ ad₂ items W x y z w (n ∷ (o ∷ ns)) k e₁ e₂ S C =
          let mn : List R → V = mean means items in
          let M = half items W x y z w n o ns k e₁ S C in
          let N = second items W x y z w n o ns k e₁ e₂ S C in
          let K = snoc M.W' N.w (omega (arith, C.count, M.len)) in
          let made_is : made ≡ part_of M.W' = ok_same is M.ok in
          let m-is : m₁ ≡ root N.w = ok_same got₂ N.ok ∙ sym N.root_is in
          record {
            W = K.W';
            fs' = ns;
            js = n ∷ (o ∷ []);
            ok = ad₂ ∙ ap (λ q. added q m₁) made_is ∙ ap (λ q. added (part_of M.W') q) m-is ∙ K.is;
            first = N.first;
            fits = K.fit mn rs₂ (suc k) (frame_part N.off mn M.W' (suc k) (λ j. omega (arith, C.once j, M.occs j)) M.fits) N.fit;
            chain = N.chain;
            text = K.text ∙ ap (λ q. rows_part M.W' ++ q) N.text ∙ ap (λ q. q ++ (rows_twig z ++ rows_twig w)) M.text ∙ simp append_assoc;
            kept = λ j. omega (arith, M.occs j, K.occs j, N.occs j);
            frame = off_more _ (λ j e. omega arith) (off_then M.off N.off);
            few = omega (arith, M.len, K.len);
            spent = omega arith;
            drew = λ j. omega arith;
            fresh = λ j e. calm_then (inr (M.off.reads j (omega arith))) (inr (N.off.reads j (omega arith)));
          }

      second_none : {e : Unsound} → p₂ ≡ Err e → (items : R → List I) (W : Option (Arm R V)) (x y z w : Twig R V) (fs : List ℕ) (k : ℕ) → Two (root x) (root y) ≡ Two a b → Two (root z) (root w) ≡ Two c d
          → Stock weigh means items rs f batch W (a4 x y z w) fs k → Coming weigh means items rs W (a4 x y z w) None fs k → ⊥
      second_none bad items W x y z w [] k e₁ e₂ S C = omega (arith, S.supply, C.count)
      second_none bad items W x y z w (n ∷ []) k e₁ e₂ S C = omega (arith, S.supply, C.count)
      second_none bad items W x y z w (n ∷ (o ∷ ns)) k e₁ e₂ S C = ok_err (second items W x y z w n o ns k e₁ e₂ S C).ok bad

      module _ (rest_is : batch.rest ≡ Four a b c d) where
        pub finish_four : {m₁ : ℕ} {r : Result (Option Digit) Unsound} → p₂ ≡ Ok m₁ → r ≡ added made m₁ → Finished weigh means rs rs₂ f f₂ batch r
        finish_four {r = r} got₂ ad₂ = record {
          finishes = λ items W A fs k le S C.
              arm_four (λ A. Stock weigh means items rs f batch W A fs k → Coming weigh means items rs W A None fs k → Nodes weigh means items rs rs₂ f₂ r (rows_part W ++ rows_arm A) (λ j. occ_part W j + occ_arm A j) fs (size_part W) k) a b c d
              (λ x y z w p q o n S C. four_go got₂ ad₂ items W x y z w fs k (cc) (cc) S C) A (S.rest_is ∙ rest_is) S C;
        }

        pub finish_no_second : {rs₃ : List (Record R V)} {f₃ : Link} {e : Unsound} {r : Result (Option Digit) Unsound} → p₂ ≡ Err e → Finished weigh means rs rs₃ f f₃ batch r
        finish_no_second {rs₃} {f₃} {r = r} bad = record {
          finishes = λ items W A fs k le S C.
              arm_four (λ A. Stock weigh means items rs f batch W A fs k → Coming weigh means items rs W A None fs k → Nodes weigh means items rs rs₃ f₃ r (rows_part W ++ rows_arm A) (λ j. occ_part W j + occ_arm A j) fs (size_part W) k) a b c d
              (λ x y z w p q o n S C. absurd (second_none bad items W x y z w fs k (cc) (cc) S C)) A (S.rest_is ∙ rest_is) S C;
        }

    half_none : {e : Unsound} → q ≡ Err e → (items : R → List I) (W : Option (Arm R V)) (x y z w : Twig R V) (fs : List ℕ) (k : ℕ) → Two (root x) (root y) ≡ Two a b
        → Stock weigh means items rs f batch W (a4 x y z w) fs k → Coming weigh means items rs W (a4 x y z w) None fs k → ⊥
    half_none bad items W x y z w [] k e₁ S C = omega (arith, S.supply, C.count)
    half_none bad items W x y z w (n ∷ []) k e₁ S C = omega (arith, S.supply, C.count)
    half_none bad items W x y z w (n ∷ (o ∷ ns)) k e₁ S C = ok_err (half items W x y z w n o ns k e₁ S C).ok bad

    pub finish_no_room : {rs₃ : List (Record R V)} {f₃ : Link} {c d : ℕ} {e : Unsound} {r : Result (Option Digit) Unsound} → batch.rest ≡ Four a b c d → q ≡ Err e → Finished weigh means rs rs₃ f f₃ batch r
    finish_no_room {rs₃} {f₃} {c} {d} {r = r} rest_is bad = record {
      finishes = λ items W A fs k le S C.
          arm_four (λ A. Stock weigh means items rs f batch W A fs k → Coming weigh means items rs W A None fs k → Nodes weigh means items rs rs₃ f₃ r (rows_part W ++ rows_arm A) (λ j. occ_part W j + occ_arm A j) fs (size_part W) k) a b c d
          (λ x y z w p q o n S C. absurd (half_none bad items W x y z w fs k (cc) S C)) A (S.rest_is ∙ rest_is) S C;
    }

  first_none : {rs rs₁ : List (Record R V)} {f f₁ : Link} {batch : Batch} {a b : ℕ} {p : Result ℕ Unsound} {e : Unsound} → NodePut weigh means rs rs₁ f f₁ (Two a b) p → p ≡ Err e → (items : R → List I) (W : Option (Arm R V)) (x y z w : Twig R V) (fs : List ℕ) (k : ℕ) → Two (root x) (root y) ≡ Two a b
      → Stock weigh means items rs f batch W (a4 x y z w) fs k → Coming weigh means items rs W (a4 x y z w) None fs k → ⊥
  first_none np bad items W x y z w [] k e₁ S C = omega (arith, S.supply, C.count)
  first_none np bad items W x y z w (n ∷ ns) k e₁ S C =
      let l₁ = wt_append weigh items ((rows_twig x ++ rows_twig y) ++ rows_twig z) (rows_twig w) in
      let l₂ = wt_append weigh items (rows_twig x ++ rows_twig y) (rows_twig z) in
      ok_err (node_done np items (a2 x y) n ns k tt e₁ S.first S.chain (S.fit.0, S.fit.1) (omega (arith, C.light, l₁, l₂)) (λ j. omega (arith, C.once j))).ok bad

  pub finish_no_first : {rs rs₁ rs₃ : List (Record R V)} {f f₁ f₃ : Link} {batch : Batch} {a b c d : ℕ} {p : Result ℕ Unsound} {e : Unsound} {r : Result (Option Digit) Unsound} → batch.rest ≡ Four a b c d → NodePut weigh means rs rs₁ f f₁ (Two a b) p → p ≡ Err e → Finished weigh means rs rs₃ f f₃ batch r
  finish_no_first {rs} {rs₃ = rs₃} {f} {f₃ = f₃} {batch} {a} {b} {c} {d} {r = r} rest_is np bad = record {
    finishes = λ items W A fs k le S C.
        arm_four (λ A. Stock weigh means items rs f batch W A fs k → Coming weigh means items rs W A None fs k → Nodes weigh means items rs rs₃ f₃ r (rows_part W ++ rows_arm A) (λ j. occ_part W j + occ_arm A j) fs (size_part W) k) a b c d
        (λ x y z w p q o n S C. absurd (first_none np bad items W x y z w fs k (cc) S C)) A (S.rest_is ∙ rest_is) S C;
  }
