-- The paths of edge, rejoin and reopen. Assumes nothing.
use Rattle.std.proofs.Common.{sym, refl, ap, ◌∙◌, subst, ⊎_elim, arith}
use Rattle.measures.specs.Law.{weights, heaviest}
use Rattle.std.specs.Prelude.{◌≡◌, Bool, true, List, [], ◌∷◌, ℕ, suc, ◌+◌, ◌-◌, ◌≤◌, ◌<◌, length}
use Rattle.std.specs.declared.option.Option.{Option}
use Rattle.std.specs.declared.option.Option.TheVariants.{Some}
use Rattle.std.specs.Result.{result_ok}
use Rattle.std.specs.declared.result.Result.{Result}
use Rattle.std.specs.declared.result.Result.TheVariants.{Ok, Err}
use Rattle.split.specs.Words.{Unsound, Link, Digit, Tree, Record, Side, Front, Back, Spine, Cut}
use Rattle.slots.specs.Ghost.{Twig, Arm, Finger, same, occ_list, head_of, root, digit_of, part_of, tree_of, rows_twig, rows_arm, rows_part, rows, levels, occ_twig, occ_arm, occ_part, occ, FitTwig, FitArm, FitPart, Fit, Chain}
use Rattle.slots.specs.Post.{Taken}
use Rattle.slots.specs.Sides.{pick, flipped, ends}
use Rattle.slots.specs.Values.{mean, wt}
use Rattle.slots.proofs.Ends.{pick_flipped}
use Rattle.slots.proofs.Frames.{calm_then, off_then, off_more, frame_arm, frame_part, frame}
use Rattle.slots.proofs.Shapes.{ok_err, ok_same}
use Rattle.tree.specs.Post.{NodeTaken, Shrunk, Parts, Whole, Deepened, Planted}
use Rattle.tree.proofs.Levels.{unpacked}
use Rattle.tree.proofs.Shrinking.{shrunk_calm}
use Rattle.seek.specs.Places.{upto}
use Rattle.seek.specs.Post.{Picked}
use Rattle.seek.proofs.Moves.{arm_some, yes_none}
use Rattle.split.specs.declared.halves.Halves.{Halves}
use Rattle.split.specs.Post.{halves, Halved, Edged, Rejoined, Reopen, Reopened}

module _ {R I V : Type 0} {weigh : I → ℕ} {means : List I → V} where
  -- the grown tree and the planted one, which lies at that side
  halved : (side : Side) {rs rs₁ rs₂ : List (Record R V)} {f₁ f₂ : Link} {g h : Result Tree Unsound} {x y : Tree} {n top : ℕ} {s : Halves} (items : R → List I) (P : Option (Arm R V)) (T : List R) (τ : ℕ → ℕ) (len k : ℕ)
      → (G : Shrunk weigh means items rs rs₁ f₁ g T τ top len k) → Shrunk weigh means items rs₁ rs₂ f₂ h (rows_part P) (λ j. occ_part P j + occ_list G.made.fs' j) 1 (length G.made.fs' - 1) k
      → g ≡ Ok x → h ≡ Ok y → s ≡ halves side y n x → 1 ≤ top → ((j : ℕ) → occ_part P j + τ j ≤ 1)
      → Halved weigh means items rs rs₂ f₂ (Ok (Some s)) n (pick side (rows_part P) T) (pick side T (rows_part P)) (λ j. occ_part P j + τ j) top (len - 1) k
  halved Front {x = x} {y} {n} {s = s} items P T τ len k G H gx hy is lo once =
      let A = G.made in
      let B = H.made in
      let x-is : x ≡ tree_of A.t' = ok_same gx A.ok in
      let y-is : y ≡ tree_of B.t' = ok_same hy B.ok in
      record {
        l = B.t';
        q = A.t';
        fs' = B.fs';
        ok = ap (λ q. Ok (Some q)) (is ∙ ap (λ q. halves Front q n x) y-is ∙ ap (λ q. halves Front (tree_of B.t') n q) x-is);
        first = B.first;
        text_l = B.text;
        text_r = A.text;
        fit_l = B.fit;
        fit_r = frame B.frame (mean means items) A.t' k (λ j. omega (arith, once j, A.kept j)) A.fit;
        chain = B.chain;
        kept = λ j. omega (arith, A.kept j, B.kept j);
        frame = off_more _ (λ j z. omega (arith, A.kept j)) (off_then A.frame B.frame);
        high_l = omega (arith, H.high);
        high_r = G.high;
        more = omega (arith, G.more, H.more);
        calm = λ j. calm_then (shrunk_calm G j) (shrunk_calm H j);
      }
  halved Back {x = x} {y} {n} {s = s} items P T τ len k G H gx hy is lo once =
      let A = G.made in
      let B = H.made in
      let x-is : x ≡ tree_of A.t' = ok_same gx A.ok in
      let y-is : y ≡ tree_of B.t' = ok_same hy B.ok in
      record {
        l = A.t';
        q = B.t';
        fs' = B.fs';
        ok = ap (λ q. Ok (Some q)) (is ∙ ap (λ q. halves Back q n x) y-is ∙ ap (λ q. halves Back (tree_of B.t') n q) x-is);
        first = B.first;
        text_l = A.text;
        text_r = B.text;
        fit_l = frame B.frame (mean means items) A.t' k (λ j. omega (arith, once j, A.kept j)) A.fit;
        fit_r = B.fit;
        chain = B.chain;
        kept = λ j. omega (arith, A.kept j, B.kept j);
        frame = off_more _ (λ j z. omega (arith, A.kept j)) (off_then A.frame B.frame);
        high_l = G.high;
        high_r = omega (arith, H.high);
        more = omega (arith, G.more, H.more);
        calm = λ j. calm_then (shrunk_calm G j) (shrunk_calm H j);
      }

  module _ {rs rs₁ : List (Record R V)} {f f₁ : Link} {fuel i : ℕ} {side fl : Side} (level : Spine) (c : Cut) {far : Digit} {near : Option Digit} {g : Result Tree Unsound}
      (far-is : far ≡ pick side level.back level.front) (fl-is : fl ≡ flipped side) (near-is : near ≡ pick fl c.left c.right) (D : Deepened weigh means rs rs₁ f f₁ fuel side i near level.middle far g) where
    grown : (items : R → List I) (Q : Option (Arm R V)) (m : Finger R V) (B : Arm R V) (fs : List ℕ) (k : ℕ) → part_of Q ≡ pick side c.right c.left → tree_of m ≡ level.middle → digit_of B ≡ pick side level.back level.front
        → FitPart (mean means items) rs Q k → Parts weigh means items rs f i (rows_part Q) (occ_part Q) m B fs k → levels m ≤ fuel → Whole weigh means items rs rs₁ f₁ side i g (rows_part Q) (occ_part Q) m B fs k
    grown items Q m B fs k eq em eb fq h low =
        D.deepens items Q m B fs k (eq ∙ sym (near-is ∙ ap (λ q. pick q c.left c.right) fl-is ∙ pick_flipped side c.left c.right)) em (eb ∙ sym far-is) fq h low

    pub edge_no_inner : {rs₂ : List (Record R V)} {f₂ : Link} {e : Unsound} {r : Result (Option Halves) Unsound} → g ≡ Err e → Edged weigh means rs rs₂ f f₂ fuel side i level c r
    edge_no_inner bad = record { edges = λ items P Q m B fs k ep eq em eb fp fq h low light once long. absurd (ok_err (grown items Q m B fs k eq em eb fq h low).made.ok bad) }

    module _ {rs₂ : List (Record R V)} {f₂ : Link} {o : Option Digit} {p : Result Tree Unsound} (o_is : o ≡ pick side c.left c.right) (pl : Planted weigh means rs₁ rs₂ f₁ f₂ o p) where
      planted : (items : R → List I) (P Q : Option (Arm R V)) (m : Finger R V) (B : Arm R V) (fs : List ℕ) (k : ℕ) → part_of P ≡ pick side c.left c.right → FitPart (mean means items) rs P k
          → wt weigh items (rows_part P) ≤ heaviest → ((j : ℕ) → occ_part P j + (same i j + (occ_part Q j + (occ m j + (occ_arm B j + occ_list fs j)))) ≤ 1) → 0 < length fs
          → (G : Whole weigh means items rs rs₁ f₁ side i g (rows_part Q) (occ_part Q) m B fs k)
          → Shrunk weigh means items rs₁ rs₂ f₂ p (rows_part P) (λ j. occ_part P j + occ_list G.made.fs' j) 1 (length G.made.fs' - 1) k
      planted items P Q m B fs k ep fp light once long G =
          pl.plants items P G.made.fs' k (ep ∙ sym o_is) G.made.first (frame_part G.made.frame (mean means items) P k once fp) G.made.chain light
          (λ j. omega (arith, once j, G.made.kept j)) (omega (arith, G.more))

      pub edge_no_outer : {rs₃ : List (Record R V)} {f₃ : Link} {e : Unsound} {r : Result (Option Halves) Unsound} → p ≡ Err e → Edged weigh means rs rs₃ f f₃ fuel side i level c r
      edge_no_outer bad = record {
        edges = λ items P Q m B fs k ep eq em eb fp fq h low light once long.
            absurd (ok_err (planted items P Q m B fs k ep fp light once long (grown items Q m B fs k eq em eb fq h low)).made.ok bad);
      }

      pub edge_ok : {x y : Tree} {s : Halves} → g ≡ Ok x → p ≡ Ok y → s ≡ halves side y c.at x → Edged weigh means rs rs₂ f f₂ fuel side i level c (Ok (Some s))
      edge_ok gx py is = record {
        edges = λ items P Q m B fs k ep eq em eb fp fq h low light once long.
            let G = grown items Q m B fs k eq em eb fq h low in
            halved side items P (ends side (rows_part Q) (ends side (rows m) (rows_arm B))) (λ j. same i j + (occ_part Q j + (occ m j + (occ_arm B j + occ_list fs j)))) (length fs) k
            G (planted items P Q m B fs k ep fp light once long G) gx py is (omega arith) once;
      }

-- the first slot of the chain was taken
record Drawn {R V : Type 0} (rs : List (Record R V)) (f₁ : Link) (p : Result ℕ Unsound) (fs : List ℕ) : Type 0 where
  n : ℕ
  ns : List ℕ
  ok : p ≡ Ok n
  first : head_of ns ≡ f₁
  within : n < length rs
  chain : Chain rs ns
  occs : (j : ℕ) → occ_list fs j ≡ same n j + occ_list ns j
  len : length fs ≡ suc (length ns)

drawn : {R V : Type 0} {rs : List (Record R V)} {f f₁ : Link} {p : Result ℕ Unsound} → Taken rs f f₁ p → (fs : List ℕ) → head_of fs ≡ f → Chain rs fs → 0 < length fs → Drawn rs f₁ p fs
drawn took [] e chain long = absurd (omega (arith, long))
drawn took (x ∷ xs) e chain long =
    let o = took.takes x xs (sym e) chain in
    record { n = x; ns = xs; ok = o.0; first = sym o.1; within = chain.0.within; chain = chain.1; occs = λ j. refl; len = refl }

module _ {R I V : Type 0} {weigh : I → ℕ} {means : List I → V} where
  module _ {rs rs₁ : List (Record R V)} {f f₁ : Link} {fuel i : ℕ} (level : Spine) (s : Halves) (c : Cut) {g : Result Tree Unsound} (D₁ : Deepened weigh means rs rs₁ f f₁ fuel Back i c.left s.left level.front g) where
    pub join_err : {rs₃ : List (Record R V)} {f₃ : Link} {e : Unsound} {r : Result (Option Halves) Unsound} → g ≡ Err e → Rejoined weigh means rs rs₃ f f₃ fuel i level s c r
    join_err bad = record { joins = λ items F a L Q b B fs top k ef ea el eq eb ebd fl fq fb fB h la lb ta tb light once long. absurd (ok_err (D₁.deepens items L a F fs k el ea ef fl h la).made.ok bad) }

    module _ {f₂ : Link} {p : Result ℕ Unsound} (took : Taken rs₁ f₁ f₂ p) where
      draw : (items : R → List I) (L : Option (Arm R V)) (a : Finger R V) (F : Arm R V) (fs : List ℕ) (k : ℕ) → 0 < length fs → (G : Whole weigh means items rs rs₁ f₁ Back i g (rows_part L) (occ_part L) a F fs k) → Drawn rs₁ f₂ p G.made.fs'
      draw items L a F fs k long G = drawn took G.made.fs' G.made.first G.made.chain (omega (arith, G.more))

      pub join_no_slot : {rs₃ : List (Record R V)} {f₃ : Link} {e : Unsound} {r : Result (Option Halves) Unsound} → p ≡ Err e → Rejoined weigh means rs rs₃ f f₃ fuel i level s c r
      join_no_slot bad = record {
        joins = λ items F a L Q b B fs top k ef ea el eq eb ebd fl fq fb fB h la lb ta tb light once long.
            absurd (ok_err (draw items L a F fs k long (D₁.deepens items L a F fs k el ea ef fl h la)).ok bad);
      }

      -- nothing but the free link changed when the slot was taken
      module _ {rs₂ rs₃ : List (Record R V)} {f₃ : Link} {j₀ : ℕ} {g₂ : Result Tree Unsound} (kept : rs₂ ≡ rs₁) (got : p ≡ Ok j₀) (D₂ : Deepened weigh means rs₂ rs₃ f₂ f₃ fuel Front j₀ c.right s.right level.back g₂) where
        second : (items : R → List I) (Q : Option (Arm R V)) (b : Finger R V) (B : Arm R V) (T : List R) (τ : ℕ → ℕ) (top len k : ℕ) → (G : Shrunk weigh means items rs rs₁ f₁ g T τ top len k) → (E : Drawn rs₁ f₂ p G.made.fs')
            → part_of Q ≡ c.right → tree_of b ≡ s.right → digit_of B ≡ level.back → FitPart (mean means items) rs Q k → Fit (mean means items) rs b (suc k) → FitArm (mean means items) rs B k → levels b ≤ fuel
            → wt weigh items (rows_part Q) + (wt weigh items (rows b) + wt weigh items (rows_arm B)) ≤ heaviest → ((j : ℕ) → (occ_part Q j + (occ b j + occ_arm B j)) + τ j ≤ 1)
            → Whole weigh means items rs₁ rs₃ f₃ Front E.n g₂ (rows_part Q) (occ_part Q) b B E.ns k
        second items Q b B T τ top len k G E eq eb ebd fq fb fB lb light once =
            let mn : List R → V = mean means items in
            let D₃ = subst (λ q. Deepened weigh means rs₁ rs₃ f₂ f₃ fuel Front q c.right s.right level.back g₂) (ok_same got E.ok) (subst (λ q. Deepened weigh means q rs₃ f₂ f₃ fuel Front j₀ c.right s.right level.back g₂) kept D₂) in
            D₃.deepens items Q b B E.ns k eq eb ebd (frame_part G.made.frame mn Q k (λ j. omega (arith, once j)) fq) (record {
              first = E.first;
              within = E.within;
              fit_m = frame G.made.frame mn b (suc k) (λ j. omega (arith, once j)) fb;
              fit_b = frame_arm G.made.frame mn B k (λ j. omega (arith, once j)) fB;
              chain = E.chain;
              light = light;
              once = λ j. omega (arith, once j, G.made.kept j, E.occs j);
            }) lb

        pub join_no_right : {rs₄ : List (Record R V)} {f₄ : Link} {e : Unsound} {r : Result (Option Halves) Unsound} → g₂ ≡ Err e → Rejoined weigh means rs rs₄ f f₄ fuel i level s c r
        join_no_right bad = record {
          joins = λ items F a L Q b B fs top k ef ea el eq eb ebd fl fq fb fB h la lb ta tb light once long.
              let G = D₁.deepens items L a F fs k el ea ef fl h la in
              absurd (ok_err (second items Q b B _ _ _ _ k G (draw items L a F fs k long G) eq eb ebd fq fb fB lb light once).made.ok bad);
        }

        pub join_ok : {x y : Tree} → g ≡ Ok x → g₂ ≡ Ok y → Rejoined weigh means rs rs₃ f f₃ fuel i level s c (Ok (Some (record { left = x; at = c.at; right = y })))
        join_ok {x} {y} gx gy = record {
          joins = λ items F a L Q b B fs top k ef ea el eq eb ebd fl fq fb fB h la lb ta tb light once long.
              let G = D₁.deepens items L a F fs k el ea ef fl h la in
              let E = draw items L a F fs k long G in
              let H = second items Q b B _ _ _ _ k G E eq eb ebd fq fb fB lb light once in
              let A = G.made in
              let C = H.made in
              record {
                l = A.t';
                q = C.t';
                fs' = C.fs';
                ok = ap (λ (q : Tree). Ok (Some (record { left = q; at = c.at; right = y }))) (ok_same gx A.ok) ∙ ap (λ (q : Tree). Ok (Some (record { left = tree_of A.t'; at = c.at; right = q }))) (ok_same gy C.ok);
                first = C.first;
                text_l = A.text;
                text_r = C.text;
                fit_l = frame C.frame (mean means items) A.t' k (λ j. omega (arith, once j, A.kept j, E.occs j)) A.fit;
                fit_r = C.fit;
                chain = C.chain;
                kept = λ j. omega (arith, A.kept j, C.kept j, E.occs j);
                frame = off_more _ (λ j z. omega (arith, A.kept j, E.occs j)) (off_then A.frame C.frame);
                high_l = omega (arith, G.high);
                high_r = omega (arith, H.high);
                more = omega (arith, G.more, H.more, E.len);
                calm = λ j. calm_then (shrunk_calm G j) (shrunk_calm H j);
              };
        }

module _ {R I V : Type 0} {weigh : I → ℕ} {means : List I → V} {says : V → Bool} {rs rs' : List (Record R V)} {f f' : Link} {n : ℕ} {p : V} {ps : Result Digit Unsound} (taken : NodeTaken rs rs' f f' n ps) where
  pub reopen_no_node : {rs₂ : List (Record R V)} {f₂ : Link} {p' : V} {e : Unsound} {r : Result Cut Unsound} → ps ≡ Err e → Reopened weigh means says rs rs₂ f f₂ n p p' r
  reopen_no_node bad = record { opens = λ items v w k e fit once light at y. absurd (ok_err (unpacked taken (mean means items) w k e fit).ok bad) }

  module _ {d : Digit} {p' : V} {q : Result (Option Cut) Unsound} (got : ps ≡ Ok d) (pk : Picked weigh means says rs' d p p' q) where
    -- what is found among the parts of the node
    reopened : (items : R → List I) (v : List I) (w : Twig R V) (k : ℕ) → root w ≡ n → FitTwig (mean means items) rs w (suc k) → ((j : ℕ) → occ_twig w j ≤ 1) → weights weigh (upto items v (rows_twig w)) ≤ heaviest
        → p ≡ means v → says (means (upto items v (rows_twig w))) ≡ true → {r : Result Cut Unsound} → ((c : Cut) → q ≡ Ok (Some c) → r ≡ Ok c) → Reopen weigh means says items rs rs' f f' v p' r w k
    reopened items v w k e fit once light at y go =
        let mn : List R → V = mean means items in
        let U = unpacked taken mn w k e fit in
        let fit₁ = frame_arm U.off mn U.arm k (λ j. omega (arith, once j, U.occs j)) U.fit in
        ⊎_elim (λ h. absurd (arm_some U.arm (yes_none means says items v (rows_arm U.arm) h.1.no (ap (λ l. says (means (upto items v l))) U.text ∙ y))))
        (λ s. record {
          L = s.L;
          u = s.u;
          Q = s.Q;
          ok = go _ s.ok;
          text = sym U.text ∙ s.slit.text;
          occs = λ j. omega (arith, U.occs j, s.slit.occs j);
          fit_l = s.slit.fit_l;
          fit_u = s.slit.fit_u;
          fit_r = s.slit.fit_r;
          first = U.first;
          at = U.at;
          off = U.off;
          calm = U.calm;
          past = s.past;
          yes = s.yes;
        })
        (pk.picks items v U.arm k (ok_same U.ok got) fit₁ (subst (λ l. weights weigh (upto items v l) ≤ heaviest) (sym U.text) light) at)

    pub reopen_found : {o : Option Cut} {r : Result Cut Unsound} → q ≡ Ok o → o ≡ result_ok r → Reopened weigh means says rs rs' f f' n p p' r
    reopen_found {r = Ok cut} ok is = record { opens = λ items v w k e fit once light at y. reopened items v w k e fit once light at y (λ c found. let z : cut ≡ c = cc in ap Ok z) }
    reopen_found {r = Err e} ok is = record { opens = λ items v w k e fit once light at y. reopened items v w k e fit once light at y (λ c found. absurd (let z : ◌≡◌ {A = ℕ} 0 1 = cc in omega arith)) }

    pub reopen_err : {e : Unsound} {r : Result Cut Unsound} → q ≡ Err e → Reopened weigh means says rs rs' f f' n p p' r
    reopen_err bad = record { opens = λ items v w k e fit once light at y. reopened items v w k e fit once light at y (λ c is. absurd (ok_err is bad)) }

-- the slots as the arena left them
module _ {R I V : Type 0} {weigh : I → ℕ} {means : List I → V} {rs rs₁ rs' : List (Record R V)} {f f' : Link} {r : Result (Option Halves) Unsound} (is : rs₁ ≡ rs') where
  pub edged_at : {fuel i : ℕ} {s : Side} {level : Spine} {c : Cut} → Edged weigh means rs rs₁ f f' fuel s i level c r → Edged weigh means rs rs' f f' fuel s i level c r
  edged_at {fuel} {i} {s} {level} {c} made = subst (λ q. Edged weigh means rs q f f' fuel s i level c r) is made

  pub rejoined_at : {fuel i : ℕ} {level : Spine} {m : Halves} {c : Cut} → Rejoined weigh means rs rs₁ f f' fuel i level m c r → Rejoined weigh means rs rs' f f' fuel i level m c r
  rejoined_at {fuel} {i} {level} {m} {c} made = subst (λ q. Rejoined weigh means rs q f f' fuel i level m c r) is made
