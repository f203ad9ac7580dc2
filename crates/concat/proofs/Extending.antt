-- The paths of bundle, extend_down and extend_past. Assumes nothing.
use Rattle.std.proofs.Common.{sym, refl, ap, ◌∙◌, subst, inr, ⊎_elim, append_assoc, arith, length-append}
use Rattle.measures.specs.Law.{heaviest}
use Rattle.std.specs.Prelude.{◌≡◌, List, [], ◌++◌, ℕ, zero, suc, ◌+◌, ◌*◌, ◌≤◌, length}
use Rattle.std.specs.declared.option.Option.{Option}
use Rattle.std.specs.declared.option.Option.TheVariants.{None, Some}
use Rattle.std.specs.declared.result.Result.{Result}
use Rattle.std.specs.declared.result.Result.TheVariants.{Ok, Err}
use Rattle.tree.specs.Words.{Unsound, Link, Digit, Tree, Record, Side, Peel}
use Rattle.slots.specs.Ghost.{Twig, Arm, a1, a2, a3, a4, Finger, nil, one, deep, occ_list, head_of, digit_of, part_of, tree_of, rows_twig, rows_arm, rows_part, rows, levels, size, size_part, occ_arm, occ_part, occ, FitArm, FitPart, Fit, Chain}
use Rattle.slots.specs.Sides.{pick, flipped, ends, peeled}
use Rattle.slots.specs.Values.{mean, wt}
use Rattle.tree.specs.Post.{fill, load, Push, Pushed}
use Rattle.concat.specs.declared.bundles.Batch.{Batch}
use Rattle.concat.specs.Post.{times, Stock, Fed, FedPart, Finished, Bundled, Beyond, Extend, Extended, ExtendedPast}
use Rattle.slots.proofs.Frames.{occ_list_append, calm_then, off_refl, off_then, off_more, frame_twig, frame_arm, frame_part}
use Rattle.slots.proofs.Shapes.{ok_err, ok_same, part_none, part_some}
use Rattle.slots.proofs.Weights.{wt_append, wt_ends, wt_text}
use Rattle.slots.proofs.Ends.{ends_assoc, nil_ends, ends_flipped, size_one, size_four, part_four, Peeled, peel_arm}

times_four : (r x : ℕ) → r ≤ 4 → times r x ≤ 4 * x
times_four zero x le = omega arith
times_four (suc zero) x le = omega arith
times_four (suc (suc zero)) x le = omega arith
times_four (suc (suc (suc zero))) x le = omega arith
times_four (suc (suc (suc (suc zero)))) x le = omega arith
times_four (suc (suc (suc (suc (suc r))))) x le = absurd (omega arith)

times_one : (r x : ℕ) → r ≤ 1 → times r x ≤ x
times_one zero x le = omega arith
times_one (suc zero) x le = omega arith
times_one (suc (suc r)) x le = absurd (omega arith)

times_two : (r x : ℕ) → r ≤ 2 → times r x ≤ 2 * x
times_two zero x le = omega arith
times_two (suc zero) x le = omega arith
times_two (suc (suc zero)) x le = omega arith
times_two (suc (suc (suc r))) x le = absurd (omega arith)

module _ {R V : Type 0} where
  fill_least : (A : Arm R V) → fill A ≤ 2
  fill_least (a1 a) = omega arith
  fill_least (a2 a b) = omega arith
  fill_least (a3 a b c) = omega arith
  fill_least (a4 a b c d) = omega arith

  load_two : (s : Side) (t : Finger R V) → load s t ≤ 2
  load_two s nil = omega arith
  load_two s (one w) = omega arith
  load_two s (deep i v f m b) = fill_least (pick s f b)

  -- the twig of the part that lies next to the tree
  near_text : (s : Side) {o : Peel} (D : Arm R V) (N : Peeled (flipped s) D o) → rows_arm D ≡ ends s (rows_part N.Q) (rows_twig N.u)
  near_text s D N = N.text ∙ ends_flipped s (rows_twig N.u) (rows_part N.Q)

-- the part and then the digit C were fed to the digit A
record Fed2 {R I V : Type 0} (weigh : I → ℕ) (means : List I → V) (items : R → List I) (rs rs₁ rs₂ : List (Record R V)) (f₁ f₂ : Link) (some all : Result Batch Unsound) (A : Arm R V) (P : Option (Arm R V)) (C : Arm R V) (fs : List ℕ) (k : ℕ) : Type 0 where
  pub D : Fed weigh means items rs rs₁ f₁ some None A P fs k
  pub E : Fed weigh means items rs₁ rs₂ f₂ all D.W' D.A' (Some C) D.fs' k

module _ {R I V : Type 0} {weigh : I → ℕ} {means : List I → V} where
  module _ {rs rs₁ : List (Record R V)} {f f₁ : Link} {b : Batch} {some : Result Batch Unsound} {p : Option Digit} {back : Digit} (bm : b.made ≡ None) (br : b.rest ≡ back) (fed₁ : FedPart weigh means rs rs₁ f f₁ b p some) where
    fed_first : (items : R → List I) (A : Arm R V) (P : Option (Arm R V)) (C : Arm R V) (fs : List ℕ) (k : ℕ) → digit_of A ≡ back → part_of P ≡ p → head_of fs ≡ f
        → FitArm (mean means items) rs A k → FitPart (mean means items) rs P k → Chain rs fs → 4 ≤ length fs → ((j : ℕ) → occ_arm A j + (occ_part P j + (occ_arm C j + occ_list fs j)) ≤ 1)
        → wt weigh items (rows_arm A) + (wt weigh items (rows_part P) + wt weigh items (rows_arm C)) ≤ heaviest → Fed weigh means items rs rs₁ f₁ some None A P fs k
    fed_first items A P C fs k ea ep first fa fp chain four once light =
        fed₁.feeds items None A P fs k ep
        (record { made_is = sym bm; rest_is = ea ∙ sym br; first = first; fits = tt; fit = fa; chain = chain; supply = omega arith })
        (record { fits = fp; once = λ j. omega (arith, once j); light = omega (arith, light); count = omega (arith, size_four A, part_four P) })

    pub bundle_no_some : {rs₃ : List (Record R V)} {f₃ : Link} {front : Digit} {e : Unsound} {r : Result (Option Digit) Unsound} → some ≡ Err e → Bundled weigh means rs rs₃ f f₃ back p front r
    bundle_no_some bad = record { bundles = λ items A P C fs k ea ep ec first fa fp fc chain four once light. absurd (ok_err (fed_first items A P C fs k ea ep first fa fp chain four once light).ok bad) }

    module _ {rs₂ : List (Record R V)} {f₂ : Link} {b₁ : Batch} {all : Result Batch Unsound} {front : Digit} (got₁ : some ≡ Ok b₁) (fed₂ : FedPart weigh means rs₁ rs₂ f₁ f₂ b₁ (Some front) all) where
      fed_both : (items : R → List I) (A : Arm R V) (P : Option (Arm R V)) (C : Arm R V) (fs : List ℕ) (k : ℕ) → digit_of A ≡ back → part_of P ≡ p → digit_of C ≡ front → head_of fs ≡ f
          → FitArm (mean means items) rs A k → FitPart (mean means items) rs P k → FitArm (mean means items) rs C k → Chain rs fs → 4 ≤ length fs → ((j : ℕ) → occ_arm A j + (occ_part P j + (occ_arm C j + occ_list fs j)) ≤ 1)
          → wt weigh items (rows_arm A) + (wt weigh items (rows_part P) + wt weigh items (rows_arm C)) ≤ heaviest → Fed2 weigh means items rs rs₁ rs₂ f₁ f₂ some all A P C fs k
      fed_both items A P C fs k ea ep ec first fa fp fc chain four once light =
          let mn : List R → V = mean means items in
          let D₁ = fed_first items A P C fs k ea ep first fa fp chain four once light in
          let w₁ = wt_text weigh items (rows_part D₁.W') (rows_arm D₁.A') (rows_arm A) (rows_part P) D₁.text in
          let stock₁ : Stock weigh means items rs₁ f₁ b₁ D₁.W' D₁.A' D₁.fs' k = subst (λ q. Stock weigh means items rs₁ f₁ q D₁.W' D₁.A' D₁.fs' k) (ok_same D₁.ok got₁) D₁.stock in
          record {
            D = D₁;
            E = fed₂.feeds items D₁.W' D₁.A' (Some C) D₁.fs' k (ap Some ec) stock₁
                (record { fits = frame_arm D₁.frame mn C k (λ j. omega (arith, once j)) fc; once = λ j. omega (arith, once j, D₁.kept j); light = omega (arith, light, w₁); count = omega (arith, D₁.count, size_four A, part_four P, size_four C) });
          }

      pub bundle_no_all : {rs₃ : List (Record R V)} {f₃ : Link} {e : Unsound} {r : Result (Option Digit) Unsound} → all ≡ Err e → Bundled weigh means rs rs₃ f f₃ back p front r
      bundle_no_all bad = record { bundles = λ items A P C fs k ea ep ec first fa fp fc chain four once light. absurd (ok_err (fed_both items A P C fs k ea ep ec first fa fp fc chain four once light).E.ok bad) }

      pub bundled : {rs₃ : List (Record R V)} {f₃ : Link} {b₂ : Batch} {r : Result (Option Digit) Unsound} → all ≡ Ok b₂ → Finished weigh means rs₂ rs₃ f₂ f₃ b₂ r → Bundled weigh means rs rs₃ f f₃ back p front r
      bundled {rs₃} {f₃} {b₂} {r} got₂ fin = record {
        bundles = λ items A P C fs k ea ep ec first fa fp fc chain four once light.
            let T = fed_both items A P C fs k ea ep ec first fa fp fc chain four once light in
            let D = T.D in
            let E = T.E in
            let w₁ = wt_text weigh items (rows_part D.W') (rows_arm D.A') (rows_arm A) (rows_part P) D.text in
            let w₂ = wt_text weigh items (rows_part E.W') (rows_arm E.A') (rows_part D.W' ++ rows_arm D.A') (rows_arm C) E.text in
            let w₃ = wt_append weigh items (rows_part D.W') (rows_arm D.A') in
            let stock₂ : Stock weigh means items rs₂ f₂ b₂ E.W' E.A' E.fs' k = subst (λ q. Stock weigh means items rs₂ f₂ q E.W' E.A' E.fs' k) (ok_same E.ok got₂) E.stock in
            let F = fin.finishes items E.W' E.A' E.fs' k (E.least (omega (arith, size_one D.A', size_one C))) stock₂
            (record { fits = tt; once = λ j. omega (arith, once j, D.kept j, E.kept j); light = omega (arith, light, w₁, w₂, w₃); count = omega (arith, E.count, D.count, size_four A, part_four P, size_four C) }) in
            let js₁ : List ℕ = E.js ++ F.js in
            record {
              W = F.W;
              fs' = F.fs';
              js = D.js ++ js₁;
              ok = F.ok;
              first = F.first;
              fits = F.fits;
              chain = F.chain;
              text = F.text ∙ E.text ∙ ap (λ q. q ++ rows_arm C) D.text ∙ append_assoc (rows_arm A) (rows_part P) (rows_arm C);
              kept = λ j. omega (arith, F.kept j, E.kept j, D.kept j);
              frame = off_more _ (λ j z. omega (arith, z, D.drew j, E.drew j)) (off_then D.frame (off_then E.frame F.frame));
              few = omega (arith, F.few, E.few, D.few, length-append D.js js₁, length-append E.js F.js);
              spent = omega (arith, F.spent, E.spent, D.spent, length-append D.js js₁, length-append E.js F.js);
              drew = λ j. omega (arith, F.drew j, E.drew j, D.drew j, occ_list_append D.js js₁ j, occ_list_append E.js F.js j);
              fresh = λ j z. calm_then (D.fresh j (omega (arith, z, occ_list_append D.js js₁ j)))
                  (calm_then (E.fresh j (omega (arith, z, occ_list_append D.js js₁ j, occ_list_append E.js F.js j))) (F.fresh j (omega (arith, z, occ_list_append D.js js₁ j, occ_list_append E.js F.js j))));
            };
      }

  -- nothing is left to push
  pub extend_none : {rs : List (Record R V)} {f : Link} {fuel : ℕ} {s : Side} {tr : Tree} {p : Option Digit} → p ≡ None → Extended weigh means rs rs f f fuel s tr p (Ok tr)
  extend_none {rs} {f} {fuel} {s} {tr} {p} is = record {
    extends = λ items t P fs k d h.
        part_none (λ P. Beyond weigh means items rs f fuel tr p t P fs k d → Extend weigh means items rs rs f s (Ok tr) t P fs k)
        (λ h. record {
          made = record { t' = t; fs' = fs; js = []; ok = ap Ok (sym h.tree); first = h.first; text = sym (nil_ends s (rows t)); fit = h.fit; chain = h.chain; kept = λ i. omega arith; frame = off_refl; fresh = λ i z. inr refl };
          rolls = 0;
          low = omega arith;
          high = omega arith;
          spent = omega arith;
          few = omega arith;
          loads = omega arith;
        }) P (h.part_is ∙ is) h;
  }

  module _ {rs rs₁ : List (Record R V)} {f f₁ : Link} {fuel : ℕ} {s : Side} {tr : Tree} {o : Peel} {m : Result Tree Unsound} (push : Pushed weigh means rs rs₁ f f₁ fuel s tr o.slot m) where
    near_push : {p : Option Digit} (items : R → List I) (t : Finger R V) (D : Arm R V) (fs : List ℕ) (k d : ℕ) (N : Peeled (flipped s) D o) → Beyond weigh means items rs f fuel tr p t (Some D) fs k d → Push weigh means items rs rs₁ f₁ s m t N.u fs k
    near_push items t D fs k d N h =
        let w₁ : wt weigh items (rows_arm D) ≡ wt weigh items (rows_part N.Q) + wt weigh items (rows_twig N.u) = ap (wt weigh items) (near_text s D N) ∙ wt_ends weigh items s (rows_part N.Q) (rows_twig N.u) in
        let long₁ : times (suc (size_part N.Q)) (d + 1) ≤ length fs = subst (λ q. times q (d + 1) ≤ length fs) N.sizes h.long in
        push.pushes items t N.u fs k (record {
          tree = h.tree;
          twig = N.slot_is;
          first = h.first;
          fit = h.fit;
          fit_u = (N.fit (mean means items) rs k h.fits).0;
          chain = h.chain;
          once = λ j. omega (arith, h.once j, N.occs j);
          light = omega (arith, h.light, w₁);
          fuelled = omega (arith, h.top, h.fuelled);
          long = omega (arith, long₁, h.top, N.sizes);
        })

    extend_go : {rs₂ : List (Record R V)} {f₂ : Link} {t₁ : Tree} {p : Option Digit} {r : Result Tree Unsound} → m ≡ Ok t₁ → Extended weigh means rs₁ rs₂ f₁ f₂ fuel s t₁ o.rest r
        → (items : R → List I) (t : Finger R V) (D : Arm R V) (fs : List ℕ) (k d : ℕ) (N : Peeled (flipped s) D o) → Beyond weigh means items rs f fuel tr p t (Some D) fs k d → Extend weigh means items rs rs₂ f₂ s r t (Some D) fs k
    extend_go went ext items t D fs k d N h =
        let mn : List R → V = mean means items in
        let u : Twig R V = N.u in
        let Q : Option (Arm R V) = N.Q in
        let text₁ = near_text s D N in
        let w₁ : wt weigh items (rows_arm D) ≡ wt weigh items (rows_part Q) + wt weigh items (rows_twig u) = ap (wt weigh items) text₁ ∙ wt_ends weigh items s (rows_part Q) (rows_twig u) in
        let long₁ : times (suc (size_part Q)) (d + 1) ≤ length fs = subst (λ q. times q (d + 1) ≤ length fs) N.sizes h.long in
        let P = near_push items t D fs k d N h in
        let A = P.made in
        let w₂ : wt weigh items (rows A.t') ≡ wt weigh items (rows_twig u) + wt weigh items (rows t) = ap (wt weigh items) A.text ∙ wt_ends weigh items s (rows_twig u) (rows t) in
        let E = ext.extends items A.t' Q A.fs' k d (record {
          tree = ok_same A.ok went;
          part_is = N.rest_is;
          first = A.first;
          fit = A.fit;
          fits = frame_part A.frame mn Q k (λ j. omega (arith, h.once j, N.occs j)) (N.fit mn rs k h.fits).1;
          chain = A.chain;
          once = λ j. omega (arith, h.once j, N.occs j, A.kept j);
          light = omega (arith, h.light, w₁, w₂);
          top = omega (arith, h.top, P.high, N.sizes);
          fuelled = h.fuelled;
          long = omega (arith, long₁, P.spent, P.few, P.high, h.top, N.sizes);
        }) in
        let B = E.made in
        let la = length-append A.js B.js in
        let rolled : (n : ℕ) × (length (A.js ++ B.js) ≤ times n (levels B.t')) × (3 * n + load s B.t' ≤ load s t + size D) =
        ⊎_elim (λ q. (E.rolls, omega (arith, la, q.0, E.few), omega (arith, E.loads, q.1, N.sizes)))
        (λ q. (suc E.rolls, omega (arith, la, P.few, P.low, E.low, E.few), omega (arith, E.loads, q.0, q.1, N.sizes))) P.roll in
        record {
          made = record {
            t' = B.t';
            fs' = B.fs';
            js = A.js ++ B.js;
            ok = B.ok;
            first = B.first;
            text = B.text ∙ ap (λ q. ends s (rows_part Q) q) A.text ∙ ends_assoc s (rows_part Q) (rows_twig u) (rows t) ∙ ap (λ q. ends s q (rows t)) (sym text₁);
            fit = B.fit;
            chain = B.chain;
            kept = λ j. omega (arith, B.kept j, A.kept j, N.occs j);
            frame = off_more _ (λ j z. omega (arith, z, A.kept j, N.occs j)) (off_then A.frame B.frame);
            fresh = λ j z. calm_then (A.fresh j (omega (arith, z, occ_list_append A.js B.js j))) (B.fresh j (omega (arith, z, occ_list_append A.js B.js j)));
          };
          rolls = rolled.0;
          low = omega (arith, P.low, E.low);
          high = omega (arith, P.high, E.high, N.sizes);
          spent = omega (arith, P.spent, E.spent, la);
          few = rolled.1;
          loads = rolled.2;
        }

    module _ {fl : Side} {d₁ : Digit} {p : Option Digit} (fl-is : fl ≡ flipped s) (peel-is : o ≡ peeled fl d₁) (is : p ≡ Some d₁) where
      near : (D : Arm R V) → digit_of D ≡ d₁ → Peeled (flipped s) D o
      near D ed = peel_arm (flipped s) D ed (peel-is ∙ ap (λ q. peeled q d₁) fl-is)

      pub extend_more : {rs₂ : List (Record R V)} {f₂ : Link} {t₁ : Tree} {r : Result Tree Unsound} → m ≡ Ok t₁ → Extended weigh means rs₁ rs₂ f₁ f₂ fuel s t₁ o.rest r → Extended weigh means rs rs₂ f f₂ fuel s tr p r
      extend_more {rs₂} {f₂} {r = r} went ext = record {
        extends = λ items t P fs k d h.
            part_some (λ P. Beyond weigh means items rs f fuel tr p t P fs k d → Extend weigh means items rs rs₂ f₂ s r t P fs k) d₁ (λ D ed h. extend_go went ext items t D fs k d (near D ed) h) P (h.part_is ∙ is) h;
      }

      pub extend_no_push : {rs₂ : List (Record R V)} {f₂ : Link} {e : Unsound} {r : Result Tree Unsound} → m ≡ Err e → Extended weigh means rs rs₂ f f₂ fuel s tr p r
      extend_no_push {rs₂} {f₂} {r = r} bad = record {
        extends = λ items t P fs k d h.
            part_some (λ P. Beyond weigh means items rs f fuel tr p t P fs k d → Extend weigh means items rs rs₂ f₂ s r t P fs k) d₁ (λ D ed h. absurd (ok_err (near_push items t D fs k d (near D ed) h).made.ok bad)) P (h.part_is ∙ is) h;
      }

-- up to four pushes make at most two nodes for each level, and up to three one
pub record Stretch {R I V : Type 0} (weigh : I → ℕ) (means : List I → V) (items : R → List I) (rs rs' : List (Record R V)) (f' : Link) (s : Side) (r : Result Tree Unsound) (t : Finger R V) (P : Option (Arm R V)) (fs : List ℕ) (k : ℕ) : Type 0 where
  pub done : Extend weigh means items rs rs' f' s r t P fs k
  pub few : length done.made.js ≤ 2 * levels done.made.t'
  pub fewer : size_part P ≤ 3 → length done.made.js ≤ levels done.made.t'

module _ {R I V : Type 0} {weigh : I → ℕ} {means : List I → V} where
  pub stretch : {rs rs' : List (Record R V)} {f f' : Link} {fuel : ℕ} {s : Side} {tr : Tree} {p : Option Digit} {r : Result Tree Unsound} → Extended weigh means rs rs' f f' fuel s tr p r
      → (items : R → List I) (t : Finger R V) (P : Option (Arm R V)) (fs : List ℕ) (k d : ℕ) → tree_of t ≡ tr → part_of P ≡ p → head_of fs ≡ f
      → Fit (mean means items) rs t k → FitPart (mean means items) rs P k → Chain rs fs → ((i : ℕ) → occ t i + (occ_part P i + occ_list fs i) ≤ 1)
      → wt weigh items (rows_part P) + wt weigh items (rows t) ≤ heaviest → levels t ≤ d → d + 5 ≤ fuel → 5 * d + 30 ≤ length fs → Stretch weigh means items rs rs' f' s r t P fs k
  stretch {s = s} ext items t P fs k d et ep first fit fits chain once light top fuelled long =
      let four = part_four P in
      let D = ext.extends items t P fs k (d + 4) (record {
        tree = et;
        part_is = ep;
        first = first;
        fit = fit;
        fits = fits;
        chain = chain;
        once = once;
        light = light;
        top = omega arith;
        fuelled = omega arith;
        long = omega (arith, times_four (size_part P) ((d + 4) + 1) four, long);
      }) in
      let rolls₁ : D.rolls ≤ 2 = omega (arith, D.loads, load_two s t, four) in
      record {
        done = D;
        few = omega (arith, D.few, times_two D.rolls (levels D.made.t') rolls₁);
        fewer = λ three.
            let rolls₂ : D.rolls ≤ 1 = omega (arith, D.loads, load_two s t) in
            omega (arith, D.few, times_one D.rolls (levels D.made.t') rolls₂);
      }

  module _ {rs rs₁ : List (Record R V)} {f f₁ : Link} {fuel x : ℕ} {s : Side} {tr : Tree} {p : Option Digit} {m : Result Tree Unsound} (ext : Extended weigh means rs rs₁ f f₁ fuel s tr p m) where
    pub past_no_extend : {rs' : List (Record R V)} {f' : Link} {e : Unsound} {r : Result Tree Unsound} → m ≡ Err e → ExtendedPast weigh means rs rs' f f' fuel s tr p x r
    past_no_extend bad = record {
      extends = λ items t P w fs k d et ep ew first fit fits fw chain once light top fuelled long.
          absurd (ok_err (stretch ext items t P fs k d et ep first fit fits chain (λ j. omega (arith, once j)) (omega (arith, light)) top fuelled long).done.made.ok bad);
    }

    pub extended_past : {rs' : List (Record R V)} {f' : Link} {t₁ : Tree} {r : Result Tree Unsound} → m ≡ Ok t₁ → Pushed weigh means rs₁ rs' f₁ f' fuel s t₁ x r → ExtendedPast weigh means rs rs' f f' fuel s tr p x r
    extended_past went push = record {
      extends = λ items t P w fs k d et ep ew first fit fits fw chain once light top fuelled long.
          let S = stretch ext items t P fs k d et ep first fit fits chain (λ j. omega (arith, once j)) (omega (arith, light)) top fuelled long in
          let D = S.done in
          let A = D.made in
          let four = part_four P in
          let w₁ : wt weigh items (rows A.t') ≡ wt weigh items (rows_part P) + wt weigh items (rows t) = ap (wt weigh items) A.text ∙ wt_ends weigh items s (rows_part P) (rows t) in
          let E = push.pushes items A.t' w A.fs' k (record {
            tree = ok_same A.ok went;
            twig = ew;
            first = A.first;
            fit = A.fit;
            fit_u = frame_twig A.frame (mean means items) w k (λ j. omega (arith, once j)) fw;
            chain = A.chain;
            once = λ j. omega (arith, once j, A.kept j);
            light = omega (arith, light, w₁);
            fuelled = omega (arith, D.high, four);
            long = omega (arith, D.high, four, S.few, D.spent, long);
          }) in
          let B = E.made in
          let la = length-append A.js B.js in
          record {
            made = record {
              t' = B.t';
              fs' = B.fs';
              js = A.js ++ B.js;
              ok = B.ok;
              first = B.first;
              text = B.text ∙ ap (λ q. ends s (rows_twig w) q) A.text;
              fit = B.fit;
              chain = B.chain;
              kept = λ j. omega (arith, B.kept j, A.kept j);
              frame = off_more _ (λ j z. omega (arith, z, A.kept j)) (off_then A.frame B.frame);
              fresh = λ j z. calm_then (A.fresh j (omega (arith, z, occ_list_append A.js B.js j))) (B.fresh j (omega (arith, z, occ_list_append A.js B.js j)));
            };
            low = omega (arith, D.low, E.low);
            high = omega (arith, D.high, E.high, four);
            spent = omega (arith, D.spent, E.spent, la);
            few = omega (arith, S.few, E.few, E.low, la);
          };
    }
