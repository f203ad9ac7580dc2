-- The paths of putting one mark more.
use Rattle.std.proofs.Common.{◌≡◌, ℕ, ◌+◌, ◌-◌, ◌*◌, ◌<◌, ◌≤◌, min, ◌⊎◌, List, [], ◌∷◌, ◌++◌, length, Some, None, Ok, Err, Option, Result, sym, refl, ap, ◌∙◌, subst, ap₂, ⊎_elim, arith, length-append}
use Rattle.plain.specs.Machine.{limit}
use Rattle.plain.specs.Marks.{marked}
use Rattle.measures.specs.MarkTotals.{gaps, totals_of_marks, placed}
use Rattle.measures.specs.declared.mark_totals.MarkRow.{MarkRow}
use Rattle.measures.specs.declared.mark_totals.MarkTotals.{MarkTotals}
use Rattle.slots.specs.Ghost.{leaf, a1, a2, Arm, Finger, nil, same, occ_list, tree_of, rows, occ, occ_part, At, Fit}
use Rattle.slots.specs.Post.{Wrote, LeafPut}
use Rattle.slots.specs.declared.records.Unsound.{Unsound}
use Rattle.slots.specs.Words.{Link}
use Rattle.slots.specs.declared.records.Digit.TheVariants.{One, Two}
use Rattle.slots.specs.declared.records.Tree.{Tree}
use Rattle.slots.specs.declared.records.Tree.TheVariants.{Empty}
use Rattle.slots.specs.declared.records.Record.{Record}
use Rattle.slots.specs.declared.records.Record.TheVariants.{Leaf}
use Rattle.slots.proofs.Frames.{same_self, same_cases}
use Rattle.slots.proofs.Shapes.{ok_err, ok_same}
use Rattle.concat.specs.Post.{Concat}
use Rattle.pieces.specs.Sound.{mark_mean, Laid}
use Rattle.pieces.proofs.Bench.{Bench, bench_start, bench_by, bench_once, bench_spare}
use Rattle.pieces.proofs.MarkMoves.{gapped, gaps_append, marked_end, marked_turn}
use Rattle.mark_moves.specs.Parting.{farthest, heft, moved, AllBefore, MarksApart, MarksParted}
use Rattle.mark_moves.specs.Moved.{MarksMade, MarkPut}
use Rattle.mark_moves.specs.declared.parting.MarkHalves.{MarkHalves}
use Rattle.mark_moves.proofs.MarkDesk.{few_most, marks_hold, around_count, parted, marks_made}
use Rattle.mark_moves.proofs.MarkParts.{none_some, some_same}
use Rattle.mark_moves.proofs.MarkSteps.{leafed, rewritten, joined}

module _ {ms ms₁ : List (Record MarkRow MarkTotals)} {f f₁ : Link} {tr : Tree} (q k : ℕ) {at : ℕ} (is_at : at ≡ min (q + 1) 4294967295) {v v' : MarkTotals} {rp : Result (Option MarkHalves) Unsound}
    (start : v ≡ totals_of_marks []) (P : MarksParted ms ms₁ f f₁ tr at v v' rp) where
  parts_of : (u : Finger MarkRow MarkTotals) (gs : List ℕ) → Laid mark_mean ms f tr u gs → gaps (rows u) ≤ farthest
      → AllBefore ms ms₁ f f₁ [] at v' rp (rows u) ⊎ MarksApart ms ms₁ f₁ [] at v' rp u gs
  parts_of u gs L near = P.parts [] u gs (marks_hold near L) start near (few_most (length (rows u)) (length ms) L.few L.most)

  pub put_no_parts : {e : Unsound} {r : Result Tree Unsound} → rp ≡ Err e → MarkPut ms ms₁ f f₁ tr q k r
  put_no_parts bad = record { puts = λ u gs L few at_most near. ⊎_elim (λ b. absurd (ok_err b.0 bad)) (λ D. absurd (ok_err D.ok bad)) (parts_of u gs L near) }

  -- no mark is after q: all slots are as they were
  whole : (u : Finger MarkRow MarkTotals) (gs : List ℕ) → Laid mark_mean ms f tr u gs → ms₁ ≡ ms → f₁ ≡ f → Bench ms ms₁ f₁ (occ u) gs []
  whole u gs L e g = subst (λ x. Bench ms x f₁ (occ u) gs []) (sym e) (bench_start (L.first ∙ sym g) L.chain L.once)

  -- the tree is apart at the first mark after q
  halved : (u : Finger MarkRow MarkTotals) (gs : List ℕ) → Laid mark_mean ms f tr u gs → (D : MarksApart ms ms₁ f₁ [] at v' rp u gs) → Bench ms ms₁ f₁ (λ j. occ D.l j + (same D.i j + occ D.q j)) D.gs' []
  halved u gs L D = bench_by (λ j. occ D.l j + (same D.i j + occ D.q j)) (λ j. omega arith) (parted L D)

  halved_long : (u : Finger MarkRow MarkTotals) (gs : List ℕ) → Laid mark_mean ms f tr u gs → (D : MarksApart ms ms₁ f₁ [] at v' rp u gs) → 1 ≤ length D.gs'
  halved_long u gs L D = omega (arith, L.few, L.least, ap length D.text, bench_spare (2 * length (rows D.l ++ (D.x ∷ rows D.q))) (halved u gs L D) (around_count (length ms) D.l D.i D.x D.q))

  whole_long : (u : Finger MarkRow MarkTotals) (gs : List ℕ) → Laid mark_mean ms f tr u gs → gaps (rows u) ≤ farthest → 1 ≤ length gs
  whole_long u gs L near = omega (arith, (marks_hold near L).long)

  module _ {g : ℕ} (is-g : g ≡ q - v'.gaps) {w : MarkTotals} (is-w : w ≡ totals_of_marks (gapped g k ∷ [])) {ms₂ : List (Record MarkRow MarkTotals)} {f₂ : Link} {ri : Result ℕ Unsound} (K : LeafPut ms₁ ms₂ f₁ f₂ (gapped g k) w ri) where
    pub put_no_leaf : {e : Unsound} {r : Result Tree Unsound} → ri ≡ Err e → MarkPut ms ms₂ f f₂ tr q k r
    put_no_leaf bad = record {
      puts = λ u gs L few at_most near. ⊎_elim
          (λ b. absurd (ok_err (leafed (whole u gs L b.1 b.2) (whole_long u gs L near) K).ok bad))
          (λ D. absurd (ok_err (leafed (halved u gs L D) (halved_long u gs L D) K).ok bad))
          (parts_of u gs L near);
    }

    module _ {i : ℕ} (got-i : ri ≡ Ok i) where
      -- after all marks
      pub put_last : rp ≡ Ok None → {ms₃ : List (Record MarkRow MarkTotals)} {f₃ : Link} {r : Result Tree Unsound} → Concat heft totals_of_marks ms₂ ms₃ f₂ f₃ tr (Some (One i)) Empty r → MarkPut ms ms₃ f f₃ tr q k r
      put_last got {ms₃} {f₃} {r} C = record {
        puts = λ u gs L few at_most near. ⊎_elim (λ b. last u gs L few at_most near b) (λ D. absurd (none_some (ok_same got D.ok))) (parts_of u gs L near);
      }
        where
          last : (u : Finger MarkRow MarkTotals) (gs : List ℕ) → Laid mark_mean ms f tr u gs → length (rows u) < limit (length ms) → q ≤ farthest → gaps (rows u) ≤ farthest → AllBefore ms ms₁ f f₁ [] at v' rp (rows u) → MarksMade ms ms₃ f₃ r (marked q k (placed 0 (rows u))) 2
          last u gs L few at_most near b =
              let low : gaps (rows u) ≤ q = ⊎_elim (λ e. omega (arith, ap gaps e)) (λ h. omega arith) b.4 in
              let place : v'.gaps ≡ gaps (rows u) = ap (λ (y : MarkTotals). y.gaps) b.3 in
              let E = leafed (whole u gs L b.1 b.2) (whole_long u gs L near) K in
              let n-is : E.n ≡ i = ok_same E.ok got-i in
              let x : MarkRow = gapped g k in
              let Q : Option (Arm MarkRow MarkTotals) = Some (a1 (leaf i x w)) in
              let T : List MarkRow = rows u ++ (x ∷ []) in
              let bench : Bench ms ms₂ f₂ (λ j. occ u j + (occ_part Q j + occ {R = MarkRow} {V = MarkTotals} nil j)) E.ns ([] ++ (E.n ∷ [])) = bench_by (λ j. occ u j + (same i j + 0)) (λ j. omega (arith, ap (λ (y : ℕ). same y j) n-is)) E.bench in
              let count : length T ≤ limit (length ms) = omega (arith, length-append (rows u) (x ∷ [])) in
              let fit_u : Fit mark_mean ms₂ u 0 = E.stays u (λ j. omega arith) (subst (λ y. Fit mark_mean y u 0) (sym b.1) L.fit) in
              let J = joined u Q nil bench C L.tree refl refl fit_u (subst (λ (y : ℕ). At ms₂ y (Leaf x w)) n-is E.at, is-w) tt (omega (arith, gaps_append (rows u) (x ∷ []))) count L.least L.most in
              let turned : marked q k (placed 0 (rows u)) ≡ placed 0 T = marked_end q k 0 (rows u) (omega arith) ∙ ap (λ (y : ℕ). placed 0 (rows u ++ (gapped y k ∷ []))) (omega arith) in
              marks_made (λ j. occ u j + (occ_part Q j + occ {R = MarkRow} {V = MarkTotals} nil j)) (λ j. occ u j + (occ_part Q j + (occ {R = MarkRow} {V = MarkTotals} nil j + occ_list E.ns j))) 2 0 L.least L.most bench (λ j. omega arith) (omega arith) J (sym turned) count

      module _ {h : MarkHalves} (got : rp ≡ Ok (Some h)) {g' : ℕ} (is-g' : g' ≡ h.row.gap - g) {ms₃ : List (Record MarkRow MarkTotals)} {rw : Result (Unit {0}) Unsound}
          (W : Wrote ms₂ ms₃ h.at (Leaf (moved g' h.row) (totals_of_marks (moved g' h.row ∷ []))) rw) where
        apart_of : (u : Finger MarkRow MarkTotals) (gs : List ℕ) → Laid mark_mean ms f tr u gs → gaps (rows u) ≤ farthest → MarksApart ms ms₁ f₁ [] at v' rp u gs
        apart_of u gs L near = ⊎_elim (λ b. absurd (none_some (sym (ok_same got b.0)))) (λ D. D) (parts_of u gs L near)

        -- the new leaf stands, and the next mark is written
        record Stage (u : Finger MarkRow MarkTotals) (gs : List ℕ) : Type 0 where
          pub D : MarksApart ms ms₁ f₁ [] at v' rp u gs
          pub h_is : h ≡ record { left = tree_of D.l; at = D.i; row = D.x; right = tree_of D.q }
          pub ns : List ℕ
          pub js : List ℕ
          pub two_new : length js ≤ 2
          pub bench : Bench ms ms₃ f₂ (λ j. occ D.l j + ((same i j + same h.at j) + occ D.q j)) ns js
          pub wrote : rw ≡ Ok tt
          pub new : At ms₃ i (Leaf (gapped g k) w)
          pub next : At ms₃ h.at (Leaf (moved g' h.row) (totals_of_marks (moved g' h.row ∷ [])))
          pub fit_l : Fit mark_mean ms₃ D.l 0
          pub fit_q : Fit mark_mean ms₃ D.q 0

        stage : (u : Finger MarkRow MarkTotals) (gs : List ℕ) → Laid mark_mean ms f tr u gs → gaps (rows u) ≤ farthest → Stage u gs
        stage u gs L near =
            let D = apart_of u gs L near in
            let h_is : h ≡ record { left = tree_of D.l; at = D.i; row = D.x; right = tree_of D.q } = some_same (ok_same got D.ok) in
            let at_is : h.at ≡ D.i = ap (λ (y : MarkHalves). y.at) h_is in
            let same_at : (j : ℕ) → same h.at j ≡ same D.i j = λ j. ap (λ (y : ℕ). same y j) at_is in
            let E = leafed (halved u gs L D) (halved_long u gs L D) K in
            let n-is : E.n ≡ i = ok_same E.ok got-i in
            let b : Bench ms ms₂ f₂ (λ j. occ D.l j + ((same i j + same h.at j) + occ D.q j)) E.ns (E.n ∷ []) = bench_by (λ j. occ D.l j + ((same i j + same h.at j) + occ D.q j)) (λ j. omega (arith, same_at j, ap (λ (y : ℕ). same y j) n-is)) E.bench in
            let R = rewritten b (omega (arith, D.holds.within, E.len)) (λ j. omega arith) W in
            let apart-new : same h.at i ≡ 0 = ⊎_elim (λ (e : i ≡ h.at). absurd (omega (arith, bench_once b i, same_self i, ap (λ (y : ℕ). same y i) e))) (λ z. z.0) (same_cases h.at i) in
            record {
              D = D;
              h_is = h_is;
              ns = E.ns;
              js = (E.n ∷ []) ++ (h.at ∷ []);
              two_new = omega arith;
              bench = R.bench;
              wrote = R.ok;
              new = R.other i (Leaf (gapped g k) w) apart-new (subst (λ (y : ℕ). At ms₂ y (Leaf (gapped g k) w)) n-is E.at);
              next = R.at;
              fit_l = R.stays D.l (λ j. omega arith) (E.stays D.l (λ j. omega arith) D.fit_l);
              fit_q = R.stays D.q (λ j. omega arith) (E.stays D.q (λ j. omega arith) D.fit_q);
            }

        pub put_no_write : {e : Unsound} {r : Result Tree Unsound} → rw ≡ Err e → MarkPut ms ms₃ f f₂ tr q k r
        put_no_write bad = record { puts = λ u gs L few at_most near. absurd (ok_err (stage u gs L near).wrote bad) }

        pub put_between : {ms₄ : List (Record MarkRow MarkTotals)} {f₄ : Link} {r : Result Tree Unsound} → Concat heft totals_of_marks ms₃ ms₄ f₂ f₄ h.left (Some (Two i h.at)) h.right r → MarkPut ms ms₄ f f₄ tr q k r
        put_between {ms₄} {f₄} {r} C = record { puts = made }
          where
            made : (u : Finger MarkRow MarkTotals) (gs : List ℕ) → Laid mark_mean ms f tr u gs → length (rows u) < limit (length ms) → q ≤ farthest → gaps (rows u) ≤ farthest → MarksMade ms ms₄ f₄ r (marked q k (placed 0 (rows u))) 2
            made u gs L few at_most near =
                let Y = stage u gs L near in
                let D = Y.D in
                let row_is : h.row ≡ D.x = ap (λ (y : MarkHalves). y.row) Y.h_is in
                let gap_is : h.row.gap ≡ D.x.gap = ap (λ (y : MarkRow). y.gap) row_is in
                let low : gaps (rows D.l) ≤ q = ⊎_elim (λ e. omega (arith, ap gaps e)) (λ z. omega arith) D.low in
                let place : v'.gaps ≡ gaps (rows D.l) = ap (λ (y : MarkTotals). y.gaps) D.place in
                let sum : gaps (rows u) ≡ gaps (rows D.l) + (D.x.gap + gaps (rows D.q)) = ap gaps D.text ∙ gaps_append (rows D.l) (D.x ∷ rows D.q) in
                let x : MarkRow = gapped g k in
                let y : MarkRow = moved g' h.row in
                let Q : Option (Arm MarkRow MarkTotals) = Some (a2 (leaf i x w) (leaf h.at y (totals_of_marks (y ∷ [])))) in
                let T : List MarkRow = rows D.l ++ (x ∷ y ∷ rows D.q) in
                let count : length T ≤ limit (length ms) = omega (arith, ap length D.text, length-append (rows D.l) (D.x ∷ rows D.q), length-append (rows D.l) (x ∷ y ∷ rows D.q)) in
                let J = joined D.l Q D.q Y.bench C (ap (λ (z : MarkHalves). z.left) (sym Y.h_is)) refl (ap (λ (z : MarkHalves). z.right) (sym Y.h_is)) Y.fit_l ((Y.new, is-w), (Y.next, refl)) Y.fit_q
                (omega (arith, D.high, gaps_append (rows D.l) (x ∷ y ∷ rows D.q))) count L.least L.most in
                let turned : marked q k (placed 0 (rows u)) ≡ placed 0 T =
                ap (λ (l : List MarkRow). marked q k (placed 0 l)) D.text
                ∙ marked_turn q k 0 (rows D.l) D.x (rows D.q) (omega arith) (omega (arith, D.high))
                ∙ ap₂ (λ (a b : ℕ). placed 0 (rows D.l ++ (gapped a k ∷ gapped b D.x.label ∷ rows D.q))) (omega arith) (omega arith)
                ∙ ap (λ (a : ℕ). placed 0 (rows D.l ++ (x ∷ gapped g' a ∷ rows D.q))) (ap (λ (z : MarkRow). z.label) (sym row_is)) in
                marks_made (λ j. occ D.l j + (occ_part Q j + occ D.q j)) (λ j. occ D.l j + (occ_part Q j + (occ D.q j + occ_list Y.ns j))) 2 0 L.least L.most Y.bench (λ j. omega arith) Y.two_new J (sym turned) count
