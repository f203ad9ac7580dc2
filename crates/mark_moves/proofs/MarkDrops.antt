-- The paths of the marks when bytes leave the text.
use Rattle.std.proofs.Common.{◌≡◌, ℕ, ◌+◌, ◌-◌, ◌*◌, ◌<◌, ◌≤◌, min, ◌⊎◌, List, [], ◌∷◌, ◌++◌, length, get_or, Some, None, Ok, Err, Option, Result, sym, refl, ap, ◌∙◌, subst, inl, inr, ⊎_elim, append-nil, arith, length-append}
use Rattle.plain.specs.Machine.{limit}
use Rattle.plain.specs.Marks.{shrunk}
use Rattle.plain.specs.declared.answers.Mark.{Mark}
use Rattle.measures.specs.Law.{weights, heaviest, Adds}
use Rattle.measures.specs.MarkTotals.{gaps, totals_of_marks, placed}
use Rattle.measures.specs.declared.mark_totals.MarkRow.{MarkRow}
use Rattle.measures.specs.declared.mark_totals.MarkTotals.{MarkTotals}
use Rattle.slots.specs.Ghost.{Finger, same, named, occ_list, none, tree_of, rows, occ, At, Fit, Chain, Calm, Off}
use Rattle.slots.specs.Holds.{Holds, most}
use Rattle.slots.specs.Post.{Given}
use Rattle.slots.specs.declared.records.Unsound.{Unsound}
use Rattle.slots.specs.Words.{Link}
use Rattle.slots.specs.declared.records.Tree.{Tree}
use Rattle.slots.specs.declared.records.Record.{Record}
use Rattle.slots.specs.declared.records.Record.TheVariants.{Free}
use Rattle.slots.proofs.Counts.{total_add, tree_count, named_le, supply}
use Rattle.slots.proofs.Frames.{calm_then, off_more, Put, put, put_calm, frame, frame_chain}
use Rattle.slots.proofs.Shapes.{ok_err, ok_same}
use Rattle.release.specs.Post.{Back, Released}
use Rattle.pieces.specs.Sound.{itself, mark_mean, Laid, LaidTwo}
use Rattle.pieces.proofs.Bench.{Bench, bench_start, bench_by, bench_once, bench_step, bench_spare, stays_tree}
use Rattle.pieces.proofs.MarkMoves.{gapped, gaps_append, placed_append, shrunk_after, shrunk_between, shrunk_drop, shrunk_turn}
use Rattle.mark_moves.specs.Parting.{farthest, heft, moved, AllBefore, MarksApart, MarksParted, MovedJoined}
use Rattle.mark_moves.specs.Moved.{MarksMade, MarksShrunk}
use Rattle.mark_moves.specs.Dropping.{MarksDropped}
use Rattle.mark_moves.specs.declared.parting.MarkHalves.{MarkHalves}
use Rattle.mark_moves.proofs.MarkDesk.{few_most, mark_light, list_light, marks_hold, around_count, parted, marks_made, marks_stay, after_calm}
use Rattle.mark_moves.proofs.MarkParts.{none_some, some_same}

-- the marks m go, except from the one on that is at b or after it
module _ {ms ms₁ : List (Record MarkRow MarkTotals)} {f f₁ : Link} (left : Tree) {rest : Tree} {b : ℕ} (c : ℕ) {p p' : MarkTotals} {rp : Result (Option MarkHalves) Unsound}
    (P : MarksParted ms ms₁ f f₁ rest b p p' rp) where
  two_hold : (l m : Finger MarkRow MarkTotals) (gs : List ℕ) → LaidTwo mark_mean ms f left rest l m gs → gaps (rows m) ≤ farthest → Holds heft totals_of_marks itself ms f rest m gs
  two_hold l m gs L near =
      let small : length (rows m) ≤ 4100 = few_most (length (rows m)) (length ms) (omega (arith, L.few)) L.most in record {
        tree = L.clip;
        first = L.first;
        fit = L.fit_clip;
        chain = L.chain;
        once = λ j. omega (arith, L.once j, named_le (length ms) j);
        light = mark_light (rows m) near small;
        small = small;
        long = omega (arith, supply (length ms) (2 * (length (rows l) + length (rows m))) (λ j. occ l j + occ m j) gs (λ j. omega (arith, L.once j)) (omega (arith, total_add (length ms) (occ l) (occ m), tree_count (length ms) l, tree_count (length ms) m)), L.few, L.least);
      }

  rest_parts : (v : List MarkRow) (l m : Finger MarkRow MarkTotals) (gs : List ℕ) → LaidTwo mark_mean ms f left rest l m gs → p ≡ totals_of_marks v → gaps (v ++ rows m) ≤ farthest → length (v ++ rows m) ≤ most
      → AllBefore ms ms₁ f f₁ v b p' rp (rows m) ⊎ MarksApart ms ms₁ f₁ v b p' rp m gs
  rest_parts v l m gs L e near small = P.parts v m gs (two_hold l m gs L (omega (arith, gaps_append v (rows m)))) e near small

  pub drop_no_parts : {e : Unsound} {r : Result Tree Unsound} → rp ≡ Err e → MarksDropped ms ms₁ f f₁ left rest p b c r
  drop_no_parts bad = record { drops = λ a v l m gs L e up past low base near small. ⊎_elim (λ n. absurd (ok_err n.0 bad)) (λ D. absurd (ok_err D.ok bad)) (rest_parts v l m gs L e near small) }

  -- none of them is left
  module _ (got : rp ≡ Ok None) {ms₂ : List (Record MarkRow MarkTotals)} {f₂ : Link} {rr : Result ℕ Unsound} (F : Released ms₁ ms₂ f₁ f₂ rest rr) where
    gone : (v : List MarkRow) (l m : Finger MarkRow MarkTotals) (gs : List ℕ) → LaidTwo mark_mean ms f left rest l m gs → AllBefore ms ms₁ f f₁ v b p' rp (rows m) → Back ms₁ ms₂ f₂ rr (occ m) (length (rows m)) gs
    gone v l m gs L n = F.frees mark_mean m gs L.clip (L.first ∙ sym n.2) (subst (λ x. Fit mark_mean x m 0) (sym n.1) L.fit_clip) (subst (λ x. Chain x gs) (sym n.1) L.chain)
        (λ j. omega (arith, L.once j, named_le (length ms) j)) (few_most (length (rows m)) (length ms) (omega (arith, L.few)) L.most)

    all_of : (v : List MarkRow) (l m : Finger MarkRow MarkTotals) (gs : List ℕ) → LaidTwo mark_mean ms f left rest l m gs → p ≡ totals_of_marks v → gaps (v ++ rows m) ≤ farthest → length (v ++ rows m) ≤ most → AllBefore ms ms₁ f f₁ v b p' rp (rows m)
    all_of v l m gs L e near small = ⊎_elim (λ n. n) (λ D. absurd (none_some (ok_same got D.ok))) (rest_parts v l m gs L e near small)

    pub drop_no_release : {e : Unsound} {r : Result Tree Unsound} → rr ≡ Err e → MarksDropped ms ms₂ f f₂ left rest p b c r
    drop_no_release bad = record { drops = λ a v l m gs L e up past low base near small. absurd (ok_err (gone v l m gs L (all_of v l m gs L e near small)).ok bad) }

    none_left : (a : ℕ) (v : List MarkRow) (m : Finger MarkRow MarkTotals) → a < gaps v → gaps v < b → (rows m ≡ []) ⊎ (gaps v + gaps (rows m) < b) → shrunk a b (placed (gaps v) (rows m)) ≡ []
    none_left a v m past low (inl e) = ap (λ (x : List MarkRow). shrunk a b (placed (gaps v) x)) e
    none_left a v m past low (inr h) = ap (λ (x : List MarkRow). shrunk a b (placed (gaps v) x)) (sym (append-nil (rows m))) ∙ shrunk_between a b (gaps v) (rows m) [] past h

    pub drop_all : MarksDropped ms ms₂ f f₂ left rest p b c (Ok left)
    drop_all = record { drops = λ a v l m gs L e up past low base near small. made a v l m gs L past low (all_of v l m gs L e near small) }
      where
        made : (a : ℕ) (v : List MarkRow) (l m : Finger MarkRow MarkTotals) (gs : List ℕ) → LaidTwo mark_mean ms f left rest l m gs → a < gaps v → gaps v < b → AllBefore ms ms₁ f f₁ v b p' rp (rows m) → MarksMade ms ms₂ f₂ (Ok left) (placed 0 (rows l) ++ shrunk a b (placed (gaps v) (rows m))) 1
        made a v l m gs L past low n =
            let B = gone v l m gs L n in
            let len : length ms₂ ≡ length ms = B.frame.len ∙ ap length n.1 in
            record {
              u' = l;
              gs' = B.fs';
              js = [];
              ok = ap (λ (x : Tree). Ok x) (sym L.tree);
              laid = record {
                tree = refl;
                first = B.first;
                fit = frame B.frame mark_mean l 0 (λ j. omega (arith, L.once j, named_le (length ms) j)) (subst (λ x. Fit mark_mean x l 0) (sym n.1) L.fit);
                chain = B.chain;
                once = λ j. omega (arith, L.once j, B.kept j, ap (λ (k : ℕ). named k j) len);
                few = omega (arith, L.few, ap limit len);
                least = omega (arith, L.least, len);
                most = omega (arith, L.most, len);
              };
              len = len;
              marks = sym (ap (λ (x : List Mark). placed 0 (rows l) ++ x) (none_left a v m past low n.4) ∙ append-nil (placed 0 (rows l)));
              few = omega arith;
              fresh = λ j z. subst (λ x. Calm (get_or x j none) (get_or ms₂ j none)) n.1 (B.calm j);
            }

  -- some are left: the first of them is in the slot of h
  module _ {h : MarkHalves} (got : rp ≡ Ok (Some h)) {ms₂ : List (Record MarkRow MarkTotals)} {f₂ : Link} {rr : Result ℕ Unsound} (F : Released ms₁ ms₂ f₁ f₂ h.left rr) where
    record Cleared (v : List MarkRow) (l m : Finger MarkRow MarkTotals) (gs : List ℕ) : Type 0 where
      pub D : MarksApart ms ms₁ f₁ v b p' rp m gs
      pub h_is : h ≡ record { left = tree_of D.l; at = D.i; row = D.x; right = tree_of D.q }
      pub B : Back ms₁ ms₂ f₂ rr (occ D.l) (length (rows D.l)) D.gs'
      pub bench : Bench ms ms₂ f₂ (λ j. occ l j + (same h.at j + occ D.q j)) B.fs' []
      pub fit_l : Fit mark_mean ms₂ l 0
      pub fit_q : Fit mark_mean ms₂ D.q 0

    cleared : (v : List MarkRow) (l m : Finger MarkRow MarkTotals) (gs : List ℕ) → LaidTwo mark_mean ms f left rest l m gs → p ≡ totals_of_marks v → gaps (v ++ rows m) ≤ farthest → length (v ++ rows m) ≤ most → Cleared v l m gs
    cleared v l m gs L e near small =
        let D : MarksApart ms ms₁ f₁ v b p' rp m gs = ⊎_elim (λ n. absurd (none_some (sym (ok_same got n.0)))) (λ D. D) (rest_parts v l m gs L e near small) in
        let h_is : h ≡ record { left = tree_of D.l; at = D.i; row = D.x; right = tree_of D.q } = some_same (ok_same got D.ok) in
        let same_at : (j : ℕ) → same h.at j ≡ same D.i j = λ j. ap (λ (k : MarkHalves). same k.at j) h_is in
        let b₀ : Bench ms ms f (λ j. occ m j + occ l j) gs [] = bench_start L.first L.chain (λ j. omega (arith, L.once j)) in
        let b₁ : Bench ms ms₁ f₁ (λ j. (occ D.l j + (same D.i j + occ D.q j)) + occ l j) D.gs' [] =
        bench_step (occ m) (occ l) b₀ D.frame (λ j. occ D.l j + (same D.i j + occ D.q j)) D.gs' [] D.first D.chain (λ j. omega (arith, D.kept j)) (λ j z. D.calm j) in
        let b₂ : Bench ms ms₁ f₁ (λ j. occ D.l j + (occ l j + (same h.at j + occ D.q j))) D.gs' [] = bench_by (λ j. occ D.l j + (occ l j + (same h.at j + occ D.q j))) (λ j. omega (arith, same_at j)) b₁ in
        let B : Back ms₁ ms₂ f₂ rr (occ D.l) (length (rows D.l)) D.gs' = F.frees mark_mean D.l D.gs' (ap (λ (k : MarkHalves). k.left) (sym h_is)) D.first D.fit_l D.chain
        (λ j. omega (arith, bench_once b₂ j)) (few_most (length (rows D.l)) (length ms) (omega (arith, L.few, ap length D.text, length-append (rows D.l) (D.x ∷ rows D.q))) L.most) in
        let off : Off ms₁ ms₂ (λ j. occ D.l j + occ_list D.gs' j) = off_more (λ j. occ D.l j + occ_list D.gs' j) (λ j z. omega arith) B.frame in
        record {
          D = D;
          h_is = h_is;
          B = B;
          bench = bench_by (λ j. occ l j + (same h.at j + occ D.q j)) (λ j. omega arith)
              (bench_step (occ D.l) (λ j. occ l j + (same h.at j + occ D.q j)) b₂ off (λ _. 0) B.fs' [] B.first B.chain (λ j. omega (arith, B.kept j)) (λ j z. B.calm j));
          fit_l = stays_tree (occ D.l) (λ j. occ l j + (same h.at j + occ D.q j)) b₂ off mark_mean l 0 (λ j. omega arith) (stays_tree (occ m) (occ l) b₀ D.frame mark_mean l 0 (λ j. omega arith) L.fit);
          fit_q = stays_tree (occ D.l) (λ j. occ l j + (same h.at j + occ D.q j)) b₂ off mark_mean D.q 0 (λ j. omega arith) D.fit_q;
        }

    pub drop_no_front : {e : Unsound} {r : Result Tree Unsound} → rr ≡ Err e → MarksDropped ms ms₂ f f₂ left rest p b c r
    drop_no_front bad = record { drops = λ a v l m gs L e up past low base near small. absurd (ok_err (cleared v l m gs L e near small).B.ok bad) }

    module _ {o : ℕ} (is-o : o ≡ min (p'.gaps + h.row.gap) 4294967295) {g : ℕ} (is-g : g ≡ o - c) {ms₃ : List (Record MarkRow MarkTotals)} {f₃ : Link} {r : Result Tree Unsound}
        (J : MovedJoined ms₂ ms₃ f₂ f₃ (record { left = left; at = h.at; row = h.row; right = h.right }) g r) where
      pub drop_front_lem : MarksDropped ms ms₃ f f₃ left rest p b c r
      drop_front_lem = record { drops = λ a v l m gs L e up past low base near small. made a v l m gs L up past low base near (cleared v l m gs L e near small) }
        where
          made : (a : ℕ) (v : List MarkRow) (l m : Finger MarkRow MarkTotals) (gs : List ℕ) → LaidTwo mark_mean ms f left rest l m gs → gaps (rows l) ≤ a → a < gaps v → gaps v < b → (b ≤ farthest → c ≡ gaps (rows l) + (b - a)) → gaps (v ++ rows m) ≤ farthest → Cleared v l m gs
              → MarksMade ms ms₃ f₃ r (placed 0 (rows l) ++ shrunk a b (placed (gaps v) (rows m))) 1
          made a v l m gs L up past low base near Y =
              let D = Y.D in
              let x : MarkRow = D.x in
              let row_is : h.row ≡ x = ap (λ (y : MarkHalves). y.row) Y.h_is in
              let gap_is : h.row.gap ≡ x.gap = ap (λ (y : MarkRow). y.gap) row_is in
              let sum : gaps (rows m) ≡ gaps (rows D.l) + (x.gap + gaps (rows D.q)) = ap gaps D.text ∙ gaps_append (rows D.l) (x ∷ rows D.q) in
              let all : gaps (v ++ rows m) ≡ gaps v + gaps (rows m) = gaps_append v (rows m) in
              let place : p'.gaps ≡ gaps v + gaps (rows D.l) = ap (λ (y : MarkTotals). y.gaps) D.place ∙ gaps_append v (rows D.l) in
              let o_is : o ≡ gaps v + gaps (rows D.l) + x.gap = omega arith in
              let c-is : c ≡ gaps (rows l) + (b - a) = base (omega (arith, D.high)) in
              let g-is : gaps (rows l) + g + (b - a) ≡ gaps v + gaps (rows D.l) + x.gap = omega (arith, D.high) in
              let front : gaps v + gaps (rows D.l) < b = ⊎_elim (λ z. omega (arith, ap gaps z)) (λ z. z) D.low in
              let x' : MarkRow = moved g h.row in
              let T : List MarkRow = rows l ++ (x' ∷ rows D.q) in
              let count : length T ≤ limit (length ms) = omega (arith, L.few, ap length D.text, length-append (rows D.l) (x ∷ rows D.q), length-append (rows l) (x' ∷ rows D.q)) in
              let spare = bench_spare (2 * length T) Y.bench (around_count (length ms) l h.at x' D.q) in
              let Z = J.joins l D.q Y.B.fs' (record {
                left = L.tree;
                right = ap (λ (y : MarkHalves). y.right) (sym Y.h_is);
                within = omega (arith, D.holds.within, Y.B.frame.len, ap (λ (y : MarkHalves). y.at) Y.h_is);
                first = Y.B.first;
                fit_l = Y.fit_l;
                fit_q = Y.fit_q;
                chain = Y.B.chain;
                once = λ j. omega (arith, bench_once Y.bench j);
                near = omega (arith, gaps_append (rows l) (x' ∷ rows D.q));
                small = few_most (length T) (length ms) count L.most;
                long = omega (arith, L.least);
              }) in
              let turned : shrunk a b (placed (gaps v) (rows m)) ≡ placed (gaps (rows l)) (x' ∷ rows D.q) =
              ap (λ (y : List MarkRow). shrunk a b (placed (gaps v) y)) D.text
              ∙ shrunk_between a b (gaps v) (rows D.l) (x ∷ rows D.q) past front
              ∙ shrunk_turn a b (gaps v + gaps (rows D.l)) (gaps (rows l)) g x (rows D.q) (omega arith) D.high g-is
              ∙ ap (λ (y : ℕ). placed (gaps (rows l)) (gapped g y ∷ rows D.q)) (ap (λ (y : MarkRow). y.label) (sym row_is)) in
              let marks : placed 0 T ≡ placed 0 (rows l) ++ shrunk a b (placed (gaps v) (rows m)) =
              placed_append 0 (rows l) (x' ∷ rows D.q) ∙ ap (λ (y : ℕ). placed 0 (rows l) ++ placed y (x' ∷ rows D.q)) (omega arith) ∙ ap (λ (y : List Mark). placed 0 (rows l) ++ y) (sym turned) in
              marks_made (λ j. occ l j + (same h.at j + occ D.q j)) (λ j. occ l j + (same h.at j + (occ D.q j + occ_list Y.B.fs' j))) 0 1 L.least L.most Y.bench (λ j. omega arith) (omega arith) Z marks count

-- the bytes from a to b are gone
module _ {ms ms₁ : List (Record MarkRow MarkTotals)} {f f₁ : Link} {tr : Tree} (a b : ℕ) {at : ℕ} (is_at : at ≡ min (a + 1) 4294967295) {v v' : MarkTotals} {rp : Result (Option MarkHalves) Unsound}
    (start : v ≡ totals_of_marks []) (P : MarksParted ms ms₁ f f₁ tr at v v' rp) where
  parts_of : (u : Finger MarkRow MarkTotals) (gs : List ℕ) → Laid mark_mean ms f tr u gs → gaps (rows u) ≤ farthest
      → AllBefore ms ms₁ f f₁ [] at v' rp (rows u) ⊎ MarksApart ms ms₁ f₁ [] at v' rp u gs
  parts_of u gs L near = P.parts [] u gs (marks_hold near L) start near (few_most (length (rows u)) (length ms) L.few L.most)

  pub shrink_no_parts : {e : Unsound} {r : Result Tree Unsound} → rp ≡ Err e → MarksShrunk ms ms₁ f f₁ tr a b r
  shrink_no_parts bad = record { shrinks = λ u gs L order near. ⊎_elim (λ n. absurd (ok_err n.0 bad)) (λ D. absurd (ok_err D.ok bad)) (parts_of u gs L near) }

  all_stay : (xs : List MarkRow) → (xs ≡ []) ⊎ (0 + gaps xs < at) → placed 0 xs ≡ shrunk a b (placed 0 xs)
  all_stay xs (inl e) = subst (λ (l : List MarkRow). placed 0 l ≡ shrunk a b (placed 0 l)) (sym e) refl
  all_stay xs (inr h) = sym (ap (λ (l : List MarkRow). shrunk a b (placed 0 l)) (sym (append-nil xs)) ∙ shrunk_after a b 0 xs [] [] (omega arith) refl ∙ append-nil (placed 0 xs))

  pub shrink_none : rp ≡ Ok None → MarksShrunk ms ms₁ f f₁ tr a b (Ok tr)
  shrink_none got = record {
    shrinks = λ u gs L order near. ⊎_elim (λ n. marks_stay L n.1 n.2 (all_stay (rows u) n.4))
        (λ D. absurd (none_some (ok_same got D.ok))) (parts_of u gs L near);
  }

  module _ {h : MarkHalves} (got : rp ≡ Ok (Some h)) {c o d : ℕ} (is-d : d ≡ b - a) (is_c : c ≡ min (v'.gaps + d) 4294967295) (is-o : o ≡ min (v'.gaps + h.row.gap) 4294967295) where
    -- the first mark after a
    record Next (u : Finger MarkRow MarkTotals) (gs : List ℕ) : Type 0 where
      pub D : MarksApart ms ms₁ f₁ [] at v' rp u gs
      pub h_is : h ≡ record { left = tree_of D.l; at = D.i; row = D.x; right = tree_of D.q }
      pub bench : Bench ms ms₁ f₁ (λ j. occ D.l j + (same h.at j + occ D.q j)) D.gs' []
      pub place : v'.gaps ≡ gaps (rows D.l)
      pub sum : gaps (rows u) ≡ gaps (rows D.l) + (D.x.gap + gaps (rows D.q))
      pub low : gaps (rows D.l) ≤ a
      pub high : a < gaps (rows D.l) + D.x.gap
      pub gap_is : h.row.gap ≡ D.x.gap
      pub o_is : o ≡ gaps (rows D.l) + D.x.gap

    next : (u : Finger MarkRow MarkTotals) (gs : List ℕ) → Laid mark_mean ms f tr u gs → gaps (rows u) ≤ farthest → Next u gs
    next u gs L near =
        let D : MarksApart ms ms₁ f₁ [] at v' rp u gs = ⊎_elim (λ n. absurd (none_some (sym (ok_same got n.0)))) (λ D. D) (parts_of u gs L near) in
        let h_is : h ≡ record { left = tree_of D.l; at = D.i; row = D.x; right = tree_of D.q } = some_same (ok_same got D.ok) in
        let same_at : (j : ℕ) → same h.at j ≡ same D.i j = λ j. ap (λ (k : MarkHalves). same k.at j) h_is in
        let place : v'.gaps ≡ gaps (rows D.l) = ap (λ (y : MarkTotals). y.gaps) D.place in
        let sum : gaps (rows u) ≡ gaps (rows D.l) + (D.x.gap + gaps (rows D.q)) = ap gaps D.text ∙ gaps_append (rows D.l) (D.x ∷ rows D.q) in
        let gap_is : h.row.gap ≡ D.x.gap = ap (λ (y : MarkHalves). y.row.gap) h_is in
        record {
          D = D;
          h_is = h_is;
          bench = bench_by (λ j. occ D.l j + (same h.at j + occ D.q j)) (λ j. omega (arith, same_at j)) (parted L D);
          place = place;
          sum = sum;
          low = ⊎_elim (λ e. omega (arith, ap gaps e)) (λ z. omega arith) D.low;
          high = omega (arith, D.high);
          gap_is = gap_is;
          o_is = omega arith;
        }

    -- it is at b or after it
    pub shrink_turn : b ≤ o → {g : ℕ} → g ≡ o - c → {ms₂ : List (Record MarkRow MarkTotals)} {f₂ : Link} {r : Result Tree Unsound} → MovedJoined ms₁ ms₂ f₁ f₂ h g r → MarksShrunk ms ms₂ f f₂ tr a b r
    shrink_turn after {g} is-g {ms₂} {f₂} {r} J = record { shrinks = λ u gs L order near. made u gs L order near (next u gs L near) }
      where
        made : (u : Finger MarkRow MarkTotals) (gs : List ℕ) → Laid mark_mean ms f tr u gs → a < b → gaps (rows u) ≤ farthest → Next u gs → MarksMade ms ms₂ f₂ r (shrunk a b (placed 0 (rows u))) 1
        made u gs L order near Y =
            let D = Y.D in
            let x : MarkRow = D.x in
            let row_is : h.row ≡ x = ap (λ (y : MarkHalves). y.row) Y.h_is in
            let g-is : gaps (rows D.l) + g + (b - a) ≡ 0 + gaps (rows D.l) + x.gap = omega (arith, Y.o_is, Y.place, Y.low, Y.sum) in
            let x' : MarkRow = moved g h.row in
            let T : List MarkRow = rows D.l ++ (x' ∷ rows D.q) in
            let count : length T ≤ limit (length ms) = omega (arith, L.few, ap length D.text, length-append (rows D.l) (x ∷ rows D.q), length-append (rows D.l) (x' ∷ rows D.q)) in
            let spare = bench_spare (2 * length T) Y.bench (around_count (length ms) D.l h.at x' D.q) in
            let Z = J.joins D.l D.q D.gs' (record {
              left = ap (λ (y : MarkHalves). y.left) (sym Y.h_is);
              right = ap (λ (y : MarkHalves). y.right) (sym Y.h_is);
              within = omega (arith, D.holds.within, ap (λ (y : MarkHalves). y.at) Y.h_is);
              first = D.first;
              fit_l = D.fit_l;
              fit_q = D.fit_q;
              chain = D.chain;
              once = λ j. omega (arith, bench_once Y.bench j);
              near = omega (arith, Y.sum, gaps_append (rows D.l) (x' ∷ rows D.q));
              small = few_most (length T) (length ms) count L.most;
              long = omega (arith, L.least);
            }) in
            let turned : shrunk a b (placed (0 + gaps (rows D.l)) (x ∷ rows D.q)) ≡ placed (0 + gaps (rows D.l)) (x' ∷ rows D.q) =
            shrunk_turn a b (0 + gaps (rows D.l)) (0 + gaps (rows D.l)) g x (rows D.q) order (omega (arith, Y.o_is)) (omega (arith, g-is))
            ∙ ap (λ (y : ℕ). placed (0 + gaps (rows D.l)) (gapped g y ∷ rows D.q)) (ap (λ (y : MarkRow). y.label) (sym row_is)) in
            let marks : shrunk a b (placed 0 (rows u)) ≡ placed 0 T =
            ap (λ (l : List MarkRow). shrunk a b (placed 0 l)) D.text
            ∙ shrunk_after a b 0 (rows D.l) (x ∷ rows D.q) _ (omega (arith, Y.low)) turned
            ∙ sym (placed_append 0 (rows D.l) (x' ∷ rows D.q)) in
            marks_made (λ j. occ D.l j + (same h.at j + occ D.q j)) (λ j. occ D.l j + (same h.at j + (occ D.q j + occ_list D.gs' j))) 0 1 L.least L.most Y.bench (λ j. omega arith) (omega arith) Z (sym marks) count

    -- it is before b: its slot is free
    module _ (before : o < b) {ms₂ : List (Record MarkRow MarkTotals)} {f₂ : Link} {rg : Result (Unit {0}) Unsound} (G : Given ms₁ ms₂ f₁ f₂ h.at rg) where
      at_within : {u : Finger MarkRow MarkTotals} {gs : List ℕ} → Next u gs → h.at < length ms₁
      at_within Y = omega (arith, Y.D.holds.within, ap (λ (y : MarkHalves). y.at) Y.h_is)

      pub shrink_no_give : {e : Unsound} {r : Result Tree Unsound} → rg ≡ Err e → MarksShrunk ms ms₂ f f₂ tr a b r
      shrink_no_give bad = record { shrinks = λ u gs L order near. absurd (ok_err (G.gives (at_within (next u gs L near))).0 bad) }

      pub shrink_drop : {w : MarkTotals} → Adds heft totals_of_marks v' h.row w → {ms₃ : List (Record MarkRow MarkTotals)} {f₃ : Link} {r : Result Tree Unsound} → MarksDropped ms₂ ms₃ f₂ f₃ h.left h.right w b c r → MarksShrunk ms ms₃ f f₃ tr a b r
      shrink_drop {w} A {ms₃} {f₃} {r} K = record { shrinks = λ u gs L order near. made u gs L order near (next u gs L near) }
        where
          made : (u : Finger MarkRow MarkTotals) (gs : List ℕ) → Laid mark_mean ms f tr u gs → a < b → gaps (rows u) ≤ farthest → Next u gs → MarksMade ms ms₃ f₃ r (shrunk a b (placed 0 (rows u))) 1
          made u gs L order near Y =
              let D = Y.D in
              let x : MarkRow = D.x in
              let row_is : h.row ≡ x = ap (λ (y : MarkHalves). y.row) Y.h_is in
              let give = G.gives (at_within Y) in
              let put_free : Put ms₁ ms₂ h.at (Free f₁) = put (at_within Y) give.2 in
              let len : length ms₂ ≡ length ms = put_free.off.len ∙ Y.bench.len in
              let V : List MarkRow = rows D.l ++ (x ∷ []) in
              let gaps-v : gaps V ≡ gaps (rows D.l) + x.gap = gaps_append (rows D.l) (x ∷ []) ∙ omega arith in
              let gaps-all : gaps (V ++ rows D.q) ≡ gaps (rows u) = gaps_append V (rows D.q) ∙ omega (arith, gaps-v, Y.sum) in
              let length-u : length (rows u) ≡ length (rows D.l) + (1 + length (rows D.q)) = ap length D.text ∙ length-append (rows D.l) (x ∷ rows D.q) ∙ omega arith in
              let length-v : length V ≡ length (rows D.l) + 1 = length-append (rows D.l) (x ∷ []) in
              let small : length (rows u) ≤ 4100 = few_most (length (rows u)) (length ms) L.few L.most in
              let place : w ≡ totals_of_marks V = A.adds (rows D.l) (subst (λ (y : MarkRow). weights heft (rows D.l ++ (y ∷ [])) ≤ heaviest) (sym row_is) (list_light V (omega (arith, gaps-v, Y.sum)) (omega (arith, length-v)))) D.place
              ∙ ap (λ (y : MarkRow). totals_of_marks (rows D.l ++ (y ∷ []))) row_is in
              let two : LaidTwo mark_mean ms₂ f₂ h.left h.right D.l D.q (h.at ∷ D.gs') = record {
                tree = ap (λ (y : MarkHalves). y.left) (sym Y.h_is);
                clip = ap (λ (y : MarkHalves). y.right) (sym Y.h_is);
                first = sym give.1;
                fit = frame put_free.off mark_mean D.l 0 (λ j. omega (arith, bench_once Y.bench j)) D.fit_l;
                fit_clip = frame put_free.off mark_mean D.q 0 (λ j. omega (arith, bench_once Y.bench j)) D.fit_q;
                chain = (subst (λ (y : Link). At ms₂ h.at (Free y)) (sym D.first) put_free.at, frame_chain put_free.off D.gs' (λ j. omega (arith, bench_once Y.bench j)) D.chain);
                once = λ j. omega (arith, Y.bench.kept j, ap (λ (k : ℕ). named k j) len);
                few = omega (arith, L.few, ap limit len);
                least = omega (arith, L.least);
                most = omega (arith, L.most);
              } in
              let marks : shrunk a b (placed 0 (rows u)) ≡ placed 0 (rows D.l) ++ shrunk a b (placed (gaps V) (rows D.q)) =
              ap (λ (l : List MarkRow). shrunk a b (placed 0 l)) D.text
              ∙ shrunk_after a b 0 (rows D.l) (x ∷ rows D.q) _ (omega (arith, Y.low))
              (shrunk_drop a b (0 + gaps (rows D.l)) x (rows D.q) (omega (arith, Y.high)) (omega (arith, Y.o_is)) ∙ ap (λ (k : ℕ). shrunk a b (placed k (rows D.q))) (omega (arith, gaps-v))) in
              let M = K.drops a V D.l D.q (h.at ∷ D.gs') two place Y.low (omega (arith, gaps-v, Y.high)) (omega (arith, gaps-v, Y.o_is)) (λ far. omega (arith, Y.place, Y.sum)) (omega (arith, gaps-all)) (omega (arith, length-append V (rows D.q))) in
              subst (λ (H : List Mark). MarksMade ms ms₃ f₃ r H 1) (sym marks) (after_calm len (λ j. calm_then (D.calm j) (put_calm put_free refl j)) M)
