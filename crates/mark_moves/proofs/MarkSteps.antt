-- Single steps of an edit of the marks' tree: a leaf more, a leaf written, two trees joined.
use Rattle.std.proofs.Common.{◌≡◌, ℕ, ◌+◌, ◌*◌, ◌<◌, ◌≤◌, List, [], ◌∷◌, ◌++◌, length, Ok, Option, Result, sym, refl, ap, ◌∙◌, subst, inr, arith, length-append}
use Rattle.plain.specs.Machine.{limit}
use Rattle.measures.specs.MarkTotals.{gaps, totals_of_marks}
use Rattle.measures.specs.declared.mark_totals.MarkRow.{MarkRow}
use Rattle.measures.specs.declared.mark_totals.MarkTotals.{MarkTotals}
use Rattle.slots.specs.Ghost.{Arm, Finger, same, occ_list, head_of, part_of, tree_of, rows_part, rows, occ_part, occ, At, FitPart, Fit, Chain}
use Rattle.slots.specs.Post.{Wrote, LeafPut}
use Rattle.slots.specs.Theorems.{total}
use Rattle.slots.specs.declared.records.Unsound.{Unsound}
use Rattle.slots.specs.Words.{Link}
use Rattle.slots.specs.declared.records.Tree.{Tree}
use Rattle.slots.specs.declared.records.Digit.{Digit}
use Rattle.slots.specs.declared.records.Record.{Record}
use Rattle.slots.specs.declared.records.Record.TheVariants.{Leaf}
use Rattle.slots.proofs.Counts.{total_add, tree_count, part_count}
use Rattle.slots.proofs.Frames.{occ_list_append, calm_then, Put, put, frame_at, frame, frame_chain}
use Rattle.concat.specs.Post.{Melt, Concat}
use Rattle.pieces.specs.Sound.{itself, mark_mean}
use Rattle.pieces.proofs.Bench.{Bench, bench_once, bench_spare}
use Rattle.mark_moves.specs.Parting.{farthest, heft, JoinMade}
use Rattle.mark_moves.proofs.MarkDesk.{few_most, mark_light}

module _ {ms₀ ms : List (Record MarkRow MarkTotals)} {f : Link} {α : ℕ → ℕ} {hs js : List ℕ} (b : Bench ms₀ ms f α hs js) where
  -- the first free slot has a leaf
  pub record Leafed (ms₁ : List (Record MarkRow MarkTotals)) (f₁ : Link) (x : MarkRow) (w : MarkTotals) (ri : Result ℕ Unsound) : Type 0 where
    pub n : ℕ
    pub ns : List ℕ
    pub ok : ri ≡ Ok n
    pub at : At ms₁ n (Leaf x w)
    pub bench : Bench ms₀ ms₁ f₁ (λ j. same n j + α j) ns (js ++ (n ∷ []))
    pub len : length ms₁ ≡ length ms
    pub stays : (t : Finger MarkRow MarkTotals) → ((j : ℕ) → occ t j ≤ α j) → Fit mark_mean ms t 0 → Fit mark_mean ms₁ t 0

  pub leafed : {ms₁ : List (Record MarkRow MarkTotals)} {f₁ : Link} {x : MarkRow} {w : MarkTotals} {ri : Result ℕ Unsound} → 1 ≤ length hs → LeafPut ms ms₁ f f₁ x w ri → Leafed ms₁ f₁ x w ri
  leafed {ms₁} {f₁} {x} {w} {ri} long K = from_chain hs refl
    where
      from_chain : (c : List ℕ) → hs ≡ c → Leafed ms₁ f₁ x w ri
      from_chain [] e = absurd (omega (arith, ap length e))
      from_chain (n ∷ ns) e =
          let first : head_of (n ∷ ns) ≡ f = ap head_of (sym e) ∙ b.first in
          let chain : Chain ms (n ∷ ns) = subst (Chain ms) e b.chain in
          let o = K.puts n ns (sym first) chain in
          let p : Put ms ms₁ n (Leaf x w) = put chain.0.within o.2 in
          let listed : (j : ℕ) → occ_list hs j ≡ same n j + occ_list ns j = λ j. ap (λ (c : List ℕ). occ_list c j) e in
          record {
            n = n;
            ns = ns;
            ok = o.0;
            at = p.at;
            bench = record {
              len = p.off.len ∙ b.len;
              first = sym o.1;
              chain = frame_chain p.off ns (λ j. omega (arith, listed j, bench_once b j)) chain.1;
              kept = λ j. omega (arith, listed j, b.kept j);
              fresh = λ j z. let a = occ_list_append js (n ∷ []) j in calm_then (b.fresh j (omega arith)) (inr (p.off.reads j (omega arith)));
            };
            len = p.off.len;
            stays = λ t le fit. frame p.off mark_mean t 0 (λ j. omega (arith, le j, listed j, bench_once b j)) fit;
          }

  -- a slot in use was written
  pub record Rewritten (ms₁ : List (Record MarkRow MarkTotals)) (i : ℕ) (c : Record MarkRow MarkTotals) (rw : Result (Unit {0}) Unsound) : Type 0 where
    pub ok : rw ≡ Ok tt
    pub at : At ms₁ i c
    pub bench : Bench ms₀ ms₁ f α hs (js ++ (i ∷ []))
    pub stays : (t : Finger MarkRow MarkTotals) → ((j : ℕ) → occ t j + same i j ≤ α j) → Fit mark_mean ms t 0 → Fit mark_mean ms₁ t 0
    pub other : (n : ℕ) (d : Record MarkRow MarkTotals) → same i n ≡ 0 → At ms n d → At ms₁ n d

  pub rewritten : {ms₁ : List (Record MarkRow MarkTotals)} {i : ℕ} {c : Record MarkRow MarkTotals} {rw : Result (Unit {0}) Unsound} → i < length ms → ((j : ℕ) → same i j ≤ α j) → Wrote ms ms₁ i c rw → Rewritten ms₁ i c rw
  rewritten {ms₁} {i} {c} within used W =
      let p : Put ms ms₁ i c = put within (W.writes within).1 in
      record {
        ok = (W.writes within).0;
        at = p.at;
        bench = record {
          len = p.off.len ∙ b.len;
          first = b.first;
          chain = frame_chain p.off hs (λ j. omega (arith, used j, bench_once b j)) b.chain;
          kept = b.kept;
          fresh = λ j z. let a = occ_list_append js (i ∷ []) j in calm_then (b.fresh j (omega arith)) (inr (p.off.reads j (omega arith)));
        };
        stays = λ t le fit. frame p.off mark_mean t 0 (λ j. omega (arith, le j, bench_once b j)) fit;
        other = λ n d z at. frame_at p.off n d z at;
      }

-- two trees with leaves between them are joined
pub joined : {ms₀ ms ms₁ : List (Record MarkRow MarkTotals)} {f f₁ : Link} {hs js : List ℕ} {tl tr : Tree} {d : Option Digit} {r : Result Tree Unsound} (l : Finger MarkRow MarkTotals) (Q : Option (Arm MarkRow MarkTotals)) (q : Finger MarkRow MarkTotals)
    → Bench ms₀ ms f (λ j. occ l j + (occ_part Q j + occ q j)) hs js → Concat heft totals_of_marks ms ms₁ f f₁ tl d tr r → tree_of l ≡ tl → part_of Q ≡ d → tree_of q ≡ tr
    → Fit mark_mean ms l 0 → FitPart mark_mean ms Q 0 → Fit mark_mean ms q 0 → gaps (rows l ++ (rows_part Q ++ rows q)) ≤ farthest → length (rows l ++ (rows_part Q ++ rows q)) ≤ limit (length ms₀) → 130 ≤ length ms₀ → length ms₀ ≤ 8316
    → JoinMade ms ms₁ f₁ r (rows l ++ (rows_part Q ++ rows q)) (λ j. occ l j + (occ_part Q j + (occ q j + occ_list hs j))) 0
joined {ms₀ = ms₀} {ms} {ms₁} {f} {f₁} {hs} {r = r} l Q q b C left between right fit_l fit-p fit_q near count least highest =
    let T : List MarkRow = rows l ++ (rows_part Q ++ rows q) in
    let small : length T ≤ 4100 = few_most (length T) (length ms₀) count highest in
    let used : total (length ms₀) (λ j. occ l j + (occ_part Q j + occ q j)) ≤ 2 * length T =
    omega (arith, total_add (length ms₀) (occ l) (λ j. occ_part Q j + occ q j), total_add (length ms₀) (occ_part Q) (occ q), tree_count (length ms₀) l, part_count (length ms₀) Q, tree_count (length ms₀) q, length-append (rows l) (rows_part Q ++ rows q), length-append (rows_part Q) (rows q)) in
    let spare = bench_spare (2 * length T) b used in
    let M : Melt heft totals_of_marks itself ms ms₁ f₁ r l Q q hs 0 = C.melts itself l Q q hs (record {
      left = left;
      between = between;
      right = right;
      first = b.first;
      fit_l = fit_l;
      fit_q = fit-p;
      fit_r = fit_q;
      chain = b.chain;
      once = λ j. omega (arith, bench_once b j);
      light = mark_light T near small;
      small = small;
      long = omega arith;
    }) in
    record { made = M.made; few = omega (arith, M.few) }
