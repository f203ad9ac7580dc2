-- What calls on the marks' tree start from, and what is left at their end.
use Rattle.std.proofs.Common.{◌≡◌, ℕ, ◌+◌, ◌*◌, ◌≤◌, List, [], ◌∷◌, ◌++◌, length, get_or, Ok, Result, sym, refl, ap, ◌∙◌, subst, inr, arith, length-append}
use Rattle.plain.specs.Machine.{limit}
use Rattle.plain.specs.declared.answers.Mark.{Mark}
use Rattle.measures.specs.Law.{weights, heaviest}
use Rattle.measures.specs.MarkTotals.{gaps, totals_of_marks, placed}
use Rattle.measures.specs.declared.mark_totals.MarkRow.{MarkRow}
use Rattle.measures.specs.declared.mark_totals.MarkTotals.{MarkTotals}
use Rattle.slots.specs.Ghost.{Finger, same, named, occ_list, none, tree_of, rows, occ, Calm}
use Rattle.slots.specs.Holds.{Holds}
use Rattle.slots.specs.Post.{TreeValued}
use Rattle.slots.specs.Theorems.{total}
use Rattle.slots.specs.Values.{wt}
use Rattle.slots.specs.declared.records.Unsound.{Unsound}
use Rattle.slots.specs.Words.{Link}
use Rattle.slots.specs.declared.records.Tree.{Tree}
use Rattle.slots.specs.declared.records.Record.{Record}
use Rattle.slots.proofs.Counts.{total_add, total_same, tree_count, named_le, supply}
use Rattle.slots.proofs.Frames.{calm_then, off_more}
use Rattle.slots.proofs.Shapes.{ok_same}
use Rattle.pieces.specs.Sound.{itself, mark_mean, Laid}
use Rattle.pieces.proofs.Bench.{Bench, bench_start, bench_by, bench_step}
use Rattle.pieces.proofs.MarkMoves.{flat_itself, mark_weight}
use Rattle.mark_moves.specs.Parting.{farthest, heft, MarksApart, JoinMade}
use Rattle.mark_moves.specs.Moved.{MarksMade, MarksCounted}

pub few_most : (n w : ℕ) → n ≤ limit w → w ≤ 8316 → n ≤ 4100
few_most n w h k = omega arith

pub mark_light : (xs : List MarkRow) → gaps xs ≤ farthest → length xs ≤ 4100 → wt heft itself xs ≤ heaviest
mark_light xs near small = omega (arith, mark_weight xs)

pub marks_hold : {ms : List (Record MarkRow MarkTotals)} {f : Link} {tr : Tree} {u : Finger MarkRow MarkTotals} {gs : List ℕ}
    → gaps (rows u) ≤ farthest → Laid mark_mean ms f tr u gs → Holds heft totals_of_marks itself ms f tr u gs
marks_hold {ms} {u = u} {gs} near L =
    let small : length (rows u) ≤ 4100 = few_most (length (rows u)) (length ms) L.few L.most in record {
      tree = L.tree;
      first = L.first;
      fit = L.fit;
      chain = L.chain;
      once = λ i. omega (arith, L.once i, named_le (length ms) i);
      light = mark_light (rows u) near small;
      small = small;
      long = omega (arith, supply (length ms) (2 * length (rows u)) (occ u) gs L.once (tree_count (length ms) u), L.few, L.least);
    }

-- two trees and a slot between them
pub around_count : (w : ℕ) (l : Finger MarkRow MarkTotals) (i : ℕ) (x : MarkRow) (q : Finger MarkRow MarkTotals) → total w (λ j. occ l j + (same i j + occ q j)) ≤ 2 * length (rows l ++ (x ∷ rows q))
around_count w l i x q = omega (arith, total_add w (occ l) (λ j. same i j + occ q j), total_add w (same i) (occ q), total_same w i, tree_count w l, tree_count w q, length-append (rows l) (x ∷ rows q))

module _ {ms : List (Record MarkRow MarkTotals)} {f : Link} {tr : Tree} {u : Finger MarkRow MarkTotals} {gs : List ℕ} (L : Laid mark_mean ms f tr u gs) where
  -- the tree was taken apart
  pub parted : {ms₁ : List (Record MarkRow MarkTotals)} {f₁ : Link} {v : List MarkRow} {at : ℕ} {p' : MarkTotals} {r : _} (D : MarksApart ms ms₁ f₁ v at p' r u gs)
      → Bench ms ms₁ f₁ (λ j. (occ D.l j + (same D.i j + occ D.q j)) + 0) D.gs' []
  parted D = bench_step (occ u) (λ _. 0) (bench_by (λ j. occ u j + 0) (λ j. omega arith) (bench_start L.first L.chain L.once)) D.frame
      (λ j. occ D.l j + (same D.i j + occ D.q j)) D.gs' [] D.first D.chain (λ j. omega (arith, D.kept j)) (λ j z. D.calm j)

  -- nothing changed
  pub marks_stay : {ms₁ : List (Record MarkRow MarkTotals)} {f₁ : Link} {H : List Mark} {n : ℕ} → ms₁ ≡ ms → f₁ ≡ f → placed 0 (rows u) ≡ H → MarksMade ms ms₁ f₁ (Ok tr) H n
  marks_stay {ms₁} {f₁} e g marks = record {
    u' = u;
    gs' = gs;
    js = [];
    ok = ap (λ (x : Tree). Ok x) (sym L.tree);
    laid = subst (λ x. Laid mark_mean x f₁ (tree_of u) u gs) (sym e) (record {
      tree = refl;
      first = L.first ∙ sym g;
      fit = L.fit;
      chain = L.chain;
      once = L.once;
      few = L.few;
      least = L.least;
      most = L.most;
    });
    len = ap length e;
    marks = marks;
    few = omega arith;
    fresh = λ i z. inr (ap (λ x. get_or x i none) e);
  }

-- a tree was made in the end, of all slots in use
pub marks_made : {ms ms₁ ms₂ : List (Record MarkRow MarkTotals)} {f₁ f₂ : Link} {r : Result Tree Unsound} {hs js : List ℕ} {T : List MarkRow} {H : List Mark} (α τ : ℕ → ℕ) (m n : ℕ)
    → 130 ≤ length ms → length ms ≤ 8316 → Bench ms ms₁ f₁ α hs js → ((j : ℕ) → τ j ≡ α j + occ_list hs j) → length js ≤ m → (J : JoinMade ms₁ ms₂ f₂ r T τ n)
    → placed 0 T ≡ H → length T ≤ limit (length ms) → MarksMade ms ms₂ f₂ r H (m + n)
marks_made {hs = hs} {js = js} α τ m n least highest b is few J marks count =
    let Z = J.made in
    let last = bench_step α (λ _. 0) (bench_by (λ j. α j + 0) (λ j. omega arith) b) (off_more (λ j. α j + occ_list hs j) (λ j z. omega (arith, is j)) Z.frame)
    (occ Z.t') Z.fs' Z.js Z.first Z.chain (λ j. omega (arith, is j, Z.kept j)) Z.fresh in
    record {
      u' = Z.t';
      gs' = Z.fs';
      js = js ++ Z.js;
      ok = Z.ok;
      laid = record {
        tree = refl;
        first = Z.first;
        fit = Z.fit;
        chain = Z.chain;
        once = λ j. omega (arith, last.kept j, ap (λ (k : ℕ). named k j) last.len);
        few = omega (arith, count, ap length Z.text, ap limit last.len);
        least = omega (arith, least, last.len);
        most = omega (arith, highest, last.len);
      };
      len = last.len;
      marks = ap (placed 0) Z.text ∙ marks;
      few = omega (arith, few, J.few, length-append js Z.js);
      fresh = last.fresh;
    }

-- calls that left no new leaf or node came before
pub after_calm : {ms ms₁ ms₂ : List (Record MarkRow MarkTotals)} {f₂ : Link} {r : Result Tree Unsound} {H : List Mark} {n : ℕ}
    → length ms₁ ≡ length ms → ((j : ℕ) → Calm (get_or ms j none) (get_or ms₁ j none)) → MarksMade ms₁ ms₂ f₂ r H n → MarksMade ms ms₂ f₂ r H n
after_calm len calm M = record {
  u' = M.u';
  gs' = M.gs';
  js = M.js;
  ok = M.ok;
  laid = M.laid;
  len = M.len ∙ len;
  marks = M.marks;
  few = M.few;
  fresh = λ j z. calm_then (calm j) (M.fresh j z);
}

-- a list that no measure need fear
pub list_light : (xs : List MarkRow) → gaps xs ≤ farthest → length xs ≤ 4100 → weights heft xs ≤ heaviest
list_light xs near small = omega (arith, mark_light xs near small, ap (weights heft) (flat_itself xs))

-- the value at the root has the count
pub counted : {ms : List (Record MarkRow MarkTotals)} {tr : Tree} {rv : Result MarkTotals Unsound} {w : MarkTotals} → TreeValued heft totals_of_marks ms tr rv → rv ≡ Ok w → MarksCounted ms tr (Ok w.count)
counted {w = w} V got = record {
  tells = λ u is fit.
      let w-is : w ≡ mark_mean (rows u) = ok_same got (V.values itself u 0 is fit) in
      ap (λ (y : MarkTotals). Ok y.count) w-is ∙ ap (λ (l : List MarkRow). Ok (length l)) (flat_itself (rows u));
}
