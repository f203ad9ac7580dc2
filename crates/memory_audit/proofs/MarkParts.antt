-- The slots of marks: sound to the audit exactly if they are a sound memory's. Assumes nothing.
use Rattle.std.proofs.Common.{◌≡◌, ℕ, ◌+◌, ◌≤◌, true, List, [], ◌∷◌, length, is_err, Ok, Err, Result, sym, ap, ◌∙◌, subst, append-nil, arith}
use Rattle.std.specs.List.{AllByRecursion}
use Rattle.plain.specs.Machine.{limit}
use Rattle.measures.specs.Law.{heaviest}
use Rattle.measures.specs.MarkTotals.{gaps, totals_of_marks}
use Rattle.measures.specs.declared.mark_totals.MarkRow.{MarkRow}
use Rattle.measures.specs.declared.mark_totals.MarkTotals.{MarkTotals}
use Rattle.slots.specs.Ghost.{occ_list, named, rows}
use Rattle.slots.specs.Values.{wt}
use Rattle.slots.specs.Theorems.{occ_trees}
use Rattle.slots.specs.Post.{TreeValued}
use Rattle.slots.specs.declared.records.Unsound.{Unsound}
use Rattle.slots.specs.declared.records.Tree.{Tree}
use Rattle.slots.specs.declared.records.Record.{Record}
use Rattle.slots.proofs.Shapes.{err_only}
use Rattle.audit.specs.Checks.{Rules, rules}
use Rattle.audit.specs.Sound.{rows_trees, FitTrees}
use Rattle.audit.proofs.Roots.{one_tree}
use Rattle.pieces.specs.Sound.{itself, mark_mean}
use Rattle.pieces.specs.declared.head.Head.{Head}
use Rattle.pieces.proofs.MarkMoves.{flat_itself, mark_weight}
use Rattle.memory_audit.specs.Inspected.{Counted, Verdict, Inspected, MarksSound, MarksVerdict, MarksInspected}

abbrev mark_rules : Rules MarkRow MarkRow MarkTotals (Unit {0})
mark_rules = rules (λ m. m.gap + 1) totals_of_marks (λ _ row. itself row) (λ _ _. Unit {0}) (λ s _ s'. s' ≡ s)

abbrev mark_roots : Head → List Tree
mark_roots h = h.marks ∷ []

any_mark : (xs : List MarkRow) → AllByRecursion (λ _. Unit {0}) xs
any_mark [] = tt
any_mark (x ∷ xs) = (tt, any_mark xs)

module _ (ms : List (Record MarkRow MarkTotals)) (h : Head) where
  abbrev CountedMarks : Type 0
  CountedMarks = Counted mark_rules tt ms (mark_roots h) h.free_marks h.mark_count

  to_counted : (x : MarksSound ms h) → gaps (rows x.u) + length (rows x.u) ≤ heaviest → CountedMarks
  to_counted x near =
      let one-row : rows_trees (x.u ∷ []) ≡ rows x.u = append-nil (rows x.u) in
      let long = ap length one-row in
      let few = x.laid.few in
      record {
        sound = record {
          trees = x.u ∷ [];
          chain = x.gs;
          roots_are = ap (λ a. a ∷ []) x.laid.tree;
          first = x.laid.first;
          fits = (x.laid.fit, tt);
          chained = x.laid.chain;
          good_rows = any_mark (rows_trees (x.u ∷ []));
          few = omega arith;
          light = omega (arith, mark_weight (rows x.u), ap (wt (λ (m : MarkRow). m.gap + 1) itself) one-row);
          once = λ i. omega (arith, x.laid.once i);
        };
        least = x.laid.least;
        most = x.laid.most;
        all = x.count ∙ sym long;
      }

  from_counted : CountedMarks → MarksSound ms h
  from_counted c =
      one_tree
      (λ ts. FitTrees mark_mean ms ts → length (rows_trees ts) ≤ limit (length ms) → ((i : ℕ) → occ_trees ts i + occ_list c.sound.chain i ≡ named (length ms) i) → h.mark_count ≡ length (rows_trees ts) → MarksSound ms h)
      (λ u eu fits few once all.
      let long = ap length (append-nil (rows u)) in
      record {
        u = u;
        gs = c.sound.chain;
        laid = record { tree = eu; first = c.sound.first; fit = fits.0; chain = c.sound.chained; once = λ i. omega (arith, once i); few = omega arith; least = c.least; most = c.most };
        count = all ∙ long;
      })
      c.sound.trees c.sound.roots_are c.sound.fits c.sound.few c.sound.once c.all

module _ {ms : List (Record MarkRow MarkTotals)} {s s' : Unit {0}} {scratch : List ℕ} {q : Result (Unit {0}) Unsound} (h : Head)
    (I : Inspected mark_rules s ms (mark_roots h) h.free_marks h.mark_count s' scratch q) where
  pub marks_unsound : {e : Unsound} (r : Result ℕ Unsound) → q ≡ Err e → is_err r ≡ true → MarksInspected ms h scratch r
  marks_unsound r bad err = record {
    says = λ long.
        subst (MarksVerdict ms h) (sym (err_only r err)) (λ x near.
        subst (Verdict mark_rules s ms (mark_roots h) h.free_marks h.mark_count I.checked) bad (I.says long) (to_counted ms h x near));
  }

  module _ {u : Unit {0}} {p : Result MarkTotals Unsound} (ok : q ≡ Ok u) (tv : TreeValued (λ (m : MarkRow). m.gap + 1) totals_of_marks ms h.marks p) where
    passed : length ms ≤ length scratch → Verdict mark_rules s ms (mark_roots h) h.free_marks h.mark_count I.checked (Ok u)
    passed long = subst (Verdict mark_rules s ms (mark_roots h) h.free_marks h.mark_count I.checked) ok (I.says long)

    value_is : (x : MarksSound ms h) → p ≡ Ok (mark_mean (rows x.u))
    value_is x = tv.values itself x.u 0 x.laid.tree x.laid.fit

    pub marks_no_value : {e : Unsound} (r : Result ℕ Unsound) → p ≡ Err e → MarksInspected ms h scratch r
    marks_no_value r bad = record { says = λ long. let is = value_is (from_counted ms h (passed long).0) in absurd (let z : ◌≡◌ {A = ℕ} 0 1 = cc in omega arith) }

    pub marks_passed : {v : MarkTotals} {n : ℕ} → p ≡ Ok v → n ≡ v.gaps → MarksInspected ms h scratch (Ok n)
    marks_passed {v} {n} is last = record {
      says = λ long. record {
        sound = from_counted ms h (passed long).0;
        last = λ x.
            let same_value_lem : v ≡ mark_mean (rows x.u) = (let w = value_is x in cc) in
            last ∙ ap (λ (z : MarkTotals). z.gaps) same_value_lem ∙ ap gaps (flat_itself (rows x.u));
      };
    }
