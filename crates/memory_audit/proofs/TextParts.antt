-- The slots of text and clip: sound to the audit exactly if they are a sound memory's. Assumes nothing.
use Rattle.std.proofs.Common.{◌≡◌, ℕ, ◌+◌, ◌^◌, ◌<◌, ◌≤◌, true, List, [], ◌∷◌, ◌++◌, length, is_err, Ok, Err, Result, sym, ap, ◌∙◌, subst, ap₂, append-nil, arith, length-append}
use Rattle.std.specs.List.{AllByRecursion}
use Rattle.plain.specs.Machine.{limit}
use Rattle.stores.specs.Stores.{Contents, summed}
use Rattle.slots.specs.Ghost.{Finger, occ_list, named, rows}
use Rattle.slots.specs.Theorems.{occ_trees}
use Rattle.slots.specs.Post.{TreeValued}
use Rattle.slots.specs.declared.records.Unsound.{Unsound}
use Rattle.slots.specs.declared.records.Tree.{Tree}
use Rattle.slots.specs.declared.records.Record.{Record}
use Rattle.slots.proofs.Shapes.{err_only}
use Rattle.audit.specs.Checks.{Rules, rules}
use Rattle.audit.specs.Sound.{rows_trees, FitTrees}
use Rattle.audit.proofs.Roots.{two_trees}
use Rattle.pieces.specs.Rows.{bytes_of, Good, AllGood, sizes}
use Rattle.pieces.specs.Sound.{TextValue, text_means, text_mean}
use Rattle.pieces.specs.declared.rows.PieceRow.{PieceRow}
use Rattle.pieces.specs.declared.head.Head.{Head}
use Rattle.pieces.proofs.RowParts.{sizes_append, all_append, all_left, all_right, flat_size, light}
use Rattle.memory_audit.specs.Leaves.{PieceRead}
use Rattle.memory_audit.specs.Inspected.{Counted, Verdict, Inspected, TextSound, TextVerdict, TextInspected}
use Rattle.memory_audit.proofs.Counting.{limit_small, same_trees}
use Rattle.memory_audit.proofs.PieceChecks.{run_bytes, run_capacity, run_reads}

module _ {A S : Type 0} (am : List ℕ → A) (contents : S → Contents) where
  abbrev pub text_rules : Rules PieceRow ℕ (TextValue A) S
  text_rules = rules (λ _. 1) (text_means am) (λ s row. bytes_of (contents s).bytes row) (λ s row. Good (contents s).bytes row) (PieceRead contents)

abbrev text_roots : Head → List Tree
text_roots h = h.text ∷ (h.clip ∷ [])

every : (B : List ℕ) (xs : List PieceRow) → AllGood B xs → AllByRecursion (Good B) xs
every B [] g = tt
every B (x ∷ xs) g = (g.0, every B xs g.1)

all_good : (B : List ℕ) (xs : List PieceRow) → AllByRecursion (Good B) xs → AllGood B xs
all_good B [] g = tt
all_good B (x ∷ xs) g = (g.0, all_good B xs g.1)

-- the rows of two trees, one after the other
module _ {V : Type 0} (t k : Finger PieceRow V) where
  two_rows : rows_trees (t ∷ (k ∷ [])) ≡ rows t ++ rows k
  two_rows = ap (λ r. rows t ++ r) (append-nil (rows k))

  two_long : length (rows_trees (t ∷ (k ∷ []))) ≡ length (rows t) + length (rows k)
  two_long = ap length two_rows ∙ length-append (rows t) (rows k)

module _ {A S : Type 0} (am : List ℕ → A) (contents : S → Contents) (s : S) (rs : List (Record PieceRow (TextValue A))) (h : Head) where
  abbrev CountedText : Type 0
  CountedText = Counted (text_rules am contents) s rs (text_roots h) h.free h.pieces

  to_counted : TextSound am (contents s).bytes rs h → CountedText
  to_counted x =
      let all : AllGood (contents s).bytes (rows_trees (x.t ∷ (x.k ∷ []))) = subst (AllGood (contents s).bytes) (sym (two_rows x.t x.k)) (all_append (contents s).bytes (rows x.t) (rows x.k) x.good x.good_clip) in
      let long = two_long x.t x.k in
      let few = x.laid.few in
      let small = limit_small (length rs) x.laid.most in
      record {
        sound = record {
          trees = x.t ∷ (x.k ∷ []);
          chain = x.fs;
          roots_are = ap₂ (λ a b. a ∷ (b ∷ [])) x.laid.tree x.laid.clip;
          first = x.laid.first;
          fits = (x.laid.fit, (x.laid.fit_clip, tt));
          chained = x.laid.chain;
          good_rows = every (contents s).bytes (rows_trees (x.t ∷ (x.k ∷ []))) all;
          few = omega arith;
          light = light (contents s).bytes (rows_trees (x.t ∷ (x.k ∷ []))) all (omega arith);
          once = λ i. omega (arith, x.laid.once i);
        };
        least = x.laid.least;
        most = x.laid.most;
        all = x.pieces ∙ sym long;
      }

  from_counted : CountedText → TextSound am (contents s).bytes rs h
  from_counted c =
      two_trees
      (λ ts. FitTrees (text_mean am (contents s).bytes) rs ts → AllByRecursion (Good (contents s).bytes) (rows_trees ts) → length (rows_trees ts) ≤ limit (length rs) → ((i : ℕ) → occ_trees ts i + occ_list c.sound.chain i ≡ named (length rs) i)
      → h.pieces ≡ length (rows_trees ts) → TextSound am (contents s).bytes rs h)
      (λ t k et ek fits good few once all.
      let g : AllGood (contents s).bytes (rows t ++ rows k) = subst (AllGood (contents s).bytes) (two_rows t k) (all_good (contents s).bytes (rows_trees (t ∷ (k ∷ []))) good) in
      let long = two_long t k in
      record {
        t = t;
        k = k;
        fs = c.sound.chain;
        laid = record { tree = et; clip = ek; first = c.sound.first; fit = fits.0; fit_clip = fits.1.0; chain = c.sound.chained; once = λ i. omega (arith, once i); few = omega arith; least = c.least; most = c.most };
        good = all_left (contents s).bytes (rows t) (rows k) g;
        good_clip = all_right (contents s).bytes (rows t) (rows k) g;
        pieces = all ∙ long;
      })
      c.sound.trees c.sound.roots_are c.sound.fits c.sound.good_rows c.sound.few c.sound.once c.all

module _ {A S : Type 0} {am : List ℕ → A} {contents : S → Contents} {s s' : S} {rs : List (Record PieceRow (TextValue A))} {scratch : List ℕ} {q : Result (Unit {0}) Unsound} (h : Head)
    (I : Inspected (text_rules am contents) s rs (text_roots h) h.free h.pieces s' scratch q) where
  same_bytes : (contents s').bytes ≡ (contents s).bytes
  same_bytes = run_bytes contents s s' I.checked I.ran

  same_capacity : (contents s').capacity ≡ (contents s).capacity
  same_capacity = run_capacity contents s s' I.checked I.ran

  pub text_unsound : {e : Unsound} (r : Result ℕ Unsound) → q ≡ Err e → is_err r ≡ true → TextInspected am contents s s' rs h scratch r
  text_unsound r bad err = record {
    says = λ long.
        subst (TextVerdict am contents s s' rs h) (sym (err_only r err)) (λ x.
        subst (Verdict (text_rules am contents) s rs (text_roots h) h.free h.pieces I.checked) bad (I.says long) (to_counted am contents s rs h x));
    same_bytes = same_bytes;
    same_capacity = same_capacity;
  }

  module _ {u : Unit {0}} {p : Result (TextValue A) Unsound} (ok : q ≡ Ok u) (tv : TreeValued (λ _. 1) (text_means am) rs h.text p) where
    passed : length rs ≤ length scratch → Verdict (text_rules am contents) s rs (text_roots h) h.free h.pieces I.checked (Ok u)
    passed long = subst (Verdict (text_rules am contents) s rs (text_roots h) h.free h.pieces I.checked) ok (I.says long)

    value_is : (x : TextSound am (contents s).bytes rs h) → p ≡ Ok (text_mean am (contents s).bytes (rows x.t))
    value_is x = tv.values (bytes_of (contents s).bytes) x.t 0 x.laid.tree x.laid.fit

    pub text_no_value : {e : Unsound} (r : Result ℕ Unsound) → p ≡ Err e → TextInspected am contents s s' rs h scratch r
    text_no_value r bad = record {
      says = λ long. let is = value_is (from_counted am contents s rs h (passed long).0) in absurd (let z : ◌≡◌ {A = ℕ} 0 1 = cc in omega arith);
      same_bytes = same_bytes;
      same_capacity = same_capacity;
    }

    pub text_passed : {v : TextValue A} → ((s : S) → (contents s).reads < 2 ^ 64) → p ≡ Ok v → TextInspected am contents s s' rs h scratch (Ok v.left.left.bytes)
    unfolding to_counted
    text_passed {v} stops is = record {
      says = λ long. record {
        sound = from_counted am contents s rs h (passed long).0;
        size = λ x.
            let same_value_lem : v ≡ text_mean am (contents s).bytes (rows x.t) = (let w = value_is x in cc) in
            ap (λ (z : TextValue A). z.left.left.bytes) same_value_lem ∙ flat_size (contents s).bytes (rows x.t) x.good;
        each_once = λ x.
            let c = to_counted am contents s rs h x in
            let few : limit (length rs) ≤ 65535 = omega (arith, limit_small (length rs) x.laid.most) in
            let trees-are = same_trees (text_rules am contents) s rs (text_roots h) few (passed long).0.sound c.sound in
            let rows_are : I.checked ≡ rows x.t ++ rows x.k = (passed long).1 ∙ ap rows_trees trees-are ∙ two_rows x.t x.k in
            let ran = run_reads contents stops s s' I.checked I.ran (subst (AllGood (contents s).bytes) (sym rows_are) (all_append (contents s).bytes (rows x.t) (rows x.k) x.good x.good_clip)) in
            ran ∙ ap (λ (n : ℕ). summed (contents s).reads n) (ap sizes rows_are ∙ sizes_append (rows x.t) (rows x.k));
      };
      same_bytes = same_bytes;
      same_capacity = same_capacity;
    }
