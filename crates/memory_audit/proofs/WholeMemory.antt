-- A memory by its two slices. Assumes nothing.
use Rattle.std.proofs.Common.{◌≡◌, ℕ, ◌+◌, ◌<◌, ◌≤◌, true, List, length, is_err, Ok, Err, Result, sym, subst, arith}
use Rattle.measures.specs.Law.{heaviest}
use Rattle.measures.specs.MarkTotals.{gaps}
use Rattle.measures.specs.declared.mark_totals.MarkRow.{MarkRow}
use Rattle.measures.specs.declared.mark_totals.MarkTotals.{MarkTotals}
use Rattle.stores.specs.Stores.{Contents}
use Rattle.slots.specs.Ghost.{rows}
use Rattle.slots.specs.declared.records.Unsound.{Unsound}
use Rattle.slots.specs.declared.records.Record.{Record}
use Rattle.slots.proofs.Shapes.{err_only}
use Rattle.pieces.specs.Sound.{TextValue, Sound}
use Rattle.pieces.specs.declared.rows.PieceRow.{PieceRow}
use Rattle.pieces.specs.declared.head.Head.{Head}
use Rattle.pieces.proofs.RowParts.{sizes_few}
use Rattle.memory_audit.specs.Inspected.{TextSound, TextVerdict, TextPassed, TextInspected, MarksSound, MarksVerdict, MarksPassed, MarksInspected, MemoryVerdict, MemoryInspected}
use Rattle.memory_audit.proofs.Counting.{limit_small}

module _ {A : Type 0} {am : List ℕ → A} {B : List ℕ} {rs : List (Record PieceRow (TextValue A))} {ms : List (Record MarkRow MarkTotals)} {h : Head} (so : Sound am B rs ms h) where
  abbrev text_part : TextSound am B rs h
  text_part = record { t = so.t; k = so.k; fs = so.fs; laid = so.text; good = so.good; good_clip = so.good_clip; pieces = so.pieces }

  abbrev mark_part : MarksSound ms h
  mark_part = record { u = so.u; gs = so.gs; laid = so.marks; count = so.count }

  -- marks inside a text are light enough for their sums
  near : gaps (rows so.u) + length (rows so.u) ≤ heaviest
  near =
      let small = limit_small (length rs) so.text.most in
      let few-pieces = so.text.few in
      let small-marks = limit_small (length ms) so.marks.most in
      let few-marks = so.marks.few in
      let size = sizes_few B (rows so.t) so.good in
      let ends = so.ends in
      omega arith

module _ {A S : Type 0} {am : List ℕ → A} {contents : S → Contents} {s s' : S} {rs : List (Record PieceRow (TextValue A))} {h : Head} {scratch : List ℕ} {q : Result ℕ Unsound}
    (T : TextInspected am contents s s' rs h scratch q) where
  pub no_text : {ms : List (Record MarkRow MarkTotals)} {e : Unsound} (r : Result (Unit {0}) Unsound) → q ≡ Err e → is_err r ≡ true → MemoryInspected am contents s s' rs ms h scratch r
  no_text {ms} r bad err = record {
    says = λ long.
        subst (MemoryVerdict am contents s s' rs ms h) (sym (err_only r err)) (λ so.
        subst (TextVerdict am contents s s' rs h) bad (T.says (omega arith)) (text_part so));
    same_bytes = T.same_bytes;
    same_capacity = T.same_capacity;
  }

  module _ {ms : List (Record MarkRow MarkTotals)} {scratch₁ : List ℕ} {p : Result ℕ Unsound} (same-long : length scratch₁ ≡ length scratch) (M : MarksInspected ms h scratch₁ p) where
    pub no_marks : {e : Unsound} (r : Result (Unit {0}) Unsound) → p ≡ Err e → is_err r ≡ true → MemoryInspected am contents s s' rs ms h scratch r
    no_marks r bad err = record {
      says = λ long.
          subst (MemoryVerdict am contents s s' rs ms h) (sym (err_only r err)) (λ so.
          subst (MarksVerdict ms h) bad (M.says (omega arith)) (mark_part so) (near so));
      same_bytes = T.same_bytes;
      same_capacity = T.same_capacity;
    }

    module _ {size last : ℕ} (text-is : q ≡ Ok size) (marks_are : p ≡ Ok last) where
      text_passed : length rs ≤ length scratch → TextPassed am contents s s' rs h size
      text_passed long = subst (TextVerdict am contents s s' rs h) text-is (T.says long)

      marks_passed : length ms ≤ length scratch₁ → MarksPassed ms h last
      marks_passed long = subst (MarksVerdict ms h) marks_are (M.says long)

      pub mark_past_end : {e : Unsound} → size < last → MemoryInspected am contents s s' rs ms h scratch (Err e)
      mark_past_end past = record {
        says = λ long so. omega (arith, so.ends, (text_passed (omega arith)).size (text_part so), (marks_passed (omega arith)).last (mark_part so));
        same_bytes = T.same_bytes;
        same_capacity = T.same_capacity;
      }

      pub all_sound : {u : Unit {0}} → last ≤ size → MemoryInspected am contents s s' rs ms h scratch (Ok u)
      all_sound within = record {
        says = λ long.
            let t = text_passed (omega arith) in
            let m = marks_passed (omega arith) in
            let x = t.sound in
            let y = m.sound in
            record {
              sound = record {
                t = x.t;
                k = x.k;
                fs = x.fs;
                u = y.u;
                gs = y.gs;
                text = x.laid;
                marks = y.laid;
                good = x.good;
                good_clip = x.good_clip;
                pieces = x.pieces;
                count = y.count;
                ends = omega (arith, t.size x, m.last y);
              };
              each_once = λ so. t.each_once (text_part so);
            };
        same_bytes = T.same_bytes;
        same_capacity = T.same_capacity;
      }
