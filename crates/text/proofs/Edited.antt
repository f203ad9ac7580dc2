-- From what a call promises of the watched slots to what it promises over whole slices.
use Rattle.std.proofs.Common.{◌≡◌, ℕ, min, List, ◌++◌, length, take, drop, Result, sym, refl, subst}
use Rattle.plain.specs.Machine.{Call}
use Rattle.plain.specs.declared.faults.TextFault.{TextFault}
use Rattle.measures.specs.declared.mark_totals.MarkRow.{MarkRow}
use Rattle.measures.specs.declared.mark_totals.MarkTotals.{MarkTotals}
use Rattle.stores.specs.Stores.{Contents}
use Rattle.slots.specs.declared.records.Record.{Record}
use Rattle.pieces.specs.Sound.{TextValue, Mode}
use Rattle.pieces.specs.Edited.{Edits}
use Rattle.pieces.specs.declared.rows.PieceRow.{PieceRow}
use Rattle.pieces.specs.declared.head.Head.{Head}
use Rattle.text.specs.Texts.{watched_of, EditsText}
use Rattle.text.proofs.Lending.{lent, back, beyond}

module _ {A S : Type 0} {am : List ℕ → A} {contents : S → Contents} {c : Call} {mode mode' : Mode} {s s' : S} {h h' : Head} {r : Result (Unit {0}) TextFault} where
  -- both slices are lent
  pub edits_both : (rs : List (Record PieceRow (TextValue A))) (w : ℕ) (ys : List (Record PieceRow (TextValue A))) (ms : List (Record MarkRow MarkTotals)) (v : ℕ) (zs : List (Record MarkRow MarkTotals))
      → w ≡ min (length rs) 8316 → length ys ≡ length (take w rs) → v ≡ min (length ms) 8316 → length zs ≡ length (take v ms)
      → Edits am contents c mode mode' s s' (take w rs) ys (take v ms) zs h h' r
      → EditsText am contents c mode mode' s s' rs (ys ++ drop w rs) ms (zs ++ drop v ms) h h' r
  edits_both rs w ys ms v zs e len f len' E = record {
    edits =
        subst (λ x. Edits am contents c mode mode' s s' (watched_of rs) x (watched_of ms) (watched_of (zs ++ drop v ms)) h h' r) (sym (back rs w e ys len))
        (subst (λ x. Edits am contents c mode mode' s s' (watched_of rs) ys (watched_of ms) x h h' r) (sym (back ms v f zs len'))
        (subst (λ x. Edits am contents c mode mode' s s' x ys (watched_of ms) zs h h' r) (lent rs w e)
        (subst (λ x. Edits am contents c mode mode' s s' (take w rs) ys x zs h h' r) (lent ms v f) E)));
    later = record { slots = beyond rs w e ys len; marks = beyond ms v f zs len' };
  }

  -- only the slots of the text are changed
  pub edits_slots : (rs : List (Record PieceRow (TextValue A))) (w : ℕ) (ys : List (Record PieceRow (TextValue A))) (ms : List (Record MarkRow MarkTotals))
      → w ≡ min (length rs) 8316 → length ys ≡ length (take w rs)
      → Edits am contents c mode mode' s s' (take w rs) ys (watched_of ms) (watched_of ms) h h' r
      → EditsText am contents c mode mode' s s' rs (ys ++ drop w rs) ms ms h h' r
  edits_slots rs w ys ms e len E = record {
    edits =
        subst (λ x. Edits am contents c mode mode' s s' (watched_of rs) x (watched_of ms) (watched_of ms) h h' r) (sym (back rs w e ys len))
        (subst (λ x. Edits am contents c mode mode' s s' x ys (watched_of ms) (watched_of ms) h h' r) (lent rs w e) E);
    later = record { slots = beyond rs w e ys len; marks = refl };
  }

  -- only those of the marks
  pub edits_marks : (rs : List (Record PieceRow (TextValue A))) (ms : List (Record MarkRow MarkTotals)) (v : ℕ) (zs : List (Record MarkRow MarkTotals))
      → v ≡ min (length ms) 8316 → length zs ≡ length (take v ms) → Edits am contents c mode mode' s s' (watched_of rs) (watched_of rs) (take v ms) zs h h' r
      → EditsText am contents c mode mode' s s' rs rs ms (zs ++ drop v ms) h h' r
  edits_marks rs ms v zs f len' E = record {
    edits =
        subst (λ x. Edits am contents c mode mode' s s' (watched_of rs) (watched_of rs) (watched_of ms) x h h' r) (sym (back ms v f zs len'))
        (subst (λ x. Edits am contents c mode mode' s s' (watched_of rs) (watched_of rs) x zs h h' r) (lent ms v f) E);
    later = record { slots = refl; marks = beyond ms v f zs len' };
  }
