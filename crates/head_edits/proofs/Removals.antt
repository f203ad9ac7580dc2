-- A delete and a cut are the machine's, on every way out.
use Rattle.std.proofs.Common.{◌≡◌, ℕ, ◌+◌, ◌<◌, ◌≤◌, max, List, map, length, Some, None, Ok, Err, Result, sym, refl, ap, ◌∙◌, subst, arith}
use Rattle.std.proofs.lemmas.Bool.{leb-true, ltb-true, and_parts}
use Rattle.plain.specs.Lists.{first_no}
use Rattle.plain.specs.Marks.{shrunk}
use Rattle.plain.specs.Pieces.{Piece, between}
use Rattle.plain.specs.Machine.{size, delete, cut, asked}
use Rattle.plain.specs.Laws.{Proper}
use Rattle.plain.specs.declared.calls.Call.TheVariants.{Delete, Cut}
use Rattle.plain.specs.declared.faults.TextFault.{TextFault}
use Rattle.plain.proofs.Asking.{passed}
use Rattle.measures.specs.MarkTotals.{gaps, placed}
use Rattle.measures.specs.declared.mark_totals.MarkRow.{MarkRow}
use Rattle.measures.specs.declared.mark_totals.MarkTotals.{MarkTotals}
use Rattle.stores.specs.Stores.{Contents, Lawful}
use Rattle.slots.specs.Ghost.{rows, levels}
use Rattle.slots.specs.declared.records.Unsound.{Unsound}
use Rattle.slots.specs.Words.{Link}
use Rattle.slots.specs.declared.records.Tree.{Tree}
use Rattle.slots.specs.declared.records.Tree.TheVariants.{Empty}
use Rattle.slots.specs.declared.records.Record.{Record}
use Rattle.slots.proofs.Shapes.{ok_err, ok_same}
use Rattle.pieces.specs.Edited.{Edits}
use Rattle.pieces.specs.Rows.{piece_of, sizes}
use Rattle.pieces.specs.Sound.{TextValue, text_mean, Laid, LaidTwo, Sound, whole, held}
use Rattle.pieces.specs.declared.rows.PieceRow.{PieceRow}
use Rattle.pieces.specs.declared.head.Head.{Head}
use Rattle.pieces.proofs.RowParts.{length_map, sizes_few}
use Rattle.edits.specs.Doors.{DoorTold, delete_door_of, cut_door_of}
use Rattle.mark_moves.specs.Moved.{farthest, MarksMade, MarksShrunk, MarksCounted}
use Rattle.excisions.specs.Cutting.{TwoMade, CutOut}
use Rattle.excisions.specs.Deleting.{DeleteMade, DeletedFrom}
use Rattle.excisions.specs.declared.cutting.CutText.{CutText}
use Rattle.excisions.specs.declared.deleting.Deleted.{Deleted}
use Rattle.head_edits.specs.Closing.{MarksClosed}
use Rattle.head_edits.specs.declared.closing.MarksLeft.{MarksLeft}
use Rattle.head_edits.specs.Performing.{Counts, Any, Performs}
use Rattle.head_edits.proofs.Standing.{laid_alone, no_rows, length_placed, spelled_by, text_size, proper_of, proper_after}
use Rattle.head_edits.proofs.Settling.{TextSettled, MarksSettled, two_fresh, text_settled, marks_settled, both_settled}
use Rattle.head_edits.proofs.Deciding.{Kept, refused_by, let_in, door_tells, edit_made, performs_by, edit_shut}
use Rattle.head_edits.proofs.Removing.{delete_asks, count, count_is, cut_asks}

-- The marks.
module _ {ms ms' : List (Record MarkRow MarkTotals)} {f f' : Link} {tr : Tree} {a b : ℕ} {ru : Result Tree Unsound} (M : MarksShrunk ms ms' f f' tr a b ru) where
  pub close_no_marks : {e : Unsound} {r : Result MarksLeft Unsound} → ru ≡ Err e → MarksClosed ms ms' f f' tr a b r
  close_no_marks bad = record { closes = λ u gs L lt near. absurd (ok_err (M.shrinks u gs L lt near).ok bad) }

  module _ {ur : Tree} {rc : Result ℕ Unsound} (got : ru ≡ Ok ur) (C : MarksCounted ms' ur rc) where
    pub close_no_count : {e : Unsound} {r : Result MarksLeft Unsound} → rc ≡ Err e → MarksClosed ms ms' f f' tr a b r
    close_no_count bad = record { closes = λ u gs L lt near. let Z = M.shrinks u gs L lt near in absurd (ok_err (C.tells Z.u' (ok_same Z.ok got) Z.laid.fit) bad) }

    pub closed : {n : ℕ} → rc ≡ Ok n → MarksClosed ms ms' f f' tr a b (Ok (record { tree = ur; count = n }))
    closed {n} got-n = record {
      closes = λ u gs L lt near.
          let Z = M.shrinks u gs L lt near in
          let all : n ≡ length (shrunk a b (placed 0 (rows u))) = ok_same got-n (C.tells Z.u' (ok_same Z.ok got) Z.laid.fit) ∙ sym (length_placed 0 (rows Z.u')) ∙ ap length Z.marks in
          record {
            tree = ur;
            made = subst (λ (q : Result Tree Unsound). MarksMade ms ms' f' q (shrunk a b (placed 0 (rows u))) 1) got Z;
            ok = ap (λ (k : ℕ). Ok (record { tree = ur; count = k })) all;
          };
    }

-- What both share: the marks are near, and the edges of what goes are in order.
near : {A : Type 0} {am : List ℕ → A} {B : List ℕ} {rs : List (Record PieceRow (TextValue A))} {ms : List (Record MarkRow MarkTotals)} {h : Head} (K : Sound am B rs ms h) → gaps (rows K.u) ≤ farthest
near {B = B} K = omega (arith, K.ends, sizes_few B (rows K.t) K.good, K.text.few, K.text.most)

-- A delete, inside.
module _ {A S : Type 0} {am : List ℕ → A} {contents : S → Contents} (law : Lawful contents) {s s' : S} {rs rs' : List (Record PieceRow (TextValue A))} {f' : Link} {rt : Result Deleted Unsound}
    (h : Head) (a b : ℕ) (P : DeletedFrom am contents s s' rs rs' h.free f' h.text h.pieces a b rt) where
  record DeleteReady (ms : List (Record MarkRow MarkTotals)) (K : Sound am (contents s).bytes rs ms h) : Type 0 where
    lt : a < b
    made : DeleteMade am (contents s).bytes rs rs' f' rt (delete a b (spelled_by whole (contents s).capacity K)).pieces
    few_reads : (contents s').reads ≤ (contents s).reads + 512
    proper : Proper (delete a b (spelled_by whole (contents s).capacity K))

  delete_ready : {ms : List (Record MarkRow MarkTotals)} (K : Sound am (contents s).bytes rs ms h) → h.clip ≡ Empty → first_no (asked (spelled_by whole (contents s).capacity K) (Delete a b)) ≡ None → DeleteReady ms K
  delete_ready K i passes =
      let y = passed (asked (spelled_by whole (contents s).capacity K) (Delete a b)) passes in
      let lt : a < b = ltb-true _ _ (and_parts _ _ y.0).0 in
      let inner : b ≤ size (spelled_by whole (contents s).capacity K) = leb-true _ _ (and_parts _ _ y.0).1 in
      let le : b ≤ sizes (rows K.t) = omega (arith, text_size whole (contents s).capacity K) in
      let L : Laid (text_mean am (contents s).bytes) rs h.free h.text K.t K.fs = laid_alone i K.text in
      record {
        lt = lt;
        made = P.deletes K.t K.fs (law.within s, law.small s) K.good L (omega (arith, K.pieces, ap length (no_rows K.k (K.text.clip ∙ i)))) lt le (omega (arith, leb-true _ _ y.1.0));
        few_reads = P.few_reads K.t K.fs (law.within s, law.small s) K.good L lt le;
        proper = proper_after am (spelled_by whole (contents s).capacity K) (Delete a b) (proper_of whole (contents s).capacity K i (law.within s)) refl passes;
      }

  pub delete_no_text : {e : Unsound} {ms : List (Record MarkRow MarkTotals)} {r : Result Head Unsound} → rt ≡ Err e → Performs am contents (Delete a b) whole whole Any s s' rs rs' ms ms h r
  delete_no_text bad = performs_by (λ K i passes _. absurd (ok_err (delete_ready K i passes).made.ok bad)) P.same_bytes P.same_capacity

  module _ {ms ms' : List (Record MarkRow MarkTotals)} {e' : Link} {rc : Result MarksLeft Unsound} (C : MarksClosed ms ms' h.free_marks e' h.marks a b rc) where
    pub delete_no_marks : {e : Unsound} {r : Result Head Unsound} → rc ≡ Err e → Performs am contents (Delete a b) whole whole Any s s' rs rs' ms ms' h r
    delete_no_marks bad = performs_by (λ K i passes _. absurd (ok_err (C.closes K.u K.gs K.marks (delete_ready K i passes).lt (near K)).ok bad)) P.same_bytes P.same_capacity

    pub delete_both : {d : Deleted} {l : MarksLeft} → rt ≡ Ok d → rc ≡ Ok l
        → Performs am contents (Delete a b) whole whole Any s s' rs rs' ms ms' h (Ok (record { text = d.text; clip = h.clip; free = f'; pieces = d.pieces; marks = l.tree; free_marks = e'; mark_count = l.count }))
    delete_both {d} {l} got-d got-l = performs_by
        (λ K i passes _.
        let Y = delete_ready K i passes in
        let D = Y.made in
        let M = C.closes K.u K.gs K.marks Y.lt (near K) in
        let d-is = ok_same got-d D.ok in
        let l-is = ok_same got-l M.ok in
        let T : TextSettled am (contents s).bytes rs rs' f' whole d.text Empty (delete a b (spelled_by whole (contents s).capacity K)).pieces None = text_settled (λ k. omega arith) (ap (λ (q : Deleted). Ok q.text) (sym d-is)) D.made in
        let T' : TextSettled am (contents s').bytes rs rs' f' whole d.text h.clip (delete a b (spelled_by whole (contents s).capacity K)).pieces None =
        subst (λ (Q : List ℕ). TextSettled am Q rs rs' f' whole d.text h.clip (delete a b (spelled_by whole (contents s).capacity K)).pieces None) (sym P.same_bytes)
        (subst (λ (q : Tree). TextSettled am (contents s).bytes rs rs' f' whole d.text q (delete a b (spelled_by whole (contents s).capacity K)).pieces None) (sym i) T) in
        let U : MarksSettled ms ms' e' l.tree (delete a b (spelled_by whole (contents s).capacity K)).marks = marks_settled (omega arith) (ap (λ (q : MarksLeft). Ok q.tree) (sym l-is)) M.made in
        record {
          h' = record { text = d.text; clip = h.clip; free = f'; pieces = d.pieces; marks = l.tree; free_marks = e'; mark_count = l.count };
          ok = refl;
          done = both_settled Y.proper.marks (sym P.same_bytes) (sym P.same_capacity) refl refl T' U
              (omega (arith, ap (λ (q : Deleted). q.pieces) d-is, ap length D.made.pieces, length_map piece_of (rows D.made.t'))) (ap (λ (q : MarksLeft). q.count) l-is) Y.few_reads;
        })
        P.same_bytes P.same_capacity

-- The whole delete.
module _ {A S : Type 0} {am : List ℕ → A} {contents : S → Contents} {s : S} {rs : List (Record PieceRow (TextValue A))} {ms : List (Record MarkRow MarkTotals)} {h : Head} {a b : ℕ} {rd : Result (Unit {0}) TextFault}
    (D : DoorTold am rs h.text h.pieces (delete_door_of a b (length rs)) rd) where
  pub delete_shut : {e : TextFault} {r : Result (Unit {0}) TextFault} → rd ≡ Err e → r ≡ Err e → Edits am contents (Delete a b) whole whole s s rs rs ms ms h h r
  delete_shut bad is = edit_shut is (λ K i. delete_asks K i (contents s).capacity a b ∙ refused_by _ tt (door_tells K D) bad)

  pub delete_made : {x : Unit {0}} {s' : S} {rs' : List (Record PieceRow (TextValue A))} {ms' : List (Record MarkRow MarkTotals)} {h' : Head} {q : Result Head Unsound} {r : Result (Unit {0}) TextFault}
      → rd ≡ Ok x → Performs am contents (Delete a b) whole whole Any s s' rs rs' ms ms' h q → Kept q h' r → Edits am contents (Delete a b) whole whole s s' rs rs' ms ms' h h' r
  delete_made got P k = edit_made Any (λ K i. (delete_asks K i (contents s).capacity a b ∙ (let_in _ tt (door_tells K D) got).0, tt)) P k

-- A cut, inside.
module _ {A S : Type 0} {am : List ℕ → A} {contents : S → Contents} (law : Lawful contents) {s s' : S} {rs rs' : List (Record PieceRow (TextValue A))} {f' : Link} {rt : Result CutText Unsound}
    (h : Head) (n a b : ℕ) (P : CutOut am contents s s' rs rs' h.free f' h.text a b rt) where
  record CutReady (ms : List (Record MarkRow MarkTotals)) (K : Sound am (contents s).bytes rs ms h) : Type 0 where
    lt : a < b
    made : TwoMade am (contents s).bytes rs rs' f' rt (cut a b (spelled_by whole (contents s).capacity K)).pieces (between a b (map piece_of (rows K.t)))
    few_reads : (contents s').reads ≤ (contents s).reads + 512
    proper : Proper (cut a b (spelled_by whole (contents s).capacity K))

  cut_ready : {ms : List (Record MarkRow MarkTotals)} (K : Sound am (contents s).bytes rs ms h) → h.clip ≡ Empty → first_no (asked (spelled_by whole (contents s).capacity K) (Cut a b)) ≡ None → CutReady ms K
  cut_ready K i passes =
      let y = passed (asked (spelled_by whole (contents s).capacity K) (Cut a b)) passes in
      let lt : a < b = ltb-true _ _ (and_parts _ _ y.0).0 in
      let inner : b ≤ size (spelled_by whole (contents s).capacity K) = leb-true _ _ (and_parts _ _ y.0).1 in
      let le : b ≤ sizes (rows K.t) = omega (arith, text_size whole (contents s).capacity K) in
      let L : Laid (text_mean am (contents s).bytes) rs h.free h.text K.t K.fs = laid_alone i K.text in
      record {
        lt = lt;
        made = P.cuts K.t K.fs (law.within s, law.small s) K.good L lt le (leb-true _ _ y.1.0);
        few_reads = P.few_reads K.t K.fs (law.within s, law.small s) K.good L lt le;
        proper = proper_after am (spelled_by whole (contents s).capacity K) (Cut a b) (proper_of whole (contents s).capacity K i (law.within s)) refl passes;
      }

  pub cut_no_text : {e : Unsound} {ms : List (Record MarkRow MarkTotals)} {r : Result Head Unsound} → rt ≡ Err e → Performs am contents (Cut a b) whole held (Counts n) s s' rs rs' ms ms h r
  cut_no_text bad = performs_by (λ K i passes _. absurd (ok_err (cut_ready K i passes).made.ok bad)) P.same_bytes P.same_capacity

  -- the slice with the text's tree and the clip's
  two_settled : {q : CutText} {G H : List Piece} → rt ≡ Ok q → TwoMade am (contents s).bytes rs rs' f' rt G H → TextSettled am (contents s).bytes rs rs' f' held q.text q.clip G (Some H)
  two_settled {q} got M =
      let q-is = ok_same M.ok got in
      record {
        t = M.t';
        k = M.k';
        fs = M.fs';
        laid = subst (λ (q : CutText). LaidTwo (text_mean am (contents s).bytes) rs' f' q.text q.clip M.t' M.k' M.fs') q-is M.laid;
        clip_is = tt;
        len = M.len;
        pieces = M.pieces;
        clip = ap Some M.clipped;
        good = M.good;
        good_clip = M.good_clip;
        fresh = two_fresh M.js (max (levels M.t') (levels M.k')) M.laid M.len M.fresh (omega (arith, M.few));
      }

  module _ {ms ms' : List (Record MarkRow MarkTotals)} {e' : Link} {rc : Result MarksLeft Unsound} (C : MarksClosed ms ms' h.free_marks e' h.marks a b rc) where
    pub cut_no_marks : {e : Unsound} {r : Result Head Unsound} → rc ≡ Err e → Performs am contents (Cut a b) whole held (Counts n) s s' rs rs' ms ms' h r
    cut_no_marks bad = performs_by (λ K i passes _. absurd (ok_err (C.closes K.u K.gs K.marks (cut_ready K i passes).lt (near K)).ok bad)) P.same_bytes P.same_capacity

    pub cut_both : {q : CutText} {l : MarksLeft} → rt ≡ Ok q → rc ≡ Ok l
        → Performs am contents (Cut a b) whole held (Counts n) s s' rs rs' ms ms' h (Ok (record { text = q.text; clip = q.clip; free = f'; pieces = n; marks = l.tree; free_marks = e'; mark_count = l.count }))
    cut_both {q} {l} got-q got-l = performs_by
        (λ K i passes is-n.
        let Y = cut_ready K i passes in
        let M = C.closes K.u K.gs K.marks Y.lt (near K) in
        let l-is = ok_same got-l M.ok in
        let T : TextSettled am (contents s').bytes rs rs' f' held q.text q.clip (cut a b (spelled_by whole (contents s).capacity K)).pieces (cut a b (spelled_by whole (contents s).capacity K)).clip =
        subst (λ (Q : List ℕ). TextSettled am Q rs rs' f' held q.text q.clip (cut a b (spelled_by whole (contents s).capacity K)).pieces (cut a b (spelled_by whole (contents s).capacity K)).clip) (sym P.same_bytes) (two_settled got-q Y.made) in
        let U : MarksSettled ms ms' e' l.tree (cut a b (spelled_by whole (contents s).capacity K)).marks = marks_settled (omega arith) (ap (λ (q : MarksLeft). Ok q.tree) (sym l-is)) M.made in
        record {
          h' = record { text = q.text; clip = q.clip; free = f'; pieces = n; marks = l.tree; free_marks = e'; mark_count = l.count };
          ok = refl;
          done = both_settled Y.proper.marks (sym P.same_bytes) (sym P.same_capacity) refl refl T U is-n (ap (λ (q : MarksLeft). q.count) l-is) Y.few_reads;
        })
        P.same_bytes P.same_capacity

-- The whole cut.
module _ {A S : Type 0} {am : List ℕ → A} {contents : S → Contents} {s : S} {rs : List (Record PieceRow (TextValue A))} {ms : List (Record MarkRow MarkTotals)} {h : Head} {a b : ℕ} {rd : Result ℕ TextFault}
    (D : DoorTold am rs h.text h.pieces (cut_door_of a b (length rs)) rd) where
  pub cut_shut : {e : TextFault} {r : Result (Unit {0}) TextFault} → rd ≡ Err e → r ≡ Err e → Edits am contents (Cut a b) whole held s s rs rs ms ms h h r
  cut_shut bad is = edit_shut is (λ K i. cut_asks K i (contents s).capacity a b ∙ refused_by _ (count K i (contents s).capacity a b) (door_tells K D) bad)

  pub cut_made : {n : ℕ} {s' : S} {rs' : List (Record PieceRow (TextValue A))} {ms' : List (Record MarkRow MarkTotals)} {h' : Head} {q : Result Head Unsound} {r : Result (Unit {0}) TextFault}
      → rd ≡ Ok n → Performs am contents (Cut a b) whole held (Counts n) s s' rs rs' ms ms' h q → Kept q h' r → Edits am contents (Cut a b) whole held s s' rs rs' ms ms' h h' r
  cut_made {n} got P k = edit_made (Counts n)
      (λ K i.
      let w = let_in _ (count K i (contents s).capacity a b) (door_tells K D) got in
      let passes = cut_asks K i (contents s).capacity a b ∙ w.0 in
      let lt : a < b = ltb-true _ _ (and_parts _ _ (passed (asked (spelled_by whole (contents s).capacity K) (Cut a b)) passes).0).0 in
      (passes, w.1 ∙ count_is K i (contents s).capacity a b lt)) P k
