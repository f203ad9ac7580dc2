-- A paste is the machine's, on every way out.
use Rattle.std.proofs.Common.{◌≡◌, ℕ, ◌+◌, List, ◌++◌, map, length, None, Ok, Err, Result, sym, refl, ◌∙◌, subst, ap₂, arith, length-append}
use Rattle.std.proofs.lemmas.Bool.{leb-true}
use Rattle.plain.specs.Lists.{first_no}
use Rattle.plain.specs.Marks.{grown}
use Rattle.plain.specs.Pieces.{before, after}
use Rattle.plain.specs.Machine.{limit, paste, asked}
use Rattle.plain.specs.Laws.{Proper}
use Rattle.plain.specs.declared.calls.Call.TheVariants.{Paste}
use Rattle.plain.specs.declared.faults.TextFault.{TextFault}
use Rattle.plain.proofs.Asking.{passed}
use Rattle.plain.proofs.Marking.{length_grown}
use Rattle.measures.specs.MarkTotals.{placed}
use Rattle.measures.specs.declared.mark_totals.MarkRow.{MarkRow}
use Rattle.measures.specs.declared.mark_totals.MarkTotals.{MarkTotals}
use Rattle.stores.specs.Stores.{Contents, Lawful}
use Rattle.slots.specs.Ghost.{rows}
use Rattle.slots.specs.declared.records.Unsound.{Unsound}
use Rattle.slots.specs.Words.{Link}
use Rattle.slots.specs.declared.records.Tree.{Tree}
use Rattle.slots.specs.declared.records.Tree.TheVariants.{Empty}
use Rattle.slots.specs.declared.records.Record.{Record}
use Rattle.slots.proofs.Shapes.{ok_err, ok_same}
use Rattle.pieces.specs.Edited.{Edits}
use Rattle.pieces.specs.Leaves.{Bounded}
use Rattle.pieces.specs.Rows.{piece_of, sizes}
use Rattle.pieces.specs.Sound.{TextValue, Sound, whole, held}
use Rattle.pieces.specs.declared.rows.PieceRow.{PieceRow}
use Rattle.pieces.specs.declared.head.Head.{Head}
use Rattle.pieces.proofs.RowParts.{length_map, sizes_few}
use Rattle.edits.specs.Counts.{inside}
use Rattle.edits.specs.Doors.{paste_asked, SizeTold, DoorTold, paste_door_of}
use Rattle.edits.proofs.Counting.{halved}
use Rattle.edits.specs.Inserting.{TextMade}
use Rattle.edits.specs.Pasting.{PastedInto}
use Rattle.mark_moves.specs.Moved.{MarksMade, MarksGrown}
use Rattle.head_edits.specs.Performing.{all_pieces, Counts, Performs}
use Rattle.head_edits.proofs.Standing.{spelled_size, length_placed, spelled_by, text_size, proper_of, proper_after}
use Rattle.head_edits.proofs.Settling.{TextSettled, MarksSettled, text_settled, marks_settled, both_settled}
use Rattle.head_edits.proofs.Deciding.{Kept, refused_by, let_in, door_tells, edit_made, performs_by, edit_shut}

-- What is asked of the machine.
module _ {A : Type 0} {am : List ℕ → A} {B : List ℕ} {rs : List (Record PieceRow (TextValue A))} {ms : List (Record MarkRow MarkTotals)} {h : Head} (K : Sound am B rs ms h) (c p : ℕ) where
  -- how many pieces there are after it
  abbrev count : ℕ
  count = length (rows K.t) + length (rows K.k) + inside p (map piece_of (rows K.t))

  count_is : count ≡ all_pieces (paste p (spelled_by held c K))
  count_is = omega (arith, length-append (before p (map piece_of (rows K.t))) (map piece_of (rows K.k) ++ after p (map piece_of (rows K.t))), length-append (map piece_of (rows K.k)) (after p (map piece_of (rows K.t))), halved p (map piece_of (rows K.t)), length_map piece_of (rows K.t), length_map piece_of (rows K.k))

  asks : first_no (asked (spelled_by held c K) (Paste p)) ≡ first_no (paste_asked p (sizes (rows K.t)) count (limit (length rs)))
  asks = ap₂ (λ (z n : ℕ). first_no (paste_asked p z n (limit (length rs)))) (text_size held c K) (sym count_is)

module _ {A S : Type 0} {am : List ℕ → A} {contents : S → Contents} (law : Lawful contents) {s : S} {rs : List (Record PieceRow (TextValue A))} {rz : Result ℕ Unsound}
    (h : Head) (p n : ℕ) (Z : SizeTold am rs h.clip rz) where
  pub paste_no_size : {e : Unsound} {ms : List (Record MarkRow MarkTotals)} {r : Result Head Unsound} → rz ≡ Err e → Performs am contents (Paste p) held whole (Counts n) s s rs rs ms ms h r
  paste_no_size bad = performs_by (λ K i passes is-n. absurd (ok_err (Z.tells (contents s).bytes K.k K.text.clip K.text.fit_clip K.good_clip) bad)) refl refl

  module _ {l : ℕ} {s' : S} {rs' : List (Record PieceRow (TextValue A))} {f' : Link} {rt : Result Tree Unsound} (got-l : rz ≡ Ok l) (P : PastedInto am contents s s' rs rs' h.free f' h.text h.clip p rt) where
    bounded : Bounded contents s
    bounded = (law.within s, law.small s)

    module _ {ms : List (Record MarkRow MarkTotals)} (K : Sound am (contents s).bytes rs ms h) (passes : first_no (asked (spelled_by held (contents s).capacity K) (Paste p)) ≡ None) where
      proper : Proper (paste p (spelled_by held (contents s).capacity K))
      proper = proper_after am (spelled_by held (contents s).capacity K) (Paste p) (proper_of held (contents s).capacity K tt (law.within s)) refl passes

      put : TextMade am (contents s).bytes rs rs' f' rt (paste p (spelled_by held (contents s).capacity K)).pieces 8 2
      put = P.pastes K.t K.k K.fs bounded K.good K.good_clip K.text (omega (arith, leb-true _ _ (passed (asked (spelled_by held (contents s).capacity K) (Paste p)) passes).1.0))

      length_is : l ≡ sizes (rows K.k)
      length_is = ok_same got-l (Z.tells (contents s).bytes K.k K.text.clip K.text.fit_clip K.good_clip)

    pub paste_no_text : {e : Unsound} {ms : List (Record MarkRow MarkTotals)} {r : Result Head Unsound} → rt ≡ Err e → Performs am contents (Paste p) held whole (Counts n) s s' rs rs' ms ms h r
    paste_no_text bad = performs_by (λ K i passes is-n. absurd (ok_err (put K passes).ok bad)) P.same_bytes P.same_capacity

    module _ {ms ms' : List (Record MarkRow MarkTotals)} {e' : Link} {ru : Result Tree Unsound} (G : MarksGrown ms ms' h.free_marks e' h.marks p l ru) where
      grow : (K : Sound am (contents s).bytes rs ms h) → first_no (asked (spelled_by held (contents s).capacity K) (Paste p)) ≡ None → MarksMade ms ms' e' ru (paste p (spelled_by held (contents s).capacity K)).marks 1
      grow K passes =
          let same-l : l ≡ length (Rattle.plain.specs.Pieces.spell (contents s).bytes (map piece_of (rows K.k))) = length_is K passes ∙ sym (spelled_size (contents s).bytes (rows K.k) K.good_clip) in
          subst (λ (j : ℕ). MarksMade ms ms' e' ru (grown p j (placed 0 (rows K.u))) 1) same-l
          (G.grows K.u K.gs K.marks (omega (arith, K.ends, length_is K passes, sizes_few (contents s).bytes (rows K.t) K.good, sizes_few (contents s).bytes (rows K.k) K.good_clip, K.text.few, K.text.most)))

      pub paste_no_marks : {e : Unsound} {r : Result Head Unsound} → ru ≡ Err e → Performs am contents (Paste p) held whole (Counts n) s s' rs rs' ms ms' h r
      paste_no_marks bad = performs_by (λ K i passes is-n. absurd (ok_err (grow K passes).ok bad)) P.same_bytes P.same_capacity

      pub paste_both : {tr ur : Tree} → rt ≡ Ok tr → ru ≡ Ok ur
          → Performs am contents (Paste p) held whole (Counts n) s s' rs rs' ms ms' h (Ok (record { text = tr; clip = Empty; free = f'; pieces = n; marks = ur; free_marks = e'; mark_count = h.mark_count }))
      paste_both {tr} {ur} got-t got-u = performs_by
          (λ K i passes is-n.
          let T : TextSettled am (contents s').bytes rs rs' f' whole tr Empty (paste p (spelled_by held (contents s).capacity K)).pieces None =
          subst (λ (Q : List ℕ). TextSettled am Q rs rs' f' whole tr Empty (paste p (spelled_by held (contents s).capacity K)).pieces None) (sym P.same_bytes) (text_settled (λ d. omega arith) got-t (put K passes)) in
          let U : MarksSettled ms ms' e' ur (paste p (spelled_by held (contents s).capacity K)).marks = marks_settled (omega arith) got-u (grow K passes) in
          record {
            h' = record { text = tr; clip = Empty; free = f'; pieces = n; marks = ur; free_marks = e'; mark_count = h.mark_count };
            ok = refl;
            done = both_settled (proper K passes).marks (sym P.same_bytes) (sym P.same_capacity) refl refl T U is-n
                (omega (arith, K.count, length_grown p (length (Rattle.plain.specs.Pieces.spell (contents s).bytes (map piece_of (rows K.k)))) (placed 0 (rows K.u)), length_placed 0 (rows K.u))) (omega (arith, P.few_reads K.t K.k K.fs bounded K.good K.text));
          })
          P.same_bytes P.same_capacity

-- The whole call.
module _ {A S : Type 0} {am : List ℕ → A} {contents : S → Contents} {s : S} {rs : List (Record PieceRow (TextValue A))} {ms : List (Record MarkRow MarkTotals)} {h : Head} {p : ℕ} {rd : Result ℕ TextFault}
    (D : DoorTold am rs h.text h.pieces (paste_door_of p (length rs)) rd) where
  pub paste_shut : {e : TextFault} {r : Result (Unit {0}) TextFault} → rd ≡ Err e → r ≡ Err e → Edits am contents (Paste p) held whole s s rs rs ms ms h h r
  paste_shut bad is = edit_shut is (λ K i. asks K (contents s).capacity p ∙ refused_by _ (count K (contents s).capacity p) (door_tells K D) bad)

  pub paste_made : {n : ℕ} {s' : S} {rs' : List (Record PieceRow (TextValue A))} {ms' : List (Record MarkRow MarkTotals)} {h' : Head} {q : Result Head Unsound} {r : Result (Unit {0}) TextFault}
      → rd ≡ Ok n → Performs am contents (Paste p) held whole (Counts n) s s' rs rs' ms ms' h q → Kept q h' r → Edits am contents (Paste p) held whole s s' rs rs' ms ms' h h' r
  paste_made {n} got P k = edit_made (Counts n)
      (λ K i. let w = let_in _ (count K (contents s).capacity p) (door_tells K D) got in (asks K (contents s).capacity p ∙ w.0, w.1 ∙ count_is K (contents s).capacity p)) P k
