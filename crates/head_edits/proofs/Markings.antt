-- A mark is the machine's, on every way out.
use Rattle.std.proofs.Common.{◌≡◌, ℕ, ◌+◌, ◌<◌, ◌≤◌, List, min, length, None, Ok, Err, Result, sym, refl, ap, ◌∙◌, inl, arith}
use Rattle.std.proofs.lemmas.Bool.{leb-true, ltb-true}
use Rattle.plain.specs.Lists.{first_no}
use Rattle.plain.specs.Machine.{size, limit, watched, mark, asked}
use Rattle.plain.specs.declared.calls.Call.TheVariants.{Mark}
use Rattle.plain.specs.declared.faults.TextFault.{TextFault}
use Rattle.plain.proofs.Asking.{passed}
use Rattle.plain.proofs.Marking.{length_marked, ordered_marked}
use Rattle.measures.specs.MarkTotals.{placed}
use Rattle.measures.specs.declared.mark_totals.MarkRow.{MarkRow}
use Rattle.measures.specs.declared.mark_totals.MarkTotals.{MarkTotals}
use Rattle.stores.specs.Stores.{Contents}
use Rattle.slots.specs.Ghost.{rows}
use Rattle.slots.specs.declared.records.Unsound.{Unsound}
use Rattle.slots.specs.Words.{Link}
use Rattle.slots.specs.declared.records.Tree.{Tree}
use Rattle.slots.specs.declared.records.Record.{Record}
use Rattle.slots.proofs.Shapes.{ok_err, ok_same}
use Rattle.pieces.specs.Asked.{result_of}
use Rattle.pieces.specs.Edited.{Edits}
use Rattle.pieces.specs.Rows.{piece_of, sizes}
use Rattle.pieces.specs.Sound.{TextValue, Sound, whole}
use Rattle.pieces.specs.declared.rows.PieceRow.{PieceRow}
use Rattle.pieces.specs.declared.head.Head.{Head}
use Rattle.pieces.proofs.RowParts.{length_map, sizes_few}
use Rattle.edits.specs.Doors.{mark_asked, SizeTold}
use Rattle.mark_moves.specs.Moved.{MarksMade, MarkPut}
use Rattle.head_edits.proofs.Standing.{no_rows, length_placed, spelled_by, text_size, in_order}
use Rattle.head_edits.proofs.Settling.{MarksSettled, text_same, marks_settled, both_settled}
use Rattle.head_edits.proofs.Deciding.{Kept, refused_by, let_in, edit_kept, edit_shut, edit_barred}

-- the head with a tree of one mark more, where there is one
abbrev pub marked : Head → Result Tree Unsound → Link → Result Head Unsound
marked h (Ok x) f = Ok (record {
  text = h.text;
  clip = h.clip;
  free = h.free;
  pieces = h.pieces;
  marks = x;
  free_marks = f;
  mark_count = min (h.mark_count + 1) 4294967295;
})
marked h (Err e) f = Err e

three : {X Y Z W : Type 0} (f : X → Y → Z → W) {a b : X} {c d : Y} {e g : Z} → a ≡ b → c ≡ d → e ≡ g → f a c e ≡ f b d g
three f p q r = cc

-- The store, which is not lent, has any contents s.
module _ {A : Type 0} {am : List ℕ → A} {rs : List (Record PieceRow (TextValue A))} {ms : List (Record MarkRow MarkTotals)} {h : Head} {rz : Result ℕ Unsound} (s : Contents) (q l : ℕ) (Z : SizeTold am rs h.text rz) where
  pub mark_no_size : {e : Unsound} {r : Result (Unit {0}) TextFault} → rz ≡ Err e → Edits am (λ (t : Contents). t) (Mark q l) whole whole s s rs rs ms ms h h r
  mark_no_size bad = edit_barred (λ K. ok_err (Z.tells s.bytes K.t K.text.tree K.text.fit K.good) bad)

  module _ {n lim : ℕ} {rm : Result (Unit {0}) TextFault} (got : rz ≡ Ok n) (is-lim : lim ≡ limit (watched (length ms))) (is-rm : rm ≡ result_of (first_no (mark_asked q n h.mark_count lim)) tt) where
    asks : (K : Sound am s.bytes rs ms h) → first_no (asked (spelled_by whole s.capacity K) (Mark q l)) ≡ first_no (mark_asked q n h.mark_count lim)
    asks K =
        let size_is : n ≡ sizes (rows K.t) = ok_same got (Z.tells s.bytes K.t K.text.tree K.text.fit K.good) in
        let lim_is : lim ≡ limit (length ms) = is-lim ∙ ap limit (omega (arith, K.marks.most)) in
        three (λ (z m k : ℕ). first_no (mark_asked q z m k)) (text_size whole s.capacity K ∙ sym size_is) (length_placed 0 (rows K.u) ∙ sym K.count) (sym lim_is)

    pub mark_shut : {e : TextFault} {r : Result (Unit {0}) TextFault} → rm ≡ Err e → r ≡ Err e → Edits am (λ (t : Contents). t) (Mark q l) whole whole s s rs rs ms ms h h r
    mark_shut bad is = edit_shut is (λ K i. asks K ∙ refused_by _ tt is-rm bad)

    pub mark_made : {x : Unit {0}} {ms' : List (Record MarkRow MarkTotals)} {f' : Link} {ru : Result Tree Unsound} {h' : Head} {r : Result (Unit {0}) TextFault}
        → rm ≡ Ok x → MarkPut ms ms' h.free_marks f' h.marks q l ru → Kept (marked h ru f') h' r → Edits am (λ (t : Contents). t) (Mark q l) whole whole s s rs rs ms ms' h h' r
    mark_made {ms' = ms'} {f'} {ru} ok P k = edit_kept
        (λ K i.
        let passes : first_no (asked (spelled_by whole s.capacity K) (Mark q l)) ≡ None = asks K ∙ (let_in _ tt is-rm ok).0 in
        let y = passed (asked (spelled_by whole s.capacity K) (Mark q l)) passes in
        let there : q ≤ sizes (rows K.t) = omega (arith, leb-true _ _ y.0, text_size whole s.capacity K) in
        let fewer : length (rows K.u) < limit (length ms) = omega (arith, ltb-true _ _ y.1.0, length_placed 0 (rows K.u)) in
        let short : sizes (rows K.t) ≤ 2000000 = omega (arith, sizes_few s.bytes (rows K.t) K.good, K.text.few, K.text.most) in
        let M : MarksMade ms ms' f' ru (mark q l (spelled_by whole s.capacity K)).marks 2 = P.puts K.u K.gs K.marks fewer (omega arith) (omega (arith, K.ends)) in
        let U : MarksSettled ms ms' f' _ (mark q l (spelled_by whole s.capacity K)).marks = marks_settled (omega arith) M.ok M in (
          passes,
          record {
            h' = _;
            ok = ap (λ (u : Result Tree Unsound). marked h u f') M.ok;
            done = both_settled (ordered_marked q l 0 (size (spelled_by whole s.capacity K)) (placed 0 (rows K.u)) (omega arith) (omega (arith, there, text_size whole s.capacity K)) (in_order whole s.capacity K)) refl refl refl refl
                (text_same whole K i) U (omega (arith, K.pieces, length_map piece_of (rows K.t), ap length (no_rows K.k (K.text.clip ∙ i))))
                (omega (arith, K.count, length_marked q l (placed 0 (rows K.u)), length_placed 0 (rows K.u), fewer, K.marks.most)) (omega arith);
          },
        ))
        k (inl refl) refl
