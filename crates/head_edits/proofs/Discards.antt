-- A clip given up: its slots are free, and the text is as it was.
use Rattle.std.proofs.Common.{◌≡◌, ℕ, ◌-◌, max, List, [], map, length, None, Ok, Result, refl, ap, ◌∙◌, inl, arith}
use Rattle.std.specs.Result.{result_unwrap_or}
use Rattle.plain.specs.declared.calls.Call.TheVariants.{Discard}
use Rattle.measures.specs.declared.mark_totals.MarkRow.{MarkRow}
use Rattle.measures.specs.declared.mark_totals.MarkTotals.{MarkTotals}
use Rattle.stores.specs.Stores.{Contents}
use Rattle.slots.specs.Ghost.{nil, named, rows, levels, occ}
use Rattle.slots.specs.declared.records.Unsound.{Unsound}
use Rattle.slots.specs.Words.{Link}
use Rattle.slots.specs.declared.records.Tree.TheVariants.{Empty}
use Rattle.slots.specs.declared.records.Record.{Record}
use Rattle.slots.proofs.Counts.{named_le}
use Rattle.slots.proofs.Frames.{frame}
use Rattle.release.specs.Post.{Back, Released}
use Rattle.pieces.specs.Edited.{Edits}
use Rattle.pieces.specs.Rows.{piece_of}
use Rattle.pieces.specs.Sound.{TextValue, text_mean, LaidTwo, Sound, whole, held}
use Rattle.pieces.specs.declared.rows.PieceRow.{PieceRow}
use Rattle.pieces.specs.declared.head.Head.{Head}
use Rattle.pieces.proofs.RowParts.{length_map}
use Rattle.edits.proofs.Supplies.{few_most}
use Rattle.head_edits.proofs.Standing.{length_placed, in_order}
use Rattle.head_edits.proofs.Settling.{TextSettled, marks_same, two_fresh, both_settled}
use Rattle.head_edits.proofs.Deciding.{kept, edit_kept}

module _ {A : Type 0} {am : List ℕ → A} {rs rs' : List (Record PieceRow (TextValue A))} {f' : Link} {h : Head} {rr : Result ℕ Unsound} (R : Released rs rs' h.free f' h.clip rr) where
  module _ {B : List ℕ} {ms : List (Record MarkRow MarkTotals)} (K : Sound am B rs ms h) where
    back : Back rs rs' f' rr (occ K.k) (length (rows K.k)) K.fs
    back = R.frees (text_mean am B) K.k K.fs K.text.clip K.text.first K.text.fit_clip K.text.chain (λ i. omega (arith, K.text.once i, named_le (length rs) i))
        (few_most (length (rows K.k)) (length rs) (omega (arith, K.text.few)) K.text.most)

    left_alone : TextSettled am B rs rs' f' whole h.text Empty (map piece_of (rows K.t)) None
    left_alone =
        let Z = back in
        let L : LaidTwo (text_mean am B) rs' f' h.text Empty K.t nil Z.fs' = record {
          tree = K.text.tree;
          clip = refl;
          first = Z.first;
          fit = frame Z.frame (text_mean am B) K.t 0 (λ i. omega (arith, K.text.once i, named_le (length rs) i)) K.text.fit;
          fit_clip = tt;
          chain = Z.chain;
          once = λ i. omega (arith, K.text.once i, Z.kept i, ap (λ (n : ℕ). named n i) Z.frame.len);
          few = omega (arith, K.text.few, Z.frame.len);
          least = omega (arith, K.text.least, Z.frame.len);
          most = omega (arith, K.text.most, Z.frame.len);
        } in
        record {
          t = K.t;
          k = nil;
          fs = Z.fs';
          laid = L;
          clip_is = refl;
          len = Z.frame.len;
          pieces = refl;
          clip = refl;
          good = K.good;
          good_clip = tt;
          fresh = two_fresh [] (max (levels K.t) 0) L Z.frame.len (λ i z. Z.calm i) (omega arith);
        }

  pub discarded : {gone n : ℕ} → gone ≡ result_unwrap_or rr 0 → n ≡ h.pieces - gone → (ms : List (Record MarkRow MarkTotals)) (s : Contents)
      → Edits am (λ (t : Contents). t) Discard held whole s s rs rs' ms ms h (record { text = h.text; clip = Empty; free = f'; pieces = n; marks = h.marks; free_marks = h.free_marks; mark_count = h.mark_count }) (Ok tt)
  discarded {gone} {n} is-gone is-n ms s = edit_kept {q = Ok _}
      (λ K i.
      let all : gone ≡ length (rows K.k) = is-gone ∙ ap (λ (r : Result ℕ Unsound). result_unwrap_or r 0) (back K).ok in (
        refl,
        record {
          h' = _;
          ok = refl;
          done = both_settled (in_order held s.capacity K) refl refl refl refl (left_alone K) (marks_same K) (omega (arith, K.pieces, length_map piece_of (rows K.t))) (omega (arith, K.count, length_placed 0 (rows K.u))) (omega arith);
        },
      ))
      (kept refl) (inl refl) refl
