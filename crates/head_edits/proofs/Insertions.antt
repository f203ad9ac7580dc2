-- An insert is the machine's, on every way out.
use Rattle.std.proofs.Common.{◌≡◌, ℕ, ◌+◌, ◌-◌, ◌*◌, ◌≤◌, min, Bool, cond, leb, List, [], ◌∷◌, ◌++◌, map, length, take, drop, Some, None, Ok, Err, Result, sym, refl, ap, ◌∙◌, subst, ap₂, inr, append-nil, arith, length-append}
use lib.Seq.{take-length, drop-append_seam}
use Rattle.std.proofs.lemmas.Bool.{leb-true, le-leb, lt-leb, and_parts}
use Rattle.plain.specs.Lists.{first_no}
use Rattle.plain.specs.Pieces.{Piece, piece, before, after}
use Rattle.plain.specs.Machine.{Machine, limit, insert, asked, full}
use Rattle.plain.specs.Laws.{Proper}
use Rattle.plain.specs.declared.calls.Call.TheVariants.{Insert}
use Rattle.plain.specs.declared.faults.StoreFull.{StoreFull}
use Rattle.plain.specs.declared.faults.TextFault.{TextFault}
use Rattle.plain.specs.declared.faults.TextFault.TheVariants as fault
use Rattle.plain.proofs.Asking.{passed}
use Rattle.plain.proofs.Spelling.{good_more}
use Rattle.plain.proofs.Marking.{length_grown}
use Rattle.measures.specs.Law.{weights, heaviest}
use Rattle.measures.specs.MarkTotals.{placed}
use Rattle.measures.specs.declared.mark_totals.MarkRow.{MarkRow}
use Rattle.measures.specs.declared.mark_totals.MarkTotals.{MarkTotals}
use Rattle.stores.specs.Stores.{Contents, Lawful, Taken, Refused}
use Rattle.slots.specs.Ghost.{rows}
use Rattle.slots.specs.declared.records.Unsound.{Unsound}
use Rattle.slots.specs.Words.{Link}
use Rattle.slots.specs.declared.records.Tree.{Tree}
use Rattle.slots.specs.declared.records.Tree.TheVariants.{Empty}
use Rattle.slots.specs.declared.records.Record.{Record}
use Rattle.slots.proofs.Shapes.{ok_err}
use Rattle.pieces.specs.Edited.{Edits}
use Rattle.pieces.specs.Leaves.{Bounded}
use Rattle.pieces.specs.Rows.{row, piece_of, bytes_of, Good, AllGood, sizes}
use Rattle.pieces.specs.Sound.{TextValue, text_means, text_mean, Laid, Sound, whole}
use Rattle.pieces.specs.declared.rows.PieceRow.{PieceRow}
use Rattle.pieces.specs.declared.head.Head.{Head}
use Rattle.pieces.proofs.FitMore.{fit_more}
use Rattle.pieces.proofs.PartRead.{weights_ones}
use Rattle.pieces.proofs.RowParts.{length_map, sizes_few}
use Rattle.edits.specs.Counts.{inside}
use Rattle.edits.specs.Doors.{insert_asked, DoorTold, insert_door_of}
use Rattle.edits.proofs.Counting.{halved}
use Rattle.edits.specs.Inserting.{TextMade, PutInto}
use Rattle.mark_moves.specs.Moved.{MarksMade, MarksGrown}
use Rattle.head_edits.specs.Performing.{all_pieces, Makes, Inserts}
use Rattle.head_edits.proofs.Standing.{laid_alone, no_rows, length_placed, spelled_by, text_size, proper_of, proper_after}
use Rattle.head_edits.proofs.Settling.{TextSettled, MarksSettled, text_settled, marks_settled, both_settled}
use Rattle.head_edits.proofs.Deciding.{Kept, first_more, first_rest, refused_by, let_in, door_tells, edit_refused, edit_kept, edit_shut}

-- the last bytes of a store
last_bytes : (B x : List ℕ) → take (length x) (drop (length B) (B ++ x)) ≡ x
last_bytes B x = ap (take (length x)) (drop-append_seam B x) ∙ take-length x

-- a text within the limits is not longer than marks may lie
pub short_text : (B : List ℕ) (xs : List PieceRow) (w : ℕ) → AllGood B xs → length xs ≤ limit w → w ≤ 8316 → sizes xs ≤ 256 * 4094
short_text B xs w g few most = omega (arith, sizes_few B xs g)

-- What is asked of the machine.
module _ {A : Type 0} {am : List ℕ → A} {B : List ℕ} {rs : List (Record PieceRow (TextValue A))} {ms : List (Record MarkRow MarkTotals)} {h : Head} (K : Sound am B rs ms h) (i : h.clip ≡ Empty) (c p : ℕ) (x : List ℕ) where
  -- how many pieces there are after it
  abbrev count : ℕ
  count = length (rows K.t) + length (rows K.k) + inside p (map piece_of (rows K.t)) + 1

  count_is : count ≡ all_pieces (insert p x (spelled_by whole c K))
  count_is = omega (arith, length-append (before p (map piece_of (rows K.t))) (piece (length B) (length x) ∷ after p (map piece_of (rows K.t))), halved p (map piece_of (rows K.t)), length_map piece_of (rows K.t), ap length (no_rows K.k (K.text.clip ∙ i)))

  abbrev store_asked : List (Bool × TextFault)
  store_asked = (leb (length x) (c - length B), fault.Store (full (spelled_by whole c K))) ∷ []

  asks : first_no (asked (spelled_by whole c K) (Insert p x)) ≡ first_no (insert_asked (length x) p (sizes (rows K.t)) count (limit (length rs)) ++ store_asked)
  asks = ap₂ (λ (z n : ℕ). first_no (insert_asked (length x) p z n (limit (length rs)) ++ store_asked)) (text_size whole c K) (sym count_is)

-- The text's slice and the marks', once the store has the bytes x.
module _ {A S : Type 0} {am : List ℕ → A} {contents : S → Contents} (law : Lawful contents) {s s' : S} {rs rs' : List (Record PieceRow (TextValue A))} {f' : Link} {a l : ℕ} {v : TextValue A} {rt : Result Tree Unsound}
    (h : Head) (p n : ℕ) (x : List ℕ) (is-l : l ≡ min (length x) 256) (V : weights (λ _. 1) x ≤ heaviest → v ≡ text_means am x)
    (P : PutInto am contents s s' rs rs' h.free f' h.text p (row a l) v rt) where
  bounded : Bounded contents s
  bounded = (law.within s, law.small s)

  -- memory spelled a machine over the bytes B, and it does not refuse
  record Ready (B : List ℕ) (ms : List (Record MarkRow MarkTotals)) (K : Sound am B rs ms h) : Type 0 where
    least : 1 ≤ length x
    most : length x ≤ 256
    there : p ≤ sizes (rows K.t)
    few : all_pieces (insert p x (spelled_by whole (contents s).capacity K)) ≤ limit (length rs)
    good : AllGood (contents s).bytes (rows K.t)
    laid : Laid (text_mean am (contents s).bytes) rs h.free h.text K.t K.fs
    new : Good (contents s).bytes (row a l)
    value : v ≡ text_mean am (contents s).bytes (row a l ∷ [])
    proper : Proper (insert p x (spelled_by whole (contents s).capacity K))

  module _ (B : List ℕ) (ms : List (Record MarkRow MarkTotals)) (K : Sound am B rs ms h) (i : h.clip ≡ Empty) (grown : (contents s).bytes ≡ B ++ x) (is-a : a ≡ length B)
      (passes : first_no (asked (spelled_by whole (contents s).capacity K) (Insert p x)) ≡ None) where
    ready : Ready B ms K
    ready =
        let y = passed (asked (spelled_by whole (contents s).capacity K) (Insert p x)) passes in
        let least : 1 ≤ length x = leb-true 1 (length x) (and_parts _ _ y.0).0 in
        let most : length x ≤ 256 = leb-true (length x) 256 (and_parts _ _ y.0).1 in
        let same-l : l ≡ length x = omega arith in
        let alone : Laid (text_mean am B) rs h.free h.text K.t K.fs = laid_alone i K.text in
        let more : Laid (text_mean am (B ++ x)) rs h.free h.text K.t K.fs = record {
          tree = alone.tree;
          first = alone.first;
          fit = fit_more am B x rs K.t 0 K.good alone.fit;
          chain = alone.chain;
          once = alone.once;
          few = alone.few;
          least = alone.least;
          most = alone.most;
        } in
        record {
          least = least;
          most = most;
          there = omega (arith, leb-true _ _ y.1.0, text_size whole (contents s).capacity K);
          few = leb-true _ _ y.1.1.0;
          good = subst (λ (Q : List ℕ). AllGood Q (rows K.t)) (sym grown) (good_more B x (map piece_of (rows K.t)) K.good);
          laid = subst (λ (Q : List ℕ). Laid (text_mean am Q) rs h.free h.text K.t K.fs) (sym grown) more;
          new = (omega arith, omega arith, omega (arith, ap length grown, length-append B x));
          value = V (omega (arith, weights_ones x)) ∙ ap (text_means am) (sym (append-nil (bytes_of (contents s).bytes (row a l)) ∙ ap (λ (Q : List ℕ). take l (drop a Q)) grown ∙ ap₂ (λ (j k : ℕ). take j (drop k (B ++ x))) same-l is-a ∙ last_bytes B x));
          proper = proper_after am (spelled_by whole (contents s).capacity K) (Insert p x) (proper_of whole (contents s).capacity K i (omega (arith, law.within s, ap length grown, length-append B x))) refl passes;
        }

    put : TextMade am (contents s).bytes rs rs' f' rt (insert p x (spelled_by whole (contents s).capacity K)).pieces 4 3
    put =
        let Y = ready in
        let g : List Piece = map piece_of (rows K.t) in
        let same-l : l ≡ length x = omega (arith, Y.most) in
        let same-piece : piece_of (row a l) ≡ piece (length B) (length x) = ap₂ piece is-a same-l in
        let G : before p g ++ (piece_of (row a l) ∷ after p g) ≡ before p g ++ (piece (length B) (length x) ∷ after p g) = ap (λ (y : Piece). before p g ++ (y ∷ after p g)) same-piece in
        subst (λ (g : List Piece). TextMade am (contents s).bytes rs rs' f' rt g 4 3) G
        (P.puts K.t K.fs bounded Y.good Y.laid Y.new Y.value (omega (arith, ap length G, Y.few)))

  pub put_no_text : {e : Unsound} {ms : List (Record MarkRow MarkTotals)} {r : Result Head Unsound} → rt ≡ Err e → Inserts am contents p x n a s s' rs rs' ms ms h r
  put_no_text {ms = ms} bad = record {
    makes = λ B m K grown is-a passes is-n.
        absurd (ok_err (put B ms K.sound K.clipped grown is-a (subst (λ (m : Machine). first_no (asked m (Insert p x)) ≡ None) K.machine passes)).ok bad);
    same_bytes = P.same_bytes;
    same_capacity = P.same_capacity;
  }

  module _ {ms ms' : List (Record MarkRow MarkTotals)} {e' : Link} {ru : Result Tree Unsound} (G : MarksGrown ms ms' h.free_marks e' h.marks p l ru) where
    grow : (B : List ℕ) (K : Sound am B rs ms h) (i : h.clip ≡ Empty) → (contents s).bytes ≡ B ++ x → a ≡ length B → first_no (asked (spelled_by whole (contents s).capacity K) (Insert p x)) ≡ None
        → MarksMade ms ms' e' ru (insert p x (spelled_by whole (contents s).capacity K)).marks 1
    grow B K i grown is-a passes =
        let Y = ready B ms K i grown is-a passes in
        let same-l : l ≡ length x = omega (arith, Y.most) in
        subst (λ (j : ℕ). MarksMade ms ms' e' ru (Rattle.plain.specs.Marks.grown p j (placed 0 (rows K.u))) 1) same-l
        (G.grows K.u K.gs K.marks (omega (arith, K.ends, short_text B (rows K.t) (length rs) K.good (omega (arith, K.text.few)) K.text.most, Y.most)))

    pub put_no_marks : {e : Unsound} {r : Result Head Unsound} → ru ≡ Err e → Inserts am contents p x n a s s' rs rs' ms ms' h r
    put_no_marks bad = record {
      makes = λ B m K grown is-a passes is-n.
          absurd (ok_err (grow B K.sound K.clipped grown is-a (subst (λ (m : Machine). first_no (asked m (Insert p x)) ≡ None) K.machine passes)).ok bad);
      same_bytes = P.same_bytes;
      same_capacity = P.same_capacity;
    }

    pub put_both : {tr ur : Tree} → rt ≡ Ok tr → ru ≡ Ok ur
        → Inserts am contents p x n a s s' rs rs' ms ms' h (Ok (record { text = tr; clip = h.clip; free = f'; pieces = n; marks = ur; free_marks = e'; mark_count = h.mark_count }))
    put_both {tr} {ur} got-t got-u = record {
      makes = λ B m K grown is-a passes is-n.
          let passes' : first_no (asked (spelled_by whole (contents s).capacity K.sound) (Insert p x)) ≡ None = subst (λ (m : Machine). first_no (asked m (Insert p x)) ≡ None) K.machine passes in
          let is-n' : n ≡ all_pieces (insert p x (spelled_by whole (contents s).capacity K.sound)) = subst (λ (m : Machine). n ≡ all_pieces (insert p x m)) K.machine is-n in
          subst (λ (m : Machine). Makes am contents s s' rs rs' ms ms' whole (insert p x m) (Ok head)) (sym K.machine) (made B K.sound K.clipped grown is-a passes' is-n');
      same_bytes = P.same_bytes;
      same_capacity = P.same_capacity;
    }
      where
        head : Head
        head = record { text = tr; clip = h.clip; free = f'; pieces = n; marks = ur; free_marks = e'; mark_count = h.mark_count }

        made : (B : List ℕ) (K : Sound am B rs ms h) (i : h.clip ≡ Empty) → (contents s).bytes ≡ B ++ x → a ≡ length B → first_no (asked (spelled_by whole (contents s).capacity K) (Insert p x)) ≡ None
            → n ≡ all_pieces (insert p x (spelled_by whole (contents s).capacity K)) → Makes am contents s s' rs rs' ms ms' whole (insert p x (spelled_by whole (contents s).capacity K)) (Ok head)
        made B K i grown is-a passes is-n =
            let Y = ready B ms K i grown is-a passes in
            let T : TextSettled am (contents s).bytes rs rs' f' whole tr Empty (insert p x (spelled_by whole (contents s).capacity K)).pieces None = text_settled (λ d. omega arith) got-t (put B ms K i grown is-a passes) in
            let T' : TextSettled am (contents s').bytes rs rs' f' whole tr h.clip (insert p x (spelled_by whole (contents s).capacity K)).pieces None =
            subst (λ (Q : List ℕ). TextSettled am Q rs rs' f' whole tr h.clip (insert p x (spelled_by whole (contents s).capacity K)).pieces None) (sym P.same_bytes)
            (subst (λ (q : Tree). TextSettled am (contents s).bytes rs rs' f' whole tr q (insert p x (spelled_by whole (contents s).capacity K)).pieces None) (sym i) T) in
            let U : MarksSettled ms ms' e' ur (insert p x (spelled_by whole (contents s).capacity K)).marks = marks_settled (omega arith) got-u (grow B K i grown is-a passes) in
            record {
              h' = head;
              ok = refl;
              done = both_settled Y.proper.marks (sym (P.same_bytes ∙ grown)) (sym P.same_capacity) refl refl T' U is-n
                  (omega (arith, K.count, length_grown p (length x) (placed 0 (rows K.u)), length_placed 0 (rows K.u))) (omega (arith, P.few_reads K.t K.fs bounded Y.good Y.laid));
            }

-- The whole call.
module _ {A S : Type 0} {am : List ℕ → A} {contents : S → Contents} {s : S} {rs : List (Record PieceRow (TextValue A))} {ms : List (Record MarkRow MarkTotals)} {h : Head} {p : ℕ} {x : List ℕ} {rd : Result ℕ TextFault}
    (D : DoorTold am rs h.text h.pieces (insert_door_of (length x) p (length rs)) rd) where
  pub insert_shut : {e : TextFault} {r : Result (Unit {0}) TextFault} → rd ≡ Err e → r ≡ Err e → Edits am contents (Insert p x) whole whole s s rs rs ms ms h h r
  insert_shut bad is = edit_shut is (λ K i. asks K i (contents s).capacity p x ∙ first_more (insert_asked (length x) p (sizes (rows K.t)) (count K i (contents s).capacity p x) (limit (length rs))) (store_asked K i (contents s).capacity p x) (refused_by _ (count K i (contents s).capacity p x) (door_tells K D) bad))

  module _ {n : ℕ} (got : rd ≡ Ok n) where
    pub insert_full : {s' : S} {e : StoreFull} {r : Result (Unit {0}) TextFault} → Refused (contents s).bytes (contents s).capacity x e (contents s').bytes → (contents s').capacity ≡ (contents s).capacity → (contents s').reads ≡ (contents s).reads → r ≡ Err (fault.Store e)
        → Edits am contents (Insert p x) whole whole s s' rs rs ms ms h h r
    insert_full {s'} {e} F same-c same-r is = edit_refused
        (λ K i.
        let past : first_no (asked (spelled_by whole (contents s).capacity K) (Insert p x)) ≡ first_no (store_asked K i (contents s).capacity p x) =
        asks K i (contents s).capacity p x ∙ first_rest (insert_asked (length x) p (sizes (rows K.t)) (count K i (contents s).capacity p x) (limit (length rs))) (store_asked K i (contents s).capacity p x) (let_in _ (count K i (contents s).capacity p x) (door_tells K D) got).0 in
        let shut : first_no (store_asked K i (contents s).capacity p x) ≡ Some (fault.Store (full (spelled_by whole (contents s).capacity K))) =
        ap (λ (b : Bool). cond b None (Some (fault.Store (full (spelled_by whole (contents s).capacity K))))) (lt-leb (length x) ((contents s).capacity - length (contents s).bytes) F.too_long) in
        let same_full : full (spelled_by whole (contents s).capacity K) ≡ e = ap₂ (λ (l k : ℕ). record { length = l; spare = k }) (sym F.length_told) (sym F.spare_told) in
        (fault.Store e, past ∙ shut ∙ ap (λ (q : StoreFull). Some (fault.Store q)) same_full, is))
        (record { head = refl; slots = refl; marks = refl; same_bytes = F.same; same_capacity = same-c; same_reads = same-r })

    pub insert_made : {s₁ s' : S} {a : ℕ} {rs' : List (Record PieceRow (TextValue A))} {ms' : List (Record MarkRow MarkTotals)} {h' : Head} {q : Result Head Unsound} {r : Result (Unit {0}) TextFault}
        → Taken (contents s).bytes (contents s).capacity x a (contents s₁).bytes → (contents s₁).capacity ≡ (contents s).capacity → (contents s₁).reads ≡ (contents s).reads → Inserts am contents p x n a s₁ s' rs rs' ms ms' h q → Kept q h' r
        → Edits am contents (Insert p x) whole whole s s' rs rs' ms ms' h h' r
    insert_made {s₁} {s'} {a} {rs'} {ms'} {h'} {q} {r} F same-c same-r P k = edit_kept
        (λ K i.
        let i-n = let_in _ (count K i (contents s).capacity p x) (door_tells K D) got in
        let all : first_no (asked (spelled_by whole (contents s).capacity K) (Insert p x)) ≡ None =
        asks K i (contents s).capacity p x ∙ first_rest (insert_asked (length x) p (sizes (rows K.t)) (count K i (contents s).capacity p x) (limit (length rs))) (store_asked K i (contents s).capacity p x) i-n.0
        ∙ ap (λ (b : Bool). cond b None (Some (fault.Store (full (spelled_by whole (contents s).capacity K))))) (le-leb (length x) ((contents s).capacity - length (contents s).bytes) F.fits) in
        let M : Makes am contents s₁ s' rs rs' ms ms' whole (insert p x (spelled_by whole (contents s).capacity K)) q =
        P.makes (contents s).bytes (spelled_by whole (contents s).capacity K)
        (record { sound = K; clipped = i; machine = ap (λ (c : ℕ). spelled_by whole c K) (sym same-c) }) F.grown F.begins all (i-n.1 ∙ count_is K i (contents s).capacity p x) in (
          all,
          record {
            h' = M.h';
            ok = M.ok;
            done = record {
              spells = M.done.spells;
              text_fresh = M.done.text_fresh;
              mark_fresh = M.done.mark_fresh;
              few_reads = omega (arith, M.done.few_reads);
            };
          },
        ))
        k (inr (P.same_bytes ∙ F.grown)) (P.same_capacity ∙ same-c)
