-- The paths of the question on a range.
use Rattle.std.proofs.Common.{◌≡◌, ℕ, ◌+◌, ◌-◌, ◌<◌, ◌≤◌, min, List, [], ◌∷◌, ◌++◌, length, take, drop, Some, None, Ok, Err, Option, Result, sym, refl, ap, ◌∙◌, subst, ⊎_elim, arith, length-append, length-drop, length-take, take_all}
use lib.Seq.{take-append-le, take-append-add, drop-append-le, drop-append-add}
use Rattle.std.proofs.lemmas.Bool.{ltb-true, ltb-false}
use Rattle.plain.specs.Lists.{slice}
use Rattle.measures.specs.Law.{weights, heaviest, Joins}
use Rattle.measures.specs.declared.totals.Totals.{Totals}
use Rattle.stores.specs.Stores.{Contents}
use Rattle.slots.specs.Ghost.{rows}
use Rattle.slots.specs.Values.{flat}
use Rattle.slots.specs.declared.records.Record.{Record}
use Rattle.slots.specs.declared.records.Tree.{Tree}
use Rattle.slots.specs.declared.records.Unsound.{Unsound}
use Rattle.slots.proofs.Shapes.{ok_err, ok_same}
use Rattle.seek.specs.Places.{NotYet}
use Rattle.pieces.specs.Rows.{bytes_of, AllGood, sizes}
use Rattle.pieces.specs.Sound.{TextValue, text_means}
use Rattle.pieces.specs.declared.rows.PieceRow.{PieceRow}
use Rattle.pieces.proofs.PartRead.{weights_ones}
use Rattle.pieces.proofs.RowParts.{sizes_append, all_append, all_left, all_right, flat_size, light}
use Rattle.asking.specs.Rows.{TurnsIn, RowFound, RowSought}
use Rattle.asking.specs.Texts.{TextAt, Reads, SliceMeasured, Answered}
use Rattle.asking.proofs.PartPaths.{reads_none}
use Rattle.asking.proofs.RowTurns.{some_none, some_same}
use Rattle.asking.proofs.TextPlaces.{past, low, high, before_is, front_of_row, row_size, light_text, Inside, inside_of, never_lost, past_all, inside}
use Rattle.questions.specs.Ranges.{RestMeasured}

-- an offset lies in one row only
same_rest : (p : ℕ) (xs : List PieceRow) (x : PieceRow) (ys xs' : List PieceRow) (x' : PieceRow) (ys' : List PieceRow) → xs ++ (x ∷ ys) ≡ xs' ++ (x' ∷ ys')
    → sizes xs ≤ p → p < sizes xs + x.length → sizes xs' ≤ p → p < sizes xs' + x'.length → ys' ≡ ys
same_rest p [] x ys [] x' ys' e lo hi lo' hi' = cc
same_rest p [] x ys (y ∷ xs') x' ys' e lo hi lo' hi' = let same : x ≡ y = cc in absurd (omega (arith, ap (λ (z : PieceRow). z.length) same))
same_rest p (y ∷ xs) x ys [] x' ys' e lo hi lo' hi' = let same : y ≡ x' = cc in absurd (omega (arith, ap (λ (z : PieceRow). z.length) same))
same_rest p (y ∷ xs) x ys (z ∷ xs') x' ys' e lo hi lo' hi' =
    let same : y.length ≡ z.length = ap (λ (r : PieceRow). r.length) (let h : y ≡ z = cc in h) in
    same_rest (p - y.length) xs x ys xs' x' ys' (cc) (omega arith) (omega arith) (omega arith) (omega arith)

module _ {A : Type 0} (am : List ℕ → A) (B : List ℕ) (p : ℕ) where
  -- the sizes of rows, by what the probe of an offset says of them
  not_past : (xs : List PieceRow) → AllGood B xs → NotYet (text_means am) (past p) (bytes_of B) [] xs → sizes xs ≤ p
  not_past xs g early = ⊎_elim (λ e. omega (arith, ap sizes e)) (λ f. omega (arith, ltb-false p (length (flat (bytes_of B) xs)) f, flat_size B xs g)) early

  one_more : (xs : List PieceRow) (x : PieceRow) (ys : List PieceRow) → AllGood B (xs ++ (x ∷ ys)) → length (flat (bytes_of B) (xs ++ (x ∷ []))) ≡ sizes xs + x.length
  one_more xs x ys g =
      let left : AllGood B (xs ++ (x ∷ [])) = all_append B xs (x ∷ []) (all_left B xs (x ∷ ys) g) ((all_right B xs (x ∷ ys) g).0, tt) in
      omega (arith, flat_size B (xs ++ (x ∷ [])) left, sizes_append xs (x ∷ []))

-- what is light of a text is light of its parts
light_bytes : (l : List ℕ) → length l ≤ heaviest → weights (λ _. 1) l ≤ heaviest
light_bytes l h = omega (arith, weights_ones l)

module _ {A : Type 0} {am : List ℕ → A} {B T : List ℕ} {rs : List (Record PieceRow (TextValue A))} {tr : Tree} where
  -- the rows after a row are good
  rest_good : (X : TextAt am B rs tr T) (xs : List PieceRow) (x : PieceRow) (ys : List PieceRow) → rows X.t ≡ xs ++ (x ∷ ys) → AllGood B ys
  rest_good X xs x ys parts = (all_right B xs (x ∷ ys) (subst (AllGood B) parts X.good)).1

  -- the same tree over another store of the same bytes
  moved : {B' : List ℕ} → B' ≡ B → (X : TextAt am B rs tr T) → (Y : TextAt am B' rs tr T) × (Y.t ≡ X.t)
  moved e X = subst (λ (l : List ℕ). (Y : TextAt am l rs tr T) × (Y.t ≡ X.t)) (sym e) (X, refl)

module _ {A : Type 0} {am : List ℕ → A} {B : List ℕ} {rs : List (Record PieceRow (TextValue A))} {tr : Tree} (offset many : ℕ) {v w : TextValue A} {q : Result (Option PieceRow) Unsound}
    (start : v ≡ text_means am []) (F : RowSought (λ _. 1) (text_means am) (past offset) (past many) rs tr v w q) where
  -- what is found among the rows after the one in which the offset lies
  beyond : {T : List ℕ} (X : TextAt am B rs tr T) (xs : List PieceRow) (x : PieceRow) (ys : List PieceRow) → rows X.t ≡ xs ++ (x ∷ ys) → sizes xs ≤ offset → offset < sizes xs + x.length
      → TurnsIn (text_means am) (past many) (bytes_of B) [] ys w q
  beyond X xs x ys parts lo hi =
      let good : AllGood B (xs ++ (x ∷ ys)) = subst (AllGood B) parts X.good in
      ⊎_elim
      (λ n. absurd (omega (arith, one_more am B offset xs x ys good, ltb-false offset (length (flat (bytes_of B) (xs ++ (x ∷ [])))) (n.1 xs x ys parts))))
      (λ G.
      let good' : AllGood B (G.xs ++ (G.row ∷ G.ys)) = subst (AllGood B) G.text X.good in
      let lo' : sizes G.xs ≤ offset = not_past am B offset G.xs (all_left B G.xs (G.row ∷ G.ys) good') G.no in
      let hi' : offset < length (flat (bytes_of B) (G.xs ++ (G.row ∷ []))) = ltb-true offset (length (flat (bytes_of B) (G.xs ++ (G.row ∷ [])))) G.yes in
      let same : G.ys ≡ ys = same_rest offset xs x ys G.xs G.row G.ys (sym parts ∙ G.text) lo hi lo' (omega (arith, one_more am B offset G.xs G.row G.ys good')) in
      subst (λ (l : List PieceRow). TurnsIn (text_means am) (past many) (bytes_of B) [] l w q) same G.rest)
      (F.seeks (bytes_of B) [] X.t X.tree X.fit X.few (light B (rows X.t) X.good X.few) start)

module _ {A S : Type 0} {am : List ℕ → A} {contents : S → Contents} {rs : List (Record PieceRow (TextValue A))} {tr : Tree} (offset many : ℕ) {v w : TextValue A} {q : Result (Option PieceRow) Unsound} {s : S}
    (start : v ≡ text_means am []) (F : RowSought (λ _. 1) (text_means am) (past offset) (past many) rs tr v w q) where
  pub rest_lost : {e : Unsound} {r : Result A Unsound} → q ≡ Err e → RestMeasured contents am rs tr offset many s s r
  rest_lost bad = record {
    value = λ T X xs x ys parts lo hi le. ⊎_elim (λ n. absurd (ok_err n.0 bad)) (λ y. absurd (ok_err y.1 bad)) (beyond offset many start F X xs x ys parts lo hi);
    reading = reads_none;
  }

  pub rest_all : {f : Option PieceRow} → q ≡ Ok f → f ≡ None → RestMeasured contents am rs tr offset many s s (Ok w.right)
  rest_all got nay = record {
    value = λ T X xs x ys parts lo hi le. ⊎_elim
        (λ n.
        let Z : List ℕ = flat (bytes_of (contents s).bytes) ys in
        let good = rest_good X xs x ys parts in
        let end : sizes ys ≤ many = not_past am (contents s).bytes many ys good n.1.no in
        ap Ok (ap (λ (u : TextValue A). u.right) n.1.place ∙ ap am (sym (take_all many Z (omega (arith, flat_size (contents s).bytes ys good))))))
        (λ y. absurd (some_none (ok_same y.1 got ∙ nay))) (beyond offset many start F X xs x ys parts lo hi);
    reading = reads_none;
  }

  module _ {s' : S} {f : Option PieceRow} {z : PieceRow} {k : ℕ} {rm : Result A Unsound} (got : q ≡ Ok f) (yea : f ≡ Some z) (k_is : k ≡ many - w.left.left.bytes)
      (M : SliceMeasured contents am s s' z 0 k rm) where
    last_in : {T : List ℕ} (X : TextAt am (contents s).bytes rs tr T) (xs : List PieceRow) (x : PieceRow) (ys : List PieceRow) → rows X.t ≡ xs ++ (x ∷ ys) → sizes xs ≤ offset → offset < sizes xs + x.length
        → Inside am (past many) (contents s).bytes ys (flat (bytes_of (contents s).bytes) ys) w z
    last_in X xs x ys parts lo hi = ⊎_elim
        (λ n. absurd (some_none (sym (ok_same n.0 got ∙ yea))))
        (λ y.
        let here : Inside am (past many) (contents s).bytes ys (flat (bytes_of (contents s).bytes) ys) w y.0 = inside_of ys (flat (bytes_of (contents s).bytes) ys) refl (rest_good X xs x ys parts) y.2 in
        subst (Inside am (past many) (contents s).bytes ys (flat (bytes_of (contents s).bytes) ys) w) (some_same (ok_same y.1 got ∙ yea)) here) (beyond offset many start F X xs x ys parts lo hi)

    pub rest_unread : {e : Unsound} {r : Result A Unsound} → rm ≡ Err e → RestMeasured contents am rs tr offset many s s' r
    rest_unread bad = record {
      value = λ T X xs x ys parts lo hi le.
          absurd (ok_err (M.value (last_in X xs x ys parts lo hi).good) bad);
      reading = M.reading;
    }

    pub rest_found : {m j : A} → rm ≡ Ok m → Joins (λ _. 1) am w.right m j → RestMeasured contents am rs tr offset many s s' (Ok j)
    rest_found {m} got-m J = record {
      value = λ T X xs x ys parts lo hi le.
          let B : List ℕ = (contents s).bytes in
          let I = last_in X xs x ys parts lo hi in
          let P = front_of_row many I k_is in
          let L : List ℕ = flat (bytes_of B) I.xs in
          let K : List ℕ = slice (bytes_of B z) 0 k in
          let whole : length T ≡ sizes (rows X.t) = ap length (sym X.spells) ∙ flat_size B (rows X.t) X.good in
          let some : sizes (rows X.t) ≡ sizes xs + (x.length + sizes ys) = ap sizes parts ∙ sizes_append xs (x ∷ ys) in
          let short : length (L ++ K) ≤ heaviest =
          omega (arith, ap length P, length-take many (flat (bytes_of B) ys), flat_size B ys (rest_good X xs x ys parts), light_text X) in
          ap Ok (J.joins L K (light_bytes (L ++ K) short) (ap (λ (u : TextValue A). u.right) I.place) (ok_same got-m (M.value I.good)) ∙ ap am (sym P));
      reading = M.reading;
    }

-- A part of a text made of three parts.
module _ (L Y Z : List ℕ) (a b k : ℕ) (at : a ≡ length L + k) (in-y : k ≤ length Y) where
  from_there : drop a (L ++ (Y ++ Z)) ≡ drop k Y ++ Z
  from_there = ap (λ (n : ℕ). drop n (L ++ (Y ++ Z))) at ∙ drop-append-add L (Y ++ Z) k ∙ drop-append-le k Y Z in-y

  slice_one : b ≤ length L + length Y → slice (L ++ (Y ++ Z)) a b ≡ take (b - a) (drop k Y)
  slice_one le = ap (take (b - a)) from_there ∙ take-append-le (b - a) (drop k Y) Z (simp length-drop (omega arith))

  slice_two : (many : ℕ) → b ≡ length L + length Y + many → slice (L ++ (Y ++ Z)) a b ≡ drop k Y ++ take many Z
  slice_two many e =
      let n : b - a ≡ length (drop k Y) + many = omega (arith, length-drop k Y) in
      ap (take (b - a)) from_there ∙ ap (λ (m : ℕ). take m (drop k Y ++ Z)) n ∙ take-append-add (drop k Y) Z many

-- a range that may be asked for
abbrev pub InRange : ℕ → ℕ → List ℕ → Type 0
InRange a b t = (a ≤ b) × (b ≤ length t)

module _ {A S : Type 0} {am : List ℕ → A} {contents : S → Contents} {rs : List (Record PieceRow (TextValue A))} {tr : Tree} (a b : ℕ) {v w : TextValue A} {q : Result (Option PieceRow) Unsound} {s : S}
    (start : v ≡ text_means am []) (F : RowFound (λ _. 1) (text_means am) (past a) rs tr v w q) where
  pub range_lost : {e : Unsound} {r : Result A Unsound} → q ≡ Err e → Answered contents 512 am rs tr (InRange a b) (λ t. am (slice t a b)) s s r
  range_lost bad = record { tells = λ T X _. absurd (never_lost start F X bad); reading = reads_none }

  pub range_empty : {f : Option PieceRow} {u : A} → q ≡ Ok f → f ≡ None → u ≡ am [] → Answered contents 512 am rs tr (InRange a b) (λ t. am (slice t a b)) s s (Ok u)
  range_empty got nay u-is = record {
    tells = λ T X ok.
        let le : length T ≤ a = ⊎_elim (λ (e : T ≡ []). omega (arith, ap length e)) (λ e. ltb-false a (length T) e) (past_all start F X got nay).1 in
        let ab : a ≤ b = ok.0 in
        let bn : b ≤ length T = ok.1 in
        let none : b - a ≡ 0 = omega arith in
        ap Ok (u-is ∙ ap (λ (n : ℕ). am (take n (drop a T))) (sym none));
    reading = reads_none;
  }

  module _ {s₁ : S} {f : Option PieceRow} {x : PieceRow} {k j : ℕ} {rm : Result A Unsound} (got : q ≡ Ok f) (yea : f ≡ Some x) (k_is : k ≡ a - w.left.left.bytes) (j-is : j ≡ b - w.left.left.bytes)
      (M : SliceMeasured contents am s s₁ x k j rm) where
    -- the offset a is k bytes into the row x
    record Begun (T : List ℕ) (X : TextAt am (contents s).bytes rs tr T) : Type 0 where
      pub I : Inside am (past a) (contents s).bytes (rows X.t) T w x
      pub size : length (bytes_of (contents s).bytes x) ≡ x.length
      pub before : w.left.left.bytes ≡ length (flat (bytes_of (contents s).bytes) I.xs)
      pub at : a ≡ length (flat (bytes_of (contents s).bytes) I.xs) + k
      pub in_x : k < x.length
      pub value : rm ≡ Ok (am (slice (bytes_of (contents s).bytes x) k j))

    begun : {T : List ℕ} (X : TextAt am (contents s).bytes rs tr T) → Begun T X
    begun X =
        let I = inside start F X got yea in
        let lo = low a I in
        let hi = high a I in
        let before : w.left.left.bytes ≡ length (flat (bytes_of (contents s).bytes) I.xs) = ap (λ (u : Totals). u.bytes) (before_is I) in record {
          I = I;
          size = row_size (contents s).bytes x I.good;
          before = before;
          at = omega arith;
          in_x = omega arith;
          value = M.value I.good;
        }

    -- what was read for the first part
    one_read : Reads contents 512 s s₁
    one_read = record { few = omega (arith, M.reading.few); same_bytes = M.reading.same_bytes; same_capacity = M.reading.same_capacity }

    pub range_unread : {e : Unsound} {r : Result A Unsound} → rm ≡ Err e → Answered contents 512 am rs tr (InRange a b) (λ t. am (slice t a b)) s s₁ r
    range_unread bad = record { tells = λ T X _. absurd (ok_err (begun X).value bad); reading = one_read }

    module _ {end : ℕ} (end_is : end ≡ min (w.left.left.bytes + x.length) 4294967295) where
      -- where the row ends
      ends : {T : List ℕ} (X : TextAt am (contents s).bytes rs tr T) → end ≡ length (flat (bytes_of (contents s).bytes) (begun X).I.xs) + x.length
      ends {T} X =
          let D = begun X in
          let L : List ℕ = flat (bytes_of (contents s).bytes) D.I.xs in
          let Y : List ℕ = bytes_of (contents s).bytes x in
          let Z : List ℕ = flat (bytes_of (contents s).bytes) D.I.ys in
          let all : length T ≡ length L + (length Y + length Z) = ap length D.I.spells ∙ length-append L (Y ++ Z) ∙ ap (λ (n : ℕ). length L + n) (length-append Y Z) in
          omega (arith, D.before, D.size, light_text X)

      pub range_one : {m : A} → rm ≡ Ok m → b ≤ end → Answered contents 512 am rs tr (InRange a b) (λ t. am (slice t a b)) s s₁ (Ok m)
      range_one got-m le = record {
        tells = λ T X ok.
            let D = begun X in
            let B : List ℕ = (contents s).bytes in
            let L : List ℕ = flat (bytes_of B) D.I.xs in
            let Y : List ℕ = bytes_of B x in
            let ab : a ≤ b = ok.0 in
            let part : slice T a b ≡ slice Y k j =
            ap (λ (t : List ℕ). slice t a b) D.I.spells
            ∙ slice_one L Y (flat (bytes_of B) D.I.ys) a b k D.at (omega (arith, D.in_x, D.size)) (omega (arith, ends X, D.size))
            ∙ ap (λ (n : ℕ). take n (drop k Y)) (let e : b - a ≡ j - k = omega (arith, D.at, D.before) in e) in
            sym got-m ∙ D.value ∙ ap (λ (t : List ℕ). Ok (am t)) (sym part);
        reading = one_read;
      }

      module _ {s₂ : S} {m : A} {rr : Result A Unsound} (got-m : rm ≡ Ok m) (gt : end < b) (G : RestMeasured contents am rs tr a (b - end) s₁ s₂ rr) where
        rest_value : {T : List ℕ} (X : TextAt am (contents s).bytes rs tr T) → b ≤ length T → rr ≡ Ok (am (take (b - end) (flat (bytes_of (contents s).bytes) (begun X).I.ys)))
        rest_value {T} X bn =
            let D = begun X in
            let I = D.I in
            let B : List ℕ = (contents s).bytes in
            let good : AllGood B (I.xs ++ (x ∷ I.ys)) = subst (AllGood B) I.parts X.good in
            let before : length (flat (bytes_of B) I.xs) ≡ sizes I.xs = flat_size B I.xs (all_left B I.xs (x ∷ I.ys) good) in
            let whole : length T ≡ sizes I.xs + (x.length + sizes I.ys) = ap length (sym X.spells) ∙ flat_size B (rows X.t) X.good ∙ ap sizes I.parts ∙ sizes_append I.xs (x ∷ I.ys) in
            let Y = moved M.reading.same_bytes X in
            G.value T Y.0 I.xs x I.ys (ap rows Y.1 ∙ I.parts) (omega (arith, D.at)) (omega (arith, D.at, D.in_x)) (omega (arith, ends X))
            ∙ ap (λ (t : List ℕ). Ok (am (take (b - end) (flat (bytes_of t) I.ys)))) M.reading.same_bytes

        both_read : Reads contents 512 s s₂
        both_read = record {
          few = omega (arith, M.reading.few, G.reading.few);
          same_bytes = G.reading.same_bytes ∙ M.reading.same_bytes;
          same_capacity = G.reading.same_capacity ∙ M.reading.same_capacity;
        }

        pub range_no_rest : {e : Unsound} {r : Result A Unsound} → rr ≡ Err e → Answered contents 512 am rs tr (InRange a b) (λ t. am (slice t a b)) s s₂ r
        range_no_rest bad = record { tells = λ T X ok. absurd (ok_err (rest_value X ok.1) bad); reading = both_read }

        pub range_two : {n i : A} → rr ≡ Ok n → Joins (λ _. 1) am m n i → Answered contents 512 am rs tr (InRange a b) (λ t. am (slice t a b)) s s₂ (Ok i)
        range_two got-n J = record {
          tells = λ T X ok.
              let D = begun X in
              let B : List ℕ = (contents s).bytes in
              let L : List ℕ = flat (bytes_of B) D.I.xs in
              let Y : List ℕ = bytes_of B x in
              let Z : List ℕ = flat (bytes_of B) D.I.ys in
              let all : slice Y k j ≡ drop k Y = take_all (j - k) (drop k Y) (omega (arith, length-drop k Y, ends X, D.size, D.before, D.at)) in
              let part : slice T a b ≡ drop k Y ++ take (b - end) Z =
              ap (λ (t : List ℕ). slice t a b) D.I.spells ∙ slice_two L Y Z a b k D.at (omega (arith, D.in_x, D.size)) (b - end) (omega (arith, ends X, D.size)) in
              let short : length (drop k Y ++ take (b - end) Z) ≤ heaviest =
              omega (arith, ap length (sym part), length-take (b - a) (drop a T), length-drop a T, light_text X) in
              ap Ok (J.joins (drop k Y) (take (b - end) Z) (light_bytes (drop k Y ++ take (b - end) Z) short) (ok_same got-m D.value ∙ ap am all) (ok_same got-n (rest_value X ok.1)) ∙ ap am (sym part));
          reading = both_read;
        }
