-- The paths from an open on to its close.
use Rattle.std.proofs.Common.{◌≡◌, ℕ, suc, ◌+◌, ◌-◌, ◌<◌, ◌≤◌, min, Bool, true, false, leb, ◌⊎◌, List, [], ◌∷◌, ◌++◌, length, take, drop, Some, None, Ok, Err, Option, Result, sym, refl, ap, ◌∙◌, subst, ap₂, inl, inr, ⊎_elim, append_assoc, append-nil, arith, length-append, length-take}
use Rattle.std.specs.Option.{option_map}
use Rattle.std.proofs.lemmas.List.{take_more, take-append-drop, drop_more, drop-take, drop-drop}
use Rattle.std.proofs.lemmas.Bool.{ltb-true, ltb-false, leb-true, leb-false, le-leb}
use Rattle.measures.specs.Law.{weights, heaviest}
use Rattle.lexer.specs.Reading.{read_from, reading, row_at}
use Rattle.lexer.specs.declared.tokens.TokenRow.{TokenRow}
use Rattle.lexer.specs.RowJoins.{brackets_bound}
use Rattle.lexer.specs.RowValues.{row_at_lem}
use Rattle.stores.specs.Stores.{Contents, Lawful}
use Rattle.slots.specs.Ghost.{rows}
use Rattle.slots.specs.Values.{flat}
use Rattle.slots.specs.declared.records.Record.{Record}
use Rattle.slots.specs.declared.records.Tree.{Tree}
use Rattle.slots.specs.declared.records.Unsound.{Unsound}
use Rattle.slots.proofs.Shapes.{ok_err, ok_same}
use Rattle.slots.proofs.Weights.{flat_append}
use Rattle.seek.specs.Places.{NotYet}
use Rattle.pieces.specs.Rows.{Makes, SamePiece, bytes_of, AllGood, sizes}
use Rattle.pieces.specs.Sound.{TextValue, text_means}
use Rattle.pieces.specs.declared.piece.Piece.{Piece}
use Rattle.pieces.specs.declared.rows.PieceRow.{PieceRow}
use Rattle.pieces.proofs.PartRead.{weights_ones}
use Rattle.pieces.proofs.RowParts.{sizes_append, sizes_few, all_append, all_left, all_right, flat_size}
use Rattle.asking.specs.Rows.{Turned, TurnsIn, RowSought}
use Rattle.asking.specs.Texts.{TextAt, Reads, PartMeasured}
use Rattle.asking.proofs.RowTurns.{some_none, some_same}
use Rattle.asking.proofs.TextPlaces.{past, light_text, row_size}
use Rattle.token_questions.specs.Scans.{Stops, Scanned}
use Rattle.token_questions.specs.declared.scan.Goal.TheVariants.{Strays}
use Rattle.token_questions.specs.declared.scan.Stop.{Stop}
use Rattle.bracket_answers.specs.Spots.{StandsAt}
use Rattle.bracket_answers.specs.Forward.{ReachIs, CloseReached, CloseTold}
use Rattle.bracket_answers.specs.declared.spot.Spot.{Spot}
use Rattle.bracket_answers.specs.declared.spot.Other.{Other}
use Rattle.bracket_answers.specs.declared.forward.Reach.{Reach}
use Rattle.bracket_answers.proofs.Spotting.{makes, same_part, from_on, in_text}

-- a stray close, read from an open on
abbrev pub strayed : {A : Type 0} → TextValue A → Bool
strayed v = leb 1 (row_at v.left.right 6).strays

strays_in : {A : Type 0} (am : List ℕ → A) (bs : List ℕ) → row_at (text_means am bs).left.right 6 ≡ read_from 6 bs
strays_in am bs = row_at_lem (reading bs) bs 6 (omega arith) refl

no_stray : {A : Type 0} (am : List ℕ → A) (bs : List ℕ) → strayed (text_means am bs) ≡ false → (read_from 6 bs).strays ≡ 0
no_stray am bs e = omega (arith, leb-false 1 (row_at (reading bs) 6).strays e, ap (λ (r : TokenRow). r.strays) (strays_in am bs))

a_stray : {A : Type 0} (am : List ℕ → A) (bs : List ℕ) → strayed (text_means am bs) ≡ true → 1 ≤ (read_from 6 bs).strays
a_stray am bs e = omega (arith, leb-true 1 (row_at (reading bs) 6).strays e, ap (λ (r : TokenRow). r.strays) (strays_in am bs))

-- an offset lies in one row only
same_rest : (p : ℕ) (xs : List PieceRow) (x : PieceRow) (ys xs' : List PieceRow) (x' : PieceRow) (ys' : List PieceRow) → xs ++ (x ∷ ys) ≡ xs' ++ (x' ∷ ys')
    → sizes xs ≤ p → p < sizes xs + x.length → sizes xs' ≤ p → p < sizes xs' + x'.length → ys' ≡ ys
same_rest p [] x ys [] x' ys' e lo hi lo' hi' = cc
same_rest p [] x ys (y ∷ xs') x' ys' e lo hi lo' hi' = let same : x ≡ y = cc in absurd (omega (arith, ap (λ (z : PieceRow). z.length) same))
same_rest p (y ∷ xs) x ys [] x' ys' e lo hi lo' hi' = let same : y ≡ x' = cc in absurd (omega (arith, ap (λ (z : PieceRow). z.length) same))
same_rest p (y ∷ xs) x ys (z ∷ xs') x' ys' e lo hi lo' hi' =
    let same : y.length ≡ z.length = ap (λ (r : PieceRow). r.length) (let h : y ≡ z = cc in h) in
    same_rest (p - y.length) xs x ys xs' x' ys' (cc) (omega arith) (omega arith) (omega arith) (omega arith)

-- the sizes of rows, by what the probe of an offset says of them
module _ {A : Type 0} (am : List ℕ → A) (B : List ℕ) (p : ℕ) where
  not_past : (xs : List PieceRow) → AllGood B xs → NotYet (text_means am) (past p) (bytes_of B) [] xs → sizes xs ≤ p
  not_past xs g early = ⊎_elim (λ e. omega (arith, ap sizes e)) (λ f. omega (arith, ltb-false p (length (flat (bytes_of B) xs)) f, flat_size B xs g)) early

one_more : (B : List ℕ) (xs : List PieceRow) (x : PieceRow) (ys : List PieceRow) → AllGood B (xs ++ (x ∷ ys)) → length (flat (bytes_of B) (xs ++ (x ∷ []))) ≡ sizes xs + x.length
one_more B xs x ys g =
    let left : AllGood B (xs ++ (x ∷ [])) = all_append B xs (x ∷ []) (all_left B xs (x ∷ ys) g) ((all_right B xs (x ∷ ys) g).0, tt) in
    omega (arith, flat_size B (xs ++ (x ∷ [])) left, sizes_append xs (x ∷ []))

-- what is found among the rows after the one in which the offset p lies, read on from the bytes D
beyond : {A : Type 0} {am : List ℕ → A} {B : List ℕ} {rs : List (Record PieceRow (TextValue A))} {tr : Tree} {until : TextValue A → Bool} (p : ℕ) {v w : TextValue A} {q : Result (Option PieceRow) Unsound}
    → RowSought (λ _. 1) (text_means am) (past p) until rs tr v w q → (D : List ℕ) → v ≡ text_means am D → {T : List ℕ} (X : TextAt am B rs tr T) (xs : List PieceRow) (x : PieceRow) (ys : List PieceRow)
    → rows X.t ≡ xs ++ (x ∷ ys) → sizes xs ≤ p → p < sizes xs + x.length → length D ≤ 256 → TurnsIn (text_means am) until (bytes_of B) D ys w q
beyond {am = am} {B = B} {until = until} p {w = w} {q = q} F D start X xs x ys parts lo hi short =
    let good : AllGood B (xs ++ (x ∷ ys)) = subst (AllGood B) parts X.good in
    let light : weights (λ _. 1) (D ++ flat (bytes_of B) (rows X.t)) ≤ heaviest =
    omega (arith, weights_ones (D ++ flat (bytes_of B) (rows X.t)), length-append D (flat (bytes_of B) (rows X.t)), flat_size B (rows X.t) X.good, sizes_few B (rows X.t) X.good, X.few) in
    ⊎_elim
    (λ n. absurd (omega (arith, one_more B xs x ys good, ltb-false p (length (flat (bytes_of B) (xs ++ (x ∷ [])))) (n.1 xs x ys parts))))
    (λ G.
    let good' : AllGood B (G.xs ++ (G.row ∷ G.ys)) = subst (AllGood B) G.text X.good in
    let lo' : sizes G.xs ≤ p = not_past am B p G.xs (all_left B G.xs (G.row ∷ G.ys) good') G.no in
    let hi' : p < length (flat (bytes_of B) (G.xs ++ (G.row ∷ []))) = ltb-true p (length (flat (bytes_of B) (G.xs ++ (G.row ∷ [])))) G.yes in
    let same : G.ys ≡ ys = same_rest p xs x ys G.xs G.row G.ys (sym parts ∙ G.text) lo hi lo' (omega (arith, one_more B G.xs G.row G.ys good')) in
    subst (λ (l : List PieceRow). TurnsIn (text_means am) until (bytes_of B) D l w q) same G.rest)
    (F.seeks (bytes_of B) D X.t X.tree X.fit X.few light start)

-- the first stray close lies in the row z of the rows ys, read on from D, in which there is none
reach_in : {A : Type 0} (am : List ℕ → A) (B D : List ℕ) (ys : List PieceRow) {w : TextValue A} {z : PieceRow} → AllGood B ys → (read_from 6 D).strays ≡ 0 → Turned (text_means am) strayed (bytes_of B) D ys w z
    → {row : TokenRow} → row ≡ row_at w.left.right 6 → ReachIs B (D ++ flat (bytes_of B) ys) (record { row = z; offset = w.left.left.bytes; before = row })
reach_in am B D ys {w} {z} good none H row_is =
    let L : List ℕ = flat (bytes_of B) H.xs in
    let one : flat (bytes_of B) (H.xs ++ (z ∷ [])) ≡ L ++ bytes_of B z = flat_append (bytes_of B) H.xs (z ∷ []) ∙ ap (λ (l : List ℕ). L ++ l) (append-nil (bytes_of B z)) in
    let two : D ++ flat (bytes_of B) (H.xs ++ (z ∷ [])) ≡ (D ++ L) ++ bytes_of B z = ap (λ (l : List ℕ). D ++ l) one ∙ sym (append_assoc D L (bytes_of B z)) in
    record {
      front = D ++ L;
      back = flat (bytes_of B) H.ys;
      text = ap (λ (l : List ℕ). D ++ l) (ap (flat (bytes_of B)) H.parts ∙ flat_append (bytes_of B) H.xs (z ∷ H.ys)) ∙ sym (append_assoc D L (bytes_of B z ++ flat (bytes_of B) H.ys));
      good = (all_right B H.xs (z ∷ H.ys) (subst (AllGood B) H.parts good)).0;
      offset = ap (λ (u : TextValue _). u.left.left.bytes) H.past.place;
      before = row_is ∙ ap (λ (u : TextValue _). row_at u.left.right 6) H.past.place ∙ strays_in am (D ++ L);
      quiet = ⊎_elim (λ e. ap (λ (l : List ℕ). (read_from 6 l).strays) (ap (λ (l : List PieceRow). D ++ flat (bytes_of B) l) e ∙ append-nil D) ∙ none) (λ f. no_stray am (D ++ L) f) H.past.no;
      close = subst (λ (l : List ℕ). 1 ≤ (read_from 6 l).strays) two (a_stray am (D ++ flat (bytes_of B) (H.xs ++ (z ∷ []))) H.yes);
    }

module _ {A S : Type 0} {am : List ℕ → A} {contents : S → Contents} {rs : List (Record PieceRow (TextValue A))} {tr : Tree} (p : ℕ) {rest : PieceRow} {s s₁ : S} {rm : Result (TextValue A) Unsound}
    (M : PartMeasured contents (text_means am) s s₁ rest rm) where
  pub reach_unread : {e : Unsound} {r : Result (Option Reach) Unsound} → rm ≡ Err e → CloseReached contents am rs tr p rest s s₁ r
  reach_unread bad = record {
    reaches = λ T X xs x ys parts lo hi less inside.
        let g : x.length ≤ 256 = (all_right (contents s).bytes xs (x ∷ ys) (subst (AllGood (contents s).bytes) parts X.good)).0.1 in absurd (ok_err (M.value (omega arith) inside) bad);
    reading = M.reading;
  }

  module _ {v : TextValue A} {row : TokenRow} (got : rm ≡ Ok v) (row_is : row ≡ row_at v.left.right 6) where
    -- what was measured
    measured : {T : List ℕ} (X : TextAt am (contents s).bytes rs tr T) (xs : List PieceRow) (x : PieceRow) (ys : List PieceRow) → rows X.t ≡ xs ++ (x ∷ ys) → rest.length < x.length → rest.address + rest.length ≤ length (contents s).bytes
        → (v ≡ text_means am (bytes_of (contents s).bytes rest)) × (row ≡ read_from 6 (bytes_of (contents s).bytes rest)) × (rest.length ≤ 256)
    measured X xs x ys parts less inside =
        let g : x.length ≤ 256 = (all_right (contents s).bytes xs (x ∷ ys) (subst (AllGood (contents s).bytes) parts X.good)).0.1 in
        let v-is : v ≡ text_means am (bytes_of (contents s).bytes rest) = ok_same got (M.value (omega arith) inside) in
        (v-is, row_is ∙ ap (λ (u : TextValue A). row_at u.left.right 6) v-is ∙ strays_in am (bytes_of (contents s).bytes rest), omega arith)

    pub reach_here : {first : TokenRow} → 0 < row.strays → first ≡ read_from 6 [] → CloseReached contents am rs tr p rest s s₁ (Ok (Some (record { row = rest; offset = 0; before = first })))
    reach_here {first} some first-is = record {
      reaches = λ T X xs x ys parts lo hi less inside.
          let B : List ℕ = (contents s).bytes in
          let D : List ℕ = bytes_of B rest in
          let m = measured X xs x ys parts less inside in
          let c : row.strays ≡ (read_from 6 D).strays = ap (λ (r : TokenRow). r.strays) m.1 in
          let n : length D ≤ rest.length = omega (arith, length-take rest.length (drop rest.address B)) in
          inr (
            record { row = rest; offset = 0; before = first },
            refl,
            record {
              front = [];
              back = flat (bytes_of B) ys;
              text = refl;
              good = (omega (arith, c, brackets_bound 6 D), m.2, inside);
              offset = refl;
              before = first-is;
              quiet = omega (arith, brackets_bound 6 []);
              close = omega (arith, c);
            },
          );
      reading = M.reading;
    }

    module _ {w : TextValue A} {q : Result (Option PieceRow) Unsound} (none : row.strays ≤ 0) (F : RowSought (λ _. 1) (text_means am) (past p) strayed rs tr v w q) where
      -- what lies after the rest
      after_rest : {T : List ℕ} (X : TextAt am (contents s).bytes rs tr T) (xs : List PieceRow) (x : PieceRow) (ys : List PieceRow) → rows X.t ≡ xs ++ (x ∷ ys) → sizes xs ≤ p → p < sizes xs + x.length → rest.length < x.length
          → rest.address + rest.length ≤ length (contents s).bytes → ((read_from 6 (bytes_of (contents s).bytes rest)).strays ≡ 0) × TurnsIn (text_means am) strayed (bytes_of (contents s).bytes) (bytes_of (contents s).bytes rest) ys w q
      after_rest X xs x ys parts lo hi less inside =
          let m = measured X xs x ys parts less inside in (
            omega (arith, ap (λ (r : TokenRow). r.strays) m.1),
            beyond p F (bytes_of (contents s).bytes rest) m.0 X xs x ys parts lo hi (omega (arith, m.2, length-take rest.length (drop rest.address (contents s).bytes))),
          )

      pub reach_lost : {e : Unsound} {r : Result (Option Reach) Unsound} → q ≡ Err e → CloseReached contents am rs tr p rest s s₁ r
      reach_lost bad = record {
        reaches = λ T X xs x ys parts lo hi less inside. ⊎_elim (λ n. absurd (ok_err n.0 bad)) (λ y. absurd (ok_err y.1 bad)) (after_rest X xs x ys parts lo hi less inside).1;
        reading = M.reading;
      }

      pub reach_none : {f : Option PieceRow} → q ≡ Ok f → f ≡ None → CloseReached contents am rs tr p rest s s₁ (Ok None)
      reach_none gf nay = record {
        reaches = λ T X xs x ys parts lo hi less inside.
            let B : List ℕ = (contents s).bytes in
            let D : List ℕ = bytes_of B rest in
            let O = after_rest X xs x ys parts lo hi less inside in
            ⊎_elim
            (λ n. inl (
              refl,
              ⊎_elim
                  (λ e. ap (λ (l : List ℕ). (read_from 6 l).strays) (ap (λ (l : List PieceRow). D ++ flat (bytes_of B) l) e ∙ append-nil D) ∙ O.0)
                  (λ g. no_stray am (D ++ flat (bytes_of B) ys) g) n.1.no,
            ))
            (λ y. absurd (some_none (ok_same y.1 gf ∙ nay))) O.1;
        reading = M.reading;
      }

      pub reach_later : {f : Option PieceRow} {z : PieceRow} {there : TokenRow} → q ≡ Ok f → f ≡ Some z → there ≡ row_at w.left.right 6
          → CloseReached contents am rs tr p rest s s₁ (Ok (Some (record { row = z; offset = w.left.left.bytes; before = there })))
      reach_later {f} {z} {there} gf yea there-is = record {
        reaches = λ T X xs x ys parts lo hi less inside.
            let B : List ℕ = (contents s).bytes in
            let D : List ℕ = bytes_of B rest in
            let O = after_rest X xs x ys parts lo hi less inside in
            let good : AllGood B ys = (all_right B xs (x ∷ ys) (subst (AllGood B) parts X.good)).1 in
            ⊎_elim
            (λ n. absurd (some_none (sym (ok_same n.0 gf ∙ yea))))
            (λ y.
            let H : Turned (text_means am) strayed (bytes_of B) D ys w z = subst (Turned (text_means am) strayed (bytes_of B) D ys w) (some_same (ok_same y.1 gf ∙ yea)) y.2 in
            inr (record { row = z; offset = w.left.left.bytes; before = there }, refl, reach_in am B D ys good O.0 H there-is)) O.1;
        reading = M.reading;
      }

      pub reach_on : {f : Option PieceRow} {z : Option Reach} → q ≡ Ok f → z ≡ option_map (λ x. record { row = x; offset = w.left.left.bytes; before = row_at w.left.right 6 }) f
          → CloseReached contents am rs tr p rest s s₁ (Ok z)
      reach_on {f = None} gf is = subst (λ (o : Option Reach). CloseReached contents am rs tr p rest s s₁ (Ok o)) (sym is) (reach_none gf refl)
      reach_on {f = Some x} gf is = subst (λ (o : Option Reach). CloseReached contents am rs tr p rest s s₁ (Ok o)) (sym is) (reach_later gf refl refl)

-- what a row stands for from its byte k on
from_byte : (B : List ℕ) (x : PieceRow) (k : ℕ) → k ≤ x.length → drop k (bytes_of B x) ≡ take (x.length - k) (drop (x.address + k) B)
from_byte B x k le =
    let n : x.length ≡ k + (x.length - k) = omega arith in
    ap (λ (m : ℕ). drop k (take m (drop x.address B))) n ∙ drop-take k (x.length - k) (drop x.address B) ∙ ap (take (x.length - k)) (drop-drop k x.address B)

module _ {A S : Type 0} {am : List ℕ → A} {contents : S → Contents} {rs : List (Record PieceRow (TextValue A))} {tr : Tree} {p : ℕ} (x : Spot) {s s₁ : S} {next address size : ℕ} {q : Result (Option Reach) Unsound}
    (law : Lawful contents) (next_is : next ≡ min (x.stop.index + 1) 4294967295) (address_is : address ≡ min (x.row.address + next) 4294967295) (size_is : size ≡ x.row.length - next)
    (C : CloseReached contents am rs tr p (record { address = address; length = size }) s s₁ q) where
  pub close_reads : Reads contents 512 s s₁
  close_reads = record { few = omega (arith, C.reading.few); same_bytes = C.reading.same_bytes; same_capacity = C.reading.same_capacity }

  -- the close was reached in the bytes after the open, or there is none
  reaching : (T : List ℕ) (X : TextAt am (contents s).bytes rs tr T) → StandsAt (contents s).bytes (rows X.t) p x
      → ((q ≡ Ok None) × ((read_from 6 (drop (suc p) T)).strays ≡ 0)) ⊎ ((h : Reach) × (q ≡ Ok (Some h)) × ReachIs (contents s).bytes (drop (suc p) T) h)
  reaching T X st =
      let B : List ℕ = (contents s).bytes in
      let rest : PieceRow = record { address = address; length = size } in
      let g₁ : x.row.length ≤ 256 = st.good.1 in
      let g₂ : x.row.address + x.row.length ≤ length B = st.good.2 in
      let one : next ≡ x.stop.index + 1 = omega (arith, st.within) in
      let there : address ≡ x.row.address + (x.stop.index + 1) = omega (arith, st.within, law.within s, law.small s) in
      let many : size ≡ x.row.length - (x.stop.index + 1) = omega arith in
      let part : bytes_of B rest ≡ drop (x.stop.index + 1) (bytes_of B x.row) =
      ap₂ (λ (n a : ℕ). take n (drop a B)) many there ∙ sym (from_byte B x.row (x.stop.index + 1) (omega (arith, st.within))) in
      let all : drop (suc p) T ≡ bytes_of B rest ++ flat (bytes_of B) st.ys = from_on X.spells st ∙ ap (λ (l : List ℕ). l ++ flat (bytes_of B) st.ys) (sym part) in
      let L-size : length (flat (bytes_of B) st.xs) ≡ sizes st.xs = flat_size B st.xs (all_left B st.xs (x.row ∷ st.ys) (subst (AllGood B) st.parts X.good)) in
      subst (λ (l : List ℕ). ((q ≡ Ok None) × ((read_from 6 l).strays ≡ 0)) ⊎ ((h : Reach) × (q ≡ Ok (Some h)) × ReachIs (contents s).bytes l h)) (sym all)
      (C.reaches T X st.xs x.row st.ys st.parts (omega (arith, L-size, st.place)) (omega (arith, L-size, st.place, st.within)) (omega (arith, st.within)) (omega (arith, st.within)))

  pub close_lost : {e : Unsound} {r : Result (Option Other) Unsound} → q ≡ Err e → CloseTold contents am rs tr p x s s₁ r
  close_lost bad = record { tells = λ T X st. absurd (⊎_elim (λ f. ok_err f.0 bad) (λ f. ok_err f.1 bad) (reaching T X st)); reading = close_reads }

  pub close_none : {f : Option Reach} → q ≡ Ok f → f ≡ None → CloseTold contents am rs tr p x s s₁ (Ok None)
  close_none got nay = record {
    tells = λ T X st. ⊎_elim (λ f. inl (refl, f.1)) (λ f. absurd (some_none (ok_same f.1 got ∙ nay))) (reaching T X st);
    reading = close_reads;
  }

  module _ {f : Option Reach} {h : Reach} (got : q ≡ Ok f) (yea : f ≡ Some h) where
    reached_at : (T : List ℕ) (X : TextAt am (contents s).bytes rs tr T) → StandsAt (contents s).bytes (rows X.t) p x → ReachIs (contents s).bytes (drop (suc p) T) h
    reached_at T X st = ⊎_elim (λ n. absurd (some_none (sym (ok_same n.0 got ∙ yea)))) (λ y. subst (ReachIs (contents s).bytes (drop (suc p) T)) (some_same (ok_same y.1 got ∙ yea)) y.2) (reaching T X st)

    pub close_no_piece : {r : Result (Option Other) Unsound} → (Makes h.row → ⊥) → CloseTold contents am rs tr p x s s₁ r
    close_no_piece nay = record { tells = λ T X st. absurd (nay (makes law s h.row (reached_at T X st).good)); reading = close_reads }

    module _ {s₂ : S} {y : Piece} {rj : Result Stop Unsound} (same : SamePiece h.row y) (E : Scanned contents s₁ s₂ y.address y.length h.before (Strays 1) rj) where
      all_reads : Reads contents 512 s s₂
      all_reads = record { few = omega (arith, C.reading.few, E.few); same_bytes = E.same_bytes ∙ C.reading.same_bytes; same_capacity = E.same_capacity ∙ C.reading.same_capacity }

      scanned : (T : List ℕ) (X : TextAt am (contents s).bytes rs tr T) (K : ReachIs (contents s).bytes (drop (suc p) T) h) → (z : Stop) × (rj ≡ Ok z) × Stops 6 K.front (bytes_of (contents s).bytes h.row) (Strays 1) z
      scanned T X K =
          let B : List ℕ = (contents s).bytes in
          let Y : List ℕ = bytes_of B h.row in
          let e : (contents s₁).bytes ≡ B = C.reading.same_bytes in
          let part : Y ≡ take y.length (drop y.address (contents s₁).bytes) = same_part B h.row same ∙ ap (λ (l : List ℕ). take y.length (drop y.address l)) (sym e) in
          let within : h.row.address + h.row.length ≤ length B = K.good.2 in
          let size : length Y ≡ h.row.length = row_size B h.row K.good in
          let less : length (drop (suc p) T) ≤ length T = omega (arith, ap length (take-append-drop (suc p) T), length-append (take (suc p) T) (drop (suc p) T)) in
          let long : length (drop (suc p) T) ≡ length K.front + (length Y + length K.back) = ap length K.text ∙ length-append K.front (Y ++ K.back) ∙ ap (λ (k : ℕ). length K.front + k) (length-append Y K.back) in
          E.stops 6 K.front Y part K.before (omega (arith, same.address_is, same.length_is, ap length e)) (omega (arith, same.length_is, light_text X)) (le-leb 1 (read_from 6 (K.front ++ Y)).strays K.close)

      pub close_unread : {e : Unsound} {r : Result (Option Other) Unsound} → rj ≡ Err e → CloseTold contents am rs tr p x s s₂ r
      close_unread bad = record { tells = λ T X st. absurd (ok_err (scanned T X (reached_at T X st)).1 bad); reading = all_reads }

      pub close_told : {z : Stop} {a b n : ℕ} → rj ≡ Ok z → a ≡ min (p + 1) 4294967295 → b ≡ min (a + h.offset) 4294967295 → n ≡ min (b + z.index) 4294967295
          → CloseTold contents am rs tr p x s s₂ (Ok (Some (record { offset = n; byte = z.byte })))
      close_told {z} {a} {b} {n} gz a-is b-is n-is = record {
        tells = λ T X st.
            let K = reached_at T X st in
            let J = scanned T X K in
            let B : List ℕ = (contents s).bytes in
            let Y : List ℕ = bytes_of B h.row in
            let D : Stops 6 K.front Y (Strays 1) z = subst (Stops 6 K.front Y (Strays 1)) (ok_same J.1 gz) J.2 in
            let i = z.index in
            let us : List ℕ = K.front ++ take i Y in
            let vs : List ℕ = drop (i + 1) Y ++ K.back in
            let cut : Y ≡ take i Y ++ (z.byte ∷ drop (i + 1) Y) =
            sym (take-append-drop i Y) ∙ ap (λ (l : List ℕ). take i Y ++ l) (drop_more Y i 0 D.within ∙ ap (λ (c : ℕ). c ∷ drop (i + 1) Y) (sym D.byte)) in
            let text : drop (suc p) T ≡ us ++ (z.byte ∷ vs) =
            K.text ∙ ap (λ (l : List ℕ). K.front ++ (l ++ K.back)) cut ∙ ap (λ (l : List ℕ). K.front ++ l) (append_assoc (take i Y) (z.byte ∷ drop (i + 1) Y) K.back)
            ∙ sym (append_assoc K.front (take i Y) (z.byte ∷ vs)) in
            let long : length us ≡ length K.front + i = omega (arith, length-append K.front (take i Y), length-take i Y, D.within) in
            let less : length us < length (drop (suc p) T) = omega (arith, ap length text, length-append us (z.byte ∷ vs)) in
            let most : length (drop (suc p) T) + suc p ≤ heaviest + 1 =
            omega (arith, ap length (take-append-drop (suc p) T), length-append (take (suc p) T) (drop (suc p) T), length-take (suc p) T, in_text X.spells st, light_text X) in
            let more : us ++ (z.byte ∷ []) ≡ K.front ++ take (i + 1) Y =
            append_assoc K.front (take i Y) (z.byte ∷ []) ∙ ap (λ (l : List ℕ). K.front ++ l) (ap (λ (c : ℕ). take i Y ++ (c ∷ [])) D.byte ∙ sym (take_more Y i 0 D.within)) in
            inr (
              record { offset = n; byte = z.byte },
              refl,
              record {
                us = us;
                vs = vs;
                text = text;
                offset = omega (arith, K.offset);
                quiet = ⊎_elim
                    (λ (e : i ≡ 0). ap (λ (l : List ℕ). (read_from 6 l).strays) (ap (λ (k : ℕ). K.front ++ take k Y) e ∙ append-nil K.front) ∙ K.quiet)
                    (λ e. omega (arith, leb-false 1 z.before.strays e, ap (λ (r : TokenRow). r.strays) D.before)) D.no;
                close = omega (arith, leb-true 1 z.after.strays D.yes, ap (λ (r : TokenRow). r.strays) D.after, ap (λ (l : List ℕ). (read_from 6 l).strays) more);
              },
            );
        reading = all_reads;
      }
