-- The paths from a close back to its open.
use Rattle.std.proofs.Common.{◌≡◌, ℕ, ◌+◌, ◌-◌, ◌≤◌, min, List, [], ◌∷◌, ◌++◌, length, get_or, take, drop, Some, None, Ok, Err, Option, Result, sym, refl, ap, ◌∙◌, subst, ap₂, inl, inr, ⊎_elim, append_assoc, arith, length-append, length-take}
use Rattle.std.proofs.lemmas.List.{take-append-drop, take-take, get_or_append_left, get_or-append-add}
use Rattle.std.specs.Option.{option_map}
use Rattle.plain.specs.Lists.{at}
use Rattle.plain.specs.Tokens.{end_state}
use Rattle.measures.specs.Law.{heaviest}
use Rattle.lexer.specs.Numbers.{number_of}
use Rattle.lexer.specs.Reading.{read_from}
use Rattle.lexer.specs.declared.tokens.TokenRow.{TokenRow}
use Rattle.lexer.specs.RowJoins.{brackets_bound}
use Rattle.stores.specs.Stores.{Contents, Lawful}
use Rattle.slots.specs.Ghost.{rows}
use Rattle.slots.specs.Values.{flat}
use Rattle.slots.specs.declared.records.Record.{Record}
use Rattle.slots.specs.declared.records.Tree.{Tree}
use Rattle.slots.specs.declared.records.Unsound.{Unsound}
use Rattle.slots.proofs.Shapes.{ok_err, ok_same}
use Rattle.slots.proofs.Weights.{flat_append}
use Rattle.pieces.specs.Rows.{Makes, SamePiece, bytes_of, AllGood}
use Rattle.pieces.specs.Sound.{TextValue}
use Rattle.pieces.specs.declared.piece.Piece.{Piece}
use Rattle.pieces.specs.declared.rows.PieceRow.{PieceRow}
use Rattle.pieces.proofs.RowParts.{all_right}
use Rattle.asking.specs.Texts.{TextAt}
use Rattle.asking.proofs.PartPaths.{reads_none}
use Rattle.asking.proofs.RowTurns.{some_none, some_same}
use Rattle.asking.proofs.TextPlaces.{light_text}
use Rattle.bracket_questions.specs.Waiting.{waited}
use Rattle.opens.specs.Walks.{Aim, Lies, Walked}
use Rattle.opens.specs.declared.parts.Held.{Held}
use Rattle.bracket_questions.proofs.Waiting.{waited_append, waits_within, waits_before}
use Rattle.bracket_answers.specs.Spots.{StandsAt}
use Rattle.bracket_answers.specs.Backward.{MetIn, HeldIn, OpenHeld, OpenMet, OpenTold}
use Rattle.bracket_answers.specs.declared.spot.Spot.{Spot}
use Rattle.bracket_answers.specs.declared.spot.Other.{Other}
use Rattle.bracket_answers.specs.declared.backward.Met.{Met}
use Rattle.bracket_answers.proofs.Spotting.{makes, same_part, in_three, up_to, in_text, long_row}

-- the first that waits after two lists
last_of : (w bs : List ℕ) → at (waited 0 0 [] (w ++ bs)) 0 ≡ at (waited (end_state 0 w) (length w) (waited 0 0 [] w) bs) 0
last_of w bs =
    let from-here : 0 + length w ≡ length w = omega arith in
    ap (λ (l : List ℕ). at l 0) (waited_append 0 0 [] w bs) ∙ ap (λ (i : ℕ). at (waited (end_state 0 w) i (waited 0 0 [] w) bs) 0) from-here

module _ {A : Type 0} {rs : List (Record PieceRow (TextValue A))} {tr : Tree} {x : Spot} where
  -- in the piece of the close
  pub held_near : (x.stop.before.unmet ≡ 0 → ⊥) → OpenHeld rs tr x (Ok (Some (record { row = record { address = x.row.address; length = x.stop.index }; start = x.start; rank = x.stop.before.unmet })))
  held_near some = record {
    holds = λ am B T X p st.
        let L : List ℕ = flat (bytes_of B) st.xs in
        let Y : List ℕ = bytes_of B x.row in
        let k = x.stop.index in
        let bs : List ℕ = take k Y in
        let row : PieceRow = record { address = x.row.address; length = k } in
        let part : bytes_of B row ≡ bs = sym (take-take k x.row.length (drop x.row.address B) (omega (arith, st.within))) in
        let long = long_row X.spells st in
        let size : length bs ≡ k = omega (arith, length-take k Y, long, st.within) in
        let u : x.stop.before.unmet ≡ (read_from (end_state 0 L) bs).unmet = ap (λ (r : TokenRow). r.unmet) st.before in
        let u' : x.stop.before.unmet ≡ (read_from (end_state 0 L) (bytes_of B row)).unmet = u ∙ ap (λ (l : List ℕ). (read_from (end_state 0 L) l).unmet) (sym part) in
        let g₁ : x.row.length ≤ 256 = st.good.1 in
        let g₂ : x.row.address + x.row.length ≤ length B = st.good.2 in
        let bound = brackets_bound (end_state 0 L) bs in
        let text : T ≡ L ++ (bytes_of B row ++ (drop k Y ++ flat (bytes_of B) st.ys)) =
        in_three X.spells st
        ∙ ap (λ (l : List ℕ). L ++ (l ++ flat (bytes_of B) st.ys)) (sym (take-append-drop k Y))
        ∙ ap (λ (l : List ℕ). L ++ l) (append_assoc bs (drop k Y) (flat (bytes_of B) st.ys) ∙ ap (λ (l : List ℕ). l ++ (drop k Y ++ flat (bytes_of B) st.ys)) (sym part)) in
        let top : 0 ≡ (read_from (end_state 0 L) (bytes_of B row)).unmet - x.stop.before.unmet = omega (arith, u') in
        inr (
          record { row = row; start = x.start; rank = x.stop.before.unmet },
          refl,
          record {
            front = L;
            back = drop k Y ++ flat (bytes_of B) st.ys;
            text = text;
            good = (omega (arith, u, bound, size), omega (arith, st.within), omega (arith, st.within));
            start = st.start;
            some = omega arith;
            own = omega (arith, u');
            same = ap (λ (l : List ℕ). at (waited 0 0 [] l) 0) (up_to X.spells st) ∙ last_of L bs
                ∙ waits_within (end_state 0 L) (length L) (waited 0 0 [] L) bs 0 (omega (arith, u))
                ∙ ap₂ (λ (l : List ℕ) (j : ℕ). at (waited (end_state 0 L) (length L) [] l) j) (sym part) top;
          },
        );
  }

  -- or further back
  pub held_far : {r : Result (Option Held) Unsound} → x.stop.before.unmet ≡ 0 → Walked rs tr x.start.offset x.stop.before.strays r → OpenHeld rs tr x r
  held_far {r} none W = record {
    holds = λ am B T X p st.
        let L : List ℕ = flat (bytes_of B) st.xs in
        let Y : List ℕ = bytes_of B x.row in
        let bs : List ℕ = take x.stop.index Y in
        let u : x.stop.before.unmet ≡ (read_from (end_state 0 L) bs).unmet = ap (λ (q : TokenRow). q.unmet) st.before in
        let c : x.stop.before.strays ≡ (read_from (end_state 0 L) bs).strays = ap (λ (q : TokenRow). q.strays) st.before in
        let place : (0 - (read_from (end_state 0 L) bs).unmet) + (read_from (end_state 0 L) bs).strays ≡ x.stop.before.strays = omega (arith, u, c) in
        let sought : at (waited 0 0 [] (take p T)) 0 ≡ at (waited 0 0 [] L) x.stop.before.strays =
        ap (λ (l : List ℕ). at (waited 0 0 [] l) 0) (up_to X.spells st) ∙ last_of L bs
        ∙ waits_before (end_state 0 L) (length L) (waited 0 0 [] L) bs 0 (omega (arith, u)) ∙ ap (at (waited 0 0 [] L)) place in
        let a : Aim (bytes_of B) x.start.offset = record {
          all = rows X.t;
          front = st.xs;
          back = x.row ∷ st.ys;
          parts = st.parts;
          edge = st.start.offset;
          light = omega (arith, light_text X, ap length X.spells);
          sought = at (waited 0 0 [] (take p T)) 0;
        } in
        let small : x.start.offset + x.stop.before.strays ≤ heaviest =
        omega (arith, c, brackets_bound (end_state 0 L) bs, length-take x.stop.index Y, st.start.offset, st.place, in_text X.spells st, light_text X) in
        ⊎_elim (λ f. inl (f.0, f.1)) (λ f. inr (f.0, f.1, held_in B T X.good X.spells a f.0 refl f.2))
        (W.walks am (bytes_of B) a X.t X.tree X.fit X.few refl small sought);
  }
    where
      held_in : (B T : List ℕ) {R : List PieceRow} → AllGood B R → flat (bytes_of B) R ≡ T → {limit : ℕ} (a : Aim (bytes_of B) limit) (h : Held) → R ≡ a.all → Lies a h → HeldIn B T a.sought h
      held_in B T {R} good spells a h all l = record {
        front = flat (bytes_of B) l.xs;
        back = flat (bytes_of B) l.ys;
        text = sym spells ∙ ap (flat (bytes_of B)) (all ∙ l.text) ∙ flat_append (bytes_of B) l.xs (h.row ∷ l.ys);
        good = (all_right B l.xs (h.row ∷ l.ys) (subst (AllGood B) (all ∙ l.text) good)).0;
        start = l.start;
        some = l.some;
        own = l.own;
        same = l.same;
      }

-- where the open is held, once it is known that it is
holding : {A : Type 0} {rs : List (Record PieceRow (TextValue A))} {tr : Tree} {x : Spot} {q : Result (Option Held) Unsound} {f : Option Held} {h : Held} → OpenHeld rs tr x q → q ≡ Ok f → f ≡ Some h
    → (am : List ℕ → A) (B T : List ℕ) (X : TextAt am B rs tr T) (p : ℕ) → StandsAt B (rows X.t) p x → HeldIn B T (at (waited 0 0 [] (take p T)) 0) h
holding H got yea am B T X p st = ⊎_elim
    (λ n. absurd (some_none (sym (ok_same n.0 got ∙ yea))))
    (λ y. subst (HeldIn B T (at (waited 0 0 [] (take p T)) 0)) (some_same (ok_same y.1 got ∙ yea)) y.2) (H.holds am B T X p st)

module _ {A S : Type 0} {contents : S → Contents} {rs : List (Record PieceRow (TextValue A))} {tr : Tree} {x : Spot} {s : S} {q : Result (Option Held) Unsound} (H : OpenHeld rs tr x q) where
  pub open_lost : {e : Unsound} {r : Result (Option Other) Unsound} → q ≡ Err e → OpenTold contents rs tr x s s r
  open_lost bad = record { tells = λ am T X p st. absurd (⊎_elim (λ f. ok_err f.0 bad) (λ f. ok_err f.1 bad) (H.holds am (contents s).bytes T X p st)); reading = reads_none }

  pub open_none : {f : Option Held} → q ≡ Ok f → f ≡ None → OpenTold contents rs tr x s s (Ok None)
  open_none got nay = record {
    tells = λ am T X p st. ⊎_elim
        (λ f. ap (λ (o : Option ℕ). Ok (option_map (λ o. record { offset = o; byte = get_or T o 0 }) o)) (sym f.1))
        (λ f. absurd (some_none (ok_same f.1 got ∙ nay))) (H.holds am (contents s).bytes T X p st);
    reading = reads_none;
  }

  module _ {f : Option Held} {h : Held} (got : q ≡ Ok f) (yea : f ≡ Some h) where
    pub open_no_piece : {r : Result (Option Other) Unsound} → Lawful contents → (Makes h.row → ⊥) → OpenTold contents rs tr x s s r
    open_no_piece law nay = record { tells = λ am T X p st. absurd (nay (makes law s h.row (holding H got yea am (contents s).bytes T X p st).good)); reading = reads_none }

    module _ {s' : S} {y : Piece} {rm : Result Met Unsound} (same : SamePiece h.row y) (M : OpenMet contents s s' y.address y.length (number_of h.start.state) h.rank rm) where
      meeting : (T : List ℕ) (o : Option ℕ) (D : HeldIn (contents s).bytes T o h) → (m : Met) × (rm ≡ Ok m) × MetIn (end_state 0 D.front) (bytes_of (contents s).bytes h.row) h.rank m
      meeting T o D =
          let within : h.row.address + h.row.length ≤ length (contents s).bytes = D.good.2 in
          let st : number_of h.start.state ≡ end_state 0 D.front = D.start.state in
          let J = M.meets (bytes_of (contents s).bytes h.row) (same_part (contents s).bytes h.row same) (omega (arith, same.address_is, same.length_is)) D.some
          (subst (λ (k : ℕ). h.rank ≤ (read_from k (bytes_of (contents s).bytes h.row)).unmet) (sym st) D.own) in
          (J.0, J.1, subst (λ (k : ℕ). MetIn k (bytes_of (contents s).bytes h.row) h.rank J.0) st J.2)

      pub open_unread : {e : Unsound} {r : Result (Option Other) Unsound} → rm ≡ Err e → OpenTold contents rs tr x s s' r
      open_unread bad = record { tells = λ am T X p st. absurd (ok_err (meeting T (at (waited 0 0 [] (take p T)) 0) (holding H got yea am (contents s).bytes T X p st)).1 bad); reading = M.reading }

      pub open_told : {m : Met} {n : ℕ} → rm ≡ Ok m → n ≡ min (h.start.offset + m.index) 4294967295 → OpenTold contents rs tr x s s' (Ok (Some (record { offset = n; byte = m.byte })))
      open_told {m} {n} got-m n-is = record {
        tells = λ am T X p st.
            let D = holding H got yea am (contents s).bytes T X p st in
            let J = meeting T (at (waited 0 0 [] (take p T)) 0) D in
            let m-is : J.0 ≡ m = ok_same J.1 got-m in
            let N : MetIn (end_state 0 D.front) (bytes_of (contents s).bytes h.row) h.rank m = subst (MetIn (end_state 0 D.front) (bytes_of (contents s).bytes h.row) h.rank) m-is J.2 in
            let W : List ℕ = D.front in
            let Y : List ℕ = bytes_of (contents s).bytes h.row in
            let all : length T ≡ length W + (length Y + length D.back) = ap length D.text ∙ length-append W (Y ++ D.back) ∙ ap (λ (k : ℕ). length W + k) (length-append Y D.back) in
            let there : n ≡ length W + m.index = omega (arith, D.start.offset, N.within, light_text X) in
            let o_is : at (waited 0 0 [] (take p T)) 0 ≡ Some n = D.same ∙ N.place (length W) ∙ ap Some (sym there) in
            let b-is : m.byte ≡ get_or T n 0 =
            N.byte ∙ sym (get_or_append_left Y D.back 0 m.index N.within) ∙ sym (get_or-append-add W (Y ++ D.back) m.index 0)
            ∙ ap (λ (k : ℕ). get_or (W ++ (Y ++ D.back)) k 0) (sym there) ∙ ap (λ (t : List ℕ). get_or t n 0) (sym D.text) in
            ap (λ (b : ℕ). Ok (Some (record { offset = n; byte = b }))) b-is
            ∙ sym (ap (λ (o : Option ℕ). Ok (option_map (λ o. record { offset = o; byte = get_or T o 0 }) o)) o_is);
        reading = M.reading;
      }
