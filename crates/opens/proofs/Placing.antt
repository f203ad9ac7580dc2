-- Where the parts of a text begin and end.
use Rattle.std.proofs.Common.{◌≡◌, ℕ, ◌+◌, ◌≤◌, Bool, List, [], ◌++◌, length, get_or, Some, None, Ok, Err, Result, sym, refl, ap, ◌∙◌, subst, append_assoc, append-nil, arith, length-append}
use Rattle.plain.specs.Tokens.{end_state}
use Rattle.measures.specs.Law.{heaviest}
use Rattle.lexer.specs.Numbers.{number_of}
use Rattle.lexer.specs.Reading.{read_from, reading, row_at}
use Rattle.lexer.specs.declared.tokens.TokenRow.{TokenRow}
use Rattle.lexer.specs.RowValues.{row_at_lem}
use Rattle.lexer.specs.States.{end_bound, end_read}
use Rattle.slots.specs.Ghost.{Arm, none, rows_twig, rows_arm, rows_part, rows, FitArm, FitPart, Fit}
use Rattle.slots.specs.Sides.{peeled}
use Rattle.slots.specs.Values.{flat, mean, value_in}
use Rattle.slots.specs.declared.records.Digit.{Digit}
use Rattle.slots.specs.declared.records.Peel.{Peel}
use Rattle.slots.specs.declared.records.Record.{Record}
use Rattle.slots.specs.declared.records.Side.TheVariants.{Front}
use Rattle.slots.specs.declared.records.Tree.{Tree}
use Rattle.slots.specs.declared.records.Tree.TheVariants.{Empty, Single, Deep}
use Rattle.slots.specs.declared.records.Unsound.{Unsound}
use Rattle.slots.proofs.Ends.{Peeled, peel_arm}
use Rattle.slots.proofs.Joined.{twig_value, deep_value}
use Rattle.slots.proofs.Shapes.{ok_err, ok_same, part_none, part_some, tree_empty, tree_single, tree_deep}
use Rattle.slots.proofs.Weights.{flat_append}
use Rattle.pieces.specs.Sound.{TextValue, text_means}
use Rattle.pieces.specs.declared.rows.PieceRow.{PieceRow}
use Rattle.token_questions.proofs.Counted.{end_append}
use Rattle.opens.specs.Parts.{part_from_slot}
use Rattle.opens.specs.Walks.{Follows, Aim, Placed, EndsAfter, SlotEnds, DigitEnds, TreeEnds}
use Rattle.opens.specs.declared.parts.Start.{Start}
use Rattle.opens.specs.declared.parts.Part.{Part}

-- What is known of a part whose bytes bs follow w.
pub record PartIs (w bs : List ℕ) (p : Part) : Type 0 where
  pub end : Follows (w ++ bs) p.end
  pub strays : p.strays ≡ (read_from (end_state 0 w) bs).strays
  pub unmet : p.unmet ≡ (read_from (end_state 0 w) bs).unmet

state_low : (w : List ℕ) → end_state 0 w ≤ 12
state_low w = end_bound 0 w (omega arith)

pub part_is : {A : Type 0} (am : List ℕ → A) (w bs : List ℕ) (x : Start) {v : TextValue A} {p : Part} → v ≡ text_means am bs → p ≡ part_from_slot v x → Follows w x → length (w ++ bs) ≤ heaviest → PartIs w bs p
part_is am w bs x {v} {p} e is f light =
    let here : p ≡ part_from_slot (text_means am bs) x = is ∙ ap (λ (q : TextValue _). part_from_slot q x) e in
    let row : row_at (reading bs) (number_of x.state) ≡ read_from (end_state 0 w) bs =
    ap (row_at (reading bs)) f.state ∙ row_at_lem (reading bs) bs (end_state 0 w) (state_low w) refl in record {
      end = record {
        offset = omega (arith, ap (λ (q : Part). q.end.offset) here, f.offset, length-append w bs);
        state = ap (λ (q : Part). number_of q.end.state) here ∙ ap (λ (r : TokenRow). number_of r.state) row ∙ end_read (end_state 0 w) bs (state_low w) ∙ sym (end_append 0 w bs);
      };
      strays = ap (λ (q : Part). q.strays) here ∙ ap (λ (r : TokenRow). r.strays) row;
      unmet = ap (λ (q : Part). q.unmet) here ∙ ap (λ (r : TokenRow). r.unmet) row;
    }

pub follows_same : {w w' : List ℕ} {x : Start} → w ≡ w' → Follows w x → Follows w' x
follows_same {x = x} e f = subst (λ (l : List ℕ). Follows l x) e f

module _ {A : Type 0} {rs : List (Record PieceRow (TextValue A))} where
  pub slot_ends : {i : ℕ} {x : Start} {rv : Result (TextValue A) Unsound} {v : TextValue A} {p : Part} → rv ≡ value_in (get_or rs i none) → rv ≡ Ok v → p ≡ part_from_slot v x → SlotEnds rs i x (Ok p.end)
  slot_ends {x = x} {p = p} rd got is = record { ends = λ am w bs e f light. (p.end, refl, (part_is am w bs x (ok_same got (rd ∙ e)) is f light).end) }

  pub slot_endless : {i : ℕ} {x : Start} {rv : Result (TextValue A) Unsound} {e : Unsound} {r : Result Start Unsound} → rv ≡ value_in (get_or rs i none) → rv ≡ Err e → SlotEnds rs i x r
  slot_endless rd bad = record { ends = λ am w bs e f light. absurd (ok_err e (sym rd ∙ bad)) }

  module _ {x : Start} {o : Peel} {q : Result Start Unsound} (E : SlotEnds rs o.slot x q) where
    -- where the first slot of a digit ends
    first_ends : (am : List ℕ → A) (items : PieceRow → List ℕ) (w : List ℕ) (D : Arm PieceRow (TextValue A)) (k : ℕ) (p : Peeled Front D o) → FitArm (mean (text_means am) items) rs D k → Follows w x
        → length (w ++ flat items (rows_arm D)) ≤ heaviest → EndsAfter (w ++ flat items (rows_twig p.u)) q
    first_ends am items w D k p fit f light =
        let parts : flat items (rows_arm D) ≡ flat items (rows_twig p.u) ++ flat items (rows_part p.Q) = ap (flat items) p.text ∙ flat_append items (rows_twig p.u) (rows_part p.Q) in
        E.ends am w (flat items (rows_twig p.u)) (twig_value (mean (text_means am) items) rs p.u k o.slot p.slot_is (p.fit (mean (text_means am) items) rs k fit).0) f
        (omega (arith, ap length parts, length-append w (flat items (rows_arm D)), length-append w (flat items (rows_twig p.u)), length-append (flat items (rows_twig p.u)) (flat items (rows_part p.Q))))

    pub digit_endless : {d : Digit} {e : Unsound} {r : Result Start Unsound} → o ≡ peeled Front d → q ≡ Err e → DigitEnds rs d x r
    digit_endless is bad = record { ends = λ am items w D k e fit f light. absurd (ok_err (first_ends am items w D k (peel_arm Front D e is) fit f light).1 bad) }

    module _ {d : Digit} {y : Start} (is : o ≡ peeled Front d) (got : q ≡ Ok y) where
      pub digit_ends_one : o.rest ≡ None → DigitEnds rs d x (Ok y)
      digit_ends_one last = record {
        ends = λ am items w D k e fit f light.
            let p = peel_arm Front D e is in
            let F = first_ends am items w D k p fit f light in
            let no_more : rows_part p.Q ≡ [] = part_none (λ Q. rows_part Q ≡ []) refl p.Q (p.rest_is ∙ last) in
            let text : rows_arm D ≡ rows_twig p.u = p.text ∙ ap (λ (l : List PieceRow). rows_twig p.u ++ l) no_more ∙ append-nil (rows_twig p.u) in
            (y, refl, subst (Follows _) (ok_same F.1 got) (follows_same (ap (λ (l : List PieceRow). w ++ flat items l) (sym text)) F.2));
      }

      pub digit_ends_more : {rest : Digit} {r : Result Start Unsound} → o.rest ≡ Some rest → DigitEnds rs rest y r → DigitEnds rs d x r
      digit_ends_more {rest} {r} more G = record {
        ends = λ am items w D k e fit f light.
            let p = peel_arm Front D e is in
            let F = first_ends am items w D k p fit f light in
            let u = flat items (rows_twig p.u) in
            part_some (λ Q. rows_arm D ≡ rows_twig p.u ++ rows_part Q → FitPart (mean (text_means am) items) rs Q k → EndsAfter (w ++ flat items (rows_arm D)) r) rest
            (λ C c text fc.
            let parts : w ++ flat items (rows_arm D) ≡ (w ++ u) ++ flat items (rows_arm C) =
            ap (λ (l : List ℕ). w ++ l) (ap (flat items) text ∙ flat_append items (rows_twig p.u) (rows_arm C)) ∙ sym (append_assoc w u (flat items (rows_arm C))) in
            let H = G.ends am items (w ++ u) C k c fc (subst (Follows (w ++ u)) (ok_same F.1 got) F.2) (subst (λ (l : List ℕ). length l ≤ heaviest) parts light) in
            (H.0, H.1, follows_same (sym parts) H.2))
            p.Q (p.rest_is ∙ more) p.text (p.fit (mean (text_means am) items) rs k fit).1;
      }

  pub tree_ends_empty : {tr : Tree} {x : Start} → tr ≡ Empty → TreeEnds rs tr x (Ok x)
  tree_ends_empty {x = x} is = record {
    ends = λ am items w t k e fit f light. tree_empty (λ t. EndsAfter (w ++ flat items (rows t)) (Ok x)) (x, refl, follows_same (sym (append-nil w)) f) t (e ∙ is);
  }

  pub tree_ends_single : {tr : Tree} {i : ℕ} {x : Start} {r : Result Start Unsound} → tr ≡ Single i → SlotEnds rs i x r → TreeEnds rs tr x r
  tree_ends_single {i = i} {r = r} is E = record {
    ends = λ am items w t k e fit f light.
        tree_single (λ t. Fit (mean (text_means am) items) rs t k → length (w ++ flat items (rows t)) ≤ heaviest → EndsAfter (w ++ flat items (rows t)) r) i
        (λ u ui ft l. E.ends am w (flat items (rows_twig u)) (twig_value (mean (text_means am) items) rs u k i ui ft) f l) t (e ∙ is) fit light;
  }

  pub tree_ends_deep : {tr : Tree} {i : ℕ} {x : Start} {r : Result Start Unsound} → tr ≡ Deep i → SlotEnds rs i x r → TreeEnds rs tr x r
  tree_ends_deep {i = i} {r = r} is E = record {
    ends = λ am items w t k e fit f light.
        tree_deep (λ t. Fit (mean (text_means am) items) rs t k → length (w ++ flat items (rows t)) ≤ heaviest → EndsAfter (w ++ flat items (rows t)) r) i
        (λ j v F m B ji ft l.
        E.ends am w (flat items ((rows_arm F ++ rows m) ++ rows_arm B)) (ap (λ q. value_in (get_or rs q none)) (sym ji) ∙ deep_value (mean (text_means am) items) rs j v F m B k ft) f l) t (e ∙ is) fit light;
  }

-- Rows one after another.
module _ {items : PieceRow → List ℕ} {limit : ℕ} (a : Aim items limit) where
  pub flat_two : (P T : List PieceRow) → length (flat items (P ++ T)) ≡ length (flat items P) + length (flat items T)
  flat_two P T = ap length (flat_append items P T) ∙ length-append (flat items P) (flat items T)

  pub placed_light : (P T : List PieceRow) {x : Start} {inside : Bool} → Placed a P T x inside → length (flat items P ++ flat items T) ≤ heaviest
  placed_light P T pl =
      omega (arith, a.light, ap (λ (l : List PieceRow). length (flat items l)) pl.text, flat_two P (T ++ pl.later), flat_two T pl.later, length-append (flat items P) (flat items T))

  -- the first of two lists of rows, and the second
  module _ (P T T₁ T₂ : List PieceRow) {x : Start} {inside : Bool} (two : T ≡ T₁ ++ T₂) (pl : Placed a P T x inside) where
    pub placed_first : Placed a P T₁ x inside
    placed_first = record {
      later = T₂ ++ pl.later;
      text = pl.text ∙ ap (λ (l : List PieceRow). P ++ l) (ap (λ (l : List PieceRow). l ++ pl.later) two ∙ append_assoc T₁ T₂ pl.later);
      start = pl.start;
      within = λ h. omega (arith, pl.within h, flat_two P T, ap (λ (l : List PieceRow). length (flat items l)) two, flat_two T₁ T₂, flat_two P T₁);
    }

    pub placed_second : {y : Start} → Follows (flat items (P ++ T₁)) y → Placed a (P ++ T₁) T₂ y inside
    placed_second f = record {
      later = pl.later;
      text = pl.text ∙ ap (λ (l : List PieceRow). P ++ l) (ap (λ (l : List PieceRow). l ++ pl.later) two ∙ append_assoc T₁ T₂ pl.later) ∙ sym (append_assoc P T₁ (T₂ ++ pl.later));
      start = f;
      within = λ h. omega (arith, pl.within h, flat_two P T, ap (λ (l : List PieceRow). length (flat items l)) two, flat_two T₁ T₂, flat_two P T₁, flat_two (P ++ T₁) T₂);
    }

    pub rows_second : P ++ T ≡ (P ++ T₁) ++ T₂
    rows_second = ap (λ (l : List PieceRow). P ++ l) two ∙ sym (append_assoc P T₁ T₂)
