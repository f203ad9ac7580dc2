-- The paths of the walk.
use Rattle.std.proofs.Common.{◌≡◌, ℕ, zero, suc, ◌+◌, ◌-◌, ◌<◌, ◌≤◌, Bool, false, List, [], ◌∷◌, ◌++◌, length, get_or, take, is_some, Some, None, Ok, Err, Option, Result, sym, refl, ap, ◌∙◌, subst, inl, inr, ⊎_elim, append_assoc, append-nil, arith, length-append, ◌⊎◌}
use Rattle.std.proofs.lemmas.List.{take_all, take-append-le}
use Rattle.plain.specs.Lists.{at}
use Rattle.plain.specs.Tokens.{end_state}
use Rattle.measures.specs.Law.{heaviest}
use Rattle.lexer.specs.Numbers.{number_of}
use Rattle.lexer.specs.declared.states.State.TheVariants as State
use Rattle.lexer.specs.Reading.{read_from}
use Rattle.slots.specs.Ghost.{Twig, leaf, two, three, Arm, Finger, none, root, digit_of, tree_of, rows_twig, rows_arm, rows_part, rows, levels, FitTwig, FitArm, FitPart, Fit}
use Rattle.slots.specs.Holds.{most}
use Rattle.slots.specs.Sides.{peeled}
use Rattle.slots.specs.Values.{flat, mean, value_in, row_in, parts_in, spine_in}
use Rattle.slots.specs.declared.records.Digit.{Digit}
use Rattle.slots.specs.declared.records.Peel.{Peel}
use Rattle.slots.specs.declared.records.Record.{Record}
use Rattle.slots.specs.declared.records.Side.TheVariants.{Front}
use Rattle.slots.specs.declared.records.Spine.{Spine}
use Rattle.slots.specs.declared.records.Tree.{Tree}
use Rattle.slots.specs.declared.records.Tree.TheVariants.{Empty, Single, Deep}
use Rattle.slots.specs.declared.records.Unsound.{Unsound}
use Rattle.slots.proofs.Depth.{few_levels}
use Rattle.slots.proofs.Ends.{Peeled, peel_arm}
use Rattle.slots.proofs.Joined.{twig_value, deep_value}
use Rattle.slots.proofs.Shapes.{ok_err, ok_same, part_none, part_some, tree_empty, tree_single, tree_deep, at_level}
use Rattle.slots.proofs.Weights.{flat_append}
use Rattle.seek.proofs.Finding.{opened, no_level}
use Rattle.pieces.specs.Sound.{TextValue, text_means}
use Rattle.pieces.specs.declared.rows.PieceRow.{PieceRow}
use Rattle.bracket_questions.specs.Waiting.{waited}
use Rattle.opens.specs.Parts.{held_by}
use Rattle.opens.specs.Walks.{Follows, Aim, Stands, Lies, Heads, Placed, Entered, Visits, EndsAfter, SlotEnds, DigitEnds, TreeEnds, Visited, SlotWalked, DigitWalked, TreeWalked, Walked}
use Rattle.opens.specs.declared.parts.Start.{Start}
use Rattle.opens.specs.declared.parts.Held.{Held}
use Rattle.opens.specs.declared.parts.Back.{Back}
use Rattle.opens.specs.declared.parts.Back.TheVariants.{At, Before}
use Rattle.opens.specs.declared.parts.Visit.{Visit}
use Rattle.opens.specs.declared.parts.Visit.TheVariants.{Past, Into}
use Rattle.opens.proofs.Placing.{follows_same, placed_light, placed_first, placed_second, rows_second}
use Rattle.opens.proofs.Judging.{stands_in, held, inside_of, heads_ok}

-- a row that begins before an edge between rows ends by it
edge_row : (items : PieceRow → List ℕ) (P X : List PieceRow) (x : PieceRow) (Z Y : List PieceRow) → P ++ (x ∷ Z) ≡ X ++ Y → length (flat items P) < length (flat items X)
    → length (flat items (P ++ (x ∷ []))) ≤ length (flat items X)
edge_row items P [] x Z Y e h = absurd (omega arith)
edge_row items [] (y ∷ X) x Z Y e h =
    let same : x ≡ y = cc in
    omega (arith, ap (λ (q : PieceRow). length (items q)) same, length-append (items x) [], length-append (items y) (flat items X))
edge_row items (p ∷ P) (y ∷ X) x Z Y e h =
    let same : p ≡ y = cc in
    let rest : P ++ (x ∷ Z) ≡ X ++ Y = cc in
    let n = ap (λ (q : PieceRow). length (items q)) same in
    let l₁ = length-append (items p) (flat items P) in
    let l₂ = length-append (items y) (flat items X) in
    let l₃ = length-append (items p) (flat items (P ++ (x ∷ []))) in
    omega (arith, edge_row items P X x Z Y rest (omega arith))

-- the same rows, written in another way
pub heads_rows : {items : PieceRow → List ℕ} {limit : ℕ} (a : Aim items limit) {P Q : List PieceRow} {r : Result Back Unsound} → P ≡ Q → Heads a P r → Heads a Q r
heads_rows a {r = r} e f = subst (λ (l : List PieceRow). Heads a l r) e f

-- what a call gave that `?` goes on from: a value of which P holds, or an error
abbrev pub OkOr : Result Back Unsound → (Back → Type 0) → Type 0
OkOr q P = ((b : Back) × (q ≡ Ok b) × P b) ⊎ ((e : Unsound) × (q ≡ Err e))

-- what the visit of a part says once it is known what it gave
module _ {items : PieceRow → List ℕ} {limit : ℕ} (a : Aim items limit) (P T : List PieceRow) {vr : Result Visit Unsound} {v : Visit} (got : vr ≡ Ok v) where
  pub visited_past : {b : Back} → v ≡ Past b → Visits a P T vr → Heads a P (Ok b)
  visited_past is f = ⊎_elim
      (λ q. let e = ok_same got q.1 in subst (λ (x : Back). Heads a P (Ok x)) (let same : q.0 ≡ _ = cc in same) q.2)
      (λ q. let e = ok_same got q.2 in absurd (let z : ◌≡◌ {A = ℕ} 0 1 = cc in omega arith)) f

  pub visited_into : {k : ℕ} {n : Option ℕ} → v ≡ Into k n → Visits a P T vr → Stands a (P ++ T) k × Entered a P T k n
  visited_into {k} {n} is f = ⊎_elim
      (λ q. let e = ok_same got q.1 in absurd (let z : ◌≡◌ {A = ℕ} 0 1 = cc in omega arith))
      (λ q.
      let e = ok_same got q.2 in
      let same_k : q.0 ≡ k = cc in
      let same-n : q.1 ≡ n = cc in
      (subst (Stands a (P ++ T)) same_k q.3, subst (λ (m : Option ℕ). Entered a P T k m) same-n (subst (λ (j : ℕ). Entered a P T j q.1) same_k q.4))) f

-- a part of parts
placed_inside : {items : PieceRow → List ℕ} {limit : ℕ} (a : Aim items limit) (P T : List PieceRow) {x : Start} {inside whole : Bool} (k : ℕ) (n : Option ℕ) → Placed a P T x inside → Entered a P T k n → whole ≡ is_some n
    → Placed a P T x whole
placed_inside a P T k n pl en is = record { later = pl.later; text = pl.text; start = pl.start; within = λ h. inside_of a P T k n en (sym is ∙ h) }

visited : {A : Type 0} {rs : List (Record PieceRow (TextValue A))} (height : ℕ) {i : ℕ} {x : Start} {limit : ℕ} {inside : Bool} {later : Back} {vr : Result Visit Unsound} → Visited rs i x limit inside later vr
    → (am : List ℕ → A) (items : PieceRow → List ℕ) (a : Aim items limit) (P : List PieceRow) (u : Twig PieceRow (TextValue A)) → root u ≡ i → FitTwig (mean (text_means am) items) rs u height
    → Placed a P (rows_twig u) x inside → Heads a (P ++ rows_twig u) (Ok later) → Visits a P (rows_twig u) vr
visited {rs = rs} height {i} V am items a P u e fit pl f = V.visits am items a P (rows_twig u) (twig_value (mean (text_means am) items) rs u height i e fit) pl f

module _ {A : Type 0} {rs : List (Record PieceRow (TextValue A))} {height i : ℕ} {x : Start} {limit : ℕ} {inside : Bool} {later : Back} {vr : Result Visit Unsound}
    (V : Visited rs i x limit inside later vr) where
  pub slot_lost : {e : Unsound} {r : Result Back Unsound} → vr ≡ Err e → SlotWalked rs height i x limit inside later r
  slot_lost bad = record {
    walks = λ am items a P u e fit pl f. ⊎_elim (λ q. absurd (ok_err q.1 bad)) (λ q. absurd (ok_err q.2 bad)) (visited height V am items a P u e fit pl f);
  }

  module _ {v : Visit} (got : vr ≡ Ok v) where
    pub slot_past : {b : Back} → v ≡ Past b → SlotWalked rs height i x limit inside later (Ok b)
    slot_past is = record { walks = λ am items a P u e fit pl f. visited_past a P (rows_twig u) got is (visited height V am items a P u e fit pl f) }

    module _ {k : ℕ} {n : Option ℕ} (is : v ≡ Into k n) where
      module _ {ps : Result Digit Unsound} (high : 0 < height) (rd : ps ≡ parts_in (get_or rs i none)) where
        pub slot_no_parts : {e : Unsound} {r : Result Back Unsound} → ps ≡ Err e → SlotWalked rs height i x limit inside later r
        slot_no_parts bad = record { walks = λ am items a P u e fit pl f. absurd (ok_err (opened (mean (text_means am) items) rs (λ z. omega arith) rd u height refl e fit).4 bad) }

        pub slot_node : {d : Digit} {whole : Bool} {found r : Result Back Unsound} → ps ≡ Ok d → whole ≡ is_some n → DigitWalked rs (height - 1) d x limit whole (Before k) found → r ≡ held_by n found
            → SlotWalked rs height i x limit inside later r
        slot_node {d} {whole} {found} gp wh D hold-is = record {
          walks = λ am items a P u e fit pl f.
              let o = opened (mean (text_means am) items) rs (λ z. omega arith) rd u height refl e fit in
              let S = visited_into a P (rows_twig u) got is (visited height V am items a P u e fit pl f) in
              let D₁ = subst (λ (h : ℕ). DigitWalked rs h d x limit whole (Before k) found) (let z : height - 1 ≡ o.1 = omega (arith, o.2) in z) D in
              let g = D₁.walks am items a P o.0 (ok_same o.4 gp) o.5
              (subst (λ (l : List PieceRow). Placed a P l x whole) (sym o.3) (placed_inside a P (rows_twig u) k n pl S.1 wh))
              (inl (k, refl, subst (λ (l : List PieceRow). Stands a (P ++ l) k) (sym o.3) S.0)) in
              held a P (rows_twig u) k n S.0 S.1 hold-is g;
        }

      -- at a leaf
      module _ (low : height ≤ 0) where
        leaf_is : (mn : List PieceRow → TextValue A) (u : Twig PieceRow (TextValue A)) (h : ℕ) → h ≤ 0 → root u ≡ i → FitTwig mn rs u h → (row : PieceRow) × (rows_twig u ≡ row ∷ []) × (row_in (get_or rs i none) ≡ Ok row)
        leaf_is mn (leaf j row v) zero z e fit = (row, refl, ap (λ q. row_in (get_or rs q none)) (sym e) ∙ ap row_in fit.0.is)
        leaf_is mn (leaf j row v) (suc h) z e fit = absurd fit
        leaf_is mn (two j v b c) zero z e fit = absurd fit
        leaf_is mn (two j v b c) (suc h) z e fit = absurd (omega arith)
        leaf_is mn (three j v b c d) zero z e fit = absurd fit
        leaf_is mn (three j v b c d) (suc h) z e fit = absurd (omega arith)

        -- the limit is not inside
        pub slot_split : {r : Result Back Unsound} → n ≡ None → SlotWalked rs height i x limit inside later r
        slot_split none_is = record {
          walks = λ am items a P u e fit pl f.
              let l = leaf_is (mean (text_means am) items) u height low e fit in
              let S = visited_into a P (rows_twig u) got is (visited height V am items a P u e fit pl f) in
              let en : Entered a P (rows_twig u) k None = subst (λ (m : Option ℕ). Entered a P (rows_twig u) k m) none_is S.1 in
              let text : P ++ (l.0 ∷ pl.later) ≡ a.front ++ a.back = ap (λ (q : List PieceRow). P ++ (q ++ pl.later)) (sym l.1) ∙ sym pl.text ∙ a.parts in
              absurd (omega (arith, en.0, en.1, a.edge, ap (λ (q : List PieceRow). length (flat items (P ++ q))) l.1, edge_row items P a.front l.0 pl.later a.back text (omega (arith, en.0, a.edge))));
        }

        module _ {rank : ℕ} {rr : Result PieceRow Unsound} (some : n ≡ Some rank) (rd : rr ≡ row_in (get_or rs i none)) where
          pub slot_no_row : {e : Unsound} {r : Result Back Unsound} → rr ≡ Err e → SlotWalked rs height i x limit inside later r
          slot_no_row bad = record { walks = λ am items a P u e fit pl f. absurd (ok_err (leaf_is (mean (text_means am) items) u height low e fit).2 (sym rd ∙ bad)) }

          pub slot_leaf : {row : PieceRow} → rr ≡ Ok row → SlotWalked rs height i x limit inside later (Ok (At (record { row = row; start = x; rank = rank })))
          slot_leaf {row} gr = record {
            walks = λ am items a P u e fit pl f.
                let l = leaf_is (mean (text_means am) items) u height low e fit in
                let row_is : l.0 ≡ row = ok_same l.2 (sym rd ∙ gr) in
                let T-is : rows_twig u ≡ row ∷ [] = l.1 ∙ ap (λ (q : PieceRow). q ∷ []) row_is in
                let S = visited_into a P (rows_twig u) got is (visited height V am items a P u e fit pl f) in
                let en : Entered a P (rows_twig u) k (Some rank) = subst (λ (m : Option ℕ). Entered a P (rows_twig u) k m) some S.1 in
                let bs-is : flat items (rows_twig u) ≡ items row = ap (flat items) T-is ∙ append-nil (items row) in
                let s = end_state 0 (flat items P) in
                let same-unmet : (read_from s (flat items (rows_twig u))).unmet ≡ (read_from s (items row)).unmet = ap (λ (q : List ℕ). (read_from s q).unmet) bs-is in
                let place : k ≡ (read_from s (items row)).unmet - rank = omega (arith, en.2, same-unmet) in
                inr (
                  record { row = row; start = x; rank = rank },
                  refl,
                  record {
                    xs = P;
                    ys = pl.later;
                    text = pl.text ∙ ap (λ (q : List PieceRow). P ++ (q ++ pl.later)) T-is;
                    start = pl.start;
                    some = en.1;
                    own = omega (arith, en.2, same-unmet);
                    same = stands_in a P (rows_twig u) k en.0 S.0 (omega (arith, en.1, en.2))
                        ∙ ap (λ (q : List ℕ). at (waited s (length (flat items P)) [] q) k) bs-is ∙ ap (at (waited s (length (flat items P)) [] (items row))) place;
                  },
                );
          }

-- where the first slot of a digit ends
first_ends : {A : Type 0} {rs : List (Record PieceRow (TextValue A))} (height : ℕ) {x : Start} {limit : ℕ} {inside : Bool} {o : Peel} {q : Result Start Unsound} → SlotEnds rs o.slot x q
    → (am : List ℕ → A) (items : PieceRow → List ℕ) (a : Aim items limit) (P : List PieceRow) (D : Arm PieceRow (TextValue A)) (p : Peeled Front D o) → FitArm (mean (text_means am) items) rs D height → Placed a P (rows_arm D) x inside
    → EndsAfter (flat items P ++ flat items (rows_twig p.u)) q
first_ends {rs = rs} height {o = o} E am items a P D p fit pl =
    E.ends am (flat items P) (flat items (rows_twig p.u)) (twig_value (mean (text_means am) items) rs p.u height o.slot p.slot_is (p.fit (mean (text_means am) items) rs height fit).0) pl.start
    (placed_light a P (rows_twig p.u) (placed_first a P (rows_arm D) (rows_twig p.u) (rows_part p.Q) p.text pl))

module _ {A : Type 0} {rs : List (Record PieceRow (TextValue A))} {height : ℕ} {d : Digit} {x : Start} {limit : ℕ} {inside : Bool} {later : Back} {o : Peel} (is : o ≡ peeled Front d) where
  pub digit_one : {r : Result Back Unsound} → o.rest ≡ None → SlotWalked rs height o.slot x limit inside later r → DigitWalked rs height d x limit inside later r
  digit_one last W = record {
    walks = λ am items a P D e fit pl f.
        let p = peel_arm Front D e is in
        let no_more : rows_part p.Q ≡ [] = part_none (λ Q. rows_part Q ≡ []) refl p.Q (p.rest_is ∙ last) in
        let text : rows_arm D ≡ rows_twig p.u = p.text ∙ ap (λ (l : List PieceRow). rows_twig p.u ++ l) no_more ∙ append-nil (rows_twig p.u) in
        W.walks am items a P p.u p.slot_is (p.fit (mean (text_means am) items) rs height fit).0
        (subst (λ (l : List PieceRow). Placed a P l x inside) text pl) (heads_rows a (ap (λ (l : List PieceRow). P ++ l) text) f);
  }

  module _ {rest : Digit} {q : Result Start Unsound} (more : o.rest ≡ Some rest) (E : SlotEnds rs o.slot x q) where
    pub digit_lost : {e : Unsound} {r : Result Back Unsound} → q ≡ Err e → DigitWalked rs height d x limit inside later r
    digit_lost bad = record { walks = λ am items a P D e fit pl f. absurd (ok_err (first_ends height E am items a P D (peel_arm Front D e is) fit pl).1 bad) }

    pub digit_more : {next : Start} {found r : Result Back Unsound} → q ≡ Ok next → DigitWalked rs height rest next limit inside later found → OkOr found (λ b. SlotWalked rs height o.slot x limit inside b r)
        → DigitWalked rs height d x limit inside later r
    digit_more {next} {found} got G W = record {
      walks = λ am items a P D e fit pl f.
          let p = peel_arm Front D e is in
          let T₁ = rows_twig p.u in
          let E₁ = first_ends height E am items a P D p fit pl in
          let after : Follows (flat items (P ++ T₁)) next = follows_same (sym (flat_append items P T₁)) (subst (Follows (flat items P ++ flat items T₁)) (ok_same E₁.1 got) E₁.2) in
          let fits = p.fit (mean (text_means am) items) rs height fit in
          let g : Heads a (P ++ T₁) found = part_some (λ Q. rows_arm D ≡ T₁ ++ rows_part Q → FitPart (mean (text_means am) items) rs Q height → Heads a (P ++ T₁) found) rest
          (λ C c text fc.
          G.walks am items a (P ++ T₁) C c fc (placed_second a P (rows_arm D) T₁ (rows_arm C) text pl after) (heads_rows a (rows_second a P (rows_arm D) T₁ (rows_arm C) text pl) f))
          p.Q (p.rest_is ∙ more) p.text fits.1 in
          ⊎_elim
          (λ y. y.2.walks am items a P p.u p.slot_is fits.0 (placed_first a P (rows_arm D) T₁ (rows_part p.Q) p.text pl) (subst (Heads a (P ++ T₁)) y.1 g))
          (λ y. absurd (heads_ok a (P ++ T₁) g y.1)) W;
    }

-- the visit of a level
judged : {A : Type 0} {rs : List (Record PieceRow (TextValue A))} {tr : Tree} {i : ℕ} {x : Start} {limit : ℕ} {inside : Bool} {later : Back} {vr : Result Visit Unsound} → tr ≡ Deep i → Visited rs i x limit inside later vr
    → (am : List ℕ → A) (items : PieceRow → List ℕ) (a : Aim items limit) (P : List PieceRow) (t : Finger PieceRow (TextValue A)) (h : ℕ) → tree_of t ≡ tr → Fit (mean (text_means am) items) rs t h
    → Placed a P (rows t) x inside → Heads a (P ++ rows t) (Ok later) → Visits a P (rows t) vr
judged {rs = rs} {i = i} {x = x} {inside = inside} {later = later} {vr = vr} deep_is V am items a P t h e fit pl f =
    tree_deep (λ t. Fit (mean (text_means am) items) rs t h → Placed a P (rows t) x inside → Heads a (P ++ rows t) (Ok later) → Visits a P (rows t) vr) i
    (λ j v F m B ji ft p g.
    V.visits am items a P ((rows_arm F ++ rows m) ++ rows_arm B) (ap (λ q. value_in (get_or rs q none)) (sym ji) ∙ deep_value (mean (text_means am) items) rs j v F m B h ft) p g) t (e ∙ deep_is) fit pl f

-- the place after two lists of rows
ends_at : {q : Result Start Unsound} {y : Start} (items : PieceRow → List ℕ) (P T : List PieceRow) → q ≡ Ok y → EndsAfter (flat items P ++ flat items T) q → Follows (flat items (P ++ T)) y
ends_at items P T got E = follows_same (sym (flat_append items P T)) (subst (Follows (flat items P ++ flat items T)) (ok_same E.1 got) E.2)

module _ {A : Type 0} {rs : List (Record PieceRow (TextValue A))} {height : ℕ} {tr : Tree} {x : Start} {limit : ℕ} {inside : Bool} {later : Back} where
  pub tree_none : tr ≡ Empty → TreeWalked rs height tr x limit inside later (Ok later)
  tree_none is = record {
    walks = λ am items a P t e fit low pl f. tree_empty (λ t. Heads a (P ++ rows t) (Ok later) → Heads a P (Ok later)) (λ g. heads_rows a (append-nil P) g) t (e ∙ is) f;
  }

  pub tree_one : {i : ℕ} {r : Result Back Unsound} → tr ≡ Single i → SlotWalked rs height i x limit inside later r → TreeWalked rs height tr x limit inside later r
  tree_one {i} {r} is W = record {
    walks = λ am items a P t e fit low pl f.
        tree_single (λ t. Fit (mean (text_means am) items) rs t height → Placed a P (rows t) x inside → Heads a (P ++ rows t) (Ok later) → Heads a P r) i
        (λ u ui ft p g. W.walks am items a P u ui ft p g) t (e ∙ is) fit pl f;
  }

  module _ {i : ℕ} {vr : Result Visit Unsound} (deep_is : tr ≡ Deep i) (V : Visited rs i x limit inside later vr) where
    pub tree_lost : {e : Unsound} {r : Result Back Unsound} → vr ≡ Err e → TreeWalked rs height tr x limit inside later r
    tree_lost bad = record {
      walks = λ am items a P t e fit low pl f. ⊎_elim (λ q. absurd (ok_err q.1 bad)) (λ q. absurd (ok_err q.2 bad)) (judged deep_is V am items a P t height e fit pl f);
    }

    module _ {v : Visit} (got : vr ≡ Ok v) where
      pub tree_past : {b : Back} → v ≡ Past b → TreeWalked rs height tr x limit inside later (Ok b)
      tree_past is = record { walks = λ am items a P t e fit low pl f. visited_past a P (rows t) got is (judged deep_is V am items a P t height e fit pl f) }

      module _ {k : ℕ} {n : Option ℕ} (is : v ≡ Into k n) where
        pub tree_too_deep : {r : Result Back Unsound} → 16 ≤ height → TreeWalked rs height tr x limit inside later r
        tree_too_deep high = record {
          walks = λ am items a P t e fit low pl f. absurd (tree_deep (λ t. height + levels t ≤ 16 → ⊥) i (λ j v F m B ji lo. omega arith) t (e ∙ deep_is) low);
        }

        module _ {sp : Result Spine Unsound} (rd : sp ≡ spine_in (get_or rs i none)) where
          pub tree_no_level : {e : Unsound} {r : Result Back Unsound} → sp ≡ Err e → TreeWalked rs height tr x limit inside later r
          tree_no_level bad = record { walks = λ am items a P t e fit low pl f. absurd (no_level (mean (text_means am) items) rs height rd bad t (e ∙ deep_is) fit) }

          module _ {s : Spine} {q₁ : Result Start Unsound} (gs : sp ≡ Ok s) (E₁ : DigitEnds rs s.front x q₁) where
            -- every path at a level
            at_parts : {r : Result Back Unsound}
                → ((am : List ℕ → A) (items : PieceRow → List ℕ) (a : Aim items limit) (P : List PieceRow) (F : Arm PieceRow (TextValue A)) (m : Finger PieceRow (TextValue A)) (B : Arm PieceRow (TextValue A))
                → digit_of F ≡ s.front → tree_of m ≡ s.middle → digit_of B ≡ s.back → FitArm (mean (text_means am) items) rs F height → Fit (mean (text_means am) items) rs m (suc height) → FitArm (mean (text_means am) items) rs B height
                → height + suc (levels m) ≤ 16 → Placed a P ((rows_arm F ++ rows m) ++ rows_arm B) x inside → Stands a (P ++ ((rows_arm F ++ rows m) ++ rows_arm B)) k → Entered a P ((rows_arm F ++ rows m) ++ rows_arm B) k n
                → EndsAfter (flat items P ++ flat items (rows_arm F)) q₁ → Heads a P r)
                → TreeWalked rs height tr x limit inside later r
            at_parts {r} go = record {
              walks = λ am items a P t e fit low pl f.
                  let S = visited_into a P (rows t) got is (judged deep_is V am items a P t height e fit pl f) in
                  at_level rs rd gs
                  (λ t. Fit (mean (text_means am) items) rs t height → height + levels t ≤ 16 → Placed a P (rows t) x inside → Stands a (P ++ rows t) k → Entered a P (rows t) k n → Heads a P r)
                  (λ v F m B ef em eb ft lo p st en.
                  go am items a P F m B ef em eb ft.2 ft.3 ft.4 lo p st en
                  (E₁.ends am items (flat items P) F height ef ft.2 p.start
                  (placed_light a P (rows_arm F) (placed_first a P (rows_arm F ++ rows m) (rows_arm F) (rows m) refl (placed_first a P ((rows_arm F ++ rows m) ++ rows_arm B) (rows_arm F ++ rows m) (rows_arm B) refl p)))))
                  (mean (text_means am) items) t height fit (e ∙ deep_is) fit low pl S.0 S.1;
            }

            pub tree_no_inner : {e : Unsound} {r : Result Back Unsound} → q₁ ≡ Err e → TreeWalked rs height tr x limit inside later r
            tree_no_inner bad = at_parts (λ am items a P F m B ef em eb ff fm fb lo p st en E. absurd (ok_err E.1 bad))

            module _ {inner : Start} {q₂ : Result Start Unsound} (g₁ : q₁ ≡ Ok inner) (E₂ : TreeEnds rs s.middle inner q₂) where
              pub tree_no_last : {e : Unsound} {r : Result Back Unsound} → q₂ ≡ Err e → TreeWalked rs height tr x limit inside later r
              tree_no_last bad = at_parts (λ am items a P F m B ef em eb ff fm fb lo p st en E.
                  let pm = placed_second a P (rows_arm F ++ rows m) (rows_arm F) (rows m) refl (placed_first a P ((rows_arm F ++ rows m) ++ rows_arm B) (rows_arm F ++ rows m) (rows_arm B) refl p) (ends_at items P (rows_arm F) g₁ E) in
                  absurd (ok_err (E₂.ends am items (flat items (P ++ rows_arm F)) m (suc height) em fm pm.start (placed_light a (P ++ rows_arm F) (rows m) pm)).1 bad))

              pub tree_level : {last : Start} {whole : Bool} {x₁ r : Result Back Unsound} → q₂ ≡ Ok last → whole ≡ is_some n → DigitWalked rs height s.back last limit whole (Before k) x₁
                  → OkOr x₁ (λ b. (y₁ : Result Back Unsound) × TreeWalked rs (height + 1) s.middle inner limit whole b y₁
                  × OkOr y₁ (λ c. (z₁ : Result Back Unsound) × DigitWalked rs height s.front x limit whole c z₁ × (r ≡ held_by n z₁)))
                  → TreeWalked rs height tr x limit inside later r
              tree_level {last} {whole} {x₁} g₂ wh Wb next = at_parts (λ am items a P F m B ef em eb ff fm fb lo p st en E.
                  let T₁ = rows_arm F in
                  let T₂ = rows m in
                  let T₃ = rows_arm B in
                  let pw : Placed a P ((T₁ ++ T₂) ++ T₃) x whole = placed_inside a P ((T₁ ++ T₂) ++ T₃) k n p en wh in
                  let pf : Placed a P (T₁ ++ T₂) x whole = placed_first a P ((T₁ ++ T₂) ++ T₃) (T₁ ++ T₂) T₃ refl pw in
                  let pm : Placed a (P ++ T₁) T₂ inner whole = placed_second a P (T₁ ++ T₂) T₁ T₂ refl pf (ends_at items P T₁ g₁ E) in
                  let E₃ = E₂.ends am items (flat items (P ++ T₁)) m (suc height) em fm pm.start (placed_light a (P ++ T₁) T₂ pm) in
                  let end_is : Follows (flat items ((P ++ T₁) ++ T₂)) last = ends_at items (P ++ T₁) T₂ g₂ E₃ in
                  let pb : Placed a (P ++ (T₁ ++ T₂)) T₃ last whole = placed_second a P ((T₁ ++ T₂) ++ T₃) (T₁ ++ T₂) T₃ refl pw (follows_same (ap (flat items) (append_assoc P T₁ T₂)) end_is) in
                  let hb : Heads a (P ++ (T₁ ++ T₂)) x₁ = Wb.walks am items a (P ++ (T₁ ++ T₂)) B eb fb pb (heads_rows a (sym (append_assoc P (T₁ ++ T₂) T₃)) (inl (k, refl, st))) in
                  let up : suc height ≡ height + 1 = omega arith in
                  ⊎_elim
                  (λ X.
                  let hm = X.2.1.walks am items a (P ++ T₁) m em (subst (Fit (mean (text_means am) items) rs m) up fm) (omega arith) pm (heads_rows a (sym (append_assoc P T₁ T₂)) (subst (Heads a (P ++ (T₁ ++ T₂))) X.1 hb)) in
                  ⊎_elim
                  (λ Y.
                  let hf = Y.2.1.walks am items a P F ef ff (placed_first a P (T₁ ++ T₂) T₁ T₂ refl pf) (subst (Heads a (P ++ T₁)) Y.1 hm) in
                  held a P ((T₁ ++ T₂) ++ T₃) k n st en Y.2.2 hf)
                  (λ Y. absurd (heads_ok a (P ++ T₁) hm Y.1)) X.2.2)
                  (λ X. absurd (heads_ok a (P ++ (T₁ ++ T₂)) hb X.1)) next)

-- the walk from the end to the start
module _ {A : Type 0} {rs : List (Record PieceRow (TextValue A))} {tr : Tree} {x : Start} {limit closes : ℕ} {q : Result Back Unsound} (start : x ≡ record { offset = 0; state = State.Start })
    (W : TreeWalked rs 0 tr x limit false (Before closes) q) where
  from_end : (am : List ℕ → A) (items : PieceRow → List ℕ) (a : Aim items limit) (t : Finger PieceRow (TextValue A)) → tree_of t ≡ tr → Fit (mean (text_means am) items) rs t 0 → length (rows t) ≤ most
      → a.all ≡ rows t → limit + closes ≤ heaviest → a.sought ≡ at (waited 0 0 [] (flat items a.front)) closes → Heads a [] q
  from_end am items a t e fit few all light sought =
      let text : flat items (rows t) ≡ flat items a.front ++ flat items a.back = ap (flat items) (sym all ∙ a.parts) ∙ flat_append items a.front a.back in
      let cut : take limit (flat items (rows t)) ≡ flat items a.front =
      ap (take limit) text ∙ take-append-le limit (flat items a.front) (flat items a.back) (omega (arith, a.edge)) ∙ take_all limit (flat items a.front) (omega (arith, a.edge)) in
      W.walks am items a [] t e fit (omega (arith, few_levels (mean (text_means am) items) rs t fit few))
      (record {
        later = [];
        text = all ∙ sym (append-nil (rows t));
        start = record { offset = ap (λ (s : Start). s.offset) start; state = ap (λ (s : Start). number_of s.state) start };
        within = λ h. absurd (let z : ◌≡◌ {A = ℕ} 0 1 = cc in omega arith);
      })
      (inl (closes, refl, record { same = sought ∙ ap (λ (l : List ℕ). at (waited 0 0 [] l) closes) (sym cut); light = omega (arith, ap length cut, a.edge) }))

  pub back_lost : {e : Unsound} {r : Result (Option Held) Unsound} → q ≡ Err e → Walked rs tr limit closes r
  back_lost bad = record {
    walks = λ am items a t e fit few all light sought. absurd (⊎_elim (λ h. ok_err h.1 bad) (λ h. ok_err h.1 bad) (from_end am items a t e fit few all light sought));
  }

  module _ {b : Back} (got : q ≡ Ok b) where
    pub back_found : {h : Held} → b ≡ At h → Walked rs tr limit closes (Ok (Some h))
    back_found {h} is = record {
      walks = λ am items a t e fit few all light sought. ⊎_elim
          (λ f. let o = ok_same got f.1 in absurd (let z : ◌≡◌ {A = ℕ} 0 1 = cc in omega arith))
          (λ f. let o = ok_same got f.1 in inr (h, refl, subst (Lies a) (let same : f.0 ≡ h = cc in same) f.2)) (from_end am items a t e fit few all light sought);
    }

    -- nothing waits before the start
    pub back_none : {k : ℕ} → b ≡ Before k → Walked rs tr limit closes (Ok None)
    back_none is = record {
      walks = λ am items a t e fit few all light sought. ⊎_elim
          (λ f. inl (refl, f.2.same ∙ ap (λ (l : List ℕ). at (waited 0 0 [] l) f.0) (take_nil limit)))
          (λ f. let o = ok_same got f.1 in absurd (let z : ◌≡◌ {A = ℕ} 0 1 = cc in omega arith)) (from_end am items a t e fit few all light sought);
    }
      where
        take_nil : (n : ℕ) → take {A = ℕ} n [] ≡ []
        take_nil zero = refl
        take_nil (suc n) = refl
