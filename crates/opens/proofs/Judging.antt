-- A part is passed, or entered and then left.
use Rattle.std.proofs.Common.{◌≡◌, ℕ, zero, suc, ◌+◌, ◌-◌, ◌<◌, ◌≤◌, min, Bool, true, eqb, List, [], ◌∷◌, ◌++◌, length, get_or, take, is_some, Some, None, Ok, Err, Option, Result, sym, refl, ap, ◌∙◌, subst, inl, inr, ⊎_elim, arith, length-append}
use Rattle.std.proofs.lemmas.List.{take_all, take-append-le}
use Rattle.std.proofs.lemmas.Bool.{eq-eqb, both_ways, cases_lt}
use Rattle.plain.specs.Lists.{at}
use Rattle.plain.specs.Tokens.{end_state}
use Rattle.lexer.specs.Reading.{read_from}
use Rattle.lexer.specs.RowJoins.{brackets_bound}
use Rattle.slots.specs.Ghost.{none}
use Rattle.slots.specs.Values.{flat, mean, value_in}
use Rattle.slots.specs.declared.records.Record.{Record}
use Rattle.slots.specs.declared.records.Unsound.{Unsound}
use Rattle.slots.proofs.Shapes.{ok_err, ok_same}
use Rattle.slots.proofs.Weights.{flat_append}
use Rattle.pieces.specs.Sound.{TextValue, text_means}
use Rattle.pieces.specs.declared.rows.PieceRow.{PieceRow}
use Rattle.bracket_questions.specs.Waiting.{waited}
use Rattle.opens.specs.Parts.{part_from_slot, found_only, held_by}
use Rattle.opens.specs.Walks.{Aim, Stands, Heads, Placed, Entered, Visited}
use Rattle.opens.specs.declared.parts.Start.{Start}
use Rattle.opens.specs.declared.parts.Part.{Part}
use Rattle.opens.specs.declared.parts.Back.{Back}
use Rattle.opens.specs.declared.parts.Back.TheVariants.{Before}
use Rattle.opens.specs.declared.parts.Visit.{Visit}
use Rattle.opens.specs.declared.parts.Visit.TheVariants.{Past, Into}
use Rattle.bracket_questions.proofs.Waiting.{Misses, misses_waited, waited_append, waits_within, waits_before, unmet_are}
use Rattle.opens.proofs.Placing.{PartIs, part_is, flat_two, placed_light}

-- no offset that a list misses is in it
misses_at : (p : ℕ) (os : List ℕ) (k : ℕ) → Misses p os → at os k ≡ Some p → ⊥
misses_at p [] k m e = let z : ◌≡◌ {A = ℕ} 0 1 = cc in omega arith
misses_at p (o ∷ os) zero m e = let same : o ≡ p = cc in both_ways (eqb o p) m.0 (eq-eqb o p same)
misses_at p (o ∷ os) (suc k) m e = misses_at p os k m.1 e

some_at : (os : List ℕ) (k : ℕ) → k < length os → (o : ℕ) × (at os k ≡ Some o)
some_at [] k h = absurd (omega arith)
some_at (o ∷ os) zero h = (o, refl)
some_at (o ∷ os) (suc k) h = some_at os k (omega arith)

module _ {items : PieceRow → List ℕ} {limit : ℕ} (a : Aim items limit) where
  -- what stands after the same bytes
  stands_same : (P Q : List PieceRow) (k : ℕ) → take limit (flat items P) ≡ take limit (flat items Q) → Stands a P k → Stands a Q k
  stands_same P Q k e s = record { same = s.same ∙ ap (λ (l : List ℕ). at (waited 0 0 [] l) k) e; light = omega (arith, s.light, ap length e) }

  -- rows that begin at the limit or after it
  pub stands_skip : (P T : List PieceRow) (k : ℕ) → limit ≤ length (flat items P) → Stands a (P ++ T) k → Stands a P k
  stands_skip P T k h s = stands_same (P ++ T) P k (ap (take limit) (flat_append items P T) ∙ take-append-le limit (flat items P) (flat items T) h) s

  module _ (P T : List PieceRow) (k : ℕ) (ends : length (flat items (P ++ T)) ≤ limit) (s : Stands a (P ++ T) k) where
    abbrev w : List ℕ
    w = flat items P

    abbrev bs : List ℕ
    bs = flat items T

    all_count : take limit (flat items (P ++ T)) ≡ w ++ bs
    all_count = take_all limit (flat items (P ++ T)) ends ∙ flat_append items P T

    front_counts : take limit w ≡ w
    front_counts = take_all limit (flat items P) (omega (arith, flat_two a P T))

    in_two : a.sought ≡ at (waited (end_state 0 w) (length w) (waited 0 0 [] w) bs) k
    in_two =
        let from-here : 0 + length w ≡ length w = omega arith in
        s.same ∙ ap (λ (l : List ℕ). at (waited 0 0 [] l) k) all_count ∙ ap (λ (l : List ℕ). at l k) (waited_append 0 0 [] w bs)
        ∙ ap (λ (i : ℕ). at (waited (end_state 0 w) i (waited 0 0 [] w) bs) k) from-here

    -- rows that end by the limit, whose opens are all met
    pub stands_pass : (read_from (end_state 0 w) bs).unmet ≤ k → Stands a P ((k - (read_from (end_state 0 w) bs).unmet) + (read_from (end_state 0 w) bs).strays)
    stands_pass met = record {
      same = in_two ∙ waits_before (end_state 0 w) (length w) (waited 0 0 [] w) bs k met
          ∙ ap (λ (l : List ℕ). at (waited 0 0 [] l) ((k - (read_from (end_state 0 w) bs).unmet) + (read_from (end_state 0 w) bs).strays)) (sym front_counts);
      light = omega (arith, s.light, ap length all_count, ap length front_counts, length-append w bs, brackets_bound (end_state 0 w) bs);
    }

    -- and rows that hold the open
    pub stands_in : k < (read_from (end_state 0 w) bs).unmet → a.sought ≡ at (waited (end_state 0 w) (length w) [] bs) k
    stands_in has = in_two ∙ waits_within (end_state 0 w) (length w) (waited 0 0 [] w) bs k has

    -- it does not also lie before them
    pub not_before : (j : ℕ) → k < (read_from (end_state 0 w) bs).unmet → Stands a P j → ⊥
    not_before j has f =
        let there = some_at (waited (end_state 0 w) (length w) [] bs) k (omega (arith, unmet_are (end_state 0 w) (length w) bs)) in
        let o = there.0 in
        let early : at (waited 0 0 [] w) j ≡ Some o = ap (λ (l : List ℕ). at (waited 0 0 [] l) j) (sym front_counts) ∙ sym f.same ∙ stands_in has ∙ there.1 in
        ⊎_elim (λ (h : o < length w). misses_at o (waited (end_state 0 w) (length w) [] bs) k (misses_waited o (end_state 0 w) (length w) [] bs tt (inr h)) there.1)
        (λ (h : length w ≤ o). misses_at o (waited 0 0 [] w) j (misses_waited o 0 0 [] w tt (inl (omega arith))) early) (cases_lt o (length w))

  -- a walk gives no error
  pub heads_ok : (P : List PieceRow) {q : Result Back Unsound} {e : Unsound} → Heads a P q → q ≡ Err e → ⊥
  heads_ok P f bad = ⊎_elim (λ q. ok_err q.1 bad) (λ q. ok_err q.1 bad) f

  -- what was found in rows that were entered
  pub held : (P T : List PieceRow) (k : ℕ) (n : Option ℕ) {r found : Result Back Unsound} → Stands a (P ++ T) k → Entered a P T k n → r ≡ held_by n found → Heads a P found → Heads a P r
  held P T k None s en is f = subst (Heads a P) (sym is) f
  held P T k (Some n) s en is f = ⊎_elim
      (λ q. absurd (not_before P T k en.0 s q.0 (omega (arith, en.1, en.2)) q.2))
      (λ q. inr (q.0, is ∙ ap found_only q.1, q.2)) f

  pub inside_of : (P T : List PieceRow) (k : ℕ) (n : Option ℕ) → Entered a P T k n → is_some n ≡ true → length (flat items (P ++ T)) ≤ limit
  inside_of P T k None en is = absurd (let z : ◌≡◌ {A = ℕ} 0 1 = cc in omega arith)
  inside_of P T k (Some n) en is = en.0

-- what stands after a part
standing : {items : PieceRow → List ℕ} {limit : ℕ} {later : Back} {k : ℕ} (a : Aim items limit) (P : List PieceRow) → later ≡ Before k → Heads a P (Ok later) → Stands a P k
standing a P is f = ⊎_elim
    (λ q. let e = ok_same refl q.1 in subst (Stands a P) (let same : q.0 ≡ _ = cc in same) q.2)
    (λ q. let e = ok_same refl q.1 in absurd (let z : ◌≡◌ {A = ℕ} 0 1 = cc in omega arith)) f

-- the part in a slot
the_part : {A : Type 0} {x : Start} {limit : ℕ} {inside : Bool} {rv : Result (TextValue A) Unsound} {v : TextValue A} {p : Part} (am : List ℕ → A) {items : PieceRow → List ℕ} (a : Aim items limit) (P T : List PieceRow)
    → rv ≡ Ok v → p ≡ part_from_slot v x → rv ≡ Ok (mean (text_means am) items T) → Placed a P T x inside → PartIs (flat items P) (flat items T) p
the_part {x = x} am {items} a P T gv pv e pl = part_is am (flat items P) (flat items T) x (ok_same gv e) pv pl.start (placed_light a P T pl)

ending : {limit : ℕ} {p : Part} {items : PieceRow → List ℕ} (a : Aim items limit) (P T : List PieceRow) → PartIs (flat items P) (flat items T) p → p.end.offset ≡ length (flat items (P ++ T))
ending {items = items} a P T q = q.end.offset ∙ ap length (sym (flat_append items P T))

module _ {A : Type 0} {rs : List (Record PieceRow (TextValue A))} {i : ℕ} {x : Start} {limit : ℕ} {inside : Bool} {later : Back} where
  pub visit_found : ((k : ℕ) → later ≡ Before k → ⊥) → Visited rs i x limit inside later (Ok (Past later))
  visit_found other = record {
    visits = λ am items a P T v pl f. inl (later, refl, ⊎_elim (λ q. absurd (other q.0 (ok_same refl q.1))) (λ q. inr (q.0, q.1, q.2)) f);
  }

  pub visit_no_value : {rv : Result (TextValue A) Unsound} {e : Unsound} {r : Result Visit Unsound} → rv ≡ value_in (get_or rs i none) → rv ≡ Err e → Visited rs i x limit inside later r
  visit_no_value rd bad = record { visits = λ am items a P T v pl f. absurd (ok_err v (sym rd ∙ bad)) }

module _ {A : Type 0} {rs : List (Record PieceRow (TextValue A))} {i : ℕ} {x : Start} {limit : ℕ} {inside : Bool} {later : Back} {k : ℕ} (is : later ≡ Before k) where
  pub visit_skip : limit ≤ x.offset → Visited rs i x limit inside later (Ok (Past (Before k)))
  visit_skip h = record {
    visits = λ am items a P T v pl f. inl (Before k, refl, inl (k, refl, stands_skip a P T k (omega (arith, pl.start.offset)) (standing a (P ++ T) is f)));
  }

  module _ {rv : Result (TextValue A) Unsound} {v : TextValue A} {p : Part} (early : x.offset < limit) (rd : rv ≡ value_in (get_or rs i none)) (gv : rv ≡ Ok v) (pv : p ≡ part_from_slot v x) where
    pub visit_split : {r : Result Visit Unsound} → inside ≡ true → limit < p.end.offset → Visited rs i x limit inside later r
    visit_split ins over = record { visits = λ am items a P T e pl f. absurd (let q = the_part am a P T gv pv (rd ∙ e) pl in omega (arith, ending a P T q, pl.within ins)) }

    pub visit_over : limit < p.end.offset → Visited rs i x limit inside later (Ok (Into k None))
    visit_over over = record {
      visits = λ am items a P T e pl f.
          let q = the_part am a P T gv pv (rd ∙ e) pl in
          inr (k, None, refl, standing a (P ++ T) is f, (omega (arith, pl.start.offset), omega (arith, ending a P T q)));
    }

    pub visit_holds : {n : ℕ} → p.end.offset ≤ limit → k < p.unmet → n ≡ p.unmet - k → Visited rs i x limit inside later (Ok (Into k (Some n)))
    visit_holds {n} under has n-is = record {
      visits = λ am items a P T e pl f.
          let q = the_part am a P T gv pv (rd ∙ e) pl in
          inr (k, Some n, refl, standing a (P ++ T) is f, (omega (arith, ending a P T q), omega arith, omega (arith, q.unmet)));
    }

    pub visit_pass : {j : ℕ} → p.end.offset ≤ limit → p.unmet ≤ k → j ≡ min ((k - p.unmet) + p.strays) 4294967295 → Visited rs i x limit inside later (Ok (Past (Before j)))
    visit_pass {j} under met j-is = record {
      visits = λ am items a P T e pl f.
          let q = the_part am a P T gv pv (rd ∙ e) pl in
          let ends : length (flat items (P ++ T)) ≤ limit = omega (arith, ending a P T q) in
          let S = stands_pass a P T k ends (standing a (P ++ T) is f) (omega (arith, q.unmet)) in
          let there : (k - (read_from (end_state 0 (flat items P)) (flat items T)).unmet) + (read_from (end_state 0 (flat items P)) (flat items T)).strays ≡ j = omega (arith, q.unmet, q.strays, S.light) in
          inl (Before j, refl, inl (j, refl, subst (Stands a P) there S));
    }
