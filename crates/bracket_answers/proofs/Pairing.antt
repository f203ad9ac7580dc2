-- From what stands against a bracket to the answer.
use Rattle.std.proofs.Common.{◌≡◌, ℕ, suc, ◌+◌, ◌<◌, ◌≤◌, Bool, true, false, cond, eqb, ◌⊎◌, List, [], ◌∷◌, ◌++◌, length, get_or, take, drop, Some, None, Ok, Err, Option, Result, sym, refl, ap, ◌∙◌, subst, ap₂, inl, inr, ⊎_elim, append_assoc, arith}
use Rattle.std.proofs.lemmas.List.{get_or-append-add}
use Rattle.std.proofs.lemmas.Bool.{eqb-true, ne_eqb}
use Rattle.std.specs.Option.{option_map}
use Rattle.plain.specs.Brackets.{Settled, closed, settled, waiting, is_stray}
use Rattle.plain.specs.Lists.{at, count}
use Rattle.plain.specs.Questions.{bracket_of_offset}
use Rattle.plain.specs.Tokens.{step, end_state}
use Rattle.plain.specs.declared.answers.Bracket.{Bracket}
use Rattle.plain.specs.declared.answers.Bracket.TheVariants.{Paired}
use Rattle.measures.specs.Counts.{count_append}
use Rattle.lexer.specs.Numbers.{number_of, number_same}
use Rattle.lexer.specs.declared.states.State.TheVariants.{Open, Close}
use Rattle.lexer.specs.Reading.{read_from}
use Rattle.stores.specs.Stores.{Contents}
use Rattle.slots.specs.Ghost.{rows}
use Rattle.slots.specs.Values.{flat}
use Rattle.slots.specs.declared.records.Record.{Record}
use Rattle.slots.specs.declared.records.Tree.{Tree}
use Rattle.slots.specs.declared.records.Unsound.{Unsound}
use Rattle.slots.proofs.Shapes.{ok_err, ok_same}
use Rattle.pieces.specs.Rows.{bytes_of}
use Rattle.pieces.specs.Sound.{TextValue}
use Rattle.pieces.specs.declared.rows.PieceRow.{PieceRow}
use Rattle.asking.specs.Texts.{TextAt, Reads, Answered}
use Rattle.asking.proofs.RowTurns.{some_none}
use Rattle.bracket_questions.specs.Waiting.{waited}
use Rattle.bracket_questions.proofs.Waiting.{settled_in, strays_are, no_bracket, stray_close, paired_close, unmet_open, paired_open}
use Rattle.bracket_answers.specs.Spots.{match_of, after_open_of, before_close_of, StandsAt, SpotFound}
use Rattle.bracket_answers.specs.Backward.{last_open, OpenTold}
use Rattle.bracket_answers.specs.Forward.{StrayIs, CloseTold}
use Rattle.bracket_answers.specs.declared.spot.Spot.{Spot}
use Rattle.bracket_answers.specs.declared.spot.Other.{Other}
use Rattle.bracket_answers.proofs.Spotting.{byte_there, parted_text, long_front, led_to}

settled_append : (s i : ℕ) (os xs ys : List ℕ) → settled_in s i os (xs ++ ys) ≡ settled_in s i os xs ++ settled_in (end_state s xs) (i + length xs) (waited s i os xs) ys
settled_append s i os [] ys = ap (λ (j : ℕ). settled_in s j os ys) (omega arith)
settled_append s i os (x ∷ xs) ys =
    let n = (step s x).0 in
    ap (λ (r : List Settled). settled n i os ++ r) (settled_append n (suc i) (waiting n i os) xs ys)
    ∙ sym (append_assoc (settled n i os) (settled_in n (suc i) (waiting n i os) xs) (settled_in (end_state n xs) (suc i + length xs) (waited n (suc i) (waiting n i os) xs) ys))
    ∙ ap (λ (j : ℕ). (settled n i os ++ settled_in n (suc i) (waiting n i os) xs) ++ settled_in (end_state n xs) j (waited n (suc i) (waiting n i os) xs) ys) (omega arith)

-- the first stray close is a close, and no open waits before it
stray_turn : (us : List ℕ) (c i : ℕ) → (read_from 6 us).strays ≡ 0 → 1 ≤ (read_from 6 (us ++ (c ∷ []))).strays → (waited 6 i [] us ≡ []) × ((step (end_state 6 us) c).0 ≡ 7)
stray_turn us c i none some =
    let n = (step (end_state 6 us) c).0 in
    let all = ap (count is_stray) (settled_append 6 i [] us (c ∷ [])) in
    let two = count_append is_stray (settled_in 6 i [] us) (settled n (i + length us) (waited 6 i [] us) ++ []) in
    by (eqb n 7) (waited 6 i [] us) refl refl (omega (arith, all, two, strays_are 6 i us, strays_are 6 i (us ++ (c ∷ []))))
  where
    by : (t : Bool) (W : List ℕ) → eqb (step (end_state 6 us) c).0 7 ≡ t → waited 6 i [] us ≡ W → 1 ≤ count is_stray (cond (eqb (step (end_state 6 us) c).0 7) (closed (waited 6 i [] us) (i + length us) ∷ []) [] ++ [])
        → (waited 6 i [] us ≡ []) × ((step (end_state 6 us) c).0 ≡ 7)
    by true [] e w h = (w, eqb-true (step (end_state 6 us) c).0 7 e)
    by true (o ∷ W) e w h = absurd (omega (arith, ap₂ (λ (t : Bool) (V : List ℕ). count is_stray (cond t (closed V (i + length us) ∷ []) [] ++ [])) e w))
    by false W e w h = absurd (omega (arith, ap (λ (t : Bool). count is_stray (cond t (closed (waited 6 i [] us) (i + length us) ∷ []) [] ++ [])) e))

nothing_at : (ws : List ℕ) → at ws 0 ≡ None → ws ≡ []
nothing_at [] e = refl
nothing_at (w ∷ ws) e = absurd (some_none e)

module _ {B T : List ℕ} {R : List PieceRow} {p : ℕ} {x : Spot} (spells : flat (bytes_of B) R ≡ T) (st : StandsAt B R p x) where
  abbrev b : ℕ
  b = x.stop.byte

  pub bracket_none : (number_of x.stop.after.state ≡ 6 → ⊥) → (number_of x.stop.after.state ≡ 7 → ⊥) → bracket_of_offset T p ≡ None
  bracket_none e f =
      ap (λ (t : List ℕ). bracket_of_offset t p) (parted_text spells st)
      ∙ no_bracket (take p T) b (drop (suc p) T) p (long_front spells st)
      (ne_eqb (step (end_state 0 (take p T)) b).0 6 (λ h. e (led_to spells st ∙ h))) (ne_eqb (step (end_state 0 (take p T)) b).0 7 (λ h. f (led_to spells st ∙ h)))

  pub bracket_open : (o : Option Other) → number_of x.stop.after.state ≡ 6 → ((o ≡ None) × ((read_from 6 (drop (suc p) T)).strays ≡ 0)) ⊎ ((y : Other) × (o ≡ Some y) × StrayIs (drop (suc p) T) (suc p) y)
      → bracket_of_offset T p ≡ Some (after_open_of b o)
  bracket_open o is = ⊎_elim
      (λ f.
      ap (λ (t : List ℕ). bracket_of_offset t p) (parted_text spells st)
      ∙ unmet_open (take p T) b (drop (suc p) T) p (long_front spells st) (sym (led_to spells st) ∙ is) (strays_are 6 (suc p) (drop (suc p) T) ∙ f.1)
      ∙ ap (λ (q : Option Other). Some (after_open_of b q)) (sym f.0))
      (λ f.
      let y = f.0 in
      let D = f.2 in
      let turn = stray_turn D.us y.byte (suc p) D.quiet D.close in
      let text : T ≡ take p T ++ (b ∷ (D.us ++ (y.byte ∷ D.vs))) = parted_text spells st ∙ ap (λ (l : List ℕ). take p T ++ (b ∷ l)) D.text in
      let there : y.offset ≡ length (take p T) + suc (length D.us + 0) = omega (arith, D.offset, long_front spells st) in
      let second : get_or T y.offset 0 ≡ y.byte =
      ap₂ (λ (t : List ℕ) (n : ℕ). get_or t n 0) text there ∙ get_or-append-add (take p T) (b ∷ (D.us ++ (y.byte ∷ D.vs))) (suc (length D.us + 0)) 0 ∙ get_or-append-add D.us (y.byte ∷ D.vs) 0 0 in
      ap (λ (t : List ℕ). bracket_of_offset t p) text
      ∙ paired_open (take p T) b D.us y.byte D.vs p y.offset (long_front spells st) D.offset (sym (led_to spells st) ∙ is) (strays_are 6 (suc p) D.us ∙ D.quiet) turn.0 turn.1
      ∙ ap (λ (t : List ℕ). Some (Paired y.offset (match_of (get_or t p 0) (get_or t y.offset 0)))) (sym text)
      ∙ ap₂ (λ (m n : ℕ). Some (Paired y.offset (match_of m n))) (byte_there spells st) second
      ∙ ap (λ (q : Option Other). Some (after_open_of b q)) (sym f.1))

  pub bracket_close : number_of x.stop.after.state ≡ 7 → bracket_of_offset T p ≡ Some (before_close_of b (last_open T p))
  bracket_close is = by (at (waited 0 0 [] (take p T)) 0) refl
    where
      shut : (step (end_state 0 (take p T)) b).0 ≡ 7
      shut = sym (led_to spells st) ∙ is

      by : (o : Option ℕ) → at (waited 0 0 [] (take p T)) 0 ≡ o → bracket_of_offset T p ≡ Some (before_close_of b (option_map (λ o. record { offset = o; byte = get_or T o 0 }) (at (waited 0 0 [] (take p T)) 0)))
      by None e =
          ap (λ (t : List ℕ). bracket_of_offset t p) (parted_text spells st)
          ∙ stray_close (take p T) b (drop (suc p) T) p (long_front spells st) shut (nothing_at (waited 0 0 [] (take p T)) e)
          ∙ ap (λ (o : Option ℕ). Some (before_close_of b (option_map (λ o. record { offset = o; byte = get_or T o 0 }) o))) (sym e)
      by (Some o) e =
          ap (λ (t : List ℕ). bracket_of_offset t p) (parted_text spells st)
          ∙ paired_close (take p T) b (drop (suc p) T) p (long_front spells st) o shut e
          ∙ ap (λ (t : List ℕ). Some (Paired o (match_of (get_or t o 0) (get_or t p 0)))) (sym (parted_text spells st))
          ∙ ap (λ (m : ℕ). Some (Paired o (match_of (get_or T o 0) m))) (byte_there spells st)
          ∙ ap (λ (o : Option ℕ). Some (before_close_of b (option_map (λ o. record { offset = o; byte = get_or T o 0 }) o))) (sym e)

module _ {A S : Type 0} {am : List ℕ → A} {contents : S → Contents} {rs : List (Record PieceRow (TextValue A))} {tr : Tree} {p : ℕ} {s s₁ : S} {q : Result Spot Unsound}
    (F : SpotFound contents am rs tr p s s₁ q) where
  one_reading : Reads contents 768 s s₁
  one_reading = record { few = omega (arith, F.reading.few); same_bytes = F.reading.same_bytes; same_capacity = F.reading.same_capacity }

  pub in_lost : {e : Unsound} {r : Result (Option Bracket) Unsound} → q ≡ Err e → Answered contents 768 am rs tr (λ t. p < length t) (λ t. bracket_of_offset t p) s s₁ r
  in_lost bad = record { tells = λ T X h. absurd (ok_err (F.finds T X h).1 bad); reading = one_reading }

  module _ {x : Spot} (got : q ≡ Ok x) where
    spotted : (T : List ℕ) (X : TextAt am (contents s).bytes rs tr T) → p < length T → StandsAt (contents s).bytes (rows X.t) p x
    spotted T X h = let f = F.finds T X h in subst (StandsAt (contents s).bytes (rows X.t) p) (ok_same f.1 got) f.2

    -- after the store was read
    later_on : (T : List ℕ) (X : TextAt am (contents s).bytes rs tr T) → p < length T → (Y : TextAt am (contents s₁).bytes rs tr T) × StandsAt (contents s₁).bytes (rows Y.t) p x
    later_on T X h = subst (λ (l : List ℕ). (Y : TextAt am l rs tr T) × StandsAt l (rows Y.t) p x) (sym F.reading.same_bytes) (X, spotted T X h)

    pub in_none : (x.stop.after.state ≡ Open → ⊥) → (x.stop.after.state ≡ Close → ⊥) → Answered contents 768 am rs tr (λ t. p < length t) (λ t. bracket_of_offset t p) s s₁ (Ok None)
    in_none e f = record { tells = λ T X h. ap Ok (sym (bracket_none X.spells (spotted T X h) (λ z. e (number_same z)) (λ z. f (number_same z)))); reading = one_reading }

    module _ {s₂ : S} {rc : Result (Option Other) Unsound} (C : CloseTold contents am rs tr p x s₁ s₂ rc) where
      open_reading : Reads contents 768 s s₂
      open_reading = record { few = omega (arith, F.reading.few, C.reading.few); same_bytes = C.reading.same_bytes ∙ F.reading.same_bytes; same_capacity = C.reading.same_capacity ∙ F.reading.same_capacity }

      pub in_open_lost : {e : Unsound} {r : Result (Option Bracket) Unsound} → rc ≡ Err e → Answered contents 768 am rs tr (λ t. p < length t) (λ t. bracket_of_offset t p) s s₂ r
      in_open_lost bad = record {
        tells = λ T X h. let L = later_on T X h in absurd (⊎_elim (λ f. ok_err f.0 bad) (λ f. ok_err f.1 bad) (C.tells T L.0 L.1));
        reading = open_reading;
      }

      pub in_open : {o : Option Other} {b : Bracket} → x.stop.after.state ≡ Open → rc ≡ Ok o → b ≡ after_open_of x.stop.byte o → Answered contents 768 am rs tr (λ t. p < length t) (λ t. bracket_of_offset t p) s s₂ (Ok (Some b))
      in_open {o} is go b-is = record {
        tells = λ T X h.
            let L = later_on T X h in
            ap Ok (ap Some b-is ∙ sym (bracket_open L.0.spells L.1 o (ap number_of is)
            (⊎_elim (λ f. inl (ok_same go f.0, f.1)) (λ f. inr (f.0, ok_same go f.1, f.2)) (C.tells T L.0 L.1))));
        reading = open_reading;
      }

    module _ {s₂ : S} {ro : Result (Option Other) Unsound} (O : OpenTold contents rs tr x s₁ s₂ ro) where
      close_reading : Reads contents 768 s s₂
      close_reading = record { few = omega (arith, F.reading.few, O.reading.few); same_bytes = O.reading.same_bytes ∙ F.reading.same_bytes; same_capacity = O.reading.same_capacity ∙ F.reading.same_capacity }

      pub in_close_lost : {e : Unsound} {r : Result (Option Bracket) Unsound} → ro ≡ Err e → Answered contents 768 am rs tr (λ t. p < length t) (λ t. bracket_of_offset t p) s s₂ r
      in_close_lost bad = record { tells = λ T X h. let L = later_on T X h in absurd (ok_err (O.tells am T L.0 p L.1) bad); reading = close_reading }

      pub in_close : {o : Option Other} {b : Bracket} → x.stop.after.state ≡ Close → ro ≡ Ok o → b ≡ before_close_of x.stop.byte o → Answered contents 768 am rs tr (λ t. p < length t) (λ t. bracket_of_offset t p) s s₂ (Ok (Some b))
      in_close {o} is go b-is = record {
        tells = λ T X h.
            let L = later_on T X h in
            let o_is : o ≡ last_open T p = ok_same go (O.tells am T L.0 p L.1) in
            ap Ok (ap Some (b-is ∙ ap (before_close_of x.stop.byte) o_is) ∙ sym (bracket_close L.0.spells L.1 (ap number_of is)));
        reading = close_reading;
      }
