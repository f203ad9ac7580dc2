-- The turns of a reading through a piece for one of the opens that wait at its end.
use Rattle.std.proofs.Common.{◌≡◌, ℕ, suc, ◌+◌, ◌-◌, ◌<◌, ◌≤◌, Bool, true, false, cond, ◌&&◌, eqb, List, [], ◌∷◌, ◌++◌, length, get_or, take, drop, Some, None, Ok, Result, sym, refl, ap, ◌∙◌, subst, ap₂, arith, length-append, length-drop, length-take}
use mathlib.Core.List.{tail}
use Rattle.std.proofs.lemmas.List.{take_more, take_all, get_or-take, get_or-drop, get_or_append_left, get_or_push}
use Rattle.std.proofs.lemmas.Bool.{eqb-true, eqb-false, eq-eqb, and_from, and_left, and_right}
use Rattle.plain.specs.Brackets.{waiting}
use Rattle.plain.specs.Lists.{at}
use Rattle.plain.specs.Tokens.{step, end_state}
use Rattle.lexer.specs.Numbers.{number_of}
use Rattle.lexer.specs.States.{end_read}
use Rattle.lexer.specs.Reading.{read_from}
use Rattle.lexer.specs.declared.tokens.TokenRow.{TokenRow}
use Rattle.stores.specs.Stores.{Contents, ReadsAt}
use Rattle.slots.specs.declared.records.Unsound.{Unsound}
use Rattle.token_questions.proofs.Counted.{end_append}
use Rattle.token_questions.proofs.Scanning.{AddsByte}
use Rattle.bracket_questions.specs.Waiting.{waited}
use Rattle.bracket_questions.proofs.Waiting.{Turn, opens, closes, quiet, turn_of, quiet_waiting, waited_more, unmet_are}
use Rattle.bracket_answers.specs.Backward.{kept, MetIn, OpenMet}
use Rattle.bracket_answers.specs.declared.backward.Met.{Met}

at_tail : (ws : List ℕ) (j : ℕ) → at (tail ws) j ≡ at ws (suc j)
at_tail [] j = refl
at_tail (w ∷ ws) j = refl

length_tail : (ws : List ℕ) → length (tail ws) ≡ length ws - 1
length_tail [] = refl
length_tail (w ∷ ws) = omega arith

-- one byte more
module _ (q : ℕ) (us : List ℕ) (b rank : ℕ) (m : Met) (low : q ≤ 12) (some : 1 ≤ rank) (former : rank ≤ (read_from q us).unmet → MetIn q us rank m) (own : rank ≤ (read_from q (us ++ (b ∷ []))).unmet) where
  abbrev vs : List ℕ
  vs = us ++ (b ∷ [])

  abbrev n : ℕ
  n = (step (end_state q us) b).0

  state_is : number_of (read_from q vs).state ≡ n
  state_is = end_read q vs low ∙ end_append q us (b ∷ [])

  -- the former open is still of that rank
  stays : kept m (read_from q vs) rank (length us) b ≡ m → rank ≤ (read_from q us).unmet
      → ((o : ℕ) → at (waited q o [] vs) ((read_from q vs).unmet - rank) ≡ at (waited q o [] us) ((read_from q us).unmet - rank)) → MetIn q vs rank (kept m (read_from q vs) rank (length us) b)
  stays is le same =
      let M = former le in
      subst (MetIn q vs rank) (sym is) (record {
        within = omega (arith, M.within, length-append us (b ∷ []));
        byte = M.byte ∙ sym (get_or_append_left us (b ∷ []) 0 m.index M.within);
        place = λ o. same o ∙ M.place o;
      })

  not_kept : eqb (number_of (read_from q vs).state) 6 && eqb (read_from q vs).unmet rank ≡ false → kept m (read_from q vs) rank (length us) b ≡ m
  not_kept e = ap (λ (t : Bool). cond t (record { index = length us; byte = b }) m) e

  no_open : eqb n 6 ≡ false → kept m (read_from q vs) rank (length us) b ≡ m
  no_open e = not_kept (and_left (eqb (number_of (read_from q vs).state) 6) (eqb (read_from q vs).unmet rank) (ap (λ (k : ℕ). eqb k 6) state_is ∙ e))

  pub met_more : MetIn q vs rank (kept m (read_from q vs) rank (length us) b)
  met_more = by (turn_of n)
    where
      by : Turn n → MetIn q vs rank (kept m (read_from q vs) rank (length us) b)
      by (opens e) = now (eqb (read_from q vs).unmet rank) refl
        where
          waits : (o : ℕ) → waited q o [] vs ≡ (o + length us) ∷ waited q o [] us
          waits o = waited_more q o [] us b ∙ ap (λ (k : ℕ). waiting k (o + length us) (waited q o [] us)) e

          grows : (read_from q vs).unmet ≡ (read_from q us).unmet + 1
          grows = omega (arith, unmet_are q 0 vs, unmet_are q 0 us, ap length (waits 0))

          is_open : eqb (number_of (read_from q vs).state) 6 ≡ true
          is_open = eq-eqb (number_of (read_from q vs).state) 6 (state_is ∙ e)

          now : (t : Bool) → eqb (read_from q vs).unmet rank ≡ t → MetIn q vs rank (kept m (read_from q vs) rank (length us) b)
          now true r =
              let top : (read_from q vs).unmet - rank ≡ 0 = omega (arith, eqb-true (read_from q vs).unmet rank r) in
              let here : kept m (read_from q vs) rank (length us) b ≡ record { index = length us; byte = b } =
              ap (λ (t : Bool). cond t (record { index = length us; byte = b }) m) (and_from (eqb (number_of (read_from q vs).state) 6) (eqb (read_from q vs).unmet rank) is_open r) in
              subst (MetIn q vs rank) (sym here) (record {
                within = omega (arith, length-append us (b ∷ []));
                byte = sym (get_or_push us b 0 (length us) refl);
                place = λ o. ap₂ (λ (l : List ℕ) (k : ℕ). at l k) (waits o) top;
              })
          now false r =
              let other : (read_from q vs).unmet ≡ rank → ⊥ = eqb-false (read_from q vs).unmet rank r in
              let le : rank ≤ (read_from q us).unmet = omega (arith, grows, own, other) in
              let next : (read_from q vs).unmet - rank ≡ suc ((read_from q us).unmet - rank) = omega (arith, grows) in
              stays (not_kept (and_right (eqb (number_of (read_from q vs).state) 6) (eqb (read_from q vs).unmet rank) r)) le (λ o. ap₂ (λ (l : List ℕ) (k : ℕ). at l k) (waits o) next)
      by (closes e) =
          let waits : (o : ℕ) → waited q o [] vs ≡ tail (waited q o [] us) = λ o. waited_more q o [] us b ∙ ap (λ (k : ℕ). waiting k (o + length us) (waited q o [] us)) e in
          let shrinks : (read_from q vs).unmet ≡ (read_from q us).unmet - 1 = omega (arith, unmet_are q 0 vs, unmet_are q 0 us, ap length (waits 0), length_tail (waited q 0 [] us)) in
          let next : suc ((read_from q vs).unmet - rank) ≡ (read_from q us).unmet - rank = omega (arith, shrinks, own, some) in
          stays (no_open (ap (λ (k : ℕ). eqb k 6) e)) (omega (arith, shrinks, own, some))
          (λ o. ap (λ (l : List ℕ). at l ((read_from q vs).unmet - rank)) (waits o) ∙ at_tail (waited q o [] us) ((read_from q vs).unmet - rank) ∙ ap (at (waited q o [] us)) next)
      by (quiet e f) =
          let waits : (o : ℕ) → waited q o [] vs ≡ waited q o [] us = λ o. waited_more q o [] us b ∙ quiet_waiting n (o + length us) (waited q o [] us) e f in
          let same : (read_from q vs).unmet ≡ (read_from q us).unmet = omega (arith, unmet_are q 0 vs, unmet_are q 0 us, ap length (waits 0)) in
          stays (no_open e) (omega (arith, same, own)) (λ o. ap₂ (λ (l : List ℕ) (k : ℕ). at l (k - rank)) (waits o) same)

module _ {S : Type 0} (contents : S → Contents) where
  -- i bytes have been read
  pub record Opening (s s' : S) (a n i q rank : ℕ) (row : TokenRow) (m : Met) : Type 0 where
    pub row_is : (bs : List ℕ) → bs ≡ take n (drop a (contents s).bytes) → a + n ≤ length (contents s).bytes → row ≡ read_from q (take i bs)
    pub met_is : (bs : List ℕ) → bs ≡ take n (drop a (contents s).bytes) → a + n ≤ length (contents s).bytes → 1 ≤ rank → rank ≤ (read_from q (take i bs)).unmet → MetIn q (take i bs) rank m
    pub few : (contents s').reads ≤ (contents s).reads + i
    pub same_bytes : (contents s').bytes ≡ (contents s).bytes
    pub same_capacity : (contents s').capacity ≡ (contents s).capacity

-- how long a part of a list is
long : (a n : ℕ) (B bs : List ℕ) → bs ≡ take n (drop a B) → a + n ≤ length B → length bs ≡ n
long a n B bs here inside = ap length here ∙ length-take n (drop a B) ∙ simp length-drop (omega arith)

module _ {S : Type 0} {contents : S → Contents} {s : S} {a n q rank : ℕ} where
  pub opening_none : {row : TokenRow} {m : Met} → row ≡ read_from q [] → Opening contents s s a n 0 q rank row m
  opening_none e = record {
    row_is = λ bs here inside. e;
    met_is = λ bs here inside some own. absurd (omega (arith, unmet_are q 0 []));
    few = omega arith;
    same_bytes = refl;
    same_capacity = refl;
  }

  pub opening_more : {s₁ s₂ : S} {i b : ℕ} {row row' : TokenRow} {m m' : Met} → q ≤ 12 → i < n → n ≤ 256 → Opening contents s s₁ a n i q rank row m → ReadsAt contents s₁ (a + i) (Some b) s₂ → AddsByte row b row'
      → m' ≡ kept m row' rank i b → Opening contents s s₂ a n (i + 1) q rank row' m'
  opening_more {i = i} {b} {row} {row'} {m} {m'} low lt short p R add m-is =
      let byte_is : (bs : List ℕ) → bs ≡ take n (drop a (contents s).bytes) → b ≡ get_or bs i 0 = λ bs here.
      R.gives.1 ∙ ap (λ (l : List ℕ). get_or l (a + i) 0) p.same_bytes
      ∙ sym (ap (λ (l : List ℕ). get_or l i 0) here ∙ get_or-take n (drop a (contents s).bytes) i 0 lt ∙ get_or-drop a (contents s).bytes i 0) in
      let more : (bs : List ℕ) → bs ≡ take n (drop a (contents s).bytes) → a + n ≤ length (contents s).bytes → take i bs ++ (b ∷ []) ≡ take (i + 1) bs = λ bs here inside.
      sym (take_more bs i 0 (omega (arith, long a n (contents s).bytes bs here inside)) ∙ ap (λ (y : ℕ). take i bs ++ (y ∷ [])) (sym (byte_is bs here))) in
      let next : (bs : List ℕ) → bs ≡ take n (drop a (contents s).bytes) → a + n ≤ length (contents s).bytes → row' ≡ read_from q (take i bs ++ (b ∷ [])) = λ bs here inside.
      add q (take i bs) (omega (arith, length-take i bs)) (p.row_is bs here inside) in
      record {
        row_is = λ bs here inside. next bs here inside ∙ ap (read_from q) (more bs here inside);
        met_is = λ bs here inside some own.
            let size : length (take i bs) ≡ i = omega (arith, length-take i bs, long a n (contents s).bytes bs here inside) in
            let own' : rank ≤ (read_from q (take i bs ++ (b ∷ []))).unmet = omega (arith, own, ap (λ (l : List ℕ). (read_from q l).unmet) (more bs here inside)) in
            let M = met_more q (take i bs) b rank m low some (λ le. p.met_is bs here inside some le) own' in
            let m-there : kept m (read_from q (take i bs ++ (b ∷ []))) rank (length (take i bs)) b ≡ m' =
            ap₂ (λ (r : TokenRow) (k : ℕ). kept m r rank k b) (sym (next bs here inside)) size ∙ sym m-is in
            subst (λ (l : List ℕ). MetIn q l rank m') (more bs here inside) (subst (MetIn q (take i bs ++ (b ∷ [])) rank) m-there M);
        few = omega (arith, R.counts, p.few);
        same_bytes = R.same_bytes ∙ p.same_bytes;
        same_capacity = R.same_capacity ∙ p.same_capacity;
      }

  pub opening_past : {s₁ s₂ : S} {i : ℕ} {row : TokenRow} {m : Met} {r : Result Met Unsound} → i < n → n ≤ 256 → Opening contents s s₁ a n i q rank row m → ReadsAt contents s₁ (a + i) None s₂
      → OpenMet contents s s₂ a n q rank r
  opening_past {i = i} lt short p R = record {
    meets = λ bs here inside some own. absurd (omega (arith, R.gives, ap length p.same_bytes));
    reading = record { few = omega (arith, R.counts, p.few); same_bytes = R.same_bytes ∙ p.same_bytes; same_capacity = R.same_capacity ∙ p.same_capacity };
  }

  pub opening_all : {s₁ : S} {i : ℕ} {row : TokenRow} {m : Met} → n ≤ i → i ≤ n → n ≤ 256 → Opening contents s s₁ a n i q rank row m → OpenMet contents s s₁ a n q rank (Ok m)
  opening_all {i = i} {m = m} ge le short p = record {
    meets = λ bs here inside some own.
        let whole : take i bs ≡ bs = take_all i bs (omega (arith, long a n (contents s).bytes bs here inside)) in
        (m, refl, subst (λ (l : List ℕ). MetIn q l rank m) whole (p.met_is bs here inside some (subst (λ (l : List ℕ). rank ≤ (read_from q l).unmet) (sym whole) own)));
    reading = record { few = omega (arith, p.few); same_bytes = p.same_bytes; same_capacity = p.same_capacity };
  }
