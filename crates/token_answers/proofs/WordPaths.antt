-- The paths of reading a byte by its offset, and of telling a token's kind.
use Rattle.std.proofs.Common.{◌≡◌, ℕ, ◌+◌, ◌-◌, ◌<◌, ◌≤◌, min, ◌⊎◌, List, [], ◌∷◌, ◌++◌, length, get_or, take, drop, set, Some, None, Ok, Err, Option, Result, sym, refl, ap, ◌∙◌, subst, ⊎_elim, arith, length-drop, length-set, length-take}
use Rattle.std.proofs.lemmas.List.{get_or-drop, get_or-take, get_or_append_left, get_or-append-add, take_more, take_more_set}
use Rattle.std.proofs.lemmas.Bool.{ltb-false}
use Rattle.std.specs.Option.{ok_or}
use Rattle.plain.specs.Lists.{slice}
use Rattle.plain.specs.Tokens.{kind_of}
use Rattle.plain.specs.declared.answers.Kind.{Kind}
use Rattle.lexer.specs.Numbers.{number_of, number_same}
use Rattle.lexer.specs.declared.states.State.{State}
use Rattle.lexer.specs.declared.states.State.TheVariants.{Word}
use Rattle.measures.specs.declared.totals.Totals.{Totals}
use Rattle.slots.specs.Values.{flat}
use Rattle.slots.specs.declared.records.Record.{Record}
use Rattle.slots.specs.declared.records.Tree.{Tree}
use Rattle.slots.specs.declared.records.Unsound.{Unsound}
use Rattle.slots.proofs.Shapes.{ok_err, ok_same}
use Rattle.stores.specs.Stores.{Contents, Lawful, ReadsAt}
use Rattle.pieces.specs.Rows.{bytes_of}
use Rattle.pieces.specs.Sound.{TextValue, text_means}
use Rattle.pieces.specs.declared.rows.PieceRow.{PieceRow}
use Rattle.asking.specs.Rows.{RowFound}
use Rattle.asking.specs.Texts.{TextAt, Reads, Answered}
use Rattle.asking.proofs.PartPaths.{reads_none}
use Rattle.asking.proofs.TextPlaces.{past, before_is, light_text, row_size, same_text, low, high, never_lost, past_all, inside}
use Rattle.token_answers.proofs.Readings.{reads_more, reads_then}
use Rattle.token_answers.proofs.Keys.{kind_long, kind_other}

-- the byte at an offset
abbrev Gives : {A S : Type 0} → (S → Contents) → (List ℕ → A) → List (Record PieceRow (TextValue A)) → Tree → ℕ → S → S → Result ℕ Unsound → Type 0
Gives contents am rs tr p s s' r = Answered contents 1 am rs tr (λ t. p < length t) (λ t. get_or t p 0) s s' r

module _ {A S : Type 0} {am : List ℕ → A} {contents : S → Contents} {rs : List (Record PieceRow (TextValue A))} {tr : Tree} (p : ℕ) {v w : TextValue A} {q : Result (Option PieceRow) Unsound} {s : S}
    (start : v ≡ text_means am []) (F : RowFound (λ _. 1) (text_means am) (past p) rs tr v w q) where
  pub byte_lost : {e : Unsound} {r : Result ℕ Unsound} → q ≡ Err e → Gives contents am rs tr p s s r
  byte_lost bad = record { tells = λ T X lt. absurd (never_lost start F X bad); reading = reads_none }

  pub byte_none : {f : Option PieceRow} {r : Result ℕ Unsound} → q ≡ Ok f → f ≡ None → Gives contents am rs tr p s s r
  byte_none got nay = record {
    tells = λ T X lt.
        let P = past_all start F X got nay in
        let le : length T ≤ p = ⊎_elim (λ (e : T ≡ []). omega (arith, ap length e)) (λ e. ltb-false p (length T) e) P.1 in
        absurd (omega arith);
    reading = reads_none;
  }

  module _ {f : Option PieceRow} {x : PieceRow} {j a : ℕ} (law : Lawful contents) (got : q ≡ Ok f) (yea : f ≡ Some x) (j-is : j ≡ p - w.left.left.bytes) (a-is : a ≡ min (x.address + j) 4294967295) where
    -- where it lies in the row and in the store
    record Spot {T : List ℕ} (X : TextAt am (contents s).bytes rs tr T) : Type 0 where
      pub offset : p ≡ length (flat (bytes_of (contents s).bytes) (inside start F X got yea).xs) + j
      pub within : j < x.length
      pub address : a ≡ x.address + j
      pub stored : a < length (contents s).bytes

    spot : {T : List ℕ} (X : TextAt am (contents s).bytes rs tr T) → Spot X
    spot X =
        let I = inside start F X got yea in
        let b : w.left.left.bytes ≡ length (flat (bytes_of (contents s).bytes) I.xs) = ap (λ (u : Totals). u.bytes) (before_is I) in
        let lo = low p I in
        let hi = high p I in
        let ends : x.address + x.length ≤ length (contents s).bytes = I.good.2 in
        let small = law.within s in
        let fits = law.small s in
        record { offset = omega arith; within = omega arith; address = omega arith; stored = omega arith }

    pub byte_past : {s' : S} {r : Result ℕ Unsound} → ReadsAt contents s a None s' → Gives contents am rs tr p s s' r
    byte_past R = record {
      tells = λ T X lt. absurd (omega (arith, (spot X).stored, R.gives));
      reading = record { few = omega (arith, R.counts); same_bytes = R.same_bytes; same_capacity = R.same_capacity };
    }

    pub byte_read : {s' : S} {b : ℕ} → ReadsAt contents s a (Some b) s' → Gives contents am rs tr p s s' (Ok b)
    byte_read {b = b} R = record {
      tells = λ T X lt.
          let I = inside start F X got yea in
          let B : List ℕ = (contents s).bytes in
          let L : List ℕ = flat (bytes_of B) I.xs in
          let Y : List ℕ = bytes_of B x in
          let Z : List ℕ = flat (bytes_of B) I.ys in
          let G = spot X in
          let in_row : get_or T p 0 ≡ get_or Y j 0 =
          ap (λ (l : List ℕ). get_or l p 0) I.spells ∙ ap (λ (n : ℕ). get_or (L ++ (Y ++ Z)) n 0) G.offset ∙ get_or-append-add L (Y ++ Z) j 0
          ∙ get_or_append_left Y Z 0 j (omega (arith, G.within, row_size B x I.good)) in
          let in_store : get_or Y j 0 ≡ get_or B a 0 =
          get_or-take x.length (drop x.address B) j 0 G.within ∙ get_or-drop x.address B j 0 ∙ ap (λ (n : ℕ). get_or B n 0) (sym G.address) in
          ap Ok (R.gives.1 ∙ sym (in_row ∙ in_store));
      reading = record { few = omega (arith, R.counts); same_bytes = R.same_bytes; same_capacity = R.same_capacity };
    }

    pub byte_told : {s' : S} {o : Option ℕ} {e : Unsound} {r : Result ℕ Unsound} → ReadsAt contents s a o s' → r ≡ ok_or o e → Gives contents am rs tr p s s' r
    byte_told {o = None} R is = byte_past R
    byte_told {s'} {o = Some b} R is = subst (Gives contents am rs tr p s s') (sym is) (byte_read R)

-- a kind that needs no reading
module _ {A S : Type 0} {am : List ℕ → A} {contents : S → Contents} {rs : List (Record PieceRow (TextValue A))} {tr : Tree} {s : S} (start end : ℕ) (state : State) {k : Kind} where
  pub kind_unread : {n : ℕ} {M : Type 0} → n ≡ end - start → (state ≡ Word → ⊥) ⊎ (M × (5 < n)) → k ≡ kind_of (number_of state) []
      → Answered contents 5 am rs tr (λ t. end ≤ length t) (λ t. kind_of (number_of state) (slice t start end)) s s (Ok k)
  kind_unread n-is no_key e = record {
    tells = λ T X le. ap Ok
        (e ∙ sym (⊎_elim (λ other. kind_other (number_of state) (slice T start end) (λ e. other (number_same e))) (λ far. kind_long (number_of state) (slice T start end) (let more = far.1 in simp (length-take, length-drop) (omega arith))) no_key));
    reading = reads_none;
  }

-- the bytes of a word, one by one
module _ {A S : Type 0} (am : List ℕ → A) (contents : S → Contents) (rs : List (Record PieceRow (TextValue A))) (tr : Tree) where
  -- i bytes from the offset a were read
  pub record Spelt (s s' : S) (a e i : ℕ) (word : List ℕ) : Type 0 where
    pub wide : length word ≡ 5
    pub bytes_are : (T : List ℕ) → TextAt am (contents s).bytes rs tr T → e ≤ length T → take i word ≡ take i (drop a T)
    pub reading : Reads contents i s s'

module _ {A S : Type 0} {am : List ℕ → A} {contents : S → Contents} {rs : List (Record PieceRow (TextValue A))} {tr : Tree} {s : S} {a e : ℕ} where
  pub spelt_none : {word : List ℕ} → length word ≡ 5 → Spelt am contents rs tr s s a e 0 word
  spelt_none n = record { wide = n; bytes_are = λ T X le. refl; reading = reads_none }

  module _ {s₁ s₂ : S} {n i p : ℕ} {word : List ℕ} {rb : Result ℕ Unsound} (n-is : n ≡ e - a) (short : n ≤ 5) (lt : i < n) (p-is : p ≡ min (a + i) 4294967295)
      (P : Spelt am contents rs tr s s₁ a e i word) (G : Answered contents 1 am rs tr (λ t. p < length t) (λ t. get_or t p 0) s₁ s₂ rb) where
    read_on : Reads contents (i + 1) s s₂
    read_on = reads_then (omega arith) P.reading G.reading

    given : {T : List ℕ} → TextAt am (contents s).bytes rs tr T → e ≤ length T → rb ≡ Ok (get_or (drop a T) i 0)
    given {T} X le =
        let light = light_text X in
        let at : p ≡ a + i = omega arith in
        G.tells T (same_text P.reading.same_bytes X) (omega arith) ∙ ap (λ (k : ℕ). Ok (get_or T k 0)) at ∙ ap Ok (sym (get_or-drop a T i 0))

    pub spelt_unread : (state : ℕ) {x : Unsound} {r : Result Kind Unsound} → rb ≡ Err x → Answered contents 5 am rs tr (λ t. e ≤ length t) (λ t. kind_of state (slice t a e)) s s₂ r
    spelt_unread state bad = record { tells = λ T X le. absurd (ok_err (given X le) bad); reading = reads_more (omega arith) read_on }

    pub spelt_more : {b : ℕ} → rb ≡ Ok b → Spelt am contents rs tr s s₂ a e (i + 1) (set word i b)
    spelt_more {b} got = record {
      wide = length-set word i b ∙ P.wide;
      bytes_are = λ T X le.
          let b-is : b ≡ get_or (drop a T) i 0 = ok_same got (given X le) in
          let inside : i < length (drop a T) = simp length-drop (omega arith) in
          take_more_set word i b (omega (arith, P.wide)) ∙ ap (λ (l : List ℕ). l ++ (b ∷ [])) (P.bytes_are T X le) ∙ ap (λ (k : ℕ). take i (drop a T) ++ (k ∷ [])) b-is ∙ sym (take_more (drop a T) i 0 inside);
      reading = read_on;
    }

  pub spelt_all : (state : ℕ) {s₁ : S} {n i : ℕ} {word : List ℕ} {k : Kind} → n ≡ e - a → n ≤ 5 → n ≤ i → i ≤ n → Spelt am contents rs tr s s₁ a e i word → k ≡ kind_of state (take (n - 0) word)
      → Answered contents 5 am rs tr (λ t. e ≤ length t) (λ t. kind_of state (slice t a e)) s s₁ (Ok k)
  spelt_all state {n = n} {i = i} {word = word} n-is short ge le P k_is = record {
    tells = λ T X h.
        let same : n - 0 ≡ i = omega arith in
        let all : i ≡ e - a = omega arith in
        ap Ok (k_is ∙ ap (λ (j : ℕ). kind_of state (take j word)) same ∙ ap (kind_of state) (P.bytes_are T X h) ∙ ap (λ (j : ℕ). kind_of state (take j (drop a T))) all);
    reading = reads_more (omega arith) P.reading;
  }
