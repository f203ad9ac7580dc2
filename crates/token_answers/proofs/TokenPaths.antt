-- The paths of the questions on tokens.
use Rattle.std.proofs.Common.{◌≡◌, ℕ, suc, ◌+◌, ◌<◌, ◌≤◌, min, Bool, true, false, cond, List, [], ◌∷◌, length, get_or, take, Some, None, Ok, Err, Option, Result, sym, ap, ◌∙◌, subst, ⊎_elim, arith, length-take, take_all}
use Rattle.std.proofs.lemmas.Bool.{cases_Bool}
use Rattle.plain.specs.Lists.{slice}
use Rattle.plain.specs.Tokens.{step, end_state, kind_of, token_of}
use Rattle.plain.specs.Questions.{token_of_offset, token_of_number}
use Rattle.plain.specs.declared.answers.Kind.{Kind}
use Rattle.plain.specs.declared.answers.Token.{Token}
use Rattle.lexer.specs.Numbers.{number_of}
use Rattle.lexer.specs.Reading.{beginnings}
use Rattle.stores.specs.Stores.{Contents}
use Rattle.slots.specs.declared.records.Record.{Record}
use Rattle.slots.specs.declared.records.Tree.{Tree}
use Rattle.slots.specs.declared.records.Unsound.{Unsound}
use Rattle.slots.proofs.Shapes.{ok_err, ok_same}
use Rattle.pieces.specs.Sound.{TextValue}
use Rattle.pieces.specs.declared.rows.PieceRow.{PieceRow}
use Rattle.asking.specs.Texts.{TextAt, Reads, Answered}
use Rattle.asking.proofs.PartPaths.{reads_none}
use Rattle.asking.proofs.TextPlaces.{light_text, same_text}
use Rattle.token_answers.specs.Edges.{BeginsAt, EdgeOf, EdgeFound}
use Rattle.token_answers.specs.declared.edges.TokenEdge.{TokenEdge}
use Rattle.token_answers.proofs.Readings.{reads_more, reads_then}
use Rattle.token_questions.proofs.Counted.{begun_mono, begun_more, token_number_lem, no_token, token_at_lem}

-- What two edges in a row say of the token between them.
module _ (t : List ℕ) (k : ℕ) (x y : TokenEdge) (X : EdgeOf t k x) (Y : EdgeOf t (k + 1) y) (begins : x.begins ≡ true) where
  here : BeginsAt t k x.at
  here = X.some begins

  one_more : beginnings 0 (take (suc x.at) t) ≡ k
  one_more =
      begun_more 0 x.at t here.within ∙ ap (λ (f : Bool). beginnings 0 (take x.at t) + cond f 1 0) here.begins ∙ sym here.number

  ends : (y.at ≤ length t) × (beginnings 0 (take y.at t) ≡ k) × (y.at < length t → (step (end_state 0 (take y.at t)) (get_or t y.at 0)).1 ≡ true)
  ends = ⊎_elim
      (λ e. let B : BeginsAt t (k + 1) y.at = Y.some e in (omega (arith, B.within), omega (arith, B.number), λ lt. B.begins))
      (λ e.
      let last : y.at ≡ length t = (Y.none e).0 in
      let few : beginnings 0 t < k + 1 = (Y.none e).1 in
      let all : take y.at t ≡ t = take_all y.at t (omega arith) in
      let whole : take (length t) t ≡ t = take_all (length t) t (omega arith) in
      (omega arith, omega (arith, ap (beginnings 0) all, ap (beginnings 0) whole, one_more, begun_mono 0 (suc x.at) (length t) t (omega (arith, here.within))), λ lt. absurd (omega arith)))
      (cases_Bool y.begins)

  between : token_of_number t k ≡ Some (token_of t x.at y.at k (number_of y.state))
  between =
      token_number_lem t k x.at y.at (record { within = here.within; begins = here.begins }) here.number ends.0 ends.1 ends.2
      ∙ ap (λ (s : ℕ). Some (token_of t x.at y.at k s)) (sym Y.state)

-- no more tokens begin than there are bytes
begun_length : (s : ℕ) (bs : List ℕ) → beginnings s bs ≤ length bs
begun_length s [] = omega arith
begun_length s (b ∷ bs) = by (step s b).1 (begun_length (step s b).0 bs)
  where
    by : (f : Bool) {n : ℕ} → n ≤ length bs → cond f 1 0 + n ≤ suc (length bs)
    by true h = omega arith
    by false h = omega arith

-- the token with a number
abbrev Numbers : {A S : Type 0} → (S → Contents) → (List ℕ → A) → List (Record PieceRow (TextValue A)) → Tree → ℕ → S → S → Result (Option Token) Unsound → Type 0
Numbers contents am rs tr k s s' r = Answered contents 517 am rs tr (λ _. Unit {0}) (λ t. token_of_number t k) s s' r

module _ {A S : Type 0} {am : List ℕ → A} {contents : S → Contents} {rs : List (Record PieceRow (TextValue A))} {tr : Tree} (k : ℕ) {s : S} where
  pub token_zero : k ≡ 0 → Numbers contents am rs tr k s s (Ok None)
  token_zero z = record { tells = λ T X _. ap (λ (n : ℕ). Ok (token_of_number T n)) (sym z); reading = reads_none }

  module _ {s₁ : S} {rx : Result TokenEdge Unsound} (some : k ≡ 0 → ⊥) (E : EdgeFound contents am rs tr k s s₁ rx) where
    begun_read : Reads contents 517 s s₁
    begun_read = reads_more (omega arith) E.reading

    pub token_no_edge : {e : Unsound} {r : Result (Option Token) Unsound} → rx ≡ Err e → Numbers contents am rs tr k s s₁ r
    token_no_edge bad = record { tells = λ T X _. absurd (ok_err (E.finds T X (omega arith)).1 bad); reading = begun_read }

    module _ {x : TokenEdge} (got : rx ≡ Ok x) where
      from : {T : List ℕ} → TextAt am (contents s).bytes rs tr T → EdgeOf T k x
      from {T} X = let H = E.finds T X (omega arith) in subst (EdgeOf T k) (ok_same H.1 got) H.2

      pub token_past : x.begins ≡ false → Numbers contents am rs tr k s s₁ (Ok None)
      token_past nay = record { tells = λ T X _. ap Ok (sym (no_token T k ((from X).none nay).1)); reading = begun_read }

      module _ {s₂ : S} {k' : ℕ} {ry : Result TokenEdge Unsound} (yea : x.begins ≡ true) (k_is : k' ≡ min (k + 1) 4294967295) (G : EdgeFound contents am rs tr k' s₁ s₂ ry) where
        ended_read : Reads contents 512 s s₂
        ended_read = reads_then (omega arith) E.reading G.reading

        next_is : {T : List ℕ} → TextAt am (contents s).bytes rs tr T → k' ≡ k + 1
        next_is {T} X =
            let B : BeginsAt T k x.at = (from X).some yea in
            omega (arith, light_text X, B.within, B.number, begun_length 0 (take x.at T), length-take x.at T)

        until : {T : List ℕ} → TextAt am (contents s).bytes rs tr T → (y : TokenEdge) × (ry ≡ Ok y) × EdgeOf T k' y
        until {T} X = G.finds T (same_text E.reading.same_bytes X) (omega (arith, next_is X))

        pub token_no_end : {e : Unsound} {r : Result (Option Token) Unsound} → ry ≡ Err e → Numbers contents am rs tr k s s₂ r
        token_no_end bad = record { tells = λ T X _. absurd (ok_err (until X).1 bad); reading = reads_more (omega arith) ended_read }

        module _ {s₃ : S} {y : TokenEdge} {rk : Result Kind Unsound} (got-y : ry ≡ Ok y)
            (K : Answered contents 5 am rs tr (λ t. y.at ≤ length t) (λ t. kind_of (number_of y.state) (slice t x.at y.at)) s₂ s₃ rk) where
          all_read : Reads contents 517 s s₃
          all_read = reads_then (omega arith) ended_read K.reading

          to : {T : List ℕ} → TextAt am (contents s).bytes rs tr T → EdgeOf T (k + 1) y
          to {T} X = let H = until X in subst (λ (n : ℕ). EdgeOf T n y) (next_is X) (subst (EdgeOf T k') (ok_same H.1 got-y) H.2)

          named : {T : List ℕ} → TextAt am (contents s).bytes rs tr T → rk ≡ Ok (kind_of (number_of y.state) (slice T x.at y.at))
          named {T} X = K.tells T (same_text ended_read.same_bytes X) (ends T k x y (from X) (to X) yea).0

          pub token_no_kind : {e : Unsound} {r : Result (Option Token) Unsound} → rk ≡ Err e → Numbers contents am rs tr k s s₃ r
          token_no_kind bad = record { tells = λ T X _. absurd (ok_err (named X) bad); reading = all_read }

          pub token_found : {d : Kind} → rk ≡ Ok d → Numbers contents am rs tr k s s₃ (Ok (Some (record { start = x.at; end = y.at; number = k; kind = d })))
          token_found {d} got-d = record {
            tells = λ T X _.
                ap (λ (n : Kind). Ok (Some (record { start = x.at; end = y.at; number = k; kind = n }))) (ok_same got-d (named X))
                ∙ ap Ok (sym (between T k x y (from X) (to X) yea));
            reading = all_read;
          }

-- the token at an offset
module _ {A S : Type 0} {am : List ℕ → A} {contents : S → Contents} {rs : List (Record PieceRow (TextValue A))} {tr : Tree} (p : ℕ) {s s₁ : S} {rn : Result ℕ Unsound}
    (C : Answered contents 256 am rs tr (λ t. p < length t) (λ t. beginnings 0 (take (p + 1) t)) s s₁ rn) where
  pub around_uncounted : {e : Unsound} {r : Result (Option Token) Unsound} → rn ≡ Err e → Answered contents 773 am rs tr (λ t. p < length t) (λ t. token_of_offset t p) s s₁ r
  around_uncounted bad = record {
    tells = λ T X lt. absurd (ok_err (C.tells T X lt) bad);
    reading = reads_more (omega arith) C.reading;
  }

  pub around_found : {s₂ : S} {n : ℕ} {r : Result (Option Token) Unsound} → rn ≡ Ok n → Answered contents 517 am rs tr (λ _. Unit {0}) (λ t. token_of_number t n) s₁ s₂ r
      → Answered contents 773 am rs tr (λ t. p < length t) (λ t. token_of_offset t p) s s₂ r
  around_found {n = n} got N = record {
    tells = λ T X lt.
        let next : p + 1 ≡ suc p = omega arith in
        let n-is : n ≡ beginnings 0 (take (suc p) T) = ok_same got (C.tells T X lt) ∙ ap (λ (j : ℕ). beginnings 0 (take j T)) next in
        N.tells T (same_text C.reading.same_bytes X) tt ∙ ap (λ (j : ℕ). Ok (token_of_number T j)) n-is ∙ ap Ok (sym (token_at_lem T p lt));
    reading = reads_then (omega arith) C.reading N.reading;
  }
