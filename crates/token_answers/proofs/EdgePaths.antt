-- The paths of finding where a token begins, and of counting those that do.
use Rattle.std.proofs.Common.{◌≡◌, ℕ, suc, ◌+◌, ◌-◌, ◌<◌, ◌≤◌, min, Bool, true, false, cond, leb, ◌⊎◌, List, [], ◌++◌, length, get_or, take, drop, Some, None, Ok, Err, Option, Result, sym, refl, ap, ◌∙◌, subst, ap₂, ⊎_elim, append-nil, arith, length-append, take_all}
use Rattle.std.proofs.lemmas.Bool.{leb-true, leb-false, le-leb, ltb-false, both_ways}
use Rattle.plain.specs.Tokens.{step, end_state}
use Rattle.measures.specs.Law.{heaviest}
use Rattle.measures.specs.declared.totals.Totals.{Totals}
use Rattle.lexer.specs.Numbers.{number_of}
use Rattle.lexer.specs.States.{end_read}
use Rattle.lexer.specs.Reading.{beginnings, read_from, row_at}
use Rattle.lexer.specs.declared.tokens.TokenRow.{TokenRow}
use Rattle.slots.specs.Values.{flat}
use Rattle.slots.specs.declared.records.Record.{Record}
use Rattle.slots.specs.declared.records.Tree.{Tree}
use Rattle.slots.specs.declared.records.Unsound.{Unsound}
use Rattle.slots.proofs.Shapes.{ok_err, ok_same}
use Rattle.stores.specs.Stores.{Contents, Lawful}
use Rattle.pieces.specs.Rows.{bytes_of, Good, SamePiece, Makes}
use Rattle.pieces.specs.Sound.{TextValue, text_means}
use Rattle.pieces.specs.declared.piece.Piece.{Piece}
use Rattle.pieces.specs.declared.rows.PieceRow.{PieceRow}
use Rattle.asking.specs.Rows.{RowFound}
use Rattle.asking.specs.Texts.{TextAt, Reads, Answered}
use Rattle.asking.proofs.PartPaths.{reads_none}
use Rattle.asking.proofs.TextPlaces.{past, before_is, front, light_text, row_size, low, high, Inside, never_lost, past_all, inside}
use Rattle.token_answers.specs.Edges.{EdgeOf, EdgeFound}
use Rattle.token_questions.specs.Scans.{reached, Stops, Scanned}
use Rattle.token_answers.specs.declared.edges.TokenEdge.{TokenEdge}
use Rattle.token_questions.specs.declared.scan.Goal.{Goal}
use Rattle.token_questions.specs.declared.scan.Goal.TheVariants.{Bytes, Tokens}
use Rattle.token_questions.specs.declared.scan.Stop.{Stop}
use Rattle.token_questions.proofs.Counted.{begun_more}

-- the fields of a row
tokens_read : (q : ℕ) (bs : List ℕ) → (read_from q bs).tokens ≡ beginnings q bs
unfolding read_from
tokens_read q bs = refl

row_read : {A : Type 0} (am : List ℕ → A) (L : List ℕ) {w : TextValue A} → w ≡ text_means am L → row_at w.left.right 0 ≡ read_from 0 L
row_read {A} am L e = ap (λ (v : TextValue A). row_at v.left.right 0) e

-- a byte begins at most one token
flag_one : (f : Bool) → 1 ≤ cond f 1 0 → f ≡ true
flag_one true h = refl
flag_one false h = absurd (omega arith)

flag_most : (f : Bool) → cond f 1 0 ≤ 1
flag_most true = omega arith
flag_most false = omega arith

-- The text is L, the bytes Y of one row, and Z.
module _ (L Y Z : List ℕ) {T : List ℕ} (is : T ≡ L ++ (Y ++ Z)) where
  lens : length T ≡ length L + (length Y + length Z)
  lens = ap length is ∙ length-append L (Y ++ Z) ∙ ap (λ (n : ℕ). length L + n) (length-append Y Z)

  fore : (n k : ℕ) → n ≡ length L + k → k ≤ length Y → take n T ≡ L ++ take k Y
  fore n k e le = ap (take n) is ∙ front L Y Z n k e le

  -- a reading stops where so many tokens have begun: its byte begins the last of them
  edge_within : (k n : ℕ) (z : Stop) → n ≡ length L + z.index → beginnings 0 L < k → Stops 0 L Y (Tokens k) z
      → EdgeOf T k (record { at = n; state = z.before.state; begins = true })
  edge_within k n z n-is few D =
      let here : take n T ≡ L ++ take z.index Y = fore n z.index n-is (omega (arith, D.within)) in
      let next : take (suc n) T ≡ L ++ take (z.index + 1) Y = fore (suc n) (z.index + 1) (omega arith) (omega (arith, D.within)) in
      let b₀ : z.before.tokens ≡ beginnings 0 (take n T) = ap (λ (u : TokenRow). u.tokens) D.before ∙ tokens_read 0 (L ++ take z.index Y) ∙ ap (beginnings 0) (sym here) in
      let b₁ : z.after.tokens ≡ beginnings 0 (take (suc n) T) = ap (λ (u : TokenRow). u.tokens) D.after ∙ tokens_read 0 (L ++ take (z.index + 1) Y) ∙ ap (beginnings 0) (sym next) in
      let enough : k ≤ z.after.tokens = leb-true k z.after.tokens D.yes in
      let fewer : z.before.tokens < k = ⊎_elim
      (λ (e : z.index ≡ 0).
      let none : take n T ≡ L = here ∙ ap (λ (i : ℕ). L ++ take i Y) e ∙ append-nil L in omega (arith, ap (beginnings 0) none))
      (λ e. leb-false k z.before.tokens e) D.no in
      let inside : n < length T = omega (arith, lens, D.within) in
      let flag : Bool = (step (end_state 0 (take n T)) (get_or T n 0)).1 in
      let more : beginnings 0 (take (suc n) T) ≡ beginnings 0 (take n T) + cond flag 1 0 = begun_more 0 n T inside in record {
        state = ap (λ (u : TokenRow). number_of u.state) D.before ∙ end_read 0 (L ++ take z.index Y) (omega arith) ∙ ap (end_state 0) (sym here);
        some = λ _. record { within = inside; begins = flag_one flag (omega arith); number = omega (arith, flag_most flag) };
        none = λ e. absurd (both_ways true e refl);
      }

  -- one that stops at the byte p has counted the tokens that begin up to it
  number_within : (p m : ℕ) (z : Stop) → p + 1 ≡ length L + m → 1 ≤ m → m ≤ length Y → Stops 0 L Y (Bytes m) z → z.after.tokens ≡ beginnings 0 (take (p + 1) T)
  number_within p m z p-is some within D =
      let ge : m ≤ z.index + 1 = leb-true m (z.index + 1) D.yes in
      let lt : z.index < m = ⊎_elim (λ (e : z.index ≡ 0). omega arith) (λ e. leb-false m z.index e) D.no in
      ap (λ (u : TokenRow). u.tokens) D.after ∙ tokens_read 0 (L ++ take (z.index + 1) Y)
      ∙ ap (beginnings 0) (sym (fore (p + 1) (z.index + 1) (omega arith) (omega arith)))

-- The row of a text makes a piece.
pub row_makes : {S : Type 0} {contents : S → Contents} (s : S) {x : PieceRow} → Lawful contents → Good (contents s).bytes x → Makes x
row_makes {contents = contents} s {x = x} law good =
    let within : x.address + x.length ≤ length (contents s).bytes = good.2 in
    record { some = good.0; short = good.1; ends = omega (arith, law.within s, law.small s) }

scanned : {S : Type 0} {contents : S → Contents} {s s' : S} {a n : ℕ} {u : TokenRow} {goal : Goal} {rj : Result Stop Unsound}
    → Scanned contents s s' a n u goal rj → Reads contents 256 s s'
scanned E = record { few = E.few; same_bytes = E.same_bytes; same_capacity = E.same_capacity }

-- The piece of a row is read on from what stands before it.
module _ {A S : Type 0} {am : List ℕ → A} {says : TextValue A → Bool} {contents : S → Contents} {R : List PieceRow} {T : List ℕ} {w : TextValue A} {x : PieceRow} {s s' : S} {y : Piece} {u : TokenRow} {goal : Goal} {rj : Result Stop Unsound}
    (I : Inside am says (contents s).bytes R T w x) (same : SamePiece x y) (u-is : u ≡ row_at w.left.right 0) (E : Scanned contents s s' y.address y.length u goal rj) where
  stop_inside : length T ≤ heaviest → reached goal y.length (read_from 0 (flat (bytes_of (contents s).bytes) I.xs ++ bytes_of (contents s).bytes x)) ≡ true
      → (z : Stop) × (rj ≡ Ok z) × Stops 0 (flat (bytes_of (contents s).bytes) I.xs) (bytes_of (contents s).bytes x) goal z
  stop_inside light reaches =
      let B : List ℕ = (contents s).bytes in
      let L : List ℕ = flat (bytes_of B) I.xs in
      let Y : List ℕ = bytes_of B x in
      let part : Y ≡ take y.length (drop y.address B) = ap₂ (λ (a n : ℕ). take n (drop a B)) (sym same.address_is) (sym same.length_is) in
      let ends : x.address + x.length ≤ length B = I.good.2 in
      let size = row_size B x I.good in
      let all = lens L Y (flat (bytes_of B) I.ys) I.spells in
      E.stops 0 L Y part (u-is ∙ row_read am L I.place) (omega (arith, same.address_is, same.length_is)) (omega (arith, same.length_is)) reaches

-- at least k tokens
abbrev pub begun_to : {A : Type 0} → ℕ → TextValue A → Bool
begun_to k v = leb k (row_at v.left.right 0).tokens

few_begun : (k : ℕ) (L : List ℕ) → 1 ≤ k → (L ≡ []) ⊎ (leb k (read_from 0 L).tokens ≡ false) → beginnings 0 L < k
few_begun k L some = ⊎_elim (λ (e : L ≡ []). omega (arith, ap (beginnings 0) e)) (λ e. omega (arith, leb-false k (read_from 0 L).tokens e, tokens_read 0 L))

-- where a token begins
module _ {A S : Type 0} {am : List ℕ → A} {contents : S → Contents} {rs : List (Record PieceRow (TextValue A))} {tr : Tree} (k : ℕ) {v w : TextValue A} {q : Result (Option PieceRow) Unsound} {s : S}
    (start : v ≡ text_means am []) (F : RowFound (λ _. 1) (text_means am) (begun_to k) rs tr v w q) where
  pub edge_lost : {e : Unsound} {r : Result TokenEdge Unsound} → q ≡ Err e → EdgeFound contents am rs tr k s s r
  edge_lost bad = record { finds = λ T X some. absurd (never_lost start F X bad); reading = reads_none }

  pub edge_none : {f : Option PieceRow} {u : TokenRow} → q ≡ Ok f → f ≡ None → u ≡ row_at w.left.right 0
      → EdgeFound contents am rs tr k s s (Ok (record { at = w.left.left.bytes; state = u.state; begins = false }))
  edge_none got nay u-is = record {
    finds = λ T X some.
        let P = past_all start F X got nay in
        let size : w.left.left.bytes ≡ length T = ap (λ (z : TextValue A). z.left.left.bytes) P.0 in (
          _,
          refl,
          record {
            state = ap (λ (z : TokenRow). number_of z.state) (u-is ∙ row_read am T P.0) ∙ end_read 0 T (omega arith) ∙ ap (end_state 0) (sym (take_all w.left.left.bytes T (omega arith)));
            some = λ e. absurd (both_ways false refl e);
            none = λ _. (size, few_begun k T some P.1);
          },
        );
    reading = reads_none;
  }

  module _ {f : Option PieceRow} {x : PieceRow} (got : q ≡ Ok f) (yea : f ≡ Some x) where
    pub edge_no_piece : {r : Result TokenEdge Unsound} → Lawful contents → (Makes x → ⊥) → EdgeFound contents am rs tr k s s r
    edge_no_piece law nay = record { finds = λ T X some. absurd (nay (row_makes s law (inside start F X got yea).good)); reading = reads_none }

    module _ {s' : S} {y : Piece} {u : TokenRow} {rj : Result Stop Unsound} (same : SamePiece x y) (u-is : u ≡ row_at w.left.right 0) (E : Scanned contents s s' y.address y.length u (Tokens k) rj) where
      stopped : {T : List ℕ} (X : TextAt am (contents s).bytes rs tr T)
          → (z : Stop) × (rj ≡ Ok z) × Stops 0 (flat (bytes_of (contents s).bytes) (inside start F X got yea).xs) (bytes_of (contents s).bytes x) (Tokens k) z
      stopped X = let I = inside start F X got yea in stop_inside I same u-is E (light_text X) I.yes

      pub edge_unread : {e : Unsound} {r : Result TokenEdge Unsound} → rj ≡ Err e → EdgeFound contents am rs tr k s s' r
      edge_unread bad = record { finds = λ T X some. absurd (ok_err (stopped X).1 bad); reading = scanned E }

      pub edge_found : {z : Stop} {n : ℕ} → rj ≡ Ok z → n ≡ min (w.left.left.bytes + z.index) 4294967295
          → EdgeFound contents am rs tr k s s' (Ok (record { at = n; state = z.before.state; begins = true }))
      edge_found {z} {n} got-z n-is = record {
        finds = λ T X some.
            let I = inside start F X got yea in
            let B : List ℕ = (contents s).bytes in
            let L : List ℕ = flat (bytes_of B) I.xs in
            let Y : List ℕ = bytes_of B x in
            let Z : List ℕ = flat (bytes_of B) I.ys in
            let H = stopped X in
            let D : Stops 0 L Y (Tokens k) z = subst (Stops 0 L Y (Tokens k)) (sym (ok_same got-z H.1)) H.2 in
            let b : w.left.left.bytes ≡ length L = ap (λ (u : Totals). u.bytes) (before_is I) in
            let at : n ≡ length L + z.index = omega (arith, light_text X, lens L Y Z I.spells, D.within) in
            (_, refl, edge_within L Y Z I.spells k n z at (few_begun k L some I.no) D);
        reading = scanned E;
      }

-- how many begin up to an offset and at it
abbrev Counts : {A S : Type 0} → (S → Contents) → (List ℕ → A) → List (Record PieceRow (TextValue A)) → Tree → ℕ → S → S → Result ℕ Unsound → Type 0
Counts contents am rs tr p s s' r = Answered contents 256 am rs tr (λ t. p < length t) (λ t. beginnings 0 (take (p + 1) t)) s s' r

module _ {A S : Type 0} {am : List ℕ → A} {contents : S → Contents} {rs : List (Record PieceRow (TextValue A))} {tr : Tree} (p : ℕ) {v w : TextValue A} {q : Result (Option PieceRow) Unsound} {s : S}
    (start : v ≡ text_means am []) (F : RowFound (λ _. 1) (text_means am) (past p) rs tr v w q) where
  pub number_lost : {e : Unsound} {r : Result ℕ Unsound} → q ≡ Err e → Counts contents am rs tr p s s r
  number_lost bad = record { tells = λ T X lt. absurd (never_lost start F X bad); reading = reads_none }

  pub number_none : {f : Option PieceRow} {r : Result ℕ Unsound} → q ≡ Ok f → f ≡ None → Counts contents am rs tr p s s r
  number_none got nay = record {
    tells = λ T X lt.
        let P = past_all start F X got nay in
        let le : length T ≤ p = ⊎_elim (λ (e : T ≡ []). omega (arith, ap length e)) (λ e. ltb-false p (length T) e) P.1 in
        absurd (omega arith);
    reading = reads_none;
  }

  module _ {f : Option PieceRow} {x : PieceRow} (got : q ≡ Ok f) (yea : f ≡ Some x) where
    pub number_no_piece : {r : Result ℕ Unsound} → Lawful contents → (Makes x → ⊥) → Counts contents am rs tr p s s r
    number_no_piece law nay = record { tells = λ T X lt. absurd (nay (row_makes s law (inside start F X got yea).good)); reading = reads_none }

    module _ {s' : S} {y : Piece} {u : TokenRow} {j m : ℕ} {rj : Result Stop Unsound} (same : SamePiece x y) (u-is : u ≡ row_at w.left.right 0) (j-is : j ≡ p - w.left.left.bytes) (m-is : m ≡ min (j + 1) 4294967295)
        (E : Scanned contents s s' y.address y.length u (Bytes m) rj) where
      -- how far into the row
      pub record Placed {T : List ℕ} (X : TextAt am (contents s).bytes rs tr T) : Type 0 where
        pub upto : p + 1 ≡ length (flat (bytes_of (contents s).bytes) (inside start F X got yea).xs) + m
        pub some : 1 ≤ m
        pub within : m ≤ x.length

      placed : {T : List ℕ} (X : TextAt am (contents s).bytes rs tr T) → Placed X
      placed X =
          let I = inside start F X got yea in
          let b : w.left.left.bytes ≡ length (flat (bytes_of (contents s).bytes) I.xs) = ap (λ (u : Totals). u.bytes) (before_is I) in
          let lo = low p I in
          let hi = high p I in
          let short : x.length ≤ 256 = I.good.1 in
          record { upto = omega arith; some = omega arith; within = omega arith }

      counted : {T : List ℕ} (X : TextAt am (contents s).bytes rs tr T)
          → (z : Stop) × (rj ≡ Ok z) × Stops 0 (flat (bytes_of (contents s).bytes) (inside start F X got yea).xs) (bytes_of (contents s).bytes x) (Bytes m) z
      counted X = stop_inside (inside start F X got yea) same u-is E (light_text X) (le-leb m y.length (omega (arith, (placed X).within, same.length_is)))

      pub number_unread : {e : Unsound} {r : Result ℕ Unsound} → rj ≡ Err e → Counts contents am rs tr p s s' r
      number_unread bad = record { tells = λ T X lt. absurd (ok_err (counted X).1 bad); reading = scanned E }

      pub number_found : {z : Stop} → rj ≡ Ok z → Counts contents am rs tr p s s' (Ok z.after.tokens)
      number_found {z} got-z = record {
        tells = λ T X lt.
            let I = inside start F X got yea in
            let B : List ℕ = (contents s).bytes in
            let L : List ℕ = flat (bytes_of B) I.xs in
            let Y : List ℕ = bytes_of B x in
            let Z : List ℕ = flat (bytes_of B) I.ys in
            let H = counted X in
            let D : Stops 0 L Y (Bytes m) z = subst (Stops 0 L Y (Bytes m)) (sym (ok_same got-z H.1)) H.2 in
            let G = placed X in
            ap Ok (number_within L Y Z I.spells p m z G.upto G.some (omega (arith, G.within, row_size B x I.good)) D);
        reading = scanned E;
      }
