-- The paths of the questions on lines.
use Rattle.std.proofs.Common.{◌≡◌, ℕ, ◌+◌, ◌-◌, ◌<◌, ◌≤◌, min, Bool, leb, List, [], ◌++◌, length, take, drop, Some, None, Ok, Err, Option, Result, sym, ap, ◌∙◌, subst, ap₂, ⊎_elim, arith, length-append, length-take, take_all}
use Rattle.std.proofs.lemmas.Bool.{ltb-false, leb-true, leb-false}
use Rattle.plain.specs.Lists.{count, slice}
use Rattle.plain.specs.Tokens.{feed}
use Rattle.plain.specs.Questions.{column, line_of_offset, start_of_line}
use Rattle.plain.specs.declared.answers.Place.{Place}
use Rattle.measures.specs.Totals.{totals}
use Rattle.measures.specs.declared.totals.Totals.{Totals}
use Rattle.measures.specs.Counts.{count_append, count_length}
use Rattle.slots.specs.Values.{flat}
use Rattle.slots.specs.declared.records.Record.{Record}
use Rattle.slots.specs.declared.records.Tree.{Tree}
use Rattle.slots.specs.declared.records.Unsound.{Unsound}
use Rattle.slots.proofs.Shapes.{ok_err, ok_same}
use Rattle.pieces.specs.Rows.{bytes_of, SamePiece, Makes}
use Rattle.pieces.specs.Sound.{TextValue, text_means}
use Rattle.pieces.specs.declared.piece.Piece.{Piece}
use Rattle.pieces.specs.declared.rows.PieceRow.{PieceRow}
use Rattle.stores.specs.Stores.{Contents, Lawful}
use Rattle.asking.specs.Rows.{RowFound}
use Rattle.asking.specs.Texts.{TextAt, Reads, SliceMeasured, Answered}
use Rattle.asking.proofs.PartPaths.{reads_none, makes_piece}
use Rattle.asking.proofs.RowTurns.{some_none, some_same}
use Rattle.asking.proofs.TextPlaces.{past, before_is, front, front_of_row, light_text, same_text, never_lost, past_all, inside}
use Rattle.questions.specs.Lines.{Ends, FeedFound}
use Rattle.questions.proofs.LineStarts.{line_start_lem, column_le, column_append, column_feed, no_start}

-- at least k line feeds
abbrev pub fed : {A : Type 0} → ℕ → TextValue A → Bool
fed k v = leb k v.left.left.feeds

-- the feeds before an offset
module _ {A S : Type 0} {am : List ℕ → A} {contents : S → Contents} {rs : List (Record PieceRow (TextValue A))} {tr : Tree} (p : ℕ) {v w : TextValue A} {q : Result (Option PieceRow) Unsound} {s : S}
    (start : v ≡ text_means am []) (F : RowFound (λ _. 1) (text_means am) (past p) rs tr v w q) where
  pub feeds_lost : {e : Unsound} {r : Result ℕ Unsound} → q ≡ Err e → Answered contents 256 am rs tr (λ _. Unit {0}) (λ t. count feed (take p t)) s s r
  feeds_lost bad = record { tells = λ T X _. absurd (never_lost start F X bad); reading = reads_none }

  pub feeds_all : {f : Option PieceRow} → q ≡ Ok f → f ≡ None → Answered contents 256 am rs tr (λ _. Unit {0}) (λ t. count feed (take p t)) s s (Ok w.left.left.feeds)
  feeds_all got nay = record {
    tells = λ T X _.
        let P = past_all start F X got nay in
        let le : length T ≤ p = ⊎_elim (λ (e : T ≡ []). omega (arith, ap length e)) (λ e. ltb-false p (length T) e) P.1 in
        ap Ok (ap (λ (u : TextValue A). u.left.left.feeds) P.0 ∙ ap (count feed) (sym (take_all p T le)));
    reading = reads_none;
  }

  module _ {s' : S} {f : Option PieceRow} {x : PieceRow} {k : ℕ} {rm : Result Totals Unsound} (got : q ≡ Ok f) (yea : f ≡ Some x) (k_is : k ≡ p - w.left.left.bytes)
      (M : SliceMeasured contents totals s s' x 0 k rm) where
    measured : {T : List ℕ} (X : TextAt am (contents s).bytes rs tr T) → rm ≡ Ok (totals (slice (bytes_of (contents s).bytes x) 0 k))
    measured X = M.value (inside start F X got yea).good

    pub feeds_unread : {e : Unsound} {r : Result ℕ Unsound} → rm ≡ Err e → Answered contents 256 am rs tr (λ _. Unit {0}) (λ t. count feed (take p t)) s s' r
    feeds_unread bad = record { tells = λ T X _. absurd (ok_err (measured X) bad); reading = M.reading }

    pub feeds_found : {u : Totals} {n : ℕ} → rm ≡ Ok u → n ≡ min (w.left.left.feeds + u.feeds) 4294967295 → Answered contents 256 am rs tr (λ _. Unit {0}) (λ t. count feed (take p t)) s s' (Ok n)
    feeds_found {u} {n} got-u n-is = record {
      tells = λ T X _.
          let I = inside start F X got yea in
          let L : List ℕ = flat (bytes_of (contents s).bytes) I.xs in
          let K : List ℕ = slice (bytes_of (contents s).bytes x) 0 k in
          let f₁ : w.left.left.feeds ≡ count feed L = ap (λ (u : Totals). u.feeds) (before_is I) in
          let f₂ : u.feeds ≡ count feed K = ap (λ (u : Totals). u.feeds) (ok_same got-u (measured X)) in
          let sum : count feed (take p T) ≡ count feed L + count feed K = ap (count feed) (front_of_row p I k_is) ∙ count_append feed L K in
          ap Ok (omega (arith, light_text X, count_length feed (take p T), length-take p T));
      reading = M.reading;
    }

-- the offset past a line feed
module _ {A S : Type 0} {am : List ℕ → A} {contents : S → Contents} {rs : List (Record PieceRow (TextValue A))} {tr : Tree} (number : ℕ) {v w : TextValue A} {q : Result (Option PieceRow) Unsound} {s : S}
    (start : v ≡ text_means am []) (F : RowFound (λ _. 1) (text_means am) (fed number) rs tr v w q) where
  pub feed_lost : {e : Unsound} {r : Result (Option ℕ) Unsound} → q ≡ Err e → Answered contents 256 am rs tr (λ _. 1 ≤ number) (λ t. start_of_line t (number + 1)) s s r
  feed_lost bad = record { tells = λ T X _. absurd (never_lost start F X bad); reading = reads_none }

  pub feed_none : {f : Option PieceRow} → q ≡ Ok f → f ≡ None → Answered contents 256 am rs tr (λ _. 1 ≤ number) (λ t. start_of_line t (number + 1)) s s (Ok None)
  feed_none got nay = record {
    tells = λ T X some.
        let P = past_all start F X got nay in
        let few : count feed T < number = ⊎_elim (λ (e : T ≡ []). omega (arith, ap (count feed) e)) (λ e. leb-false number (count feed T) e) P.1 in
        ap Ok (sym (no_start T (number + 1) (omega arith)));
    reading = reads_none;
  }

  module _ {f : Option PieceRow} {x : PieceRow} (got : q ≡ Ok f) (yea : f ≡ Some x) where
    pub feed_no_piece : {r : Result (Option ℕ) Unsound} → Lawful contents → (Makes x → ⊥) → Answered contents 256 am rs tr (λ _. 1 ≤ number) (λ t. start_of_line t (number + 1)) s s r
    feed_no_piece law nay = record {
      tells = λ T X some.
          let I = inside start F X got yea in
          absurd (nay (makes_piece law s x I.good));
      reading = reads_none;
    }

    module _ {s' : S} {y : Piece} {k : ℕ} {rj : Result ℕ Unsound} (same : SamePiece x y) (k_is : k ≡ number - w.left.left.feeds) (E : FeedFound contents s s' y.address y.length k rj) where
      -- the line feed lies in the row
      ended : {T : List ℕ} (X : TextAt am (contents s).bytes rs tr T) → 1 ≤ number → (j : ℕ) × (rj ≡ Ok j) × Ends (bytes_of (contents s).bytes x) k j
      ended X some =
          let I = inside start F X got yea in
          let B : List ℕ = (contents s).bytes in
          let L : List ℕ = flat (bytes_of B) I.xs in
          let part : take y.length (drop y.address B) ≡ bytes_of B x = ap₂ (λ (a n : ℕ). take n (drop a B)) same.address_is same.length_is in
          let f₁ : w.left.left.feeds ≡ count feed L = ap (λ (u : Totals). u.feeds) (before_is I) in
          let few : count feed L < number = ⊎_elim (λ (e : L ≡ []). omega (arith, ap (count feed) e)) (λ e. leb-false number (count feed L) e) I.no in
          let enough : number ≤ count feed (L ++ bytes_of B x) = leb-true number (count feed (L ++ bytes_of B x)) I.yes in
          let within : x.address + x.length ≤ length B = I.good.2 in
          let J = E.value (omega (arith, same.address_is, same.length_is)) (omega arith) (omega (arith, count_append feed L (bytes_of B x), ap (count feed) part)) in
          (J.0, J.1, subst (λ (l : List ℕ). Ends l k J.0) part J.2)

      pub feed_unread : {e : Unsound} {r : Result (Option ℕ) Unsound} → rj ≡ Err e → Answered contents 256 am rs tr (λ _. 1 ≤ number) (λ t. start_of_line t (number + 1)) s s' r
      feed_unread bad = record { tells = λ T X some. absurd (ok_err (ended X some).1 bad); reading = E.reading }

      pub feed_found : {j n : ℕ} → rj ≡ Ok j → n ≡ min (w.left.left.bytes + j) 4294967295 → Answered contents 256 am rs tr (λ _. 1 ≤ number) (λ t. start_of_line t (number + 1)) s s' (Ok (Some n))
      feed_found {j} {n} got-j n-is = record {
        tells = λ T X some.
            let I = inside start F X got yea in
            let J = ended X some in
            let D = J.2 in
            let B : List ℕ = (contents s).bytes in
            let L : List ℕ = flat (bytes_of B) I.xs in
            let Y : List ℕ = bytes_of B x in
            let Z : List ℕ = flat (bytes_of B) I.ys in
            let j-is : j ≡ J.0 = ok_same got-j J.1 in
            let b : w.left.left.bytes ≡ length L = ap (λ (u : Totals). u.bytes) (before_is I) in
            let f₁ : w.left.left.feeds ≡ count feed L = ap (λ (u : Totals). u.feeds) (before_is I) in
            let few : count feed L < number = ⊎_elim (λ (e : L ≡ []). omega (arith, ap (count feed) e)) (λ e. leb-false number (count feed L) e) I.no in
            let lens : length T ≡ length L + (length Y + length Z) = ap length I.spells ∙ length-append L (Y ++ Z) ∙ ap (λ (n : ℕ). length L + n) (length-append Y Z) in
            let e : n ≡ length L + J.0 = omega (arith, light_text X, D.within) in
            let parts : take n T ≡ L ++ take J.0 Y = ap (take n) I.spells ∙ front L Y Z n J.0 e D.within in
            let fed : count feed (take n T) ≡ count feed L + count feed (take J.0 Y) = ap (count feed) parts ∙ count_append feed L (take J.0 Y) in
            let col : column 0 (take n T) ≡ 0 =
            ap (column 0) parts ∙ column_append 0 L (take J.0 Y) ∙ column_feed (column 0 L) 0 (take J.0 Y) (omega (arith, D.feeds)) ∙ D.after in
            let none_left : n - column 0 (take n T) ≡ n = omega arith in
            ap Ok (sym (line_start_lem T n (number + 1) (omega (arith, D.within)) (omega (arith, D.feeds)) ∙ ap Some none_left));
        reading = E.reading;
      }

-- where a line starts
module _ {A S : Type 0} {am : List ℕ → A} {contents : S → Contents} {rs : List (Record PieceRow (TextValue A))} {tr : Tree} {line : ℕ} {s : S} where
  pub line_none : line ≡ 0 → Answered contents 256 am rs tr (λ _. Unit {0}) (λ t. start_of_line t line) s s (Ok None)
  line_none z = record { tells = λ T X _. ap (λ (k : ℕ). Ok (start_of_line T k)) (sym z); reading = reads_none }

  pub line_first : line ≡ 1 → Answered contents 256 am rs tr (λ _. Unit {0}) (λ t. start_of_line t line) s s (Ok (Some 0))
  line_first e = record { tells = λ T X _. ap (λ (k : ℕ). Ok (start_of_line T k)) (sym e); reading = reads_none }

  pub line_later : {s' : S} {r : Result (Option ℕ) Unsound} → 2 ≤ line → Answered contents 256 am rs tr (λ _. 1 ≤ line - 1) (λ t. start_of_line t (line - 1 + 1)) s s' r
      → Answered contents 256 am rs tr (λ _. Unit {0}) (λ t. start_of_line t line) s s' r
  line_later le E = record {
    tells = λ T X _. E.tells T X (omega arith) ∙ ap (λ (k : ℕ). Ok (start_of_line T k)) (let e : line - 1 + 1 ≡ line = omega arith in e);
    reading = E.reading;
  }

-- the line and the column of an offset
module _ {A S : Type 0} {am : List ℕ → A} {contents : S → Contents} {rs : List (Record PieceRow (TextValue A))} {tr : Tree} (p : ℕ) {s s₁ : S} {rf : Result ℕ Unsound}
    (E : Answered contents 256 am rs tr (λ _. Unit {0}) (λ t. count feed (take p t)) s s₁ rf) where
  pub place_no_feeds : {e : Unsound} {r : Result Place Unsound} → rf ≡ Err e → Answered contents 512 am rs tr (λ t. p ≤ length t) (λ t. line_of_offset t p) s s₁ r
  place_no_feeds bad = record {
    tells = λ T X le. absurd (ok_err (E.tells T X tt) bad);
    reading = record { few = omega (arith, E.reading.few); same_bytes = E.reading.same_bytes; same_capacity = E.reading.same_capacity };
  }

  module _ {s₂ : S} {n line : ℕ} {rl : Result (Option ℕ) Unsound} (got : rf ≡ Ok n) (line-is : line ≡ min (n + 1) 4294967295)
      (G : Answered contents 256 am rs tr (λ _. Unit {0}) (λ t. start_of_line t line) s₁ s₂ rl) where
    both_read : Reads contents 512 s s₂
    both_read = record {
      few = omega (arith, E.reading.few, G.reading.few);
      same_bytes = G.reading.same_bytes ∙ E.reading.same_bytes;
      same_capacity = G.reading.same_capacity ∙ E.reading.same_capacity;
    }

    line_of : {T : List ℕ} → TextAt am (contents s).bytes rs tr T → line ≡ 1 + count feed (take p T)
    line_of {T} X =
        omega (arith, ok_same got (E.tells T X tt), light_text X, count_length feed (take p T), length-take p T)

    started : {T : List ℕ} → TextAt am (contents s).bytes rs tr T → p ≤ length T → rl ≡ Ok (Some (p - column 0 (take p T)))
    started {T} X le =
        G.tells T (same_text E.reading.same_bytes X) tt ∙ ap Ok (line_start_lem T p line le (line_of X))

    pub place_no_start : {e : Unsound} {r : Result Place Unsound} → rl ≡ Err e → Answered contents 512 am rs tr (λ t. p ≤ length t) (λ t. line_of_offset t p) s s₂ r
    place_no_start bad = record { tells = λ T X le. absurd (ok_err (started X le) bad); reading = both_read }

    pub place_no_line : {o : Option ℕ} {r : Result Place Unsound} → rl ≡ Ok o → o ≡ None → Answered contents 512 am rs tr (λ t. p ≤ length t) (λ t. line_of_offset t p) s s₂ r
    place_no_line got-o nay = record {
      tells = λ T X le. absurd (some_none (ok_same (started X le) got-o ∙ nay));
      reading = both_read;
    }

    pub place_found : {o : Option ℕ} {j c : ℕ} → rl ≡ Ok o → o ≡ Some j → c ≡ p - j → Answered contents 512 am rs tr (λ t. p ≤ length t) (λ t. line_of_offset t p) s s₂ (Ok (record { line = line; column = c }))
    place_found {o} {j} {c} got-o yea c-is = record {
      tells = λ T X le.
          let j-is : j ≡ p - column 0 (take p T) = some_same (sym yea ∙ ok_same got-o (started X le)) in
          place_same (line_of X) (omega (arith, column_le 0 (take p T), length-take p T));
      reading = both_read;
    }
      where
        place_same : {a b d e : ℕ} → a ≡ b → d ≡ e → ◌≡◌ {A = Result Place Unsound} (Ok (record { line = a; column = d })) (Ok (record { line = b; column = e }))
        place_same p q = cc
