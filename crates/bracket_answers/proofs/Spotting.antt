-- The paths to the byte at an offset, and what it tells of the text.
use Rattle.std.proofs.Common.{◌≡◌, ℕ, suc, ◌+◌, ◌-◌, ◌<◌, ◌≤◌, min, List, [], ◌∷◌, ◌++◌, length, get_or, take, drop, Some, None, Ok, Err, Option, Result, sym, refl, ap, ◌∙◌, subst, ap₂, ⊎_elim, arith, length-append, length-take}
use lib.Seq.{drop-append-add}
use Rattle.std.proofs.lemmas.List.{take-append-drop, get_or_append_left, get_or-append-add, drop-append-le, drop_more}
use Rattle.std.proofs.lemmas.Bool.{ltb-false, leb-true, leb-false, le-leb}
use Rattle.plain.specs.Tokens.{step, end_state}
use Rattle.measures.specs.declared.totals.Totals.{Totals}
use Rattle.lexer.specs.Numbers.{number_of}
use Rattle.lexer.specs.States.{end_bound, end_read}
use Rattle.lexer.specs.Reading.{read_from, reading, row_at}
use Rattle.lexer.specs.declared.tokens.TokenRow.{TokenRow}
use Rattle.lexer.specs.RowValues.{row_at_lem}
use Rattle.stores.specs.Stores.{Contents, Lawful}
use Rattle.slots.specs.Ghost.{rows}
use Rattle.slots.specs.Values.{flat}
use Rattle.slots.specs.declared.records.Record.{Record}
use Rattle.slots.specs.declared.records.Tree.{Tree}
use Rattle.slots.specs.declared.records.Unsound.{Unsound}
use Rattle.slots.proofs.Shapes.{ok_err, ok_same}
use Rattle.slots.proofs.Weights.{flat_append}
use Rattle.pieces.specs.Rows.{Makes, SamePiece, bytes_of, Good}
use Rattle.pieces.specs.Sound.{TextValue, text_means}
use Rattle.pieces.specs.declared.piece.Piece.{Piece}
use Rattle.pieces.specs.declared.rows.PieceRow.{PieceRow}
use Rattle.asking.specs.Rows.{RowFound}
use Rattle.asking.specs.Texts.{TextAt, Reads}
use Rattle.asking.proofs.PartPaths.{reads_none}
use Rattle.asking.proofs.TextPlaces.{Inside, inside, never_lost, past_all, past, low, high, before_is, front, row_size}
use Rattle.token_questions.specs.Scans.{Stops, Scanned}
use Rattle.token_questions.specs.declared.scan.Goal.TheVariants.{Bytes}
use Rattle.token_questions.specs.declared.scan.Stop.{Stop}
use Rattle.token_questions.proofs.Counted.{end_append, end_more}
use Rattle.bracket_answers.specs.Spots.{StandsAt, SpotFound}
use Rattle.bracket_answers.specs.declared.spot.Spot.{Spot}

-- a good row makes a piece
pub makes : {S : Type 0} {contents : S → Contents} → Lawful contents → (s : S) (x : PieceRow) → Good (contents s).bytes x → Makes x
makes law s x g = let within : x.address + x.length ≤ _ = g.2 in record { some = g.0; short = g.1; ends = omega (arith, law.within s, law.small s) }

pub same_part : (B : List ℕ) (x : PieceRow) {y : Piece} → SamePiece x y → bytes_of B x ≡ take y.length (drop y.address B)
same_part B x same = sym (ap₂ (λ (a n : ℕ). take n (drop a B)) same.address_is same.length_is)

module _ {A S : Type 0} {am : List ℕ → A} {contents : S → Contents} {rs : List (Record PieceRow (TextValue A))} {tr : Tree} (p : ℕ) {v w : TextValue A} {q : Result (Option PieceRow) Unsound} {s : S}
    (start : v ≡ text_means am []) (F : RowFound (λ _. 1) (text_means am) (past p) rs tr v w q) where
  pub spot_lost : {e : Unsound} {r : Result Spot Unsound} → q ≡ Err e → SpotFound contents am rs tr p s s r
  spot_lost bad = record { finds = λ T X h. absurd (never_lost start F X bad); reading = reads_none }

  pub spot_none : {f : Option PieceRow} {r : Result Spot Unsound} → q ≡ Ok f → f ≡ None → SpotFound contents am rs tr p s s r
  spot_none got nay = record {
    finds = λ T X h. absurd (⊎_elim (λ (e : T ≡ []). omega (arith, ap length e)) (λ e. omega (arith, ltb-false p (length T) e)) (past_all start F X got nay).1);
    reading = reads_none;
  }

  module _ {f : Option PieceRow} {x : PieceRow} (got : q ≡ Ok f) (yea : f ≡ Some x) where
    pub spot_no_piece : {r : Result Spot Unsound} → Lawful contents → (Makes x → ⊥) → SpotFound contents am rs tr p s s r
    spot_no_piece law nay = record { finds = λ T X h. absurd (nay (makes law s x (inside start F X got yea).good)); reading = reads_none }

    module _ {s' : S} {y : Piece} {k count : ℕ} {row first : TokenRow} {rj : Result Stop Unsound} (same : SamePiece x y) (row_is : row ≡ row_at w.left.right 0) (k_is : k ≡ p - w.left.left.bytes)
        (count_is : count ≡ min (k + 1) 4294967295) (first-is : first ≡ read_from (number_of row.state) []) (E : Scanned contents s s' y.address y.length first (Bytes count) rj) where
      pub spot_reads : Reads contents 256 s s'
      spot_reads = record { few = E.few; same_bytes = E.same_bytes; same_capacity = E.same_capacity }

      -- the byte was reached
      record Reached (T : List ℕ) (X : TextAt am (contents s).bytes rs tr T) : Type 0 where
        pub I : Inside am (past p) (contents s).bytes (rows X.t) T w x
        pub stop : Stop
        pub ok : rj ≡ Ok stop
        pub state : number_of row.state ≡ end_state 0 (flat (bytes_of (contents s).bytes) I.xs)
        pub stops : Stops (end_state 0 (flat (bytes_of (contents s).bytes) I.xs)) [] (bytes_of (contents s).bytes x) (Bytes count) stop
        pub index : p ≡ length (flat (bytes_of (contents s).bytes) I.xs) + stop.index

      at_byte : {T : List ℕ} (X : TextAt am (contents s).bytes rs tr T) → Reached T X
      at_byte X =
          let B : List ℕ = (contents s).bytes in
          let I = inside start F X got yea in
          let L : List ℕ = flat (bytes_of B) I.xs in
          let lo = low p I in
          let hi = high p I in
          let b : w.left.left.bytes ≡ length L = ap (λ (u : Totals). u.bytes) (before_is I) in
          let g : x.length ≤ 256 = I.good.1 in
          let ends : x.address + x.length ≤ length B = I.good.2 in
          let count-k : count ≡ k + 1 = omega arith in
          let rows_are : w.left.right ≡ reading L = ap (λ (u : TextValue A). u.left.right) I.place in
          let state : number_of row.state ≡ end_state 0 L = ap (λ (r : TokenRow). number_of r.state) (row_is ∙ row_at_lem w.left.right L 0 (omega arith) rows_are) ∙ end_read 0 L (omega arith) in
          let part = same_part B x same in
          let long : length (bytes_of B x) ≡ x.length = row_size B x I.good in
          let Z = E.stops (end_state 0 L) [] (bytes_of B x) part (first-is ∙ ap (λ (q₀ : ℕ). read_from q₀ []) state) (omega (arith, same.address_is, same.length_is)) (omega (arith, same.length_is))
          (le-leb count y.length (omega (arith, same.length_is))) in
          let most : k + 1 ≤ Z.0.index + 1 = omega (arith, leb-true count (Z.0.index + 1) Z.2.yes) in
          let least : Z.0.index ≤ k = ⊎_elim (λ (e : Z.0.index ≡ 0). omega arith) (λ e. omega (arith, leb-false count Z.0.index e)) Z.2.no in
          record { I = I; stop = Z.0; ok = Z.1; state = state; stops = Z.2; index = omega arith }

      pub spot_unread : {e : Unsound} {r : Result Spot Unsound} → rj ≡ Err e → SpotFound contents am rs tr p s s' r
      spot_unread bad = record { finds = λ T X h. absurd (ok_err (at_byte X).ok bad); reading = spot_reads }

      pub spot_found : {stop : Stop} → rj ≡ Ok stop → SpotFound contents am rs tr p s s' (Ok (record { row = x; start = record { offset = w.left.left.bytes; state = row.state }; stop = stop }))
      spot_found {stop} gj = record {
        finds = λ T X h.
            let R = at_byte X in
            let z : R.stop ≡ stop = ok_same R.ok gj in
            let D : Stops (end_state 0 (flat (bytes_of (contents s).bytes) R.I.xs)) [] (bytes_of (contents s).bytes x) (Bytes count) stop = subst (Stops (end_state 0 (flat (bytes_of (contents s).bytes) R.I.xs)) [] (bytes_of (contents s).bytes x) (Bytes count)) z R.stops in (
              record { row = x; start = record { offset = w.left.left.bytes; state = row.state }; stop = stop },
              refl,
              record {
                xs = R.I.xs;
                ys = R.I.ys;
                parts = R.I.parts;
                good = R.I.good;
                start = record { offset = ap (λ (u : Totals). u.bytes) (before_is R.I); state = R.state };
                place = R.index ∙ ap (λ (u : Stop). length (flat (bytes_of (contents s).bytes) R.I.xs) + u.index) z;
                within = omega (arith, D.within, row_size (contents s).bytes x R.I.good);
                byte = D.byte;
                before = D.before;
                after = D.after;
              },
            );
        reading = spot_reads;
      }

-- What a byte tells of the text.
module _ {B T : List ℕ} {R : List PieceRow} {p : ℕ} {x : Spot} (spells : flat (bytes_of B) R ≡ T) (at : StandsAt B R p x) where
  abbrev L : List ℕ
  L = flat (bytes_of B) at.xs

  abbrev Y : List ℕ
  Y = bytes_of B x.row

  abbrev Z : List ℕ
  Z = flat (bytes_of B) at.ys

  pub in_three : T ≡ L ++ (Y ++ Z)
  in_three = sym spells ∙ ap (flat (bytes_of B)) at.parts ∙ flat_append (bytes_of B) at.xs (x.row ∷ at.ys)

  pub long_row : length Y ≡ x.row.length
  long_row = row_size B x.row at.good

  pub up_to : take p T ≡ L ++ take x.stop.index Y
  up_to = ap (take p) in_three ∙ front L Y Z p x.stop.index at.place (omega (arith, long_row, at.within))

  pub from_on : drop (suc p) T ≡ drop (x.stop.index + 1) Y ++ Z
  from_on =
      let there : suc p ≡ length L + (x.stop.index + 1) = omega (arith, at.place) in
      ap (drop (suc p)) in_three ∙ ap (λ (n : ℕ). drop n (L ++ (Y ++ Z))) there ∙ drop-append-add L (Y ++ Z) (x.stop.index + 1)
      ∙ drop-append-le (x.stop.index + 1) Y Z (omega (arith, long_row, at.within))

  pub byte_there : get_or T p 0 ≡ x.stop.byte
  byte_there =
      ap (λ (t : List ℕ). get_or t p 0) in_three ∙ ap (λ (n : ℕ). get_or (L ++ (Y ++ Z)) n 0) at.place ∙ get_or-append-add L (Y ++ Z) x.stop.index 0
      ∙ get_or_append_left Y Z 0 x.stop.index (omega (arith, long_row, at.within)) ∙ sym at.byte

  pub in_text : p < length T
  in_text = omega (arith, ap length in_three, length-append L (Y ++ Z), length-append Y Z, long_row, at.place, at.within)

  pub parted_text : T ≡ take p T ++ (x.stop.byte ∷ drop (suc p) T)
  parted_text =
      let next : p + 1 ≡ suc p = omega arith in
      sym (take-append-drop p T) ∙ ap (λ (l : List ℕ). take p T ++ l) (drop_more T p 0 in_text ∙ ap₂ (λ (b : ℕ) (l : List ℕ). b ∷ l) byte_there (ap (λ (n : ℕ). drop n T) next))

  pub long_front : p ≡ length (take p T)
  long_front = omega (arith, length-take p T, in_text)

  -- the state that the byte leads to
  pub led_to : number_of x.stop.after.state ≡ (step (end_state 0 (take p T)) x.stop.byte).0
  led_to =
      let more : x.stop.index + 1 ≡ suc x.stop.index = omega arith in
      ap (λ (r : TokenRow). number_of r.state) at.after ∙ end_read (end_state 0 L) (take (x.stop.index + 1) Y) (end_bound 0 L (omega arith)) ∙ ap (λ (n : ℕ). end_state (end_state 0 L) (take n Y)) more
      ∙ end_more (end_state 0 L) x.stop.index Y (omega (arith, long_row, at.within))
      ∙ ap₂ (λ (q b : ℕ). (step q b).0) (sym (ap (end_state 0) up_to ∙ end_append 0 L (take x.stop.index Y))) (sym at.byte)
