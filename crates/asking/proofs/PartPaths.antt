-- The paths of measuring a part of the store, and of a piece.
use Rattle.std.proofs.Common.{◌≡◌, ℕ, ◌+◌, ◌-◌, ◌<◌, ◌≤◌, min, List, [], length, take, drop, Ok, Result, sym, refl, ap, ◌∙◌, ap₂, ⊎_elim, arith, length-take, take_all, take-take, drop-drop}
use lib.Seq.{take-nil}
use Rattle.std.proofs.lemmas.List.{drop_all, drop-take}
use Rattle.std.proofs.lemmas.Bool.{cases_lt}
use Rattle.plain.specs.Lists.{slice}
use Rattle.stores.specs.Stores.{Contents, Lawful}
use Rattle.slots.specs.declared.records.Unsound.{Unsound}
use Rattle.pieces.specs.Rows.{bytes_of, Good, Makes, SamePiece, Measured, RowMeasured}
use Rattle.pieces.specs.declared.piece.Piece.{Piece}
use Rattle.pieces.specs.declared.rows.PieceRow.{PieceRow}
use Rattle.asking.specs.Texts.{Reads, PartOf, PartMeasured, SliceMeasured}
use Rattle.asking.proofs.TextPlaces.{row_size}

pub reads_none : {S : Type 0} {contents : S → Contents} {n : ℕ} {s : S} → Reads contents n s s
reads_none = record { few = omega arith; same_bytes = refl; same_capacity = refl }

module _ {S V : Type 0} {contents : S → Contents} {means : List ℕ → V} {s : S} {x : PieceRow} where
  pub part_empty : {v : V} → x.length ≡ 0 → v ≡ means [] → PartMeasured contents means s s x (Ok v)
  part_empty z e = record {
    value = λ short inside. ap Ok (e ∙ ap (λ (n : ℕ). means (take n (drop x.address (contents s).bytes))) (sym z));
    reading = reads_none;
  }

  pub part_read : {s' : S} {r : Result V Unsound} → Lawful contents → (x.length ≡ 0 → ⊥) → RowMeasured means contents s x r s' → PartMeasured contents means s s' x r
  part_read law some M = record {
    value = λ short inside. M.value (law.small s) (law.within s) (let n : 1 ≤ x.length = omega arith in n, short, inside);
    reading = record { few = M.most; same_bytes = M.same_bytes; same_capacity = M.same_capacity };
  }

-- a row of bytes inside the store makes a piece
pub makes_piece : {S : Type 0} {contents : S → Contents} → Lawful contents → (s : S) (x : PieceRow) → Good (contents s).bytes x → Makes x
makes_piece {contents = contents} law s x g =
    let within : x.address + x.length ≤ length (contents s).bytes = g.2 in record {
      some = g.0;
      short = g.1;
      ends = omega (arith, law.within s, law.small s);
    }

take_both : (i j : ℕ) (l : List ℕ) → take i (take j l) ≡ take (min i j) l
take_both i j l = ⊎_elim
    (λ (h : j < i). take_all i (take j l) (omega (arith, length-take j l)) ∙ ap (λ (k : ℕ). take k l) (let e : j ≡ min i j = omega arith in e))
    (λ (h : i ≤ j). take-take i j l h ∙ ap (λ (k : ℕ). take k l) (let e : i ≡ min i j = omega arith in e)) (cases_lt j i)

-- what a row stands for from its byte k on
from_byte : (B : List ℕ) (x : PieceRow) (k : ℕ) → k ≤ x.length → drop k (bytes_of B x) ≡ take (x.length - k) (drop (x.address + k) B)
from_byte B x k le =
    let n : x.length ≡ k + (x.length - k) = omega arith in
    ap (λ (m : ℕ). drop k (take m (drop x.address B))) n ∙ drop-take k (x.length - k) (drop x.address B) ∙ ap (take (x.length - k)) (drop-drop k x.address B)

slice_none : (l : List ℕ) (a b : ℕ) → min b (length l) ≤ a → slice l a b ≡ []
slice_none l a b le = ⊎_elim
    (λ (h : a < b). ap (take (b - a)) (drop_all a l (omega arith)) ∙ take-nil (b - a))
    (λ (h : b ≤ a). ap (λ (k : ℕ). take k (drop a l)) (let e : b - a ≡ 0 = omega arith in e)) (cases_lt a b)

module _ {S V : Type 0} {contents : S → Contents} {means : List ℕ → V} {s : S} {x : PieceRow} (from to : ℕ) where
  pub slice_lost : {r : Result V Unsound} → Lawful contents → (Makes x → ⊥) → SliceMeasured contents means s s x from to r
  slice_lost law nay = record { value = λ g. absurd (nay (makes_piece law s x g)); reading = reads_none }

  module _ {p : Piece} (same : SamePiece x p) where
    pub slice_empty : {v : V} → min to p.length ≤ from → v ≡ means [] → SliceMeasured contents means s s x from to (Ok v)
    slice_empty le v-is = record {
      value = λ g. ap Ok (v-is ∙ ap means (sym (slice_none (bytes_of (contents s).bytes x) from to (omega (arith, row_size (contents s).bytes x g, same.length_is)))));
      reading = reads_none;
    }

    pub slice_read : {s' : S} {q : Piece} {r : Result V Unsound} → PartOf p from to q → Measured means contents s q.address q.length r s' → SliceMeasured contents means s s' x from to r
    slice_read {q = q} P M = record {
      value = λ g.
          let B : List ℕ = (contents s).bytes in
          let short : x.length ≤ 256 = g.1 in
          let within : x.address + x.length ≤ length B = g.2 in
          let a-is : q.address ≡ x.address + from = omega (arith, P.address_is, same.address_is) in
          let n-is : q.length ≡ min (to - from) (x.length - from) = omega (arith, P.length_is, P.some, same.length_is) in
          let part : take q.length (drop q.address B) ≡ slice (bytes_of B x) from to =
          ap₂ (λ (a n : ℕ). take n (drop a B)) a-is n-is ∙ sym (take_both (to - from) (x.length - from) (drop (x.address + from) B))
          ∙ ap (take (to - from)) (sym (from_byte B x from (omega (arith, P.some, same.length_is)))) in
          M.value (omega arith) (omega (arith, P.some, same.length_is)) ∙ ap (λ (l : List ℕ). Ok (means l)) part;
      reading = record { few = omega (arith, M.few, P.length_is, same.length_is, same.makes.short); same_bytes = M.same_bytes; same_capacity = M.same_capacity };
    }
