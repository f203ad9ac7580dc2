-- The check of a piece, and of one after the other. Assumes nothing.
use Rattle.std.proofs.Common.{◌≡◌, ℕ, ◌+◌, ◌^◌, ◌<◌, ◌≤◌, Bool, Option, MatchOption, ⊎_elim, List, [], ◌∷◌, length, Ok, Result, sym, ap, ◌∙◌, subst, arith}
use Rattle.std.specs.Bool.{then_some}
use Rattle.std.proofs.Math.Dec.{leb}
use Rattle.std.proofs.lemmas.Bool.Decides.{leb_tells}
use Rattle.plain.proofs.Spelling.{spelled}
use Rattle.stores.specs.Stores.{Contents, summed}
use Rattle.slots.specs.declared.records.Unsound.{Unsound}
use Rattle.audit.specs.Checks.{Run}
use Rattle.pieces.specs.Rows.{piece_of, bytes_of, Good, AllGood, sizes, SamePiece, Measured}
use Rattle.pieces.specs.declared.rows.PieceRow.{PieceRow}
use Rattle.pieces.specs.declared.piece.Piece as code
use Rattle.pieces.proofs.PartRead.{weights_ones}
use Rattle.memory_audit.specs.Leaves.{InStore, PieceRead, PieceChecked}

pub in_store : {B : List ℕ} {x : PieceRow} {p : code.Piece} {n : ℕ} → SamePiece x p → n ≡ length B → p.address + p.length ≤ n → InStore B x p
in_store same-piece all inside = record {
  address_is = same-piece.address_is;
  length_is = same-piece.length_is;
  good = (same-piece.makes.some, same-piece.makes.short, omega (arith, same-piece.address_is, same-piece.length_is));
}

-- the piece, if its end lies inside
pub inside_or_not : (B : List ℕ) (x : PieceRow) {p : code.Piece} {n size : ℕ} {r : Option code.Piece} → SamePiece x p → size ≡ p.length → n ≡ length B → r ≡ then_some (leb (p.address + size) n) p
    → MatchOption r (Good B x → ⊥) (InStore B x)
inside_or_not B x {p} {n} {size} same-piece is all answer =
    let P : Bool → Type 0 = λ b. MatchOption (then_some b p) (Good B x → ⊥) (InStore B x) in
    subst (λ z. MatchOption z (Good B x → ⊥) (InStore B x)) (sym answer)
    (⊎_elim (λ yes. subst P (sym yes.0) (in_store same-piece all (omega (arith, yes.1))))
    (λ no. subst P (sym no.0) (λ (good : Good B x). let h : x.address + x.length ≤ length B = good.2 in omega (arith, no.1, same-piece.address_is, same-piece.length_is)))
    (leb_tells (p.address + size) n))

module _ {S : Type 0} (contents : S → Contents) where
  -- checked one after the other
  pub run_bytes : (s s' : S) (xs : List PieceRow) → Run (PieceRead contents) s xs s' → (contents s').bytes ≡ (contents s).bytes
  run_bytes s s' [] ran = ap (λ t. (contents t).bytes) ran
  run_bytes s s' (x ∷ xs) ran = run_bytes ran.0 s' xs ran.2 ∙ ran.1.same_bytes

  pub run_capacity : (s s' : S) (xs : List PieceRow) → Run (PieceRead contents) s xs s' → (contents s').capacity ≡ (contents s).capacity
  run_capacity s s' [] ran = ap (λ t. (contents t).capacity) ran
  run_capacity s s' (x ∷ xs) ran = run_capacity ran.0 s' xs ran.2 ∙ ran.1.same_capacity

  pub run_reads : ((s : S) → (contents s).reads < 2 ^ 64) → (s s' : S) (xs : List PieceRow) → Run (PieceRead contents) s xs s' → AllGood (contents s).bytes xs → (contents s').reads ≡ summed (contents s).reads (sizes xs)
  run_reads stops s s' [] ran good = ap (λ t. (contents t).reads) ran ∙ (let h : (contents s).reads < 18446744073709551616 = stops s in omega arith)
  run_reads stops s s' (x ∷ xs) ran good =
      let first = ran.1.counts good.0 in
      let others = run_reads stops ran.0 s' xs ran.2 (subst (λ B. AllGood B xs) (sym ran.1.same_bytes) good.1) in
      omega (arith, first, others)

module _ {S V : Type 0} {means : List ℕ → V} {contents : S → Contents} {s s' : S} {x : PieceRow} {p : code.Piece} {r : Result V Unsound}
    (in_store : InStore (contents s).bytes x p) (M : Measured means contents s p.address p.length r s') where
  short : p.length ≤ 256
  short = let h : x.length ≤ 256 = in_store.good.1 in omega (arith, in_store.length_is)

  inside : p.address + p.length ≤ length (contents s).bytes
  inside = let h : x.address + x.length ≤ length (contents s).bytes = in_store.good.2 in omega (arith, in_store.length_is, in_store.address_is)

  value_is : r ≡ Ok (means (bytes_of (contents s).bytes x))
  value_is = subst (λ a. r ≡ Ok (means (bytes_of (contents s).bytes (record { address = a; length = x.length })))) in_store.address_is
      (subst (λ n. r ≡ Ok (means (bytes_of (contents s).bytes (record { address = p.address; length = n })))) in_store.length_is (M.value short inside))

  read_is : PieceRead contents s x s'
  read_is = record { counts = λ good. M.counts inside ∙ ap (summed (contents s).reads) in_store.length_is; same_bytes = M.same_bytes; same_capacity = M.same_capacity }

  module _ {found : V} (ok : r ≡ Ok found) where
    found_is : found ≡ means (bytes_of (contents s).bytes x)
    found_is = let h = value_is in cc

    pub same_value_lem : {v : V} {n : ℕ} → n ≡ p.length → found ≡ v → PieceChecked means contents s x v (Ok n) s'
    same_value_lem size same-it = record {
      judged = record { says = record { is_good = in_store.good; value = sym same-it ∙ found_is; weight = omega (arith, size, in_store.length_is, weights_ones (bytes_of (contents s).bytes x), spelled (contents s).bytes (piece_of x) in_store.good) } };
      read_once = read_is;
    }
