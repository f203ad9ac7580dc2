-- What is known at a spot: its leaf may be cut, and the tree behind it searched then.
use Rattle.std.proofs.Common.{◌≡◌, ℕ, ◌+◌, ◌-◌, ◌≤◌, min, Bool, cond, List, [], ◌∷◌, length, Option, Result, sym, refl, ap, subst, arith}
use Rattle.std.proofs.lemmas.Bool.{le-leb}
use Rattle.stores.specs.Stores.{Contents, largest}
use Rattle.slots.specs.Ghost.{Arm, Finger, same, rows_part, rows, size_part, occ_part, FitPart, Fit}
use Rattle.slots.specs.Holds.{Holds}
use Rattle.slots.specs.declared.records.Unsound.{Unsound}
use Rattle.slots.specs.Words.{Link}
use Rattle.slots.specs.declared.records.Record.{Record}
use Rattle.slots.proofs.Frames.{frame}
use Rattle.pieces.specs.Leaves.{Bounded, Cuttable, Cut}
use Rattle.pieces.specs.Rows.{row, bytes_of, rest_of, sizes}
use Rattle.pieces.specs.Sound.{TextValue, text_means, text_mean}
use Rattle.pieces.specs.declared.rows.PieceRow.{PieceRow}
use Rattle.pieces.specs.declared.leaves.Ends.{Ends}
use Rattle.pieces.proofs.RowParts.{sizes_few, light}
use Rattle.excisions.specs.Moves.{Moved}
use Rattle.excisions.specs.Spots.{Behind}
use Rattle.excisions.specs.declared.spots.Spot.{Spot}
use Rattle.excisions.proofs.Moving.{moved_of}
use Rattle.excisions.proofs.ClosingUp.{at_most_one}

-- a part without rows names no slot
pub empty_part : {R V : Type 0} (mn : List R → V) (rs : List (Record R V)) (F : Option (Arm R V)) → FitPart mn rs F 0 → size_part F ≤ 1 → rows_part F ≡ [] → (j : ℕ) → occ_part F j ≡ 0
empty_part mn rs F fit small none = at_most_one mn rs (λ F. rows_part F ≡ [] → (j : ℕ) → occ_part F j ≡ 0) (λ e j. refl) (λ a y u e. absurd (let z : ◌≡◌ {A = ℕ} 1 0 = ap length e in omega arith)) F fit small none

-- nothing is left of a row behind its end
pub no_rest : (x : PieceRow) → rest_of x.length x ≡ []
no_rest x = ap (λ (b : Bool). cond b [] (row (x.address + x.length) (x.length - x.length) ∷ [])) (le-leb x.length x.length (omega arith))

pub bounded_by : {S : Type 0} (contents : S → Contents) (s s' : S) → (contents s').bytes ≡ (contents s).bytes → (contents s').capacity ≡ (contents s).capacity → Bounded contents s → Bounded contents s'
bounded_by contents s s' eb ec b =
    let low : length (contents s).bytes ≤ (contents s).capacity = b.0 in
    let high : (contents s).capacity ≤ largest = b.1 in
    (omega (arith, ap length eb, ec), omega (arith, ec))

module _ {A S : Type 0} {am : List ℕ → A} {contents : S → Contents} {s : S} {rs : List (Record PieceRow (TextValue A))} {f : Link} {spot : Spot} {v : TextValue A} {q : Finger PieceRow (TextValue A)} {fs : List ℕ}
    (K : Behind am contents s rs f spot v q fs) where
  -- where the bytes end that are taken out, counted from the start of the leaf
  pub end_at : {en : ℕ} (n : ℕ) → spot.into + n ≤ sizes (spot.row ∷ rows q) → en ≡ min (spot.into + n) 4294967295 → en ≡ spot.into + n
  end_at n le is = omega (arith, sizes_few (contents s).bytes (spot.row ∷ rows q) K.good, K.small)

  pub cuttable : (j : ℕ) → spot.into ≤ j → j ≤ spot.row.length → Cuttable (text_means am) contents s rs f spot.at spot.into j spot.row v fs
  cuttable j order within = record {
    bounded = K.bounded;
    at = K.at;
    value = K.value;
    good = K.good.0;
    order = order;
    within = within;
    first = K.first;
    chain = K.chain;
    once = λ i. omega (arith, K.once i);
    long = omega (arith, K.long);
  }

  module _ {rs₁ : List (Record PieceRow (TextValue A))} {f₁ : Link} {j : ℕ} {re : Result Ends Unsound} (C : Cut (text_means am) contents s rs rs₁ f₁ spot.at spot.into j re spot.row fs) where
    pub cut_moved : Moved rs rs₁ f₁ (same spot.at) (λ i. occ_part C.F i + occ_part C.G i) fs C.fs' C.js
    cut_moved = moved_of (same spot.at) (λ i. occ_part C.F i + occ_part C.G i) fs C.fs' C.js C.first C.chain (λ i. omega (arith, C.kept i)) C.frame C.fresh (λ i. refl)

    pub cut_stays : Fit (text_mean am (contents s).bytes) rs₁ q 0
    cut_stays = frame C.frame (text_mean am (contents s).bytes) q 0 (λ i. omega (arith, K.once i)) K.fit

    -- the tree behind the leaf
    pub cut_holds : {s₁ : S} → (contents s₁).bytes ≡ (contents s).bytes → Holds (λ _. 1) (text_means am) (bytes_of (contents s₁).bytes) rs₁ f₁ spot.right q C.fs'
    cut_holds same_bytes = subst (λ (B : List ℕ). Holds (λ _. 1) (text_means am) (bytes_of B) rs₁ f₁ spot.right q C.fs') (sym same_bytes) (record {
      tree = K.tree;
      first = C.first;
      fit = cut_stays;
      chain = C.chain;
      once = λ i. omega (arith, C.kept i, K.once i);
      light = light (contents s).bytes (rows q) K.good.1 K.small;
      small = K.small;
      long = omega (arith, C.spent, K.long);
    })
