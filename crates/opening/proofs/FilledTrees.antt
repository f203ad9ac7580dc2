-- The turns of cutting a store into leaves.
use Rattle.std.proofs.Common.{◌≡◌, ℕ, ◌+◌, ◌-◌, ◌*◌, ◌/◌, ◌%◌, ◌^◌, ◌<◌, ◌≤◌, min, List, map, length, Ok, Err, Result, sym, refl, ap, ◌∙◌, subst, arith}
use Rattle.plain.specs.Pieces.{Piece}
use Rattle.stores.specs.Stores.{Contents, summed}
use Rattle.slots.specs.Ghost.{nil, tree_of, rows}
use Rattle.slots.specs.declared.records.Unsound.{Unsound}
use Rattle.slots.specs.Words.{Link}
use Rattle.slots.specs.declared.records.Tree.{Tree}
use Rattle.slots.specs.declared.records.Tree.TheVariants.{Empty}
use Rattle.slots.specs.declared.records.Record.{Record}
use Rattle.slots.proofs.Shapes.{ok_err, ok_same}
use Rattle.pieces.specs.Rows.{row, piece_of, Good}
use Rattle.pieces.specs.declared.rows.PieceRow.{PieceRow}
use Rattle.pieces.proofs.RowParts.{length_map}
use Rattle.opening.specs.Filled.{Holding, Built, PiecePushed, Fillable, Filled}
use Rattle.opening.proofs.BlockEnds.{first, blocks_count, next_piece}

module _ {S V : Type 0} (means : List ℕ → V) (contents : S → Contents) where
  -- q pieces of the store are in the tree
  pub record Filling (s s₁ : S) (rs rs₁ : List (Record PieceRow V)) (f f₁ : Link) (tr : Tree) (q : ℕ) : Type 0 where
    pub built : (fs : List ℕ) → Fillable means contents s rs f fs → Built means (contents s).bytes rs rs₁ f₁ (Ok tr) (first (min (256 * q) (length (contents s).bytes)))
    pub counts : (fs : List ℕ) → Fillable means contents s rs f fs → (contents s₁).reads ≡ summed (contents s).reads (min (256 * q) (length (contents s).bytes))
    pub same_bytes : (contents s₁).bytes ≡ (contents s).bytes
    pub same_capacity : (contents s₁).capacity ≡ (contents s).capacity

built_as : {V : Type 0} {means : List ℕ → V} {B B' : List ℕ} {rs rs₁ rs₂ : List (Record PieceRow V)} {f : Link} {r : Result Tree Unsound} {gs gs' : List Piece}
    → Built means B rs₁ rs₂ f r gs → B ≡ B' → length rs₁ ≡ length rs → gs ≡ gs' → Built means B' rs rs₂ f r gs'
built_as {means = means} {rs₂ = rs₂} {f = f} Z same len more = record {
  t = Z.t;
  fs = Z.fs;
  ok = Z.ok;
  pieces_are = Z.pieces_are ∙ more;
  holding = subst (λ (B : List ℕ). Holding means B rs₂ f (tree_of Z.t) Z.t Z.fs) same Z.holding;
  len = Z.len ∙ len;
}

module _ {S V : Type 0} {means : List ℕ → V} {contents : S → Contents} {s : S} {rs : List (Record PieceRow V)} {f : Link} where
  pub filling_none : (contents s).reads < 2 ^ 64 → Filling means contents s s rs rs f f Empty 0
  filling_none stops = record {
    built = λ fs Y. record {
      t = nil;
      fs = fs;
      ok = refl;
      pieces_are = ap first (none (length (contents s).bytes));
      holding = Y.holding;
      len = refl;
    };
    counts = λ fs Y. omega arith;
    same_bytes = refl;
    same_capacity = refl;
  }
    where
      none : (n : ℕ) → 0 ≡ min (256 * 0) n
      none n = omega arith

  module _ {s₁ : S} {rs₁ : List (Record PieceRow V)} {f₁ : Link} {tr : Tree} {q n d : ℕ} (len : n ≡ length (contents s).bytes) (d-is : d ≡ n / 256 + min 1 (n % 256)) (F : Filling means contents s s₁ rs rs₁ f f₁ tr q) where
    pub filling_all : d ≤ q → Filled means contents s s₁ rs rs₁ f f₁ (Ok tr)
    filling_all past =
        let all : min (256 * q) (length (contents s).bytes) ≡ length (contents s).bytes = omega arith in
        record {
          fills = λ fs Y. subst (λ (k : ℕ). Built means (contents s).bytes rs rs₁ f₁ (Ok tr) (first k)) all (F.built fs Y);
          counts = λ fs Y. F.counts fs Y ∙ ap (summed (contents s).reads) all;
          same_bytes = F.same_bytes;
          same_capacity = F.same_capacity;
        }

    -- the next piece
    module _ {s₂ : S} {rs₂ : List (Record PieceRow V)} {f₂ : Link} {m : ℕ} {r : Result Tree Unsound} (below : q < d) (m-is : m ≡ min (n - q * 256) 256)
        (P : PiecePushed means contents s₁ s₂ rs₁ rs₂ f₁ f₂ tr (row (q * 256) m) r) where
      good : Good (contents s₁).bytes (row (q * 256) m)
      good = (omega arith, omega arith, omega (arith, ap length F.same_bytes))

      -- the slots that the piece is pushed in
      held : (fs : List ℕ) (Y : Fillable means contents s rs f fs) → Holding means (contents s₁).bytes rs₁ f₁ tr (F.built fs Y).t (F.built fs Y).fs
      held fs Y =
          let A = F.built fs Y in
          let tr-is : tree_of A.t ≡ tr = ok_same A.ok refl in
          subst (λ (B : List ℕ). Holding means B rs₁ f₁ tr A.t A.fs) (sym F.same_bytes) (subst (λ (z : Tree). Holding means (contents s).bytes rs₁ f₁ z A.t A.fs) tr-is A.holding)

      many : (fs : List ℕ) (Y : Fillable means contents s rs f fs) → length (rows (F.built fs Y).t) ≡ q
      many fs Y =
          let A = F.built fs Y in
          let k : ℕ = min (256 * q) (length (contents s).bytes) in
          omega (arith, length_map piece_of (rows A.t), ap length A.pieces_are, blocks_count 0 (k / 256) (k % 256))

      grown : (fs : List ℕ) → Fillable means contents s rs f fs → Built means (contents s).bytes rs rs₂ f₂ r (first (min (256 * (q + 1)) (length (contents s).bytes)))
      grown fs Y =
          let A = F.built fs Y in
          built_as (P.pushes A.t A.fs (held fs Y) good (omega (arith, many fs Y, A.len, Y.room))) F.same_bytes A.len
          (next_piece (length (contents s).bytes) q m (map piece_of (rows A.t)) (omega arith) (omega arith) A.pieces_are)

      counted : (fs : List ℕ) → Fillable means contents s rs f fs → (contents s₂).reads ≡ summed (contents s).reads (min (256 * (q + 1)) (length (contents s).bytes))
      counted fs Y = omega (arith, P.counts good, F.counts fs Y)

      pub filling_more : {tr' : Tree} → r ≡ Ok tr' → Filling means contents s s₂ rs rs₂ f f₂ tr' (q + 1)
      filling_more {tr'} got = record {
        built = λ fs Y. subst (λ (z : Result Tree Unsound). Built means (contents s).bytes rs rs₂ f₂ z (first (min (256 * (q + 1)) (length (contents s).bytes)))) got (grown fs Y);
        counts = counted;
        same_bytes = P.same_bytes ∙ F.same_bytes;
        same_capacity = P.same_capacity ∙ F.same_capacity;
      }

      pub filling_stop : {e : Unsound} {r' : Result Tree Unsound} → r ≡ Err e → Filled means contents s s₂ rs rs₂ f f₂ r'
      filling_stop bad = record {
        fills = λ fs Y. absurd (ok_err (grown fs Y).ok bad);
        counts = λ fs Y. absurd (ok_err (grown fs Y).ok bad);
        same_bytes = P.same_bytes ∙ F.same_bytes;
        same_capacity = P.same_capacity ∙ F.same_capacity;
      }
