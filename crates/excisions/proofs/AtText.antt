-- What is known of a text once the spot of an offset in it is found.
use Rattle.std.proofs.Common.{◌≡◌, ℕ, suc, ◌+◌, ◌-◌, ◌*◌, ◌<◌, ◌≤◌, ◌⊎◌, List, [], ◌∷◌, ◌++◌, map, length, Some, Ok, Option, Result, sym, ap, ◌∙◌, subst, ⊎_elim, arith, length-append}
use Rattle.plain.specs.Pieces.{before, after, between}
use Rattle.stores.specs.Stores.{Contents}
use Rattle.slots.specs.Ghost.{Arm, Finger, At, same, occ_list, tree_of, rows_part, rows, occ_part, occ, Fit}
use Rattle.slots.specs.Theorems.{total}
use Rattle.slots.specs.declared.records.Unsound.{Unsound}
use Rattle.slots.specs.Words.{Link}
use Rattle.slots.specs.declared.records.Tree.{Tree}
use Rattle.slots.specs.declared.records.Record.{Record}
use Rattle.slots.specs.declared.records.Record.TheVariants.{Leaf}
use Rattle.slots.proofs.Counts.{total_add, tree_count, part_count, supply}
use Rattle.slots.proofs.Shapes.{ok_same}
use Rattle.pieces.specs.Leaves.{Bounded}
use Rattle.pieces.specs.Rows.{piece_of, AllGood, front_of, sizes}
use Rattle.pieces.specs.Sound.{TextValue, text_mean, Laid}
use Rattle.pieces.specs.declared.rows.PieceRow.{PieceRow}
use Rattle.pieces.proofs.RowParts.{map_append, sizes_append, all_left, all_right, before_at}
use Rattle.edits.proofs.Supplies.{text_holds}
use Rattle.excisions.specs.Moves.{Moved}
use Rattle.excisions.specs.Spots.{Opened, OpenedAt, Behind}
use Rattle.excisions.specs.declared.spots.Spot.{Spot}
use Rattle.excisions.proofs.Moving.{moved_aside}
use Rattle.excisions.proofs.Pasts.{after_past, between_past}
use Rattle.excisions.proofs.Optional.{none_some, some_same}

-- two trees with two parts between them
pub sides_count : {R V : Type 0} (w : ℕ) (l : Finger R V) (F G : Option (Arm R V)) (q : Finger R V) → total w (λ i. occ l i + (occ_part F i + (occ_part G i + occ q i))) ≤ 2 * length (rows l ++ (rows_part F ++ (rows_part G ++ rows q)))
sides_count w l F G q = omega (
  arith,
  total_add w (occ l) (λ i. occ_part F i + (occ_part G i + occ q i)),
  total_add w (occ_part F) (λ i. occ_part G i + occ q i),
  total_add w (occ_part G) (occ q),
  tree_count w l,
  part_count w F,
  part_count w G,
  tree_count w q,
  length-append (rows l) (rows_part F ++ (rows_part G ++ rows q)),
  length-append (rows_part F) (rows_part G ++ rows q),
  length-append (rows_part G) (rows q),
)

-- the tree t is in l, the leaf of the spot h, and q
pub record Spotted {A S : Type 0} (am : List ℕ → A) (contents : S → Contents) (s : S) (rs rs₁ : List (Record PieceRow (TextValue A))) (f₁ : Link) (a : ℕ) (h : Spot) (t : Finger PieceRow (TextValue A)) (fs : List ℕ) : Type 0 where
  pub l : Finger PieceRow (TextValue A)
  pub v : TextValue A
  pub q : Finger PieceRow (TextValue A)
  pub fs' : List ℕ
  pub left_is : tree_of l ≡ h.left
  pub fit_l : Fit (text_mean am (contents s).bytes) rs₁ l 0
  pub text : rows t ≡ rows l ++ (h.row ∷ rows q)
  pub offset : a ≡ sizes (rows l) + h.into
  pub good_l : AllGood (contents s).bytes (rows l)
  pub behind : Behind am contents s rs₁ f₁ h v q fs'
  pub moved : Moved rs rs₁ f₁ (occ t) (λ j. occ l j + (same h.at j + occ q j)) fs fs' []
  pub once : (j : ℕ) → (occ l j + (same h.at j + occ q j)) + occ_list fs' j ≤ 1

pub spotted : {A S : Type 0} {am : List ℕ → A} {contents : S → Contents} {s : S} {rs rs₁ : List (Record PieceRow (TextValue A))} {f f₁ : Link} {tr : Tree} {a : ℕ} {rf : Result (Option Spot) Unsound} {h : Spot} (t : Finger PieceRow (TextValue A)) (fs : List ℕ)
    → OpenedAt am rs rs₁ f f₁ tr a rf → rf ≡ Ok (Some h) → Bounded contents s → AllGood (contents s).bytes (rows t) → Laid (text_mean am (contents s).bytes) rs f tr t fs → Spotted am contents s rs rs₁ f₁ a h t fs
spotted {am = am} {contents} {s} {rs} {rs₁} {f} {f₁} {tr} {a} {rf} {h} t fs O got b g L =
    let H = text_holds g L in
    let O₁ : Opened am (contents s).bytes rs rs₁ f₁ a rf t fs = ⊎_elim (λ u. absurd (none_some (sym (ok_same got u.1)))) (λ q. q) (O.opens (contents s).bytes t fs g H) in
    let h_is = some_same (ok_same O₁.ok got) in
    let at_is : O₁.i ≡ h.at = ap (λ (y : Spot). y.at) h_is in
    let row_is : O₁.x ≡ h.row = ap (λ (y : Spot). y.row) h_is in
    let into_is : O₁.k ≡ h.into = ap (λ (y : Spot). y.into) h_is in
    let l = O₁.l in
    let q = O₁.q in
    let text : rows t ≡ rows l ++ (h.row ∷ rows q) = O₁.text ∙ ap (λ (x : PieceRow). rows l ++ (x ∷ rows q)) row_is in
    let good : AllGood (contents s).bytes (rows l ++ (h.row ∷ rows q)) = subst (AllGood (contents s).bytes) text g in
    let once : (j : ℕ) → (occ l j + (same h.at j + occ q j)) + occ_list O₁.fs' j ≤ 1 = λ j. omega (arith, O₁.moved.kept j, H.once j, ap (λ (i : ℕ). same i j) at_is) in
    let lens : length (rows t) ≡ length (rows l) + suc (length (rows q)) = ap length text ∙ length-append (rows l) (h.row ∷ rows q) in
    record {
      l = l;
      v = O₁.v;
      q = q;
      fs' = O₁.fs';
      left_is = ap (λ (y : Spot). y.left) h_is;
      fit_l = O₁.fit_l;
      text = text;
      offset = omega (arith, O₁.offset);
      good_l = all_left (contents s).bytes (rows l) (h.row ∷ rows q) good;
      behind = record {
        bounded = b;
        good = all_right (contents s).bytes (rows l) (h.row ∷ rows q) good;
        into = omega (arith, O₁.within, ap (λ (x : PieceRow). x.length) row_is);
        at = subst (λ (i : ℕ). At rs₁ i (Leaf h.row O₁.v)) at_is (subst (λ (x : PieceRow). At rs₁ O₁.i (Leaf x O₁.v)) row_is O₁.at);
        value = O₁.value ∙ ap (λ (x : PieceRow). text_mean am (contents s).bytes (x ∷ [])) row_is;
        tree = ap (λ (y : Spot). y.right) h_is;
        first = O₁.moved.first;
        fit = O₁.fit_q;
        chain = O₁.moved.chain;
        once = λ j. omega (arith, once j);
        small = omega (arith, lens, H.small);
        long = omega (arith, O₁.spent, supply (length rs) (2 * length (rows t)) (occ t) fs L.once (tree_count (length rs) t), L.few, L.least);
      };
      moved = moved_aside (λ _. 0) (occ t) (λ j. occ l j + (same h.at j + occ q j)) O₁.moved (λ j. omega arith) (λ j. omega (arith, ap (λ (i : ℕ). same i j) at_is));
      once = once;
    }

-- where the offsets part the pieces
module _ {A S : Type 0} {am : List ℕ → A} {contents : S → Contents} {s : S} {rs rs₁ : List (Record PieceRow (TextValue A))} {f₁ : Link} {a : ℕ} {h : Spot} {t : Finger PieceRow (TextValue A)} {fs : List ℕ}
    (X : Spotted am contents s rs rs₁ f₁ a h t fs) where
  pub spot_before : before a (map piece_of (rows t)) ≡ map piece_of (rows X.l ++ front_of h.into h.row)
  spot_before = ap (λ (y : List PieceRow). before a (map piece_of y)) X.text ∙ before_at (contents s).bytes (rows X.l) h.row (rows X.q) a h.into X.behind.good X.offset (omega (arith, X.behind.into))

  module _ (b m : ℕ) (m-is : m ≡ b - a) (order : a < b) where
    pub spot_after : after b (map piece_of (rows t)) ≡ after (h.into + m) (map piece_of (h.row ∷ rows X.q))
    spot_after =
        ap (λ (y : List PieceRow). after b (map piece_of y)) X.text ∙ ap (after b) (map_append piece_of (rows X.l) (h.row ∷ rows X.q))
        ∙ after_past (rows X.l) (map piece_of (h.row ∷ rows X.q)) b (h.into + m) (omega (arith, X.offset))

    pub spot_between : between a b (map piece_of (rows t)) ≡ between h.into (h.into + m) (map piece_of (h.row ∷ rows X.q))
    spot_between =
        ap (λ (y : List PieceRow). between a b (map piece_of y)) X.text ∙ ap (between a b) (map_append piece_of (rows X.l) (h.row ∷ rows X.q))
        ∙ between_past (rows X.l) (map piece_of (h.row ∷ rows X.q)) a b h.into (h.into + m) X.offset (omega (arith, X.offset))

    pub spot_within : b ≤ sizes (rows t) → h.into + m ≤ sizes (h.row ∷ rows X.q)
    spot_within le = omega (arith, X.offset, ap sizes X.text, sizes_append (rows X.l) (h.row ∷ rows X.q))
