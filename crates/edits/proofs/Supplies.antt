-- Sound memory is what calls on trees start from: light, small and with slots to spare.
use Rattle.std.proofs.Common.{◌≡◌, ℕ, ◌+◌, ◌*◌, ◌<◌, ◌≤◌, List, [], ◌∷◌, ◌++◌, length, Option, sym, refl, ap, ◌∙◌, arith, length-append}
use Rattle.plain.specs.Machine.{limit}
use Rattle.slots.specs.Ghost.{Arm, Finger, named, occ_list, rows_part, rows, occ_part, occ}
use Rattle.slots.specs.Holds.{Holds}
use Rattle.slots.specs.Theorems.{total}
use Rattle.slots.specs.Words.{Link}
use Rattle.slots.specs.declared.records.Tree.{Tree}
use Rattle.slots.specs.declared.records.Record.{Record}
use Rattle.slots.proofs.Counts.{total_add, tree_count, part_count, named_le, supply}
use Rattle.pieces.specs.Rows.{bytes_of, AllGood}
use Rattle.pieces.specs.Sound.{TextValue, text_means, text_mean, Laid}
use Rattle.pieces.specs.declared.rows.PieceRow.{PieceRow}
use Rattle.pieces.proofs.RowParts.{light}

pub few_most : (n w : ℕ) → n ≤ limit w → w ≤ 8316 → n ≤ 4100
few_most n w h k = omega arith

pub text_holds : {A : Type 0} {am : List ℕ → A} {B : List ℕ} {rs : List (Record PieceRow (TextValue A))} {f : Link} {tr : Tree} {t : Finger PieceRow (TextValue A)} {fs : List ℕ}
    → AllGood B (rows t) → Laid (text_mean am B) rs f tr t fs → Holds (λ _. 1) (text_means am) (bytes_of B) rs f tr t fs
text_holds {B = B} {rs = rs} {t = t} {fs = fs} g L =
    let small : length (rows t) ≤ 4100 = few_most (length (rows t)) (length rs) L.few L.most in record {
      tree = L.tree;
      first = L.first;
      fit = L.fit;
      chain = L.chain;
      once = λ i. omega (arith, L.once i, named_le (length rs) i);
      light = light B (rows t) g small;
      small = small;
      long = omega (arith, supply (length rs) (2 * length (rows t)) (occ t) fs L.once (tree_count (length rs) t), L.few, L.least);
    }

module _ {R V : Type 0} where
  -- two trees and a part between them
  pub between_count : (w : ℕ) (l : Finger R V) (Q : Option (Arm R V)) (q : Finger R V) → total w (λ i. occ l i + (occ_part Q i + occ q i)) ≤ 2 * length (rows l ++ (rows_part Q ++ rows q))
  between_count w l Q q = omega (arith, total_add w (occ l) (λ i. occ_part Q i + occ q i), total_add w (occ_part Q) (occ q), tree_count w l, part_count w Q, tree_count w q, length-append (rows l) (rows_part Q ++ rows q), length-append (rows_part Q) (rows q))
