-- The paths of pushing a piece.
use Rattle.std.proofs.Common.{◌≡◌, ℕ, ◌+◌, ◌*◌, ◌<◌, ◌≤◌, List, [], ◌∷◌, ◌++◌, map, length, Ok, Err, Result, sym, refl, ap, ◌∙◌, subst, append-nil, arith, length-append}
use Rattle.plain.specs.Machine.{limit}
use Rattle.stores.specs.Stores.{Contents}
use Rattle.slots.specs.Ghost.{Finger, leaf, named, occ_list, rows, levels, occ}
use Rattle.slots.specs.Values.{mean}
use Rattle.slots.specs.Post.{LeafPut}
use Rattle.slots.specs.declared.records.Unsound.{Unsound}
use Rattle.slots.specs.Words.{Link}
use Rattle.slots.specs.declared.records.Tree.{Tree}
use Rattle.slots.specs.declared.records.Side.TheVariants.{Back}
use Rattle.slots.specs.declared.records.Record.{Record}
use Rattle.slots.specs.declared.records.Record.TheVariants.{Leaf}
use Rattle.slots.proofs.Frames.{Put, put, frame, frame_chain}
use Rattle.slots.proofs.Shapes.{ok_err, ok_same}
use Rattle.slots.proofs.Counts.{named_le, supply, tree_count}
use Rattle.slots.proofs.Depth.{few_levels}
use Rattle.slots.proofs.Weights.{wt_append}
use Rattle.tree.specs.Post.{Ready, Pushed}
use Rattle.pieces.specs.Rows.{piece_of, bytes_of, Good, AllGood, RowMeasured}
use Rattle.pieces.specs.Leaves.{Bounded}
use Rattle.pieces.specs.declared.rows.PieceRow.{PieceRow}
use Rattle.pieces.proofs.RowParts.{map_append, all_append, light}
use Rattle.opening.specs.Filled.{Holding, Built, PiecePushed}

-- a tree with room for one more leaves at least 130 slots free
free_slots : {V : Type 0} {means : List ℕ → V} {B : List ℕ} {rs : List (Record PieceRow V)} {f : Link} {tr : Tree} {t : Finger PieceRow V} {fs : List ℕ}
    → Holding means B rs f tr t fs → length (rows t) < limit (length rs) → 130 ≤ length fs
free_slots {rs = rs} {t = t} {fs = fs} H lt =
    omega (arith, supply (length rs) (2 * length (rows t)) (occ t) fs H.laid.once (tree_count (length rs) t), H.laid.least)

module _ {S V : Type 0} {means : List ℕ → V} {contents : S → Contents} {s s₁ : S} {rs : List (Record PieceRow V)} {f : Link} {tr : Tree} {x : PieceRow} {rv : Result V Unsound}
    (b : Bounded contents s) (M : RowMeasured means contents s x rv s₁) where
  pub push_no_value : {rs' : List (Record PieceRow V)} {f' : Link} {e : Unsound} {r : Result Tree Unsound} → rv ≡ Err e → PiecePushed means contents s s₁ rs rs' f f' tr x r
  push_no_value bad = record {
    pushes = λ t fs H g lt. absurd (ok_err (M.value b.1 b.0 g) bad);
    counts = M.counts b.1 b.0;
    same_bytes = M.same_bytes;
    same_capacity = M.same_capacity;
  }

  module _ {v : V} {rs₁ : List (Record PieceRow V)} {f₁ : Link} {ri : Result ℕ Unsound} (got : rv ≡ Ok v) (L : LeafPut rs rs₁ f f₁ x v ri) where
    pub push_no_leaf : {e : Unsound} {r : Result Tree Unsound} → ri ≡ Err e → PiecePushed means contents s s₁ rs rs₁ f f₁ tr x r
    push_no_leaf {e} {r} bad = record {
      pushes = λ t fs H g lt. no_leaf t fs H lt;
      counts = M.counts b.1 b.0;
      same_bytes = M.same_bytes;
      same_capacity = M.same_capacity;
    }
      where
        no_leaf : (t : Finger PieceRow V) (fs : List ℕ) → Holding means (contents s).bytes rs f tr t fs → length (rows t) < limit (length rs) → {gs : List _} → Built means (contents s).bytes rs rs₁ f₁ r gs
        no_leaf t [] H lt = absurd (omega (arith, free_slots H lt))
        no_leaf t (n ∷ ns) H lt = absurd (ok_err (L.puts n ns (sym H.laid.first) H.laid.chain).0 bad)

    module _ {rs₂ : List (Record PieceRow V)} {f₂ : Link} {i : ℕ} {r : Result Tree Unsound} (got-i : ri ≡ Ok i) (P : Pushed (λ _. 1) means rs₁ rs₂ f₁ f₂ 16 Back tr i r) where
      -- the new leaf lies beside the tree
      module _ (t : Finger PieceRow V) (n : ℕ) (ns : List ℕ) (H : Holding means (contents s).bytes rs f tr t (n ∷ ns)) (g : Good (contents s).bytes x) (lt : length (rows t) < limit (length rs)) where
        written : Put rs rs₁ n (Leaf x v)
        written = put H.laid.chain.0.within (L.puts n ns (sym H.laid.first) H.laid.chain).2

        once : (j : ℕ) → occ t j + occ_list (n ∷ ns) j ≤ 1
        once j = omega (arith, H.laid.once j, named_le (length rs) j)

        more_good : AllGood (contents s).bytes (rows t ++ (x ∷ []))
        more_good = all_append (contents s).bytes (rows t) (x ∷ []) H.good (g, tt)

        ready : Ready (λ _. 1) means (bytes_of (contents s).bytes) rs₁ f₁ 16 tr i t (leaf n x v) ns 0
        ready =
            let o = L.puts n ns (sym H.laid.first) H.laid.chain in
            let mn = mean means (bytes_of (contents s).bytes) in
            let val : v ≡ means (bytes_of (contents s).bytes x) = ok_same got (M.value b.1 b.0 g) in
            let few : length (rows t) ≤ 4093 = omega (arith, H.laid.most) in
            let low : levels t ≤ 11 = few_levels mn rs t H.laid.fit (omega arith) in
            record {
              tree = H.laid.tree;
              twig = ok_same o.0 got-i;
              first = sym o.1;
              fit = frame written.off mn t 0 (λ j. omega (arith, once j)) H.laid.fit;
              fit_u = (written.at, val ∙ ap means (sym (append-nil (bytes_of (contents s).bytes x))));
              chain = frame_chain written.off ns (λ j. omega (arith, once j)) H.laid.chain.1;
              once = once;
              light = omega (arith, wt_append (λ _. 1) (bytes_of (contents s).bytes) (rows t) (x ∷ []), light (contents s).bytes (rows t ++ (x ∷ [])) more_good (omega (arith, length-append (rows t) (x ∷ []))));
              fuelled = omega arith;
              long = omega (arith, free_slots H lt);
            }

        built : Built means (contents s).bytes rs rs₂ f₂ r (map piece_of (rows t) ++ (piece_of x ∷ []))
        built =
            let Z = (P.pushes (bytes_of (contents s).bytes) t (leaf n x v) ns 0 ready).made in
            let len : length rs₂ ≡ length rs = Z.frame.len ∙ written.off.len in
            record {
              t = Z.t';
              fs = Z.fs';
              ok = Z.ok;
              pieces_are = ap (map piece_of) Z.text ∙ map_append piece_of (rows t) (x ∷ []);
              holding = record {
                laid = record {
                  tree = refl;
                  first = Z.first;
                  fit = Z.fit;
                  chain = Z.chain;
                  once = λ j. Z.kept j ∙ H.laid.once j ∙ ap (λ w. named w j) (sym len);
                  few = omega (arith, ap length Z.text, length-append (rows t) (x ∷ []));
                  least = omega (arith, H.laid.least);
                  most = omega (arith, H.laid.most);
                };
                good = subst (AllGood (contents s).bytes) (sym Z.text) more_good;
              };
              len = len;
            }

      pub piece_pushed : PiecePushed means contents s s₁ rs rs₂ f f₂ tr x r
      piece_pushed = record {
        pushes = pushed;
        counts = M.counts b.1 b.0;
        same_bytes = M.same_bytes;
        same_capacity = M.same_capacity;
      }
        where
          pushed : (t : Finger PieceRow V) (fs : List ℕ) → Holding means (contents s).bytes rs f tr t fs → Good (contents s).bytes x → length (rows t) < limit (length rs) → Built means (contents s).bytes rs rs₂ f₂ r (map piece_of (rows t) ++ (piece_of x ∷ []))
          pushed t [] H g lt = absurd (omega (arith, free_slots H lt))
          pushed t (n ∷ ns) H g lt = built t n ns H g lt
