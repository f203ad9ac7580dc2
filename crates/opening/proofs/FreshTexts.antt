-- The paths of opening a text.
use Rattle.std.proofs.Common.{◌≡◌, ℕ, zero, suc, ◌+◌, ◌*◌, ◌/◌, ◌%◌, ◌<◌, ◌≤◌, min, Bool, true, cond, ◌&&◌, leb, ◌⊎◌, List, [], ◌∷◌, length, Some, None, Ok, Err, Option, Result, sym, refl, ap, ◌∙◌, subst, ap₂, ⊎_elim, arith}
use Rattle.std.proofs.lemmas.Bool.{le-leb, lt-leb, le-ltb, and_from, and_left, and_right, cases_lt}
use Rattle.plain.specs.Lists.{first_no}
use Rattle.plain.specs.Pieces.{Piece, blocks}
use Rattle.plain.specs.Machine.{Machine, limit, watched, fresh, open_asked}
use Rattle.plain.specs.declared.faults.TextFault.{TextFault}
use Rattle.plain.specs.declared.faults.TextFault.TheVariants as fault
use Rattle.measures.specs.declared.mark_totals.MarkRow.{MarkRow}
use Rattle.measures.specs.declared.mark_totals.MarkTotals.{MarkTotals}
use Rattle.stores.specs.Stores.{Contents}
use Rattle.slots.specs.Ghost.{nil, same, named, occ_list, head_of, tree_of, rows, Chain}
use Rattle.slots.specs.Post.{counting, LaidOut}
use Rattle.slots.specs.declared.records.Unsound.{Unsound}
use Rattle.slots.specs.Words.{Link}
use Rattle.slots.specs.declared.records.Tree.{Tree}
use Rattle.slots.specs.declared.records.Tree.TheVariants.{Empty}
use Rattle.slots.specs.declared.records.Record.{Record}
use Rattle.slots.proofs.Frames.{same_self, same_cases}
use Rattle.slots.proofs.Laying.{counting_low}
use Rattle.slots.proofs.Counts.{named_one}
use Rattle.slots.proofs.Shapes.{ok_err, ok_same}
use Rattle.pieces.specs.Rows.{piece_of}
use Rattle.pieces.specs.Sound.{TextValue, text_means, Laid, whole, Spells}
use Rattle.pieces.specs.declared.rows.PieceRow.{PieceRow}
use Rattle.pieces.specs.declared.head.Head.{Head}
use Rattle.pieces.proofs.RowParts.{length_map}
use Rattle.opening.specs.Filled.{Holding, Built, Fillable, Filled}
use Rattle.opening.specs.Opened.{Watched, Outcome, Opens}
use Rattle.opening.proofs.BlockEnds.{blocks_count}

-- all slots are in the chain of a fresh slice
counting_in : (i n k : ℕ) → i ≤ k → k < i + n → occ_list (counting i n) k ≡ 1
counting_in i zero k le lt = absurd (omega arith)
counting_in i (suc n) k le lt = ⊎_elim
    (λ (e : k ≡ i). omega (arith, subst (λ q. same i q ≡ 1) (sym e) (same_self i), counting_low (i + 1) n k (omega arith)))
    (λ z. omega (arith, z.0, counting_in (i + 1) n k (let ne : k ≡ i → ⊥ = z.1 in omega arith) (omega arith)))
    (same_cases i k)

counting_out : (i n k : ℕ) → i + n ≤ k → occ_list (counting i n) k ≡ 0
counting_out i zero k le = refl
counting_out i (suc n) k le = ⊎_elim (λ (e : k ≡ i). absurd (omega arith)) (λ z. omega (arith, z.0, counting_out (i + 1) n k (omega arith))) (same_cases i k)

named_none : (w i : ℕ) → w ≤ i → named w i ≡ 0
unfolding named
named_none w i h = ap (λ b. cond b 1 0) (le-ltb i w h)

counting_named : (w i : ℕ) → occ_list (counting 0 w) i ≡ named w i
counting_named w i = ⊎_elim
    (λ (lt : i < w). counting_in 0 w i (omega arith) (omega arith) ∙ sym (named_one w i lt))
    (λ (ge : w ≤ i). counting_out 0 w i (omega arith) ∙ sym (named_none w i ge))
    (cases_lt i w)

laid_fresh : {R V : Type 0} {mn : List R → V} {rs rs' : List (Record R V)} {f : Link} → LaidOut rs rs' f → 130 ≤ length rs → Watched rs → Laid mn rs' f Empty nil (counting 0 (length rs))
laid_fresh {rs = rs} {rs' = rs'} {f = f} L least most =
    let all : watched (length rs) ≡ length rs = omega arith in
    record {
      tree = refl;
      first = sym (L.first ∙ ap (λ w. head_of (counting 0 w)) all);
      fit = tt;
      chain = subst (λ w. Chain rs' (counting 0 w)) all L.chain;
      once = λ i. omega (arith, counting_named (length rs) i, ap (λ w. named w i) L.len);
      few = omega arith;
      least = omega (arith, L.len);
      most = omega (arith, L.len);
    }

-- which question is the first that is answered with no
abbrev answers : Bool → Bool → Option TextFault
answers p q = first_no ((p, fault.Slots) ∷ (q, fault.Pieces) ∷ [])

module _ (B : List ℕ) (u v : ℕ) where
  asked_slots : (u < 130) ⊎ (v < 130) → first_no (open_asked B u v) ≡ Some fault.Slots
  asked_slots few = ap (λ b. answers b (leb (length B) (256 * limit (watched u)))) (⊎_elim (λ lt. and_left (leb 130 u) (leb 130 v) (lt-leb 130 u lt)) (λ lt. and_right (leb 130 u) (leb 130 v) (lt-leb 130 v lt)) few)

  module _ (hu : 130 ≤ u) (hv : 130 ≤ v) where
    enough : (leb 130 u && leb 130 v) ≡ true
    enough = and_from (leb 130 u) (leb 130 v) (le-leb 130 u hu) (le-leb 130 v hv)

    asked_pieces : 256 * limit (watched u) < length B → first_no (open_asked B u v) ≡ Some fault.Pieces
    asked_pieces lt = ap₂ answers enough (lt-leb (length B) (256 * limit (watched u)) lt)

    asked_all : length B ≤ 256 * limit (watched u) → first_no (open_asked B u v) ≡ None
    asked_all le = ap₂ answers enough (le-leb (length B) (256 * limit (watched u)) le)

machine_same : {B B' : List ℕ} {c c' u u' v v' : ℕ} {g g' : List Piece} → B ≡ B' → c ≡ c' → u ≡ u' → v ≡ v' → g ≡ g'
    → ◌≡◌ {A = Machine} (record { bytes = B; capacity = c; text_slots = u; mark_slots = v; pieces = g; clip = None; marks = [] }) (record { bytes = B'; capacity = c'; text_slots = u'; mark_slots = v'; pieces = g'; clip = None; marks = [] })
machine_same a b c d e = cc

too_few : {u v : ℕ} → 130 ≤ u → 130 ≤ v → (u < 130) ⊎ (v < 130) → ⊥
too_few hu hv few = ⊎_elim (λ lt. omega arith) (λ lt. omega arith) few

-- the slots as the arena left them
pub opens_at : {A S : Type 0} {am : List ℕ → A} {contents : S → Contents} {s s' : S} {rs rs₁ rs' : List (Record PieceRow (TextValue A))} {ms ms' : List (Record MarkRow MarkTotals)} {r : Result Head TextFault}
    → rs₁ ≡ rs' → Opens am contents s s' rs rs₁ ms ms' r → Opens am contents s s' rs rs' ms ms' r
opens_at {am = am} {contents} {s} {s'} {rs} {ms = ms} {ms'} {r} is made = subst (λ q. Opens am contents s s' rs q ms ms' r) is made

module _ {A S : Type 0} {am : List ℕ → A} {contents : S → Contents} {s : S} {rs : List (Record PieceRow (TextValue A))} {ms : List (Record MarkRow MarkTotals)} where
  pub open_few_slots : (length rs < 130) ⊎ (length ms < 130) → Opens am contents s s rs rs ms ms (Err fault.Slots)
  open_few_slots few = record {
    outcome = subst (λ o. Outcome am contents o s s rs rs ms ms (Err fault.Slots)) (sym (asked_slots (contents s).bytes (length rs) (length ms) few)) (refl, record { slots = refl; marks = refl; same_reads = refl });
    same_bytes = refl;
    same_capacity = refl;
    few_slots = λ _. (fault.Slots, refl, refl);
    many_bytes = λ hu hv _. absurd (too_few hu hv few);
    within = λ hu hv _ _ _. absurd (too_few hu hv few);
  }

  module _ {n l : ℕ} (hu : 130 ≤ length rs) (hv : 130 ≤ length ms) (n-is : n ≡ length (contents s).bytes) (l-is : l ≡ limit (watched (length rs))) where
    pub open_many_bytes : 256 * l < n → Opens am contents s s rs rs ms ms (Err fault.Pieces)
    open_many_bytes lt =
        let heavy : 256 * limit (watched (length rs)) < length (contents s).bytes = omega arith in
        record {
          outcome = subst (λ o. Outcome am contents o s s rs rs ms ms (Err fault.Pieces)) (sym (asked_pieces (contents s).bytes (length rs) (length ms) hu hv heavy)) (refl, record { slots = refl; marks = refl; same_reads = refl });
          same_bytes = refl;
          same_capacity = refl;
          few_slots = λ few. absurd (too_few hu hv few);
          many_bytes = λ _ _ _. (fault.Pieces, refl, refl);
          within = λ _ _ le _ _. absurd (omega arith);
        }

    -- both slices are laid out, and the text's is filled
    module _ {s' : S} {rs₁ rs' : List (Record PieceRow (TextValue A))} {ms' : List (Record MarkRow MarkTotals)} {f f' e : Link} {r : Result Tree Unsound} (le : n ≤ 256 * l)
        (L : LaidOut rs rs₁ f) (K : LaidOut ms ms' e) (F : Filled (text_means am) contents s s' rs₁ rs' f f' r) where
      asked : first_no (open_asked (contents s).bytes (length rs) (length ms)) ≡ None
      asked = asked_all (contents s).bytes (length rs) (length ms) hu hv (omega arith)

      fillable : Watched rs → Fillable (text_means am) contents s rs₁ f (counting 0 (length rs))
      fillable wr = record {
        holding = record { laid = laid_fresh L hu wr; good = tt };
        room = omega (arith, L.len);
      }

      built : Watched rs → Built (text_means am) (contents s).bytes rs₁ rs' f' r (blocks 0 (length (contents s).bytes / 256) (length (contents s).bytes % 256))
      built wr = F.fills (counting 0 (length rs)) (fillable wr)

      pub open_unsound : {x : Unsound} {o : Result Head TextFault} → r ≡ Err x → Opens am contents s s' rs rs' ms ms' o
      open_unsound {o = o} bad = record {
        outcome = subst (λ f. Outcome am contents f s s' rs rs' ms ms' o) (sym asked) (λ wr wm. absurd (ok_err (built wr).ok bad));
        same_bytes = F.same_bytes;
        same_capacity = F.same_capacity;
        few_slots = λ few. absurd (too_few hu hv few);
        many_bytes = λ _ _ lt. absurd (omega arith);
        within = λ _ _ _ wr _. absurd (ok_err (built wr).ok bad);
      }

      module _ {tr : Tree} {d : ℕ} (got : r ≡ Ok tr) (d-is : d ≡ n / 256 + min 1 (n % 256)) where
        abbrev head : Head
        head = record { text = tr; clip = Empty; free = f'; pieces = d; marks = Empty; free_marks = e; mark_count = 0 }

        spelled : Watched rs → Watched ms → Spells am whole (contents s').bytes (contents s').capacity rs' ms' head (fresh (contents s).bytes (contents s).capacity (length rs) (length ms))
        spelled wr wm =
            let Z = built wr in
            let H : Holding (text_means am) (contents s').bytes rs' f' (tree_of Z.t) Z.t Z.fs = subst (λ (B : List ℕ). Holding (text_means am) B rs' f' (tree_of Z.t) Z.t Z.fs) (sym F.same_bytes) Z.holding in
            let count : d ≡ length (rows Z.t) = omega (arith, length_map piece_of (rows Z.t), ap length Z.pieces_are, blocks_count 0 (length (contents s).bytes / 256) (length (contents s).bytes % 256)) in
            record {
              sound = record {
                t = Z.t;
                k = nil;
                fs = Z.fs;
                u = nil;
                gs = counting 0 (length ms);
                text = record {
                  tree = ok_same Z.ok got;
                  clip = refl;
                  first = H.laid.first;
                  fit = H.laid.fit;
                  fit_clip = tt;
                  chain = H.laid.chain;
                  once = λ i. omega (arith, H.laid.once i);
                  few = omega (arith, H.laid.few);
                  least = H.laid.least;
                  most = H.laid.most;
                };
                marks = laid_fresh K hv wm;
                good = H.good;
                good_clip = tt;
                pieces = omega arith;
                count = refl;
                ends = omega arith;
              };
              clipped = refl;
              machine = machine_same (sym F.same_bytes) (sym F.same_capacity) (omega (arith, Z.len, L.len)) (omega (arith, K.len)) (sym Z.pieces_are);
            }

        pub opened : Opens am contents s s' rs rs' ms ms' (Ok head)
        opened = record {
          outcome = subst (λ o. Outcome am contents o s s' rs rs' ms ms' (Ok head)) (sym asked) (λ wr wm. (
            head,
            refl,
            record {
              spells = spelled wr wm;
              each_once = F.counts (counting 0 (length rs)) (fillable wr);
            },
          ));
          same_bytes = F.same_bytes;
          same_capacity = F.same_capacity;
          few_slots = λ few. absurd (too_few hu hv few);
          many_bytes = λ _ _ lt. absurd (omega arith);
          within = λ _ _ _ wr _. (head, refl, F.counts (counting 0 (length rs)) (fillable wr));
        }
