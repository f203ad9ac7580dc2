-- Levels and nodes written into slots. Assumes nothing.
use Rattle.std.proofs.Common.{sym, refl, ap, ◌∙◌, subst, append_assoc, arith}
use Rattle.measures.specs.Law.{heaviest}
use Rattle.std.specs.Prelude.{◌≡◌, List, ◌∷◌, ◌++◌, ℕ, suc, ◌+◌, ◌≤◌, ◌<◌, length, get_or, set}
use Rattle.std.specs.declared.option.Option.TheVariants.{Some}
use Rattle.std.specs.declared.result.Result.{Result}
use Rattle.std.specs.declared.result.Result.TheVariants.{Ok, Err}
use Rattle.tree.specs.Words.{Unsound, Link, Digit, Tree, Deep, Record, Free, Level, Side, Front, Back}
use Rattle.slots.specs.Ghost.{Twig, Arm, a1, a2, a3, a4, Finger, deep, same, occ_list, head_of, none, root, digit_of, tree_of, rows_twig, rows_arm, rows, occ_twig, occ_arm, occ, At, FitTwig, FitArm, Fit, Chain, Calm, Off}
use Rattle.slots.specs.Sides.{pick, ends}
use Rattle.slots.specs.Values.{mean, wt, JoinedOk, value_in, node_of}
use Rattle.slots.specs.Post.{DigitValued, Taken, Wrote}
use Rattle.tree.specs.Post.{JoinedEnds, LevelPut, NodePut, NodeTaken}
use Rattle.slots.proofs.Frames.{Put, put, put_calm, frame_arm, frame, frame_chain}
use Rattle.slots.proofs.Shapes.{ok_err, ok_same}
use Rattle.slots.proofs.Weights.{join_rows}
use Rattle.slots.proofs.Ends.{Nodal, pack, pack_root, pack_rows, pack_occ, pack_fit, parted}

module _ {R I V : Type 0} {weigh : I → ℕ} {means : List I → V} {rs : List (Record R V)} where
  pub join_front : {side : Side} {x i : ℕ} {v r : Result V Unsound} → side ≡ Front → v ≡ value_in (get_or rs x none) → JoinedOk weigh means v (value_in (get_or rs i none)) r → JoinedEnds weigh means rs side x i r
  join_front {side} {x} {i} {v} {r} is va jo = subst (λ s. JoinedEnds weigh means rs s x i r) (sym is) (record { joins = λ items xs ys p q light. join_rows jo items xs ys light (va ∙ p) q })

  pub join_back : {side : Side} {x i : ℕ} {v r : Result V Unsound} → side ≡ Back → v ≡ value_in (get_or rs i none) → JoinedOk weigh means v (value_in (get_or rs x none)) r → JoinedEnds weigh means rs side x i r
  join_back {side} {x} {i} {v} {r} is va jo = subst (λ s. JoinedEnds weigh means rs s x i r) (sym is) (record { joins = λ items xs ys p q light. join_rows jo items ys xs light (va ∙ q) p })

  pub no_value_there : {side : Side} {x i : ℕ} {e : Unsound} {r : Result V Unsound} → Err e ≡ value_in (get_or rs x none) → JoinedEnds weigh means rs side x i r
  no_value_there bad = record { joins = λ items xs ys p q light. absurd (ok_err p (sym bad)) }

  pub no_value_here : {side : Side} {x i : ℕ} {e : Unsound} {r : Result V Unsound} → Err e ≡ value_in (get_or rs i none) → JoinedEnds weigh means rs side x i r
  no_value_here bad = record { joins = λ items xs ys p q light. absurd (ok_err q (sym bad)) }

  -- nothing but the free link changed when the slot was taken
  pub node_ok : {d : Digit} {i : ℕ} {all : Result V Unsound} {value : V} {nd : Result (Record R V) Unsound} {c : Record R V} {rs₁ rs' : List (Record R V)} {f f' : Link} {p : Result ℕ Unsound} {w : Result (Unit {0}) Unsound}
      → DigitValued weigh means rs d all → all ≡ Ok value → nd ≡ node_of d value → nd ≡ Ok c → Taken rs f f' p → rs₁ ≡ rs → p ≡ Ok i → Wrote rs₁ rs' i c w → NodePut weigh means rs rs' f f' d (Ok i)
  node_ok {d} {i} {nd = nd} {c} {rs' = rs'} {w = w} va is nis got take kept took wrote₁ = record {
    puts = λ items A c₁ k n ns ea ef chain fit light cis.
        let wrote : Wrote rs rs' i c w = subst (λ q. Wrote q rs' i c w) kept wrote₁ in
        let t = take.takes n ns ef chain in
        let n-is : i ≡ n = ok_same took t.0 in
        let v-is = ok_same is (va.values items A k ea fit light) in
        let c-is : c ≡ c₁ = ok_same {r = nd} got (nis ∙ ap (λ q. node_of d q) v-is ∙ cis) in
        (ap Ok n-is, t.1, (wrote.writes (omega (arith, chain.0.within, n-is))).1 ∙ ap (λ q. set rs q c) n-is ∙ ap (λ q. set rs n q) c-is);
  }

  pub node_no_write : {d : Digit} {i : ℕ} {c : Record R V} {rs₁ rs' rs'' : List (Record R V)} {f f' : Link} {p r : Result ℕ Unsound} {w : Result (Unit {0}) Unsound} {e : Unsound}
      → Taken rs f f' p → rs₁ ≡ rs → p ≡ Ok i → Wrote rs₁ rs' i c w → w ≡ Err e → NodePut weigh means rs rs'' f f' d r
  node_no_write {i = i} {c} {rs' = rs'} {w = w} take kept took wrote₁ bad = record {
    puts = λ items A c₁ k n ns ea ef chain fit light cis.
        let wrote : Wrote rs rs' i c w = subst (λ q. Wrote q rs' i c w) kept wrote₁ in
        let n-is : i ≡ n = ok_same took (take.takes n ns ef chain).0 in
        absurd (ok_err (wrote.writes (omega (arith, chain.0.within, n-is))).0 bad);
  }

  pub node_no_slot : {d : Digit} {rs' : List (Record R V)} {f f' : Link} {p r : Result ℕ Unsound} {e : Unsound} → Taken rs f f' p → p ≡ Err e → NodePut weigh means rs rs' f f' d r
  node_no_slot take bad = record { puts = λ items A c₁ k n ns ea ef chain fit light cis. absurd (ok_err (take.takes n ns ef chain).0 bad) }

  pub node_no_value : {d : Digit} {all : Result V Unsound} {rs' : List (Record R V)} {f f' : Link} {r : Result ℕ Unsound} {e : Unsound} → DigitValued weigh means rs d all → all ≡ Err e → NodePut weigh means rs rs' f f' d r
  node_no_value va bad = record { puts = λ items A c₁ k n ns ea ef chain fit light cis. absurd (ok_err (va.values items A k ea fit light) bad) }

  pub node_not : {d : Digit} {all : Result V Unsound} {value : V} {nd : Result (Record R V) Unsound} {rs' : List (Record R V)} {f f' : Link} {r : Result ℕ Unsound} {e : Unsound}
      → DigitValued weigh means rs d all → all ≡ Ok value → nd ≡ node_of d value → nd ≡ Err e → NodePut weigh means rs rs' f f' d r
  node_not {d} va is nis bad = record {
    puts = λ items A c₁ k n ns ea ef chain fit light cis.
        let v-is = ok_same is (va.values items A k ea fit light) in
        absurd (ok_err cis (sym (nis ∙ ap (λ q. node_of d q) v-is) ∙ bad));
  }

module _ {R V : Type 0} where
  -- a level that was written
  pub record Leveled (mn : List R → V) (rs rs' : List (Record R V)) (i : ℕ) (r : Result Tree Unsound) (F : Arm R V) (m : Finger R V) (B : Arm R V) (k : ℕ) : Type 0 where
    pub v : V
    pub ok : r ≡ Ok (Deep i)
    pub fit : Fit mn rs' (deep i v F m B) k
    pub off : Off rs rs' (same i)
    pub calm : (j : ℕ) → Calm (get_or rs j none) (get_or rs' j none)

  module _ (mn : List R → V) {rs rs' : List (Record R V)} {i : ℕ} {value : Result V Unsound} {t : Tree} {r : Result Tree Unsound} where
    pub level_done : {f b : Digit} → LevelPut rs rs' i f t b value r → (F : Arm R V) (m : Finger R V) (B : Arm R V) (k : ℕ) (T : List R) → digit_of F ≡ f → tree_of m ≡ t → digit_of B ≡ b → i < length rs
        → FitArm mn rs F k → Fit mn rs m (suc k) → FitArm mn rs B k → value ≡ Ok (mn T) → (rows_arm F ++ rows m) ++ rows_arm B ≡ T
        → ((j : ℕ) → same i j + (occ_arm F j + (occ m j + occ_arm B j)) ≤ 1) → Leveled mn rs rs' i r F m B k
    level_done {f} {b} lp F m B k T ef et eb within ff fm fb val text once =
        let w = lp.puts (mn T) val within in
        let c₁ : Record R V = Level (digit_of F) (tree_of m) (digit_of B) (mn T) in
        let is : rs' ≡ set rs i c₁ = w.1 ∙ cc in
        let p : Put rs rs' i c₁ = put within is in
        record {
          v = mn T;
          ok = w.0;
          fit = (p.at, ap mn (sym text), frame_arm p.off mn F k (λ j. omega (arith, once j)) ff, frame p.off mn m (suc k) (λ j. omega (arith, once j)) fm, frame_arm p.off mn B k (λ j. omega (arith, once j)) fb);
          off = p.off;
          calm = put_calm p refl;
        }

    -- the same from a side
    pub side_done : (s : Side) {n x : Digit} → LevelPut rs rs' i (pick s n x) t (pick s x n) value r → (N : Arm R V) (m : Finger R V) (X : Arm R V) (k : ℕ) (T : List R) → digit_of N ≡ n → tree_of m ≡ t → digit_of X ≡ x → i < length rs
        → FitArm mn rs N k → Fit mn rs m (suc k) → FitArm mn rs X k → value ≡ Ok (mn T) → ends s (rows_arm N) (ends s (rows m) (rows_arm X)) ≡ T
        → ((j : ℕ) → same i j + (occ_arm N j + (occ m j + occ_arm X j)) ≤ 1) → Leveled mn rs rs' i r (pick s N X) m (pick s X N) k
    side_done Front lp N m X k T en et ex within fn fm fx val text once = level_done lp N m X k T en et ex within fn fm fx val (append_assoc (rows_arm N) (rows m) (rows_arm X) ∙ text) once
    side_done Back lp N m X k T en et ex within fn fm fx val text once = level_done lp X m N k T ex et en within fx fm fn val text (λ j. omega (arith, once j))

  -- a node in its new slot
  pub record Noded (mn : List R → V) (rs rs₁ : List (Record R V)) (f₁ : Link) (p : Result ℕ Unsound) (A : Arm R V) (n : ℕ) (ns : List ℕ) (k : ℕ) : Type 0 where
    pub w : Twig R V
    pub ok : p ≡ Ok n
    pub first : head_of ns ≡ f₁
    pub off : Off rs rs₁ (same n)
    pub root_is : root w ≡ n
    pub text : rows_twig w ≡ rows_arm A
    pub occs : (j : ℕ) → occ_twig w j ≡ same n j + occ_arm A j
    pub fit : FitTwig mn rs₁ w (suc k)
    pub chain : Chain rs₁ ns

  -- a node of two or three twigs is a record
  node_is : (A : Arm R V) (v : V) → Nodal A → (c : Record R V) × (node_of (digit_of A) v ≡ Ok c)
  node_is (a1 a) v nd = absurd nd
  node_is (a2 a b) v nd = (_, refl)
  node_is (a3 a b c) v nd = (_, refl)
  node_is (a4 a b c d) v nd = absurd nd

  -- a node given up: its twigs and its slot
  pub record Unpacked (mn : List R → V) (rs rs₁ : List (Record R V)) (f f₁ : Link) (r : Result Digit Unsound) (w : Twig R V) (k : ℕ) : Type 0 where
    pub arm : Arm R V
    pub ok : r ≡ Ok (digit_of arm)
    pub first : Some (root w) ≡ f₁
    pub at : At rs₁ (root w) (Free f)
    pub off : Off rs rs₁ (same (root w))
    pub text : rows_arm arm ≡ rows_twig w
    pub occs : (j : ℕ) → occ_twig w j ≡ same (root w) j + occ_arm arm j
    pub fit : FitArm mn rs arm k
    pub calm : (j : ℕ) → Calm (get_or rs j none) (get_or rs₁ j none)

  pub unpacked : {rs rs₁ : List (Record R V)} {f f₁ : Link} {n : ℕ} {r : Result Digit Unsound} → NodeTaken rs rs₁ f f₁ n r → (mn : List R → V) (w : Twig R V) (k : ℕ) → root w ≡ n → FitTwig mn rs w (suc k) → Unpacked mn rs rs₁ f f₁ r w k
  unpacked {rs} {rs₁} {f} {f₁} {n} {r} nt mn w k e fit =
      let P = parted mn rs w k fit in
      let nt₁ : NodeTaken rs rs₁ f f₁ (root w) r = subst (λ q. NodeTaken rs rs₁ f f₁ q r) (sym e) nt in
      let t = nt₁.takes (digit_of P.arm) P.reads P.within in
      let p = put P.within t.2 in
      record { arm = P.arm; ok = t.0; first = sym t.1; at = p.at; off = p.off; text = P.text; occs = P.occs; fit = P.fit; calm = put_calm p refl }

module _ {R I V : Type 0} {weigh : I → ℕ} {means : List I → V} where
  pub node_done : {rs rs₁ : List (Record R V)} {f f₁ : Link} {d : Digit} {p : Result ℕ Unsound} → NodePut weigh means rs rs₁ f f₁ d p
      → (items : R → List I) (A : Arm R V) (n : ℕ) (ns : List ℕ) (k : ℕ) → Nodal A → digit_of A ≡ d → Some n ≡ f → Chain rs (n ∷ ns) → FitArm (mean means items) rs A k
      → wt weigh items (rows_arm A) ≤ heaviest → ((j : ℕ) → occ_arm A j + (same n j + occ_list ns j) ≤ 1) → Noded (mean means items) rs rs₁ f₁ p A n ns k
  node_done {rs} {rs₁} {d = d} np items A n ns k nd ed ef chain fit light once =
      let mn : List R → V = mean means items in
      let v : V = mn (rows_arm A) in
      let c = node_is A v nd in
      let done = np.puts items A c.0 k n ns ed (sym ef) chain fit light (ap (λ q. node_of q v) (sym ed) ∙ c.1) in
      let p = put chain.0.within done.2 in
      record {
        w = pack n v A;
        ok = done.0;
        first = sym done.1;
        off = p.off;
        root_is = pack_root n v A nd;
        text = pack_rows n v A nd;
        occs = pack_occ n v A nd;
        fit = pack_fit mn rs₁ n v A k c.0 nd c.1 p.at refl (frame_arm p.off mn A k (λ j. omega (arith, once j)) fit);
        chain = frame_chain p.off ns (λ j. omega (arith, once j)) chain.1;
      }
