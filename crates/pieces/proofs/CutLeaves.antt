-- The paths of making a leaf and of cutting one.
use Rattle.std.proofs.Common.{◌≡◌, ℕ, ◌+◌, ◌-◌, ◌<◌, ◌≤◌, min, Bool, true, false, cond, eqb, leb, ◌⊎◌, List, [], ◌∷◌, ◌++◌, length, get_or, set, Some, None, Ok, Err, Option, Result, sym, refl, ap, ◌∙◌, subst, ap₂, inl, inr, arith, length-append}
use Rattle.std.proofs.lemmas.Bool.{eqb-true, eqb-false, leb-true, leb-false, eq-eqb, ne_eqb, le-leb, lt-leb}
use Rattle.stores.specs.Stores.{Contents, largest}
use Rattle.slots.specs.Ghost.{Arm, a1, leaf, same, occ_list, none, head_of, part_of, rows_part, size_part, occ_part, At, FitPart, Chain, Calm, Off}
use Rattle.slots.specs.Values.{mean, row_in}
use Rattle.slots.specs.Post.{Given, LeafPut}
use Rattle.slots.specs.declared.records.Unsound.{Unsound}
use Rattle.slots.specs.Words.{Link}
use Rattle.slots.specs.declared.records.Digit.{Digit}
use Rattle.slots.specs.declared.records.Digit.TheVariants.{One}
use Rattle.slots.specs.declared.records.Record.{Record}
use Rattle.slots.specs.declared.records.Record.TheVariants.{Free, Leaf}
use Rattle.slots.proofs.Frames.{occ_list_append, calm_then, off_refl, off_then, off_more, Put, put, put_calm, frame_part, frame_chain}
use Rattle.slots.proofs.Shapes.{ok_err, ok_same}
use Rattle.pieces.specs.Rows.{row, bytes_of, Good, front_of, rest_of, RowMeasured}
use Rattle.pieces.specs.Leaves.{Bounded, PartPut, Cuttable, Cut, EndsKept}
use Rattle.pieces.specs.declared.rows.PieceRow.{PieceRow}
use Rattle.pieces.specs.declared.leaves.Ends.{Ends}

-- a part of one leaf or none was made of slots of the chain
pub record PartMade {V : Type 0} (means : List ℕ → V) (B : List ℕ) (rs rs' : List (Record PieceRow V)) (f' : Link) (r : Result (Option Digit) Unsound) (ys : List PieceRow) (fs : List ℕ) : Type 0 where
  pub Q : Option (Arm PieceRow V)
  pub fs' : List ℕ
  pub js : List ℕ
  pub ok : r ≡ Ok (part_of Q)
  pub first : head_of fs' ≡ f'
  pub rows_are : rows_part Q ≡ ys
  pub small : size_part Q ≤ 1
  pub fit : FitPart (mean means (bytes_of B)) rs' Q 0
  pub chain : Chain rs' fs'
  pub kept : (q : ℕ) → occ_part Q q + occ_list fs' q ≡ occ_list fs q
  pub frame : Off rs rs' (occ_list fs)
  pub long : length fs ≤ length fs' + 1
  pub few : length js ≤ 1
  pub fresh : (q : ℕ) → occ_list js q ≡ 0 → Calm (get_or rs q none) (get_or rs' q none)

-- after a leaf's slot is given back
record Freed {V : Type 0} (rs rs₁ : List (Record PieceRow V)) (f f₁ : Link) (i : ℕ) (fs : List ℕ) : Type 0 where
  pub put_free : Put rs rs₁ i (Free f)
  pub first : head_of (i ∷ fs) ≡ f₁
  pub chain : Chain rs₁ (i ∷ fs)
  pub once : (q : ℕ) → occ_list (i ∷ fs) q ≤ 1

same_row : {a n : ℕ} {y : PieceRow} → a ≡ y.address → n ≡ y.length → row a n ≡ y
same_row p q = ap₂ row p q

module _ {S V : Type 0} {means : List ℕ → V} {contents : S → Contents} where
  module _ {s s' : S} {rs rs' : List (Record PieceRow V)} {f f' : Link} {x : PieceRow} {v : V} {rv : Result V Unsound} {ri : Result ℕ Unsound}
      (M : RowMeasured means contents s x rv s') (got : rv ≡ Ok v) (L : LeafPut rs rs' f f' x v ri) (some : x.length ≡ 0 → ⊥) where
    pub part_no_slot : {e : Unsound} {r : Result (Option Digit) Unsound} → ri ≡ Err e → PartPut means contents s s' rs rs' f f' x r
    part_no_slot bad = record {
      empty = λ z. absurd (some z);
      puts = λ n ns b g fn ch. absurd (ok_err (L.puts n ns fn ch).0 bad);
      few = M.few;
      same_bytes = M.same_bytes;
      same_capacity = M.same_capacity;
    }

    pub part_put : {i : ℕ} → ri ≡ Ok i → PartPut means contents s s' rs rs' f f' x (Ok (Some (One i)))
    part_put got-i = record {
      empty = λ z. absurd (some z);
      puts = λ n ns b g fn ch.
          let o = L.puts n ns fn ch in
          let val : v ≡ means (bytes_of (contents s).bytes x) = ok_same got (M.value b.1 b.0 g) in
          (ap (λ (q : ℕ). Ok (Some (One q))) (ok_same got-i o.0), o.1, o.2 ∙ ap (λ (w : V). set rs n (Leaf x w)) val);
      few = M.few;
      same_bytes = M.same_bytes;
      same_capacity = M.same_capacity;
    }

  pub part_made : {s s' : S} {rs rs' : List (Record PieceRow V)} {f f' : Link} {r : Result (Option Digit) Unsound} (x : PieceRow) → PartPut means contents s s' rs rs' f f' x r
      → Bounded contents s → (ys : List PieceRow) → ((x.length ≡ 0) × (ys ≡ [])) ⊎ (Good (contents s).bytes x × (ys ≡ x ∷ []))
      → (fs : List ℕ) → head_of fs ≡ f → Chain rs fs → ((q : ℕ) → occ_list fs q ≤ 1) → 1 ≤ length fs → PartMade means (contents s).bytes rs rs' f' r ys fs
  part_made {rs = rs} x P b ys (inl z) fs first chain once long =
      let o = P.empty z.0 in record {
        Q = None;
        fs' = fs;
        js = [];
        ok = o.0;
        first = first ∙ sym o.2;
        rows_are = sym z.1;
        small = omega arith;
        fit = tt;
        chain = subst (λ q. Chain q fs) (sym o.1) chain;
        kept = λ q. omega arith;
        frame = subst (λ q. Off rs q (occ_list fs)) (sym o.1) off_refl;
        long = omega arith;
        few = omega arith;
        fresh = λ q e. inr (ap (λ l. get_or l q none) o.1);
      }
  part_made x P b ys (inr g) [] first chain once long = absurd (omega arith)
  part_made {s} {rs = rs} {rs' = rs'} x P b ys (inr g) (n ∷ ns) first chain once long =
      let v : V = means (bytes_of (contents s).bytes x) in
      let o = P.puts n ns b g.0 (sym first) chain in
      let p : Put rs rs' n (Leaf x v) = put chain.0.within o.2 in record {
        Q = Some (a1 (leaf n x v));
        fs' = ns;
        js = n ∷ [];
        ok = o.0;
        first = sym o.1;
        rows_are = sym g.1;
        small = omega arith;
        fit = (p.at, ap means (sym (append_nil_bytes (bytes_of (contents s).bytes x))));
        chain = frame_chain p.off ns (λ q. omega (arith, once q)) chain.1;
        kept = λ q. refl;
        frame = off_more (occ_list (n ∷ ns)) (λ q z. omega arith) p.off;
        long = omega arith;
        few = omega arith;
        fresh = λ q e. inr (p.off.reads q (omega arith));
      }
    where
      append_nil_bytes : (bs : List ℕ) → bs ++ [] ≡ bs
      append_nil_bytes [] = refl
      append_nil_bytes (y ∷ bs) = ap (λ l. y ∷ l) (append_nil_bytes bs)

  -- the row that was read is the leaf's
  pub read_row : {s : S} {rs : List (Record PieceRow V)} {f : Link} {i k j : ℕ} {x y : PieceRow} {v : V} {fs : List ℕ} {rr : Result PieceRow Unsound}
      → rr ≡ row_in (get_or rs i none) → rr ≡ Ok y → Cuttable means contents s rs f i k j x v fs → y ≡ x
  read_row rd got C = ok_same got (rd ∙ ap row_in C.at.is)

  -- nothing is cut
  module _ {s : S} {rs : List (Record PieceRow V)} {f : Link} {i k j : ℕ} where
    uncut : {r : Result Ends Unsound} (x : PieceRow) (v : V) (fs : List ℕ) (F G : Option (Arm PieceRow V)) → Cuttable means contents s rs f i k j x v fs
        → r ≡ Ok (record { front = part_of F; back = part_of G }) → rows_part F ≡ front_of k x → rows_part G ≡ rest_of j x → size_part F ≤ 1 → size_part G ≤ 1
        → FitPart (mean means (bytes_of (contents s).bytes)) rs F 0 → FitPart (mean means (bytes_of (contents s).bytes)) rs G 0
        → ((q : ℕ) → occ_part F q + occ_part G q ≡ same i q) → Cut means contents s rs rs f i k j r x fs
    uncut x v fs F G C ok rf rg sf sg ff fg occ = record {
      F = F;
      G = G;
      fs' = fs;
      js = [];
      ok = ok;
      first = C.first;
      rows_front = rf;
      rows_back = rg;
      small_front = sf;
      small_back = sg;
      fit_front = ff;
      fit_back = fg;
      chain = C.chain;
      kept = λ q. omega (arith, occ q);
      frame = off_refl;
      spent = omega arith;
      few = omega arith;
      fresh = λ q z. inr refl;
    }

    pub all_behind : j ≡ 0 → EndsKept means contents s s rs rs f f i k j (Ok (record { front = None; back = Some (One i) }))
    all_behind zero = record {
      keeps = λ x v fs C.
          let some : 1 ≤ x.length = C.good.0 in
          let le : k ≤ j = C.order in
          let whole : rest_of j x ≡ x ∷ [] =
          ap (λ (b : Bool). cond b [] (row (x.address + j) (x.length - j) ∷ [])) (lt-leb x.length j (omega arith))
          ∙ ap (λ (q : PieceRow). q ∷ []) (same_row (omega arith) (omega arith)) in
          let none_before : front_of k x ≡ [] = ap (λ (b : Bool). cond b [] (row x.address k ∷ [])) (eq-eqb k 0 (omega arith)) in
          uncut x v fs None (Some (a1 (leaf i x v))) C refl (sym none_before) (sym whole) (omega arith) (omega arith) tt (C.at, C.value) (λ q. omega arith);
      few_reads = λ x v fs C. omega arith;
      same_bytes = refl;
      same_capacity = refl;
    }

    pub all_before : {y : PieceRow} {rr : Result PieceRow Unsound} → rr ≡ row_in (get_or rs i none) → rr ≡ Ok y → y.length ≤ k
        → EndsKept means contents s s rs rs f f i k j (Ok (record { front = Some (One i); back = None }))
    all_before rd got high = record {
      keeps = λ x v fs C.
          let is = read_row rd got C in
          let len : _ = ap (λ (q : PieceRow). q.length) is in
          let some : 1 ≤ x.length = C.good.0 in
          let le : k ≤ j = C.order in
          let lj : j ≤ x.length = C.within in
          let whole : front_of k x ≡ x ∷ [] =
          ap (λ (b : Bool). cond b [] (row x.address k ∷ [])) (ne_eqb k 0 (λ z. omega arith))
          ∙ ap (λ (q : PieceRow). q ∷ []) (same_row refl (omega arith)) in
          let none-behind : rest_of j x ≡ [] = ap (λ (b : Bool). cond b [] (row (x.address + j) (x.length - j) ∷ [])) (le-leb x.length j (omega arith)) in
          uncut x v fs (Some (a1 (leaf i x v))) None C refl (sym whole) (sym none-behind) (omega arith) (omega arith) (C.at, C.value) tt (λ q. omega arith);
      few_reads = λ x v fs C. omega arith;
      same_bytes = refl;
      same_capacity = refl;
    }

  -- the leaf's slot is given back, and what is left of it is put again
  module _ {s s₁ : S} {rs rs₁ rs₂ : List (Record PieceRow V)} {f f₁ f₂ : Link} {i k j : ℕ} {y : PieceRow} {rr : Result PieceRow Unsound} {rg : Result (Unit {0}) Unsound} {r₁ : Result (Option Digit) Unsound}
      (rd : rr ≡ row_in (get_or rs i none)) (got : rr ≡ Ok y) (low : j ≡ 0 → ⊥) (high : k < y.length)
      (G : Given rs rs₁ f f₁ i rg) (P : PartPut means contents s s₁ rs₁ rs₂ f₁ f₂ (row y.address k) r₁) where
    freed : (x : PieceRow) (v : V) (fs : List ℕ) → Cuttable means contents s rs f i k j x v fs → Freed rs rs₁ f f₁ i fs
    freed x v fs C =
        let o = G.gives C.at.within in
        let p : Put rs rs₁ i (Free f) = put C.at.within o.2 in record {
          put_free = p;
          first = sym o.1;
          chain = (subst (λ (l : Link). At rs₁ i (Free l)) (sym C.first) p.at, frame_chain p.off fs (λ q. omega (arith, C.once q)) C.chain);
          once = C.once;
        }

    first_part : (x : PieceRow) (v : V) (fs : List ℕ) → Cuttable means contents s rs f i k j x v fs → PartMade means (contents s).bytes rs₁ rs₂ f₂ r₁ (front_of k y) (i ∷ fs)
    first_part x v fs C =
        let d = freed x v fs C in
        let g : Good (contents s).bytes y = subst (Good (contents s).bytes) (sym (read_row rd got C)) C.good in
        part_made (row y.address k) P C.bounded (front_of k y) (front_cases g) (i ∷ fs) d.first d.chain d.once (omega arith)
      where
        front_cases : Good (contents s).bytes y → ((k ≡ 0) × (front_of k y ≡ [])) ⊎ (Good (contents s).bytes (row y.address k) × (front_of k y ≡ row y.address k ∷ []))
        front_cases g = go (eqb k 0) refl
          where
            go : (t : Bool) → eqb k 0 ≡ t → ((k ≡ 0) × (cond t [] (row y.address k ∷ []) ≡ [])) ⊎ (Good (contents s).bytes (row y.address k) × (cond t [] (row y.address k ∷ []) ≡ row y.address k ∷ []))
            go true e = inl (eqb-true k 0 e, refl)
            go false e =
                let ne : k ≡ 0 → ⊥ = eqb-false k 0 e in
                let short : y.length ≤ 256 = g.1 in
                let inside : y.address + y.length ≤ length (contents s).bytes = g.2 in
                inr ((omega arith, omega arith, omega arith), refl)

    pub no_front : {e : Unsound} {r : Result Ends Unsound} → r₁ ≡ Err e → EndsKept means contents s s₁ rs rs₂ f f₂ i k j r
    no_front bad = record {
      keeps = λ x v fs C. absurd (ok_err (first_part x v fs C).ok bad);
      few_reads = λ x v fs C. absurd (ok_err (first_part x v fs C).ok bad);
      same_bytes = P.same_bytes;
      same_capacity = P.same_capacity;
    }

    module _ {s₂ : S} {la ll : ℕ} {rs₃ : List (Record PieceRow V)} {f₃ : Link} {F : Option Digit} {r₂ : Result (Option Digit) Unsound} (got-f : r₁ ≡ Ok F)
        (la-is : la ≡ min (y.address + j) 4294967295) (ll-is : ll ≡ y.length - j) (P' : PartPut means contents s₁ s₂ rs₂ rs₃ f₂ f₃ (row la ll) r₂) where
      last_part : (x : PieceRow) (v : V) (fs : List ℕ) (C : Cuttable means contents s rs f i k j x v fs) → PartMade means (contents s₁).bytes rs₂ rs₃ f₃ r₂ (rest_of j y) (first_part x v fs C).fs'
      last_part x v fs C =
          let A = first_part x v fs C in
          let g : Good (contents s).bytes y = subst (Good (contents s).bytes) (sym (read_row rd got C)) C.good in
          let g₁ : Good (contents s₁).bytes y = subst (λ (l : List ℕ). Good l y) (sym P.same_bytes) g in
          let le : length (contents s).bytes ≤ (contents s).capacity = C.bounded.0 in
          let cl : (contents s).capacity ≤ largest = C.bounded.1 in
          let b₁ : Bounded contents s₁ = (omega (arith, ap length P.same_bytes, P.same_capacity), omega (arith, P.same_capacity)) in
          let inside : y.address + y.length ≤ length (contents s).bytes = g.2 in
          part_made (row la ll) P' b₁ (rest_of j y) (rest_cases g₁ (omega arith)) A.fs' A.first A.chain (λ q. omega (arith, A.kept q, C.once q)) (omega (arith, A.long, C.long))
        where
          rest_cases : Good (contents s₁).bytes y → y.address + y.length ≤ 4294967295 → ((ll ≡ 0) × (rest_of j y ≡ [])) ⊎ (Good (contents s₁).bytes (row la ll) × (rest_of j y ≡ row la ll ∷ []))
          rest_cases g small = go (leb y.length j) refl
            where
              go : (t : Bool) → leb y.length j ≡ t → ((ll ≡ 0) × (cond t [] (row (y.address + j) (y.length - j) ∷ []) ≡ [])) ⊎ (Good (contents s₁).bytes (row la ll) × (cond t [] (row (y.address + j) (y.length - j) ∷ []) ≡ row la ll ∷ []))
              go true e = let le : y.length ≤ j = leb-true y.length j e in inl (omega arith, refl)
              go false e =
                  let lt : j < y.length = leb-false y.length j e in
                  let short : y.length ≤ 256 = g.1 in
                  let inside : y.address + y.length ≤ length (contents s₁).bytes = g.2 in
                  let a : y.address + j ≡ la = omega arith in
                  let n : y.length - j ≡ ll = omega arith in
                  inr ((omega arith, omega arith, omega arith), rows_same a n)
                where
                  rows_same : {a b m n : ℕ} → a ≡ b → m ≡ n → row a m ∷ [] ≡ row b n ∷ []
                  rows_same p q = cc

      pub no_back : {e : Unsound} {r : Result Ends Unsound} → r₂ ≡ Err e → EndsKept means contents s s₂ rs rs₃ f f₃ i k j r
      no_back bad = record {
        keeps = λ x v fs C. absurd (ok_err (last_part x v fs C).ok bad);
        few_reads = λ x v fs C. absurd (ok_err (last_part x v fs C).ok bad);
        same_bytes = P'.same_bytes ∙ P.same_bytes;
        same_capacity = P'.same_capacity ∙ P.same_capacity;
      }

      pub both_put : {E : Option Digit} → r₂ ≡ Ok E → EndsKept means contents s s₂ rs rs₃ f f₃ i k j (Ok (record { front = F; back = E }))
      both_put {E} got-e = record {
        keeps = λ x v fs C.
            let D = freed x v fs C in
            let A = first_part x v fs C in
            let Z = last_part x v fs C in
            let is : y ≡ x = read_row rd got C in
            let bs : (contents s₁).bytes ≡ (contents s).bytes = P.same_bytes in
            let shape : Ok (record { front = F; back = E }) ≡ Ok (record { front = part_of A.Q; back = part_of Z.Q }) =
            ends_same (ok_same got-f A.ok) (ok_same got-e Z.ok) in record {
              F = A.Q;
              G = Z.Q;
              fs' = Z.fs';
              js = A.js ++ Z.js;
              ok = shape;
              first = Z.first;
              rows_front = A.rows_are ∙ ap (front_of k) is;
              rows_back = Z.rows_are ∙ ap (rest_of j) is;
              small_front = A.small;
              small_back = Z.small;
              fit_front = frame_part Z.frame (mean means (bytes_of (contents s).bytes)) A.Q 0 (λ q. omega (arith, A.kept q, C.once q)) A.fit;
              fit_back = subst (λ (l : List ℕ). FitPart (mean means (bytes_of l)) rs₃ Z.Q 0) bs Z.fit;
              chain = Z.chain;
              kept = λ q. omega (arith, A.kept q, Z.kept q);
              frame = off_more _ (λ q z. omega (arith, A.kept q)) (off_then D.put_free.off (off_then A.frame Z.frame));
              spent = omega (arith, A.long, Z.long);
              few = omega (arith, length-append A.js Z.js, A.few, Z.few);
              fresh = λ q z.
                  let parts = occ_list_append A.js Z.js q in
                  calm_then (put_calm D.put_free refl q) (calm_then (A.fresh q (omega arith)) (Z.fresh q (omega arith)));
            };
        few_reads = λ x v fs C.
            let len : y.length ≡ x.length = ap (λ (q : PieceRow). q.length) (read_row rd got C) in
            let short : x.length ≤ 256 = C.good.1 in
            omega (arith, P.few, P'.few, C.order, C.within);
        same_bytes = P'.same_bytes ∙ P.same_bytes;
        same_capacity = P'.same_capacity ∙ P.same_capacity;
      }
        where
          ends_same : {a b c d : Option Digit} → a ≡ b → c ≡ d → ◌≡◌ {A = Result Ends Unsound} (Ok (record { front = a; back = c })) (Ok (record { front = b; back = d }))
          ends_same p q = cc
