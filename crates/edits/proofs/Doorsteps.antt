-- What is asked before an edit is what the rows say.
use Rattle.std.proofs.Common.{◌≡◌, ℕ, zero, suc, ◌+◌, ◌<◌, ◌≤◌, min, Bool, true, false, cond, ◌&&◌, eqb, ltb, ◌⊎◌, List, ◌∷◌, map, length, Some, None, Ok, Err, Option, Result, sym, refl, ap, ◌∙◌, subst, ap₂, inl, inr, ⊎_elim, arith}
use Rattle.std.specs.Int.{from_bool}
use Rattle.std.specs.Option.{MatchOption}
use Rattle.std.proofs.lemmas.Bool.{eq-eqb, ne_eqb, lt-ltb, le-ltb}
use Rattle.slots.specs.Post.{TreeValued}
use Rattle.slots.specs.declared.records.Record.{Record}
use Rattle.slots.specs.declared.records.Tree.{Tree}
use Rattle.slots.specs.declared.records.Unsound.{Unsound}
use Rattle.slots.specs.Ghost.{rows}
use Rattle.slots.proofs.Shapes.{ok_err, ok_same}
use Rattle.pieces.specs.Rows.{piece_of, bytes_of, sizes}
use Rattle.pieces.specs.Sound.{TextValue, text_means}
use Rattle.pieces.specs.declared.rows.PieceRow.{PieceRow}
use Rattle.pieces.proofs.RowParts.{flat_size, sizes_append}
use Rattle.plain.specs.Lists.{first_no}
use Rattle.plain.specs.Pieces.{Piece}
use Rattle.plain.specs.Machine.{limit, watched}
use Rattle.plain.specs.declared.faults.TextFault.{TextFault}
use Rattle.pieces.specs.Asked.{result_of}
use Rattle.edits.specs.Counts.{inside, start}
use Rattle.edits.specs.declared.doors.Spot.{Spot}
use Rattle.edits.specs.Doors.{insert_asked, paste_asked, cut_asked, delete_asked, SizeTold, HalvesTold, SpotTold, both_inside_of, in_one, OneTold, DoorTold, insert_door_of, paste_door_of, cut_door_of, delete_door_of}
use Rattle.edits.specs.Edges.{edge_of, Lies, EdgeFound}
use Rattle.edits.specs.declared.edges.Edge.{Edge}
use Rattle.edits.proofs.Counting.{inside_at, inside_end, inside_one, start_at}

module _ {A : Type 0} {am : List ℕ → A} {rs : List (Record PieceRow (TextValue A))} {tr : Tree} {rv : Result (TextValue A) Unsound}
    (T : TreeValued (λ _. 1) (text_means am) rs tr rv) where
  pub size_broken : {e : Unsound} {r : Result ℕ Unsound} → rv ≡ Err e → SizeTold am rs tr r
  size_broken bad = record { tells = λ B t is fit g. absurd (ok_err (T.values (bytes_of B) t 0 is fit) bad) }

  pub size_told : {v : TextValue A} → rv ≡ Ok v → SizeTold am rs tr (Ok v.left.left.bytes)
  size_told got = record { tells = λ B t is fit g. ap (λ (q : TextValue A). Ok q.left.left.bytes) (ok_same got (T.values (bytes_of B) t 0 is fit)) ∙ ap Ok (flat_size B (rows t) g) }

zero_or : (n : ℕ) → (n ≡ 0) ⊎ (n ≡ 0 → ⊥)
zero_or zero = inl refl
zero_or (suc n) = inr (λ e. omega arith)

some_none : {X : Type 0} {x : X} → Some x ≡ None → ⊥
some_none e = let z : ◌≡◌ {A = ℕ} 0 1 = cc in omega arith

some_same : {X : Type 0} {x y : X} → Some x ≡ Some y → x ≡ y
some_same e = cc

module _ {A : Type 0} {am : List ℕ → A} {rs : List (Record PieceRow (TextValue A))} {tr : Tree} {p : ℕ} {re : Result (Option Edge) Unsound}
    (E : EdgeFound am rs tr p re) where
  pub halves_broken : {e : Unsound} {r : Result Bool Unsound} → re ≡ Err e → HalvesTold am rs tr p r
  halves_broken bad = record { tells = λ B t is fit g few. ⊎_elim (λ n. absurd (ok_err n.1 bad)) (λ y. absurd (ok_err y.1 bad)) (E.lies B t is fit g few) }

  pub halves_end : re ≡ Ok None → HalvesTold am rs tr p (Ok false)
  halves_end got = record {
    tells = λ B t is fit g few. ⊎_elim (λ n. ap (λ (k : ℕ). Ok (ltb 0 k)) (sym (inside_end p (rows t) n.0))) (λ y. absurd (some_none (ok_same y.1 got))) (E.lies B t is fit g few);
  }

  -- what an edge tells of the offset
  halves_edge : {e : Edge} → re ≡ Ok (Some e) → HalvesTold am rs tr p (Ok (ltb e.start p))
  halves_edge {e} got = record {
    tells = λ B t is fit g few. ⊎_elim
        (λ o. absurd (some_none (sym (ok_same o.1 got))))
        (λ y.
        let f = y.0 in
        let e-is : edge_of f ≡ e = some_same (ok_same y.1 got) in
        let at : p ≡ e.start + f.k = f.at ∙ ap (λ (q : Edge). q.start + f.k) e-is in
        ap Ok (past_start p e.start f.k at ∙ sym (ap (λ (n : ℕ). ltb 0 n) (ap (λ (l : List PieceRow). inside p (map piece_of l)) f.text ∙ inside_at p f.k f.xs f.x f.ys f.at f.within))))
        (E.lies B t is fit g few);
  }
    where
      past_start : (q a k : ℕ) → q ≡ a + k → ltb a q ≡ ltb 0 (cond (eqb k 0) 0 1)
      past_start q a k at = ⊎_elim
          (λ (z : k ≡ 0). le-ltb _ _ (omega arith) ∙ sym (ap (λ (b : Bool). ltb 0 (cond b 0 1)) (eq-eqb k 0 z)))
          (λ (n : k ≡ 0 → ⊥). lt-ltb _ _ (omega arith) ∙ sym (ap (λ (b : Bool). ltb 0 (cond b 0 1)) (ne_eqb k 0 n)))
          (zero_or k)

  pub halves_told : {o : Option Edge} {u : Bool} → re ≡ Ok o → MatchOption o (u ≡ false) (λ e. u ≡ ltb e.start p) → HalvesTold am rs tr p (Ok u)
  halves_told {o = None} got is-u = subst (λ (b : Bool). HalvesTold am rs tr p (Ok b)) (sym is-u) (halves_end got)
  halves_told {o = Some e} got is-u = subst (λ (b : Bool). HalvesTold am rs tr p (Ok b)) (sym is-u) (halves_edge got)

module _ {A : Type 0} {am : List ℕ → A} {rs : List (Record PieceRow (TextValue A))} {tr : Tree} {p : ℕ} {z : Result ℕ Unsound} (S : SizeTold am rs tr z) where
  pub spot_no_size : {e : Unsound} {r : Result Spot TextFault} → z ≡ Err e → SpotTold am rs tr p r
  spot_no_size bad = record { tells = λ B t is fit g few. absurd (ok_err (S.tells B t is fit g) bad) }

  module _ {h : Result Bool Unsound} (H : HalvesTold am rs tr p h) where
    pub spot_no_edge : {e : Unsound} {r : Result Spot TextFault} → h ≡ Err e → SpotTold am rs tr p r
    spot_no_edge bad = record { tells = λ B t is fit g few. absurd (ok_err (H.tells B t is fit g few) bad) }

    pub spot_told : {n : ℕ} {b : Bool} → z ≡ Ok n → h ≡ Ok b → SpotTold am rs tr p (Ok (record { size = n; halves = b }))
    spot_told got got-b = record { tells = λ B t is fit g few. spots (ok_same got (S.tells B t is fit g)) (ok_same got-b (H.tells B t is fit g few)) }
      where
        spots : {a b : ℕ} {c d : Bool} → a ≡ b → c ≡ d → ◌≡◌ {A = Result Spot TextFault} (Ok (record { size = a; halves = c })) (Ok (record { size = b; halves = d }))
        spots e f = cc

-- of an offset's edge: nothing past the end, else the start of its piece
told_edge : (T : List PieceRow) (p : ℕ) (o : Option Edge) → Lies p T (Ok o)
    → ((o ≡ None) × (ltb p (sizes T) ≡ false)) ⊎ ((e : Edge) × (o ≡ Some e) × (ltb p (sizes T) ≡ true) × (e.start ≡ start p (map piece_of T)))
told_edge T p o (inl n) = inl (ok_same refl n.1, le-ltb p (sizes T) n.0)
told_edge T p o (inr y) =
    let f = y.0 in
    let st : sizes f.xs ≡ start p (map piece_of T) = sym (ap (λ (l : List PieceRow). start p (map piece_of l)) f.text ∙ start_at p f.k f.xs f.x f.ys f.at f.within) in
    let lt : p < sizes T = omega (arith, f.at, f.within, ap sizes f.text, sizes_append f.xs (f.x ∷ f.ys)) in
    inr (edge_of f, ok_same refl y.1, lt-ltb p (sizes T) lt, st)

module _ {A : Type 0} {am : List ℕ → A} {rs : List (Record PieceRow (TextValue A))} {tr : Tree} {a b : ℕ} {ra : Result (Option Edge) Unsound} (E : EdgeFound am rs tr a ra) where
  pub one_no_first : {e : Unsound} {r : Result Bool TextFault} → ra ≡ Err e → OneTold am rs tr a b r
  one_no_first bad = record { tells = λ B t is fit g few. ⊎_elim (λ n. absurd (ok_err n.1 bad)) (λ y. absurd (ok_err y.1 bad)) (E.lies B t is fit g few) }

  pub one_no_second : {rb : Result (Option Edge) Unsound} {e : Unsound} {r : Result Bool TextFault} → EdgeFound am rs tr b rb → rb ≡ Err e → OneTold am rs tr a b r
  one_no_second F bad = record { tells = λ B t is fit g few. ⊎_elim (λ n. absurd (ok_err n.1 bad)) (λ y. absurd (ok_err y.1 bad)) (F.lies B t is fit g few) }

  pub one_told : {rb : Result (Option Edge) Unsound} {o q : Option Edge} {u : Bool} → ra ≡ Ok o → EdgeFound am rs tr b rb → rb ≡ Ok q → u ≡ both_inside_of o q a → OneTold am rs tr a b (Ok u)
  one_told {o} {q} {u} got F got-q is-u = record {
    tells = λ B t is fit g few.
        ap Ok (is-u ∙ go (rows t) (told_edge (rows t) a o (subst (Lies a (rows t)) got (E.lies B t is fit g few))) (told_edge (rows t) b q (subst (Lies b (rows t)) got-q (F.lies B t is fit g few))));
  }
    where
      go : (T : List PieceRow)
          → ((o ≡ None) × (ltb a (sizes T) ≡ false)) ⊎ ((e : Edge) × (o ≡ Some e) × (ltb a (sizes T) ≡ true) × (e.start ≡ start a (map piece_of T)))
          → ((q ≡ None) × (ltb b (sizes T) ≡ false)) ⊎ ((e : Edge) × (q ≡ Some e) × (ltb b (sizes T) ≡ true) × (e.start ≡ start b (map piece_of T)))
          → both_inside_of o q a ≡ in_one a b (sizes T) (map piece_of T)
      go T (inl x) y =
          ap (λ (z : Option Edge). both_inside_of z q a) x.0
          ∙ sym (ap (λ (z : Bool). z && (ltb b (sizes T) && (ltb (start a (map piece_of T)) a && eqb (start a (map piece_of T)) (start b (map piece_of T))))) x.1)
      go T (inr x) (inl y) =
          ap₂ (λ (z w : Option Edge). both_inside_of z w a) x.1 y.0
          ∙ sym (ap₂ (λ (z w : Bool). z && (w && (ltb (start a (map piece_of T)) a && eqb (start a (map piece_of T)) (start b (map piece_of T))))) x.2 y.1)
      go T (inr x) (inr y) =
          ap₂ (λ (z w : Option Edge). both_inside_of z w a) x.1 y.1
          ∙ ap₂ (λ (m n : ℕ). ltb m a && eqb m n) x.3 y.3
          ∙ sym (ap₂ (λ (z w : Bool). z && (w && (ltb (start a (map piece_of T)) a && eqb (start a (map piece_of T)) (start b (map piece_of T))))) x.2 y.2)

-- what an offset adds to a count of pieces
as_number : (p : ℕ) (g : List Piece) → from_bool (ltb 0 (inside p g)) ≡ inside p g
as_number p g = go (inside p g) (inside_one p g)
  where
    go : (n : ℕ) → n ≤ 1 → from_bool (ltb 0 n) ≡ n
    go n le = ⊎_elim (λ (z : n ≡ 0). ap (λ (k : ℕ). from_bool (ltb 0 k)) z ∙ sym z) (λ (o : n ≡ 0 → ⊥). let one : n ≡ 1 = omega arith in ap (λ (k : ℕ). from_bool (ltb 0 k)) one ∙ sym one) (zero_or n)

-- a count that does not pass the greatest number
abbrev pub stop : ℕ → ℕ
stop n = min n 4294967295

module _ {A X : Type 0} {am : List ℕ → A} {rs : List (Record PieceRow (TextValue A))} {tr : Tree} {pieces : ℕ} {door : List PieceRow → ℕ → Result X TextFault} where
  pub door_no_spot : {p : ℕ} {rp : Result Spot TextFault} {e : TextFault} {r : Result X TextFault} → SpotTold am rs tr p rp → rp ≡ Err e → DoorTold am rs tr pieces door r
  door_no_spot S bad = record { tells = λ B t is fit g few others c top small. absurd (ok_err (S.tells B t is fit g few) bad) }

  pub door_no_one : {a b : ℕ} {ro : Result Bool TextFault} {e : TextFault} {r : Result X TextFault} → OneTold am rs tr a b ro → ro ≡ Err e → DoorTold am rs tr pieces door r
  door_no_one O bad = record { tells = λ B t is fit g few others c top small. absurd (ok_err (O.tells B t is fit g few) bad) }

three : {X Y Z W : Type 0} (f : X → Y → Z → W) {a b : X} {c d : Y} {e g : Z} → a ≡ b → c ≡ d → e ≡ g → f a c e ≡ f b d g
three f p q r = cc

module _ {A : Type 0} {am : List ℕ → A} {rs : List (Record PieceRow (TextValue A))} {tr : Tree} {pieces p : ℕ} {rp : Result Spot TextFault} {s : Spot}
    (S : SpotTold am rs tr p rp) (got : rp ≡ Ok s) {lim all : ℕ} {r : Result ℕ TextFault} (is-lim : lim ≡ limit (watched (length rs))) where
  pub insert_told : (count : ℕ) → all ≡ stop (stop (pieces + from_bool s.halves) + 1) → r ≡ result_of (first_no (insert_asked count p s.size all lim)) all
      → DoorTold am rs tr pieces (insert_door_of count p (length rs)) r
  insert_told count is_all is-r = record {
    tells = λ B t is fit g few others c top small.
        let e = ok_same got (S.tells B t is fit g few) in
        let n : s.size ≡ sizes (rows t) = ap (λ (q : Spot). q.size) e in
        let m : from_bool s.halves ≡ inside p (map piece_of (rows t)) = ap (λ (q : Spot). from_bool q.halves) e ∙ as_number p (map piece_of (rows t)) in
        let le = inside_one p (map piece_of (rows t)) in
        let l : lim ≡ limit (length rs) = is-lim ∙ ap limit (omega arith) in
        is-r ∙ three (λ (i j k : ℕ). result_of (first_no (insert_asked count p i j k)) j) n (omega arith) l;
  }

  pub paste_told : all ≡ stop (pieces + from_bool s.halves) → r ≡ result_of (first_no (paste_asked p s.size all lim)) all
      → DoorTold am rs tr pieces (paste_door_of p (length rs)) r
  paste_told is_all is-r = record {
    tells = λ B t is fit g few others c top small.
        let e = ok_same got (S.tells B t is fit g few) in
        let n : s.size ≡ sizes (rows t) = ap (λ (q : Spot). q.size) e in
        let m : from_bool s.halves ≡ inside p (map piece_of (rows t)) = ap (λ (q : Spot). from_bool q.halves) e ∙ as_number p (map piece_of (rows t)) in
        let le = inside_one p (map piece_of (rows t)) in
        let l : lim ≡ limit (length rs) = is-lim ∙ ap limit (omega arith) in
        is-r ∙ three (λ (i j k : ℕ). result_of (first_no (paste_asked p i j k)) j) n (omega arith) l;
  }

  pub cut_told : {b : ℕ} {rq : Result Spot TextFault} {s' : Spot} → SpotTold am rs tr b rq → rq ≡ Ok s' → all ≡ stop (stop (pieces + from_bool s.halves) + from_bool s'.halves)
      → r ≡ result_of (first_no (cut_asked p b s.size all lim)) all → DoorTold am rs tr pieces (cut_door_of p b (length rs)) r
  cut_told {b} {s' = s'} S' got' is_all is-r = record {
    tells = λ B t is fit g few others c top small.
        let e = ok_same got (S.tells B t is fit g few) in
        let e' = ok_same got' (S'.tells B t is fit g few) in
        let n : s.size ≡ sizes (rows t) = ap (λ (q : Spot). q.size) e in
        let m : from_bool s.halves ≡ inside p (map piece_of (rows t)) = ap (λ (q : Spot). from_bool q.halves) e ∙ as_number p (map piece_of (rows t)) in
        let m' : from_bool s'.halves ≡ inside b (map piece_of (rows t)) = ap (λ (q : Spot). from_bool q.halves) e' ∙ as_number b (map piece_of (rows t)) in
        let le = inside_one p (map piece_of (rows t)) in
        let le' = inside_one b (map piece_of (rows t)) in
        let l : lim ≡ limit (length rs) = is-lim ∙ ap limit (omega arith) in
        is-r ∙ three (λ (i j k : ℕ). result_of (first_no (cut_asked p b i j k)) j) n (omega arith) l;
  }

module _ {A : Type 0} {am : List ℕ → A} {rs : List (Record PieceRow (TextValue A))} {tr : Tree} {pieces p : ℕ} {rp : Result Spot TextFault} {s : Spot}
    (S : SpotTold am rs tr p rp) (got : rp ≡ Ok s) {lim : ℕ} (is-lim : lim ≡ limit (watched (length rs))) where
  pub delete_told : {a : ℕ} {ro : Result Bool TextFault} {one : Bool} {r' : Result (Unit {0}) TextFault} → OneTold am rs tr a p ro → ro ≡ Ok one
      → r' ≡ result_of (first_no (delete_asked a p s.size one pieces lim)) tt → DoorTold am rs tr pieces (delete_door_of a p (length rs)) r'
  delete_told {a} {one = one} O got-o is-r = record {
    tells = λ B t is fit g few others c top small.
        let e = ok_same got (S.tells B t is fit g few) in
        let n : s.size ≡ sizes (rows t) = ap (λ (q : Spot). q.size) e in
        let u : one ≡ in_one a p (sizes (rows t)) (map piece_of (rows t)) = ok_same got-o (O.tells B t is fit g few) in
        let l : lim ≡ limit (length rs) = is-lim ∙ ap limit (omega arith) in
        is-r ∙ three (λ (i : ℕ) (j : Bool) (k : ℕ). result_of (first_no (delete_asked a p i j pieces k)) tt) n u l
        ∙ ap (λ (c : ℕ). result_of (first_no (delete_asked a p (sizes (rows t)) (in_one a p (sizes (rows t)) (map piece_of (rows t))) c (limit (length rs)))) tt) c;
  }
