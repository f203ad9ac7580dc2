-- What is asked before a delete or a cut is what the machine asks.
use Rattle.std.proofs.Common.{◌≡◌, ℕ, ◌+◌, ◌-◌, ◌<◌, ◌≤◌, Bool, true, false, cond, not, ◌&&◌, ◌||◌, eqb, ltb, leb, ◌⊎◌, List, [], ◌∷◌, ◌++◌, map, length, sym, refl, ap, ◌∙◌, inl, inr, ⊎_elim, arith, length-drop, length-take}
use Rattle.std.proofs.lemmas.Bool.{leb-true, ltb-true, eqb-true, le-leb, lt-leb, lt-ltb, le-ltb, eq-eqb, ne_eqb, and_parts, and_from, cases_lt}
use Rattle.plain.specs.Lists.{first_no}
use Rattle.plain.specs.Pieces.{Piece, spell, before, after, between}
use Rattle.plain.specs.Machine.{limit, size, delete, cut, roomy, asked}
use Rattle.plain.specs.declared.calls.Call.TheVariants.{Delete, Cut}
use Rattle.plain.specs.declared.faults.TextFault.{TextFault}
use Rattle.plain.specs.declared.faults.TextFault.TheVariants.{Offset, Pieces}
use Rattle.plain.proofs.Spelling.{spell_before, spell_after, good_before}
use Rattle.measures.specs.declared.mark_totals.MarkRow.{MarkRow}
use Rattle.measures.specs.declared.mark_totals.MarkTotals.{MarkTotals}
use Rattle.slots.specs.Ghost.{rows}
use Rattle.slots.specs.declared.records.Tree.TheVariants.{Empty}
use Rattle.slots.specs.declared.records.Record.{Record}
use Rattle.pieces.specs.Rows.{piece_of, AllGood, sizes}
use Rattle.pieces.specs.Sound.{TextValue, Sound, whole}
use Rattle.pieces.specs.declared.rows.PieceRow.{PieceRow}
use Rattle.pieces.specs.declared.head.Head.{Head}
use Rattle.pieces.proofs.RowParts.{length_map}
use Rattle.edits.specs.Counts.{inside, start}
use Rattle.edits.specs.Doors.{cut_asked, delete_asked, in_one}
use Rattle.edits.proofs.Counting.{cut_count, dropped, inside_end, inside_one}
use Rattle.head_edits.specs.Performing.{all_pieces}
use Rattle.head_edits.proofs.Standing.{no_rows, spelled_size, spelled_by, text_size}

-- an offset before the end is strictly inside a piece where the piece starts before it
pub inside_past : (p : ℕ) (T : List PieceRow) → p < sizes T → start p (map piece_of T) < p → inside p (map piece_of T) ≡ 1
unfolding inside start
inside_past p [] h l = absurd (omega arith)
inside_past p (x ∷ xs) h l = go (leb x.length p) refl (inside_past (p - x.length) xs) l
  where
    go : (b : Bool) → leb x.length p ≡ b → (p - x.length < sizes xs → start (p - x.length) (map piece_of xs) < p - x.length → inside (p - x.length) (map piece_of xs) ≡ 1)
        → cond b (x.length + start (p - x.length) (map piece_of xs)) 0 < p → cond b (inside (p - x.length) (map piece_of xs)) (cond (eqb p 0) 0 1) ≡ 1
    go true e ih l = let le : x.length ≤ p = leb-true x.length p e in ih (omega arith) (omega arith)
    go false e ih l = ap (λ (z : Bool). cond z 0 1) (ne_eqb p 0 (λ z. omega arith))

pub inside_start : (p : ℕ) (T : List PieceRow) → p < sizes T → p ≤ start p (map piece_of T) → inside p (map piece_of T) ≡ 0
unfolding inside start
inside_start p [] h l = absurd (omega arith)
inside_start p (x ∷ xs) h l = go (leb x.length p) refl (inside_start (p - x.length) xs) l
  where
    go : (b : Bool) → leb x.length p ≡ b → (p - x.length < sizes xs → p - x.length ≤ start (p - x.length) (map piece_of xs) → inside (p - x.length) (map piece_of xs) ≡ 0)
        → p ≤ cond b (x.length + start (p - x.length) (map piece_of xs)) 0 → cond b (inside (p - x.length) (map piece_of xs)) (cond (eqb p 0) 0 1) ≡ 0
    go true e ih l = let le : x.length ≤ p = leb-true x.length p e in ih (omega arith) (omega arith)
    go false e ih l = ap (λ (z : Bool). cond z 0 1) (eq-eqb p 0 (omega arith))

-- pieces that spell something are some
some_spell : (B : List ℕ) (g : List Piece) → 1 ≤ length (spell B g) → 1 ≤ length g
some_spell B [] h = absurd (omega arith)
some_spell B (x ∷ g) h = omega arith

between_some : (B : List ℕ) (T : List PieceRow) (a b : ℕ) → AllGood B T → a < b → b ≤ sizes T → 1 ≤ length (between a b (map piece_of T))
between_some B T a b g lt le =
    let e : spell B (between a b (map piece_of T)) ≡ lib.ListN.drop a (lib.ListN.take b (spell B (map piece_of T))) =
    spell_after B (before b (map piece_of T)) a (good_before B (map piece_of T) b g) ∙ ap (lib.ListN.drop a) (spell_before B (map piece_of T) b g) in
    let n : length (lib.ListN.drop a (lib.ListN.take b (spell B (map piece_of T)))) ≡ b - a = simp (length-drop, length-take) (omega (arith, spelled_size B T g)) in
    some_spell B (between a b (map piece_of T)) (omega (arith, ap length e))

-- a second question counts only where the first is answered with yes
pub second_same : (p x y : Bool) (f f' : TextFault) → (p ≡ true → x ≡ y) → first_no ((p, f) ∷ (x, f') ∷ []) ≡ first_no ((p, f) ∷ (y, f') ∷ [])
second_same true x y f f' e = ap (λ (z : Bool). first_no ((true, f) ∷ (z, f') ∷ [])) (e refl)
second_same false x y f f' e = refl

-- one piece more or none: what the limit says of them
one_more : (n top : ℕ) → leb (n + 1) top ≡ ltb n top
one_more n top = ⊎_elim (λ (h : n < top). le-leb (n + 1) top (omega arith) ∙ sym (lt-ltb n top h)) (λ (h : top ≤ n). lt-leb (n + 1) top (omega arith) ∙ sym (le-ltb n top h)) (cases_lt n top)

module _ (B : List ℕ) (T : List PieceRow) (a b top : ℕ) (g : AllGood B T) (lt : a < b) (le : b ≤ sizes T) (few : length T ≤ top) where
  abbrev left : ℕ
  left = length (before a (map piece_of T) ++ after b (map piece_of T))

  abbrev gone : ℕ
  gone = length (between a b (map piece_of T))

  counted : left + gone ≡ length T + (inside a (map piece_of T) + inside b (map piece_of T))
  counted = omega (arith, cut_count a b (map piece_of T) lt, length_map piece_of T)

  both_in : in_one a b (sizes T) (map piece_of T) ≡ true → left ≡ length T + 1
  both_in e =
      let y = and_parts _ _ e in
      let z = and_parts _ _ y.1 in
      let w = and_parts _ _ z.1 in
      let b-in : b < sizes T = ltb-true _ _ z.0 in
      let a-past : start a (map piece_of T) < a = ltb-true _ _ w.0 in
      let same_start : start a (map piece_of T) ≡ start b (map piece_of T) = eqb-true _ _ w.1 in
      let ia : inside a (map piece_of T) ≡ 1 = inside_past a T (omega arith) a-past in
      let ib : inside b (map piece_of T) ≡ 1 = inside_past b T b-in (omega arith) in
      omega (arith, counted, (dropped a b (map piece_of T) lt ia ib).one same_start)

  apart : in_one a b (sizes T) (map piece_of T) ≡ false → left ≤ length T
  apart e = by (cases_lt (start a (map piece_of T)) a) (cases_lt b (sizes T)) (cases_lt (start b (map piece_of T)) b)
    where
      ones : (inside a (map piece_of T) + inside b (map piece_of T) ≤ 1) → left ≤ length T
      ones h = omega (arith, counted, between_some B T a b g lt le)

      twice : start a (map piece_of T) < a → b < sizes T → start b (map piece_of T) < b → left ≤ length T
      twice pa bn pb =
          let differ : start a (map piece_of T) ≡ start b (map piece_of T) → ⊥ = λ same_start.
          let yes' : in_one a b (sizes T) (map piece_of T) ≡ true =
          and_from _ _ (lt-ltb a (sizes T) (omega arith)) (and_from _ _ (lt-ltb b (sizes T) bn) (and_from _ _ (lt-ltb _ a pa) (eq-eqb _ _ same_start))) in
          let z : ◌≡◌ {A = ℕ} 0 1 = ap (λ (t : Bool). cond t 0 1) (sym yes' ∙ e) in omega arith in
          omega (arith, counted, inside_one a (map piece_of T), inside_one b (map piece_of T), (dropped a b (map piece_of T) lt (inside_past a T (omega arith) pa) (inside_past b T bn pb)).more differ)

      by : (start a (map piece_of T) < a) ⊎ (a ≤ start a (map piece_of T)) → (b < sizes T) ⊎ (sizes T ≤ b) → (start b (map piece_of T) < b) ⊎ (b ≤ start b (map piece_of T)) → left ≤ length T
      by (inr h) y z = ones (omega (arith, inside_start a T (omega arith) h, inside_one b (map piece_of T)))
      by (inl h) (inr y) z = ones (omega (arith, inside_end b T y, inside_one a (map piece_of T)))
      by (inl h) (inl y) (inr z) = ones (omega (arith, inside_start b T y z, inside_one a (map piece_of T)))
      by (inl h) (inl y) (inl z) = twice h y z

  pub delete_room : leb left top ≡ (not (in_one a b (sizes T) (map piece_of T)) || ltb (length T) top)
  delete_room = by (in_one a b (sizes T) (map piece_of T)) refl
    where
      by : (o : Bool) → in_one a b (sizes T) (map piece_of T) ≡ o → leb left top ≡ (not o || ltb (length T) top)
      by true e = ap (λ (n : ℕ). leb n top) (both_in e) ∙ one_more (length T) top
      by false e = le-leb left top (omega (arith, apart e))

module _ {A : Type 0} {am : List ℕ → A} {B : List ℕ} {rs : List (Record PieceRow (TextValue A))} {ms : List (Record MarkRow MarkTotals)} {h : Head} (K : Sound am B rs ms h) (i : h.clip ≡ Empty) (c a b : ℕ) where
  no_clip_lem : length (rows K.k) ≡ 0
  no_clip_lem = ap length (no_rows K.k (K.text.clip ∙ i))

  -- the text is not as long as b, or a is not before b: refused alike
  same_edges : (ltb a b && leb b (size (spelled_by whole c K))) ≡ (ltb a b && leb b (sizes (rows K.t)))
  same_edges = ap (λ (n : ℕ). ltb a b && leb b n) (text_size whole c K)

  pub delete_asks : first_no (asked (spelled_by whole c K) (Delete a b)) ≡ first_no (delete_asked a b (sizes (rows K.t)) (in_one a b (sizes (rows K.t)) (map piece_of (rows K.t))) (length (rows K.t) + length (rows K.k)) (limit (length rs)))
  delete_asks =
      ap (λ (z : Bool). first_no ((z, Offset) ∷ (roomy (delete a b (spelled_by whole c K)), Pieces) ∷ [])) same_edges
      ∙ second_same (ltb a b && leb b (sizes (rows K.t))) _ _ Offset Pieces
      (λ e.
      let y = and_parts _ _ e in
      ap (λ (n : ℕ). leb n (limit (length rs))) (omega arith) ∙ delete_room B (rows K.t) a b (limit (length rs)) K.good (ltb-true _ _ y.0) (leb-true _ _ y.1) (omega (arith, K.text.few))
      ∙ ap (λ (n : ℕ). not (in_one a b (sizes (rows K.t)) (map piece_of (rows K.t))) || ltb n (limit (length rs))) (omega (arith, no_clip_lem)))

  -- how many pieces there are after a cut
  abbrev pub count : ℕ
  count = length (rows K.t) + length (rows K.k) + inside a (map piece_of (rows K.t)) + inside b (map piece_of (rows K.t))

  pub count_is : a < b → count ≡ all_pieces (cut a b (spelled_by whole c K))
  count_is lt = omega (arith, cut_count a b (map piece_of (rows K.t)) lt, length_map piece_of (rows K.t), no_clip_lem)

  pub cut_asks : first_no (asked (spelled_by whole c K) (Cut a b)) ≡ first_no (cut_asked a b (sizes (rows K.t)) count (limit (length rs)))
  cut_asks =
      ap (λ (z : Bool). first_no ((z, Offset) ∷ (roomy (cut a b (spelled_by whole c K)), Pieces) ∷ [])) same_edges
      ∙ second_same (ltb a b && leb b (sizes (rows K.t))) _ _ Offset Pieces (λ e. ap (λ (n : ℕ). leb n (limit (length rs))) (sym (count_is (ltb-true _ _ (and_parts _ _ e).0))))
