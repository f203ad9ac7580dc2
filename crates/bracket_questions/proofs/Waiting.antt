-- The opens that wait while a text is read, and what becomes of the bracket at an offset.
use Rattle.std.proofs.Common.{◌≡◌, ℕ, zero, suc, ◌+◌, ◌-◌, ◌<◌, ◌≤◌, Bool, true, false, cond, ◌||◌, eqb, ◌⊎◌, List, [], ◌∷◌, ◌++◌, map, length, get_or, drop, Some, None, sym, refl, ap, ◌∙◌, ap₂, inl, inr, append_assoc, append-nil, arith}
use mathlib.Core.List.{tail}
use Rattle.std.proofs.lemmas.Bool.{eqb-true, eq-eqb, ne_eqb, cond-true, cond-false, or_from, or_left, or_right}
use Rattle.std.specs.Option.{option_map}
use Rattle.plain.specs.Lists.{at, find, count}
use Rattle.plain.specs.Tokens.{step, end_state}
use Rattle.plain.specs.Brackets.{Settled, pair, stray, unmet, waiting, closed, settled, brackets_from, brackets, is_stray, is_unmet, touches, fitting}
use Rattle.plain.specs.Questions.{against, bracket_of_offset}
use Rattle.plain.specs.declared.answers.Match.TheVariants.{Fits, Crossed}
use Rattle.plain.specs.declared.answers.Bracket.TheVariants.{Paired, Alone}
use Rattle.measures.specs.Counts.{count_append}
use Rattle.lexer.specs.Reading.{read_from}
use Rattle.bracket_questions.specs.Waiting.{waited}

-- what is settled while a list is read
abbrev pub settled_in : ℕ → ℕ → List ℕ → List ℕ → List Settled
settled_in s i os [] = []
settled_in s i os (b ∷ bs) = let n = (step s b).0 in settled n i os ++ settled_in n (suc i) (waiting n i os) bs

pub read_on : (s i : ℕ) (os xs ys : List ℕ) → brackets_from s i os (xs ++ ys) ≡ settled_in s i os xs ++ brackets_from (end_state s xs) (i + length xs) (waited s i os xs) ys
read_on s i os [] ys = ap (λ (j : ℕ). brackets_from s j os ys) (omega arith)
read_on s i os (x ∷ xs) ys =
    let n = (step s x).0 in
    ap (λ (r : List Settled). settled n i os ++ r) (read_on n (suc i) (waiting n i os) xs ys)
    ∙ sym (append_assoc (settled n i os) (settled_in n (suc i) (waiting n i os) xs) (brackets_from (end_state n xs) (suc i + length xs) (waited n (suc i) (waiting n i os) xs) ys))
    ∙ ap (λ (j : ℕ). (settled n i os ++ settled_in n (suc i) (waiting n i os) xs) ++ brackets_from (end_state n xs) j (waited n (suc i) (waiting n i os) xs) ys) (omega arith)

pub waited_append : (s i : ℕ) (os xs ys : List ℕ) → waited s i os (xs ++ ys) ≡ waited (end_state s xs) (i + length xs) (waited s i os xs) ys
waited_append s i os [] ys = ap (λ (j : ℕ). waited s j os ys) (omega arith)
waited_append s i os (x ∷ xs) ys =
    let n = (step s x).0 in
    waited_append n (suc i) (waiting n i os) xs ys
    ∙ ap (λ (j : ℕ). waited (end_state n xs) j (waited n (suc i) (waiting n i os) xs) ys) (omega arith)

-- how a byte that leads to state n may change what waits: it is an open, a close or neither
pub data Turn (n : ℕ) : Type 0 where
  opens : n ≡ 6 → Turn n
  closes : n ≡ 7 → Turn n
  quiet : eqb n 6 ≡ false → eqb n 7 ≡ false → Turn n

pub turn_of : (n : ℕ) → Turn n
turn_of n = by (eqb n 6) (eqb n 7) refl refl
  where
    by : (x y : Bool) → eqb n 6 ≡ x → eqb n 7 ≡ y → Turn n
    by true y e f = opens (eqb-true n 6 e)
    by false true e f = closes (eqb-true n 7 f)
    by false false e f = quiet e f

pub quiet_waiting : (n i : ℕ) (os : List ℕ) → eqb n 6 ≡ false → eqb n 7 ≡ false → waiting n i os ≡ os
quiet_waiting n i os e f = ap₂ (λ (x y : Bool). cond x (i ∷ os) (cond y (tail os) os)) e f

pub quiet_settled : (n i : ℕ) (os : List ℕ) → eqb n 7 ≡ false → settled n i os ≡ []
quiet_settled n i os f = ap (λ (y : Bool). cond y (closed os i ∷ []) []) f

-- Nothing at p: none of the offsets is p.
abbrev pub Misses : ℕ → List ℕ → Type 0
Misses p [] = Unit {0}
Misses p (o ∷ os) = (eqb o p ≡ false) × Misses p os

-- the part from i, n bytes long, does not hold p
abbrev pub Clear : ℕ → ℕ → ℕ → Type 0
Clear p i n = (i + n ≤ p) ⊎ (p < i)

clear_first : (p i n : ℕ) → Clear p i (suc n) → eqb i p ≡ false
clear_first p i n (inl h) = ne_eqb i p (λ e. omega arith)
clear_first p i n (inr h) = ne_eqb i p (λ e. omega arith)

clear_rest : (p i n : ℕ) → Clear p i (suc n) → Clear p (suc i) n
clear_rest p i n (inl h) = inl (omega arith)
clear_rest p i n (inr h) = inr (omega arith)

misses_tail : (p : ℕ) (os : List ℕ) → Misses p os → Misses p (tail os)
misses_tail p [] m = tt
misses_tail p (o ∷ os) m = m.1

misses_waiting : (p n i : ℕ) (os : List ℕ) → eqb i p ≡ false → Misses p os → Misses p (waiting n i os)
misses_waiting p n i os e m = by (eqb n 6) (eqb n 7)
  where
    by : (x y : Bool) → Misses p (cond x (i ∷ os) (cond y (tail os) os))
    by true y = (e, m)
    by false true = misses_tail p os m
    by false false = m

pub misses_waited : (p s i : ℕ) (os bs : List ℕ) → Misses p os → Clear p i (length bs) → Misses p (waited s i os bs)
misses_waited p s i os [] m c = m
misses_waited p s i os (b ∷ bs) m c =
    misses_waited p (step s b).0 (suc i) (waiting (step s b).0 i os) bs
    (misses_waiting p (step s b).0 i os (clear_first p i (length bs) c) m) (clear_rest p i (length bs) c)

pub find_past : {X : Type 0} (f : X → Bool) (xs ys : List X) → find f xs ≡ None → find f (xs ++ ys) ≡ find f ys
find_past f [] ys e = refl
find_past f (x ∷ xs) ys e = by (f x) (find_past f xs ys) e
  where
    by : (y : Bool) → (find f xs ≡ None → find f (xs ++ ys) ≡ find f ys) → cond y (Some x) (find f xs) ≡ None → cond y (Some x) (find f (xs ++ ys)) ≡ find f ys
    by true ih e = let z : ◌≡◌ {A = ℕ} 0 1 = cc in absurd (omega arith)
    by false ih e = ih e

settled_misses : (p n i : ℕ) (os : List ℕ) → eqb i p ≡ false → Misses p os → find (touches p) (settled n i os) ≡ None
settled_misses p n i os e m = by (eqb n 7) os m
  where
    by : (y : Bool) (os : List ℕ) → Misses p os → find (touches p) (cond y (closed os i ∷ []) []) ≡ None
    by true [] m = cond-false (eqb i p) (Some (stray i)) None e
    by true (o ∷ os) m = cond-false (eqb o p || eqb i p) (Some (pair o i)) None (or_from (eqb o p) (eqb i p) m.0 e)
    by false os m = refl

pub settled_in_misses : (p s i : ℕ) (os bs : List ℕ) → Misses p os → Clear p i (length bs) → find (touches p) (settled_in s i os bs) ≡ None
settled_in_misses p s i os [] m c = refl
settled_in_misses p s i os (b ∷ bs) m c =
    let n = (step s b).0 in
    let e = clear_first p i (length bs) c in
    find_past (touches p) (settled n i os) (settled_in n (suc i) (waiting n i os) bs) (settled_misses p n i os e m)
    ∙ settled_in_misses p n (suc i) (waiting n i os) bs (misses_waiting p n i os e m) (clear_rest p i (length bs) c)

unmet_misses : (p : ℕ) (os : List ℕ) → Misses p os → find (touches p) (map unmet os) ≡ None
unmet_misses p [] m = refl
unmet_misses p (o ∷ os) m = cond-false (eqb o p) (Some (unmet o)) (find (touches p) (map unmet os)) m.0 ∙ unmet_misses p os m.1

pub brackets_miss : (p s i : ℕ) (os bs : List ℕ) → Misses p os → Clear p i (length bs) → find (touches p) (brackets_from s i os bs) ≡ None
brackets_miss p s i os [] m c = unmet_misses p os m
brackets_miss p s i os (b ∷ bs) m c =
    let n = (step s b).0 in
    let e = clear_first p i (length bs) c in
    find_past (touches p) (settled n i os) (brackets_from n (suc i) (waiting n i os) bs) (settled_misses p n i os e m)
    ∙ brackets_miss p n (suc i) (waiting n i os) bs (misses_waiting p n i os e m) (clear_rest p i (length bs) c)

-- An open at p waits below those of ws: the first close that has none of these left pairs with it.
module _ (p : ℕ) where
  open_step : (n i : ℕ) (ws os : List ℕ) → p < i → Misses p ws → count is_stray (settled n i ws) ≡ 0
      → (find (touches p) (settled n i (ws ++ (p ∷ os))) ≡ None) × (waiting n i (ws ++ (p ∷ os)) ≡ waiting n i ws ++ (p ∷ os)) × Misses p (waiting n i ws)
  open_step n i ws os l m none = by (eqb n 6) (eqb n 7) ws m none
    where
      e : eqb i p ≡ false
      e = ne_eqb i p (λ h. omega arith)

      by : (x y : Bool) (ws : List ℕ) → Misses p ws → count is_stray (cond y (closed ws i ∷ []) []) ≡ 0
          → (find (touches p) (cond y (closed (ws ++ (p ∷ os)) i ∷ []) []) ≡ None)
          × (cond x (i ∷ (ws ++ (p ∷ os))) (cond y (tail (ws ++ (p ∷ os))) (ws ++ (p ∷ os))) ≡ cond x (i ∷ ws) (cond y (tail ws) ws) ++ (p ∷ os))
          × Misses p (cond x (i ∷ ws) (cond y (tail ws) ws))
      by x true [] m none = absurd (omega arith)
      by true true (w ∷ ws) m none = (cond-false (eqb w p || eqb i p) (Some (pair w i)) None (or_from (eqb w p) (eqb i p) m.0 e), refl, (e, m))
      by false true (w ∷ ws) m none = (cond-false (eqb w p || eqb i p) (Some (pair w i)) None (or_from (eqb w p) (eqb i p) m.0 e), refl, m.1)
      by true false ws m none = (refl, refl, (e, m))
      by false false ws m none = (refl, refl, m)

  pub open_unmet : (s i : ℕ) (ws os bs : List ℕ) → p < i → Misses p ws → count is_stray (settled_in s i ws bs) ≡ 0 → find (touches p) (brackets_from s i (ws ++ (p ∷ os)) bs) ≡ Some (unmet p)
  open_unmet s i ws os [] l m none = below ws m
    where
      below : (ws : List ℕ) → Misses p ws → find (touches p) (map unmet (ws ++ (p ∷ os))) ≡ Some (unmet p)
      below [] m = cond-true (eqb p p) (Some (unmet p)) (find (touches p) (map unmet os)) (eq-eqb p p refl)
      below (w ∷ ws) m = cond-false (eqb w p) (Some (unmet w)) (find (touches p) (map unmet (ws ++ (p ∷ os)))) m.0 ∙ below ws m.1
  open_unmet s i ws os (b ∷ bs) l m none =
      let n = (step s b).0 in
      let parts = count_append is_stray (settled n i ws) (settled_in n (suc i) (waiting n i ws) bs) in
      let o = open_step n i ws os l m (omega arith) in
      find_past (touches p) (settled n i (ws ++ (p ∷ os))) (brackets_from n (suc i) (waiting n i (ws ++ (p ∷ os))) bs) o.0
      ∙ ap (λ (W : List ℕ). find (touches p) (brackets_from n (suc i) W bs)) o.1
      ∙ open_unmet n (suc i) (waiting n i ws) os bs (omega arith) o.2 (omega arith)

  pub open_paired : (s i : ℕ) (ws os us : List ℕ) (c : ℕ) (vs : List ℕ) → p < i → Misses p ws → count is_stray (settled_in s i ws us) ≡ 0
      → waited s i ws us ≡ [] → (step (end_state s us) c).0 ≡ 7 → find (touches p) (brackets_from s i (ws ++ (p ∷ os)) (us ++ (c ∷ vs))) ≡ Some (pair p (i + length us))
  open_paired s i ws os [] c vs l m none empty shut =
      let n = (step s c).0 in
      let rest = brackets_from n (suc i) (waiting n i (ws ++ (p ∷ os))) vs in
      ap₂ (λ (q : ℕ) (W : List ℕ). find (touches p) (settled q i (W ++ (p ∷ os)) ++ rest)) shut empty
      ∙ cond-true (eqb p p || eqb i p) (Some (pair p i)) (find (touches p) rest) (or_left (eqb p p) (eqb i p) (eq-eqb p p refl))
      ∙ ap (λ (j : ℕ). Some (pair p j)) (omega arith)
  open_paired s i ws os (b ∷ us) c vs l m none empty shut =
      let n = (step s b).0 in
      let parts = count_append is_stray (settled n i ws) (settled_in n (suc i) (waiting n i ws) us) in
      let o = open_step n i ws os l m (omega arith) in
      find_past (touches p) (settled n i (ws ++ (p ∷ os))) (brackets_from n (suc i) (waiting n i (ws ++ (p ∷ os))) (us ++ (c ∷ vs))) o.0
      ∙ ap (λ (W : List ℕ). find (touches p) (brackets_from n (suc i) W (us ++ (c ∷ vs)))) o.1
      ∙ open_paired n (suc i) (waiting n i ws) os us c vs (omega arith) o.2 (omega arith) empty shut
      ∙ ap (λ (j : ℕ). Some (pair p j)) (omega arith)

-- The bracket at p, where the text is parted before and after it.
module _ (xs : List ℕ) (b : ℕ) (ys : List ℕ) (p : ℕ) (at_p : p ≡ length xs) where
  -- the state that the byte leads to, and what waits before it
  abbrev led : ℕ
  led = (step (end_state 0 xs) b).0

  abbrev here : List ℕ
  here = waited 0 0 [] xs

  missed : Misses p here
  missed = misses_waited p 0 0 [] xs tt (inl (omega arith))

  parted : find (touches p) (brackets (xs ++ (b ∷ ys))) ≡ find (touches p) (settled led p here ++ brackets_from led (suc p) (waiting led p here) ys)
  parted =
      let place : 0 + length xs ≡ p = omega arith in
      ap (find (touches p)) (read_on 0 0 [] xs (b ∷ ys))
      ∙ find_past (touches p) (settled_in 0 0 [] xs) (brackets_from (end_state 0 xs) (0 + length xs) here (b ∷ ys)) (settled_in_misses p 0 0 [] xs tt (inl (omega arith)))
      ∙ ap (λ (j : ℕ). find (touches p) (brackets_from (end_state 0 xs) j here (b ∷ ys))) place

  pub no_bracket : eqb led 6 ≡ false → eqb led 7 ≡ false → bracket_of_offset (xs ++ (b ∷ ys)) p ≡ None
  no_bracket e f =
      ap (option_map (against (xs ++ (b ∷ ys)) p)) (
      parted
      ∙ ap₂ (λ (r : List Settled) (W : List ℕ). find (touches p) (r ++ brackets_from led (suc p) W ys)) (quiet_settled led p here f) (quiet_waiting led p here e f)
      ∙ brackets_miss p led (suc p) here ys missed (inr (omega arith))
      )

  pub stray_close : led ≡ 7 → here ≡ [] → bracket_of_offset (xs ++ (b ∷ ys)) p ≡ Some Alone
  stray_close shut none =
      let rest = brackets_from led (suc p) (waiting led p here) ys in
      ap (option_map (against (xs ++ (b ∷ ys)) p)) (
      parted ∙ ap₂ (λ (q : ℕ) (W : List ℕ). find (touches p) (settled q p W ++ rest)) shut none
      ∙ cond-true (eqb p p) (Some (stray p)) (find (touches p) rest) (eq-eqb p p refl)
      )

  pub paired_close : (o : ℕ) → led ≡ 7 → at here 0 ≡ Some o
      → bracket_of_offset (xs ++ (b ∷ ys)) p ≡ Some (Paired o (cond (fitting (get_or (xs ++ (b ∷ ys)) o 0) (get_or (xs ++ (b ∷ ys)) p 0)) Fits Crossed))
  paired_close o shut top = by here refl missed top
    where
      by : (W : List ℕ) → here ≡ W → Misses p W → at W 0 ≡ Some o
          → bracket_of_offset (xs ++ (b ∷ ys)) p ≡ Some (Paired o (cond (fitting (get_or (xs ++ (b ∷ ys)) o 0) (get_or (xs ++ (b ∷ ys)) p 0)) Fits Crossed))
      by [] e m t = let z : ◌≡◌ {A = ℕ} 0 1 = cc in absurd (omega arith)
      by (w ∷ W) e m t =
          let rest = brackets_from led (suc p) (waiting led p here) ys in
          let same : w ≡ o = cc in
          ap (option_map (against (xs ++ (b ∷ ys)) p)) (
          parted ∙ ap₂ (λ (q : ℕ) (V : List ℕ). find (touches p) (settled q p V ++ rest)) shut e
          ∙ cond-true (eqb w p || eqb p p) (Some (pair w p)) (find (touches p) rest) (or_right (eqb w p) (eqb p p) (eq-eqb p p refl))
          )
          ∙ ap (λ (q : ℕ). Some (Paired q (cond (fitting (get_or (xs ++ (b ∷ ys)) w 0) (get_or (xs ++ (b ∷ ys)) p 0)) Fits Crossed))) (cond-false (eqb w p) p w m.0)
          ∙ ap (λ (q : ℕ). Some (Paired q (cond (fitting (get_or (xs ++ (b ∷ ys)) q 0) (get_or (xs ++ (b ∷ ys)) p 0)) Fits Crossed))) same

  opened : led ≡ 6 → find (touches p) (brackets (xs ++ (b ∷ ys))) ≡ find (touches p) (brackets_from 6 (suc p) (p ∷ here) ys)
  opened e = parted ∙ ap (λ (q : ℕ). find (touches p) (settled q p here ++ brackets_from q (suc p) (waiting q p here) ys)) e

  pub unmet_open : led ≡ 6 → count is_stray (settled_in 6 (suc p) [] ys) ≡ 0 → bracket_of_offset (xs ++ (b ∷ ys)) p ≡ Some Alone
  unmet_open e none = ap (option_map (against (xs ++ (b ∷ ys)) p)) (opened e ∙ open_unmet p 6 (suc p) [] here ys (omega arith) tt none)

-- and where the text after it is parted at a close
pub paired_open : (xs : List ℕ) (b : ℕ) (us : List ℕ) (c : ℕ) (vs : List ℕ) (p q : ℕ) → p ≡ length xs → q ≡ suc p + length us
    → (step (end_state 0 xs) b).0 ≡ 6 → count is_stray (settled_in 6 (suc p) [] us) ≡ 0 → waited 6 (suc p) [] us ≡ [] → (step (end_state 6 us) c).0 ≡ 7
    → bracket_of_offset (xs ++ (b ∷ (us ++ (c ∷ vs)))) p ≡ Some (Paired q (cond (fitting (get_or (xs ++ (b ∷ (us ++ (c ∷ vs)))) p 0) (get_or (xs ++ (b ∷ (us ++ (c ∷ vs)))) q 0)) Fits Crossed))
paired_open xs b us c vs p q at_p at-q e none empty shut =
    let t = xs ++ (b ∷ (us ++ (c ∷ vs))) in
    ap (option_map (against t p)) (opened xs b (us ++ (c ∷ vs)) p at_p e ∙ open_paired p 6 (suc p) [] (waited 0 0 [] xs) us c vs (omega arith) tt none empty shut)
    ∙ ap (λ (j : ℕ). Some (Paired j (cond (fitting (get_or t p 0) (get_or t (suc p + length us) 0)) Fits Crossed))) (cond-true (eqb p p) (suc p + length us) p (eq-eqb p p refl))
    ∙ ap (λ (j : ℕ). Some (Paired j (cond (fitting (get_or t p 0) (get_or t j 0)) Fits Crossed))) (sym at-q)

-- In numbers: what a list settles and leaves waiting does not depend on where it stands, and of what waited before only on how many.
waiting_number : (n i j : ℕ) (os ws : List ℕ) → length os ≡ length ws
    → (length (waiting n i os) ≡ length (waiting n j ws)) × (count is_stray (settled n i os) ≡ count is_stray (settled n j ws))
waiting_number n i j os ws e = by (eqb n 6) (eqb n 7) os ws e
  where
    by : (x y : Bool) (os ws : List ℕ) → length os ≡ length ws
        → (length (cond x (i ∷ os) (cond y (tail os) os)) ≡ length (cond x (j ∷ ws) (cond y (tail ws) ws)))
        × (count is_stray (cond y (closed os i ∷ []) []) ≡ count is_stray (cond y (closed ws j ∷ []) []))
    by x y [] (w ∷ ws) e = absurd (omega arith)
    by x y (o ∷ os) [] e = absurd (omega arith)
    by true true [] [] e = (refl, refl)
    by false true [] [] e = (refl, refl)
    by true false [] [] e = (refl, refl)
    by false false [] [] e = (refl, refl)
    by true true (o ∷ os) (w ∷ ws) e = (omega arith, refl)
    by false true (o ∷ os) (w ∷ ws) e = (omega arith, refl)
    by true false (o ∷ os) (w ∷ ws) e = (omega arith, refl)
    by false false (o ∷ os) (w ∷ ws) e = (omega arith, refl)

waited_number : (s i j : ℕ) (os ws bs : List ℕ) → length os ≡ length ws
    → (length (waited s i os bs) ≡ length (waited s j ws bs)) × (count is_stray (settled_in s i os bs) ≡ count is_stray (settled_in s j ws bs))
waited_number s i j os ws [] e = (e, refl)
waited_number s i j os ws (b ∷ bs) e =
    let n = (step s b).0 in
    let one = waiting_number n i j os ws e in
    let rest = waited_number n (suc i) (suc j) (waiting n i os) (waiting n j ws) bs one.0 in
    let left = count_append is_stray (settled n i os) (settled_in n (suc i) (waiting n i os) bs) in
    let right = count_append is_stray (settled n j ws) (settled_in n (suc j) (waiting n j ws) bs) in
    (rest.0, omega (arith, one.1, rest.1))

no_strays : (os : List ℕ) → count is_stray (map unmet os) ≡ 0
no_strays [] = refl
no_strays (o ∷ os) = omega (arith, no_strays os)

all_unmet : (os : List ℕ) → count is_unmet (map unmet os) ≡ length os
all_unmet [] = refl
all_unmet (o ∷ os) = omega (arith, all_unmet os)

none_unmet : (s i : ℕ) (os bs : List ℕ) → count is_unmet (settled_in s i os bs) ≡ 0
none_unmet s i os [] = refl
none_unmet s i os (b ∷ bs) =
    let n = (step s b).0 in
    omega (arith, count_append is_unmet (settled n i os) (settled_in n (suc i) (waiting n i os) bs), by (eqb n 7) os, none_unmet n (suc i) (waiting n i os) bs)
  where
    by : (y : Bool) (os : List ℕ) → count is_unmet (cond y (closed os i ∷ []) []) ≡ 0
    by true [] = refl
    by true (o ∷ os) = refl
    by false os = refl

whole_list : (s : ℕ) (bs : List ℕ) → brackets_from s 0 [] bs ≡ settled_in s 0 [] bs ++ map unmet (waited s 0 [] bs)
whole_list s bs = ap (brackets_from s 0 []) (sym (append-nil bs)) ∙ read_on s 0 [] bs []

pub strays_are : (s i : ℕ) (bs : List ℕ) → count is_stray (settled_in s i [] bs) ≡ (read_from s bs).strays
unfolding read_from
strays_are s i bs =
    omega (arith, (waited_number s i 0 [] [] bs refl).1, ap (count is_stray) (whole_list s bs), count_append is_stray (settled_in s 0 [] bs) (map unmet (waited s 0 [] bs)), no_strays (waited s 0 [] bs))

pub unmet_are : (s i : ℕ) (bs : List ℕ) → length (waited s i [] bs) ≡ (read_from s bs).unmet
unfolding read_from
unmet_are s i bs =
    omega (arith, (waited_number s i 0 [] [] bs refl).0, ap (count is_unmet) (whole_list s bs), count_append is_unmet (settled_in s 0 [] bs) (map unmet (waited s 0 [] bs)), none_unmet s 0 [] bs, all_unmet (waited s 0 [] bs))

-- What waited before a list waits after it, below its own, without those that its stray closes took.
pub waited_over : (s i : ℕ) (ws os bs : List ℕ) → waited s i (ws ++ os) bs ≡ waited s i ws bs ++ drop (count is_stray (settled_in s i ws bs)) os
waited_over s i ws os [] = refl
waited_over s i ws os (b ∷ bs) = by (eqb n 6) (eqb n 7) ws (λ p q. omega (arith, eqb-true n 6 p, eqb-true n 7 q)) (λ W O. waited_over (step s b).0 (suc i) W O bs)
  where
    n : ℕ
    n = (step s b).0

    drop_one : (c : ℕ) (os : List ℕ) → drop c (tail os) ≡ drop (suc c) os
    drop_one zero [] = refl
    drop_one (suc c) [] = refl
    drop_one c (o ∷ os) = refl

    by : (x y : Bool) (ws : List ℕ) → (x ≡ true → y ≡ true → ⊥)
        → ((W O : List ℕ) → waited n (suc i) (W ++ O) bs ≡ waited n (suc i) W bs ++ drop (count is_stray (settled_in n (suc i) W bs)) O)
        → waited n (suc i) (cond x (i ∷ (ws ++ os)) (cond y (tail (ws ++ os)) (ws ++ os))) bs
        ≡ waited n (suc i) (cond x (i ∷ ws) (cond y (tail ws) ws)) bs
        ++ drop (count is_stray (cond y (closed ws i ∷ []) [] ++ settled_in n (suc i) (cond x (i ∷ ws) (cond y (tail ws) ws)) bs)) os
    by true true ws apart ih = absurd (apart refl refl)
    by true false ws apart ih = ih (i ∷ ws) os
    by false true [] apart ih =
        let c = count is_stray (settled_in n (suc i) [] bs) in
        let more : suc c ≡ 1 + c = omega arith in
        ih [] (tail os) ∙ ap (λ (r : List ℕ). waited n (suc i) [] bs ++ r) (drop_one c os ∙ ap (λ (k : ℕ). drop k os) more)
    by false true (w ∷ ws) apart ih =
        let c = count is_stray (settled_in n (suc i) ws bs) in
        let same : c ≡ 0 + c = omega arith in
        ih ws os ∙ ap (λ (k : ℕ). waited n (suc i) ws bs ++ drop k os) same
    by false false ws apart ih = ih ws os

-- So the k-th that waits is one of the list's own, or one of those before.
at_left : (xs ys : List ℕ) (k : ℕ) → k < length xs → at (xs ++ ys) k ≡ at xs k
at_left [] ys k h = absurd (omega arith)
at_left (x ∷ xs) ys zero h = refl
at_left (x ∷ xs) ys (suc k) h = at_left xs ys k (omega arith)

at_right : (xs ys : List ℕ) (k j : ℕ) → k ≡ length xs + j → at (xs ++ ys) k ≡ at ys j
at_right [] ys k j h = ap (at ys) (omega arith)
at_right (x ∷ xs) ys zero j h = absurd (omega arith)
at_right (x ∷ xs) ys (suc k) j h = at_right xs ys k j (omega arith)

at_drop : (c : ℕ) (os : List ℕ) (j : ℕ) → at (drop c os) j ≡ at os (c + j)
at_drop zero os j = ap (at os) (omega arith)
at_drop (suc c) [] j = refl
at_drop (suc c) (o ∷ os) j = at_drop c os j ∙ ap (at (o ∷ os)) more
  where
    more : suc (c + j) ≡ suc c + j
    more = omega arith

pub waits_within : (s i : ℕ) (os bs : List ℕ) (k : ℕ) → k < (read_from s bs).unmet → at (waited s i os bs) k ≡ at (waited s i [] bs) k
waits_within s i os bs k h =
    ap (λ (l : List ℕ). at l k) (waited_over s i [] os bs)
    ∙ at_left (waited s i [] bs) (drop (count is_stray (settled_in s i [] bs)) os) k (omega (arith, unmet_are s i bs))

pub waits_before : (s i : ℕ) (os bs : List ℕ) (k : ℕ) → (read_from s bs).unmet ≤ k → at (waited s i os bs) k ≡ at os ((k - (read_from s bs).unmet) + (read_from s bs).strays)
waits_before s i os bs k h =
    let c = count is_stray (settled_in s i [] bs) in
    let there : c + (k - (read_from s bs).unmet) ≡ (k - (read_from s bs).unmet) + (read_from s bs).strays = omega (arith, strays_are s i bs) in
    ap (λ (l : List ℕ). at l k) (waited_over s i [] os bs)
    ∙ at_right (waited s i [] bs) (drop c os) k (k - (read_from s bs).unmet) (omega (arith, unmet_are s i bs))
    ∙ at_drop c os (k - (read_from s bs).unmet) ∙ ap (at os) there

-- One byte more.
pub waited_more : (s i : ℕ) (os bs : List ℕ) (b : ℕ) → waited s i os (bs ++ (b ∷ [])) ≡ waiting (step (end_state s bs) b).0 (i + length bs) (waited s i os bs)
waited_more s i os bs b = waited_append s i os bs (b ∷ [])
