-- What a probe's row tells of the text.
use Rattle.std.proofs.Common.{◌≡◌, ℕ, ◌+◌, ◌-◌, ◌<◌, ◌≤◌, Bool, true, false, ltb, ◌⊎◌, List, [], ◌∷◌, ◌++◌, length, take, Some, None, Ok, Err, Option, Result, sym, ap, ◌∙◌, subst, inl, inr, ⊎_elim, append-nil, arith, length-append}
use lib.Seq.{take-append-le, take-append-add}
use Rattle.std.proofs.lemmas.Bool.{ltb-true, ltb-false}
use Rattle.plain.specs.Lists.{slice}
use Rattle.plain.specs.Machine.{Machine, text}
use Rattle.plain.proofs.Spelling.{spelled}
use Rattle.measures.specs.Law.{heaviest}
use Rattle.measures.specs.Totals.{totals}
use Rattle.measures.specs.declared.totals.Totals.{Totals}
use Rattle.measures.specs.declared.mark_totals.MarkRow.{MarkRow}
use Rattle.measures.specs.declared.mark_totals.MarkTotals.{MarkTotals}
use Rattle.slots.specs.Ghost.{rows, Fit}
use Rattle.slots.specs.Values.{flat}
use Rattle.slots.specs.declared.records.Record.{Record}
use Rattle.slots.specs.declared.records.Tree.{Tree}
use Rattle.slots.specs.declared.records.Unsound.{Unsound}
use Rattle.slots.proofs.Shapes.{ok_err, ok_same}
use Rattle.slots.proofs.Weights.{flat_append}
use Rattle.pieces.specs.Rows.{piece_of, bytes_of, Good, AllGood, sizes}
use Rattle.pieces.specs.Sound.{TextValue, text_means, text_mean, Mode, Spells}
use Rattle.pieces.specs.declared.rows.PieceRow.{PieceRow}
use Rattle.pieces.specs.declared.head.Head.{Head}
use Rattle.pieces.proofs.PartRead.{weights_ones}
use Rattle.pieces.proofs.RowParts.{all_right, flat_size, spells, light}
use Rattle.asking.specs.Rows.{Turned, TurnsIn, RowFound}
use Rattle.asking.specs.Texts.{TextAt}
use Rattle.asking.proofs.RowTurns.{some_none, some_same}

-- memory that spells a machine holds its text
pub text_at : {A : Type 0} {am : List ℕ → A} {mode : Mode} {B : List ℕ} {c : ℕ} {rs : List (Record PieceRow (TextValue A))} {ms : List (Record MarkRow MarkTotals)} {h : Head} {m : Machine}
    → Spells am mode B c rs ms h m → TextAt am B rs h.text (text m)
text_at {B = B} {rs = rs} S =
    let L = S.sound.text in record {
      t = S.sound.t;
      tree = L.tree;
      fit = L.fit;
      good = S.sound.good;
      few = omega (arith, L.few, L.most);
      spells = spells B (rows S.sound.t) ∙ sym (ap text S.machine);
    }

module _ {A : Type 0} {am : List ℕ → A} {B : List ℕ} {rs : List (Record PieceRow (TextValue A))} {tr : Tree} {T : List ℕ} where
  pub text_size : (X : TextAt am B rs tr T) → sizes (rows X.t) ≡ length T
  text_size X = sym (flat_size B (rows X.t) X.good) ∙ ap length X.spells

  -- every measure is lawful of the text
  pub light_text : TextAt am B rs tr T → length T ≤ heaviest
  light_text X = omega (arith, light B (rows X.t) X.good X.few, weights_ones (flat (bytes_of B) (rows X.t)), ap length X.spells)

  -- another store of the same bytes
  pub same_text : {B' : List ℕ} → B' ≡ B → TextAt am B rs tr T → TextAt am B' rs tr T
  same_text e X = record {
    t = X.t;
    tree = X.tree;
    fit = subst (λ (l : List ℕ). Fit (text_mean am l) rs X.t 0) (sym e) X.fit;
    good = subst (λ (l : List ℕ). AllGood l (rows X.t)) (sym e) X.good;
    few = X.few;
    spells = ap (λ (l : List ℕ). flat (bytes_of l) (rows X.t)) e ∙ X.spells;
  }

-- The text T is X, the bytes of the good row x, and Z, and a probe turns yes at x.
pub record Inside {A : Type 0} (am : List ℕ → A) (says : TextValue A → Bool) (B : List ℕ) (R : List PieceRow) (T : List ℕ) (p : TextValue A) (x : PieceRow) : Type 0 where
  pub xs : List PieceRow
  pub ys : List PieceRow
  pub parts : R ≡ xs ++ (x ∷ ys)
  pub good : Good B x
  pub spells : T ≡ flat (bytes_of B) xs ++ (bytes_of B x ++ flat (bytes_of B) ys)
  pub place : p ≡ text_means am (flat (bytes_of B) xs)
  pub no : (flat (bytes_of B) xs ≡ []) ⊎ (says (text_means am (flat (bytes_of B) xs)) ≡ false)
  pub yes : says (text_means am (flat (bytes_of B) xs ++ bytes_of B x)) ≡ true

-- how much a good row stands for
pub row_size : (B : List ℕ) (x : PieceRow) → Good B x → length (bytes_of B x) ≡ x.length
row_size B x g = spelled B (piece_of x) g

pub inside_of : {A : Type 0} {am : List ℕ → A} {says : TextValue A → Bool} {B : List ℕ} {p : TextValue A} {z : PieceRow} (R : List PieceRow) (T : List ℕ) → flat (bytes_of B) R ≡ T → AllGood B R
    → Turned (text_means am) says (bytes_of B) [] R p z → Inside am says B R T p z
inside_of {am = am} {says = says} {B = B} {z = z} R T is g H =
    let good : AllGood B (H.xs ++ (z ∷ H.ys)) = subst (AllGood B) H.parts g in
    let two : flat (bytes_of B) (H.xs ++ (z ∷ [])) ≡ flat (bytes_of B) H.xs ++ bytes_of B z =
    flat_append (bytes_of B) H.xs (z ∷ []) ∙ ap (λ (l : List ℕ). flat (bytes_of B) H.xs ++ l) (append-nil (bytes_of B z)) in record {
      xs = H.xs;
      ys = H.ys;
      parts = H.parts;
      good = (all_right B H.xs (z ∷ H.ys) good).0;
      spells = sym is ∙ ap (flat (bytes_of B)) H.parts ∙ flat_append (bytes_of B) H.xs (z ∷ H.ys);
      place = H.past.place;
      no = ⊎_elim (λ e. inl (ap (flat (bytes_of B)) e)) (λ f. inr f) H.past.no;
      yes = ap (λ (l : List ℕ). says (text_means am l)) (sym two) ∙ H.yes;
    }

module _ {A : Type 0} {am : List ℕ → A} {says : TextValue A → Bool} {rs : List (Record PieceRow (TextValue A))} {tr : Tree} {p p' : TextValue A} {q : Result (Option PieceRow) Unsound}
    (start : p ≡ text_means am []) (F : RowFound (λ _. 1) (text_means am) says rs tr p p' q) where
  turns : {B T : List ℕ} (X : TextAt am B rs tr T) → TurnsIn (text_means am) says (bytes_of B) [] (rows X.t) p' q
  turns {B} X = F.finds (bytes_of B) [] X.t X.tree X.fit X.few (light B (rows X.t) X.good X.few) start

  pub never_lost : {B T : List ℕ} {e : Unsound} → TextAt am B rs tr T → q ≡ Err e → ⊥
  never_lost X bad = ⊎_elim (λ n. ok_err n.0 bad) (λ y. ok_err y.1 bad) (turns X)

  -- the place is after all of the text
  pub past_all : {B T : List ℕ} {f : Option PieceRow} → TextAt am B rs tr T → q ≡ Ok f → f ≡ None → (p' ≡ text_means am T) × ((T ≡ []) ⊎ (says (text_means am T) ≡ false))
  past_all {B} X got nay = ⊎_elim
      (λ n. (
        n.1.place ∙ ap (text_means am) X.spells,
        ⊎_elim (λ e. inl (sym X.spells ∙ ap (flat (bytes_of B)) e)) (λ f. inr (ap (λ (l : List ℕ). says (text_means am l)) (sym X.spells) ∙ f)) n.1.no,
      ))
      (λ y. absurd (some_none (ok_same y.1 got ∙ nay))) (turns X)

  pub inside : {B T : List ℕ} {f : Option PieceRow} {x : PieceRow} (X : TextAt am B rs tr T) → q ≡ Ok f → f ≡ Some x → Inside am says B (rows X.t) T p' x
  inside {B} {T} X got yea = ⊎_elim
      (λ n. absurd (some_none (sym (ok_same n.0 got ∙ yea))))
      (λ y.
      let here : Inside am says B (rows X.t) T p' y.0 = inside_of (rows X.t) T X.spells X.good y.2 in
      subst (Inside am says B (rows X.t) T p') (some_same (ok_same y.1 got ∙ yea)) here) (turns X)

-- more than p bytes
abbrev pub past : {A : Type 0} → ℕ → TextValue A → Bool
past p v = ltb p v.left.left.bytes

-- it lies neither before the row nor past it
pub low : {A : Type 0} {am : List ℕ → A} {B : List ℕ} {R : List PieceRow} {T : List ℕ} {w : TextValue A} {x : PieceRow} (p : ℕ) (I : Inside am (past p) B R T w x) → length (flat (bytes_of B) I.xs) ≤ p
low {B = B} p I = ⊎_elim (λ e. omega (arith, ap length e)) (λ e. ltb-false p (length (flat (bytes_of B) I.xs)) e) I.no

pub high : {A : Type 0} {am : List ℕ → A} {B : List ℕ} {R : List PieceRow} {T : List ℕ} {w : TextValue A} {x : PieceRow} (p : ℕ) (I : Inside am (past p) B R T w x) → p < length (flat (bytes_of B) I.xs) + x.length
high {B = B} {x = x} p I =
    omega (arith, ltb-true p (length (flat (bytes_of B) I.xs ++ bytes_of B x)) I.yes, length-append (flat (bytes_of B) I.xs) (bytes_of B x), row_size B x I.good)

pub before_is : {A : Type 0} {am : List ℕ → A} {says : TextValue A → Bool} {B : List ℕ} {R : List PieceRow} {T : List ℕ} {w : TextValue A} {x : PieceRow} (I : Inside am says B R T w x) → w.left.left ≡ totals (flat (bytes_of B) I.xs)
before_is {A} I = ap (λ (v : TextValue A). v.left.left) I.place

-- the first bytes of a text made of three parts
pub front : (X Y Z : List ℕ) (p k : ℕ) → p ≡ length X + k → k ≤ length Y → take p (X ++ (Y ++ Z)) ≡ X ++ take k Y
front X Y Z p k e le = ap (λ (n : ℕ). take n (X ++ (Y ++ Z))) e ∙ take-append-add X (Y ++ Z) k ∙ ap (λ (l : List ℕ). X ++ l) (take-append-le k Y Z le)

-- the bytes up to an offset in a row: those before the row, and so many of the row
pub front_of_row : {A : Type 0} {am : List ℕ → A} {B : List ℕ} {R : List PieceRow} {T : List ℕ} {w : TextValue A} {x : PieceRow} {k : ℕ} (p : ℕ) (I : Inside am (past p) B R T w x) → k ≡ p - w.left.left.bytes
    → take p T ≡ flat (bytes_of B) I.xs ++ slice (bytes_of B x) 0 k
front_of_row {B = B} {x = x} {k = k} p I k_is =
    let L : List ℕ = flat (bytes_of B) I.xs in
    let before : _ ≡ length L = ap (λ (u : Totals). u.bytes) (before_is I) in
    let lo = low p I in
    let hi = high p I in
    let size = row_size B x I.good in
    ap (take p) I.spells ∙ front L (bytes_of B x) (flat (bytes_of B) I.ys) p k (omega arith) (omega arith)
    ∙ ap (λ (n : ℕ). L ++ take n (bytes_of B x)) (let e : k ≡ k - 0 = omega arith in e)
