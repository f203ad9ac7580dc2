-- What the way back promises.
use Rattle.std.specs.Prelude.{◌≡◌, ℕ, ◌+◌, ◌-◌, ◌<◌, ◌≤◌, Bool, true, ◌⊎◌, List, [], ◌∷◌, ◌++◌, length, take, Some, None, Ok, Option, Result, slice_index_or}
use Rattle.plain.specs.Lists.{at}
use Rattle.plain.specs.Tokens.{end_state}
use Rattle.measures.specs.Law.{heaviest}
use Rattle.lexer.specs.Numbers.{number_of}
use Rattle.lexer.specs.Reading.{read_from}
use Rattle.slots.specs.Ghost.{Twig, Arm, Finger, none, root, digit_of, tree_of, rows_twig, rows_arm, rows, levels, FitTwig, FitArm, Fit}
use Rattle.slots.specs.Holds.{most}
use Rattle.slots.specs.Values.{flat, mean, value_in}
use Rattle.slots.specs.declared.records.Digit.{Digit}
use Rattle.slots.specs.declared.records.Record.{Record}
use Rattle.slots.specs.declared.records.Tree.{Tree}
use Rattle.slots.specs.declared.records.Unsound.{Unsound}
use Rattle.pieces.specs.Sound.{TextValue, text_means}
use Rattle.pieces.specs.declared.rows.PieceRow.{PieceRow}
use Rattle.bracket_questions.specs.Waiting.{waited}
use Rattle.opens.specs.declared.parts.Start.{Start}
use Rattle.opens.specs.declared.parts.Held.{Held}
use Rattle.opens.specs.declared.parts.Back.{Back}
use Rattle.opens.specs.declared.parts.Back.TheVariants.{At, Before}
use Rattle.opens.specs.declared.parts.Visit.{Visit}
use Rattle.opens.specs.declared.parts.Visit.TheVariants.{Past, Into}

-- the place after the bytes w of a text
pub record Follows (w : List ℕ) (x : Start) : Type 0 where
  pub offset : x.offset ≡ length w
  pub state : number_of x.state ≡ end_state 0 w

-- it was found
abbrev pub EndsAfter : List ℕ → Result Start Unsound → Type 0
EndsAfter w r = (y : Start) × (r ≡ Ok y) × Follows w y

-- A walk over rows that mean a text: the limit lies between two of them, and this is the open that is sought, if any.
pub record Aim (items : PieceRow → List ℕ) (limit : ℕ) : Type 0 where
  pub all : List PieceRow
  pub front : List PieceRow
  pub back : List PieceRow
  pub parts : all ≡ front ++ back
  pub edge : limit ≡ length (flat items front)
  pub light : length (flat items all) ≤ heaviest
  pub sought : Option ℕ

module _ {items : PieceRow → List ℕ} {limit : ℕ} (a : Aim items limit) where
  -- Of the opens that wait after the rows P, but at the limit at the latest, the one that is sought is the k-th, the nearest
  -- first, counted from 0.
  pub record Stands (P : List PieceRow) (k : ℕ) : Type 0 where
    pub same : a.sought ≡ at (waited 0 0 [] (take limit (flat items P))) k
    pub light : length (take limit (flat items P)) + k ≤ heaviest

  -- It lies in this row, and is of this rank among the opens that wait at its end.
  pub record Lies (h : Held) : Type 0 where
    pub xs : List PieceRow
    pub ys : List PieceRow
    pub text : a.all ≡ xs ++ (h.row ∷ ys)
    pub start : Follows (flat items xs) h.start
    pub some : 1 ≤ h.rank
    pub own : h.rank ≤ (read_from (end_state 0 (flat items xs)) (items h.row)).unmet
    pub same : a.sought ≡ at (waited (end_state 0 (flat items xs)) (length (flat items xs)) [] (items h.row))
        ((read_from (end_state 0 (flat items xs)) (items h.row)).unmet - h.rank)

  -- what was found from the end of the text back to the end of the rows P
  abbrev pub Heads : List PieceRow → Result Back Unsound → Type 0
  Heads P r = ((k : ℕ) × (r ≡ Ok (Before k)) × Stands P k) ⊎ ((h : Held) × (r ≡ Ok (At h)) × Lies h)

  -- the rows T come after P, which end at x; inside, they end by the limit
  pub record Placed (P T : List PieceRow) (x : Start) (inside : Bool) : Type 0 where
    pub later : List PieceRow
    pub text : a.all ≡ P ++ (T ++ later)
    pub start : Follows (flat items P) x
    pub within : inside ≡ true → length (flat items (P ++ T)) ≤ limit

  -- why the rows T after P must be entered
  abbrev pub Entered : List PieceRow → List PieceRow → ℕ → Option ℕ → Type 0
  Entered P T k None = (length (flat items P) < limit) × (limit < length (flat items (P ++ T)))
  Entered P T k (Some n) = (length (flat items (P ++ T)) ≤ limit) × (1 ≤ n) × (n + k ≡ (read_from (end_state 0 (flat items P)) (flat items T)).unmet)

  abbrev pub Visits : List PieceRow → List PieceRow → Result Visit Unsound → Type 0
  Visits P T r = ((b : Back) × (r ≡ Ok (Past b)) × Heads P (Ok b)) ⊎ ((k : ℕ) × (n : Option ℕ) × (r ≡ Ok (Into k n)) × Stands (P ++ T) k × Entered P T k n)

module _ {A : Type 0} (rs : List (Record PieceRow (TextValue A))) where
  pub record SlotEnds (i : ℕ) (x : Start) (r : Result Start Unsound) : Type 0 where
    pub ends : (am : List ℕ → A) (w bs : List ℕ) → value_in (slice_index_or rs i none) ≡ Ok (text_means am bs) → Follows w x → length (w ++ bs) ≤ heaviest → EndsAfter (w ++ bs) r

  pub record DigitEnds (d : Digit) (x : Start) (r : Result Start Unsound) : Type 0 where
    pub ends : (am : List ℕ → A) (items : PieceRow → List ℕ) (w : List ℕ) (D : Arm PieceRow (TextValue A)) (k : ℕ) → digit_of D ≡ d → FitArm (mean (text_means am) items) rs D k → Follows w x
        → length (w ++ flat items (rows_arm D)) ≤ heaviest → EndsAfter (w ++ flat items (rows_arm D)) r

  pub record TreeEnds (tr : Tree) (x : Start) (r : Result Start Unsound) : Type 0 where
    pub ends : (am : List ℕ → A) (items : PieceRow → List ℕ) (w : List ℕ) (t : Finger PieceRow (TextValue A)) (k : ℕ) → tree_of t ≡ tr → Fit (mean (text_means am) items) rs t k → Follows w x
        → length (w ++ flat items (rows t)) ≤ heaviest → EndsAfter (w ++ flat items (rows t)) r

  pub record Visited (i : ℕ) (x : Start) (limit : ℕ) (inside : Bool) (later : Back) (r : Result Visit Unsound) : Type 0 where
    pub visits : (am : List ℕ → A) (items : PieceRow → List ℕ) (a : Aim items limit) (P T : List PieceRow) → value_in (slice_index_or rs i none) ≡ Ok (mean (text_means am) items T)
        → Placed a P T x inside → Heads a (P ++ T) (Ok later) → Visits a P T r

  pub record SlotWalked (height i : ℕ) (x : Start) (limit : ℕ) (inside : Bool) (later : Back) (r : Result Back Unsound) : Type 0 where
    pub walks : (am : List ℕ → A) (items : PieceRow → List ℕ) (a : Aim items limit) (P : List PieceRow) (u : Twig PieceRow (TextValue A)) → root u ≡ i → FitTwig (mean (text_means am) items) rs u height
        → Placed a P (rows_twig u) x inside → Heads a (P ++ rows_twig u) (Ok later) → Heads a P r

  pub record DigitWalked (height : ℕ) (d : Digit) (x : Start) (limit : ℕ) (inside : Bool) (later : Back) (r : Result Back Unsound) : Type 0 where
    pub walks : (am : List ℕ → A) (items : PieceRow → List ℕ) (a : Aim items limit) (P : List PieceRow) (D : Arm PieceRow (TextValue A)) → digit_of D ≡ d → FitArm (mean (text_means am) items) rs D height
        → Placed a P (rows_arm D) x inside → Heads a (P ++ rows_arm D) (Ok later) → Heads a P r

  pub record TreeWalked (height : ℕ) (tr : Tree) (x : Start) (limit : ℕ) (inside : Bool) (later : Back) (r : Result Back Unsound) : Type 0 where
    pub walks : (am : List ℕ → A) (items : PieceRow → List ℕ) (a : Aim items limit) (P : List PieceRow) (t : Finger PieceRow (TextValue A)) → tree_of t ≡ tr → Fit (mean (text_means am) items) rs t height → height + levels t ≤ 16
        → Placed a P (rows t) x inside → Heads a (P ++ rows t) (Ok later) → Heads a P r

  -- The open that is sought is the `closes`-th of those that wait at the limit, the nearest first, counted from 0: it is found, or there is none.
  pub record Walked (tr : Tree) (limit closes : ℕ) (r : Result (Option Held) Unsound) : Type 0 where
    pub walks : (am : List ℕ → A) (items : PieceRow → List ℕ) (a : Aim items limit) (t : Finger PieceRow (TextValue A)) → tree_of t ≡ tr → Fit (mean (text_means am) items) rs t 0 → length (rows t) ≤ most
        → a.all ≡ rows t → limit + closes ≤ heaviest → a.sought ≡ at (waited 0 0 [] (flat items a.front)) closes
        → ((r ≡ Ok None) × (a.sought ≡ None)) ⊎ ((h : Held) × (r ≡ Ok (Some h)) × Lies a h)
