-- What is asked before an edit, of the rows of a text: in this order, with the fault at a no.
use Rattle.std.specs.Prelude.{◌≡◌, ℕ, ◌+◌, ◌≤◌, Bool, false, not, ◌&&◌, ◌||◌, List, [], ◌∷◌, map, length, Some, None, Ok, Option, Result, ◌==◌, nat_le, nat_lt}
use Rattle.plain.specs.Lists.{first_no}
use Rattle.plain.specs.Machine.{limit}
use Rattle.plain.specs.Pieces.{Piece}
use Rattle.plain.specs.declared.faults.TextFault.{TextFault}
use Rattle.plain.specs.declared.faults.TextFault.TheVariants.{Length, Offset, Pieces, Marks}
use Rattle.slots.specs.Ghost.{Finger, tree_of, rows, Fit}
use Rattle.slots.specs.Holds.{most}
use Rattle.slots.specs.declared.records.Record.{Record}
use Rattle.slots.specs.declared.records.Tree.{Tree}
use Rattle.slots.specs.declared.records.Unsound.{Unsound}
use Rattle.pieces.specs.Asked.{result_of}
use Rattle.pieces.specs.Rows.{piece_of, AllGood, sizes}
use Rattle.pieces.specs.Sound.{TextValue, text_mean}
use Rattle.pieces.specs.declared.rows.PieceRow.{PieceRow}
use Rattle.edits.specs.Counts.{inside, is_inside, start}
use Rattle.edits.specs.declared.doors.Spot.{Spot}
use Rattle.edits.specs.declared.edges.Edge.{Edge}

abbrev pub paste_asked : ℕ → ℕ → ℕ → ℕ → List (Bool × TextFault)
paste_asked p n all top = (nat_le p n, Offset) ∷ (nat_le all top, Pieces) ∷ []

abbrev pub insert_asked : ℕ → ℕ → ℕ → ℕ → ℕ → List (Bool × TextFault)
insert_asked count p n all top = (nat_le 1 count && nat_le count 256, Length) ∷ paste_asked p n all top

abbrev pub cut_asked : ℕ → ℕ → ℕ → ℕ → ℕ → List (Bool × TextFault)
cut_asked a b n all top = (nat_lt a b && nat_le b n, Offset) ∷ (nat_le all top, Pieces) ∷ []

-- `one`: both offsets are strictly inside one piece, of which the delete makes two
abbrev pub delete_asked : ℕ → ℕ → ℕ → Bool → ℕ → ℕ → List (Bool × TextFault)
delete_asked a b n one pieces top = (nat_lt a b && nat_le b n, Offset) ∷ (not one || nat_lt pieces top, Pieces) ∷ []

abbrev pub mark_asked : ℕ → ℕ → ℕ → ℕ → List (Bool × TextFault)
mark_asked q n count top = (nat_le q n, Offset) ∷ (nat_lt count top, Marks) ∷ []

-- both offsets are strictly inside one piece; n is the text's size
abbrev pub in_one : ℕ → ℕ → ℕ → List Piece → Bool
in_one a b n g = nat_lt a n && (nat_lt b n && (nat_lt (start a g) a && start a g == start b g))

abbrev pub both_inside_of : Option Edge → Option Edge → ℕ → Bool
both_inside_of None f a = false
both_inside_of (Some e) None a = false
both_inside_of (Some e) (Some f) a = nat_lt e.start a && e.start == f.start

-- The doors, with w slots watched, for rows T and so many other pieces: the count of pieces after the edit, or a refusal.
abbrev pub insert_door_of : ℕ → ℕ → ℕ → List PieceRow → ℕ → Result ℕ TextFault
insert_door_of count p w T others =
    let all = length T + others + inside p (map piece_of T) + 1 in result_of (first_no (insert_asked count p (sizes T) all (limit w))) all

abbrev pub paste_door_of : ℕ → ℕ → List PieceRow → ℕ → Result ℕ TextFault
paste_door_of p w T others =
    let all = length T + others + inside p (map piece_of T) in result_of (first_no (paste_asked p (sizes T) all (limit w))) all

abbrev pub cut_door_of : ℕ → ℕ → ℕ → List PieceRow → ℕ → Result ℕ TextFault
cut_door_of a b w T others =
    let all = length T + others + inside a (map piece_of T) + inside b (map piece_of T) in result_of (first_no (cut_asked a b (sizes T) all (limit w))) all

abbrev pub delete_door_of : ℕ → ℕ → ℕ → List PieceRow → ℕ → Result (Unit {0}) TextFault
delete_door_of a b w T others = result_of (first_no (delete_asked a b (sizes T) (in_one a b (sizes T) (map piece_of T)) (length T + others) (limit w))) tt

module _ {A : Type 0} (am : List ℕ → A) (rs : List (Record PieceRow (TextValue A))) (tr : Tree) where
  pub record SizeTold (r : Result ℕ Unsound) : Type 0 where
    pub tells : (B : List ℕ) (t : Finger PieceRow (TextValue A)) → tree_of t ≡ tr → Fit (text_mean am B) rs t 0 → AllGood B (rows t) → r ≡ Ok (sizes (rows t))

  pub record HalvesTold (p : ℕ) (r : Result Bool Unsound) : Type 0 where
    pub tells : (B : List ℕ) (t : Finger PieceRow (TextValue A)) → tree_of t ≡ tr → Fit (text_mean am B) rs t 0 → AllGood B (rows t) → length (rows t) ≤ most → r ≡ Ok (is_inside p (map piece_of (rows t)))

  pub record SpotTold (p : ℕ) (r : Result Spot TextFault) : Type 0 where
    pub tells : (B : List ℕ) (t : Finger PieceRow (TextValue A)) → tree_of t ≡ tr → Fit (text_mean am B) rs t 0 → AllGood B (rows t) → length (rows t) ≤ most
        → r ≡ Ok (record { size = sizes (rows t); halves = is_inside p (map piece_of (rows t)) })

  pub record OneTold (a b : ℕ) (r : Result Bool TextFault) : Type 0 where
    pub tells : (B : List ℕ) (t : Finger PieceRow (TextValue A)) → tree_of t ≡ tr → Fit (text_mean am B) rs t 0 → AllGood B (rows t) → length (rows t) ≤ most
        → r ≡ Ok (in_one a b (sizes (rows t)) (map piece_of (rows t)))

  -- A door: `pieces` counts those of the text and as many others as a clip has.
  pub record DoorTold {X : Type 0} (pieces : ℕ) (door : List PieceRow → ℕ → Result X TextFault) (r : Result X TextFault) : Type 0 where
    pub tells : (B : List ℕ) (t : Finger PieceRow (TextValue A)) → tree_of t ≡ tr → Fit (text_mean am B) rs t 0 → AllGood B (rows t) → length (rows t) ≤ most
        → (others : ℕ) → pieces ≡ length (rows t) + others → pieces ≤ limit (length rs) → length rs ≤ 8316 → r ≡ door (rows t) others
