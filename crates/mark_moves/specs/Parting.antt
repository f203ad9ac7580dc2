-- What taking the marks' tree apart at a mark, and putting it together again, promises.
use Rattle.std.specs.Prelude.{◌≡◌, ℕ, ◌+◌, ◌*◌, ◌<◌, ◌≤◌, ◌⊎◌, List, [], ◌∷◌, ◌++◌, length, Some, None, Ok, Option, Result, slice_index_or}
use Rattle.measures.specs.MarkTotals.{gaps, totals_of_marks}
use Rattle.measures.specs.declared.mark_totals.MarkRow.{MarkRow}
use Rattle.measures.specs.declared.mark_totals.MarkTotals.{MarkTotals}
use Rattle.slots.specs.Ghost.{Finger, same, occ_list, none, head_of, tree_of, rows, levels, occ, At, Fit, Chain, Calm, Off}
use Rattle.slots.specs.Holds.{Holds, most, spare}
use Rattle.slots.specs.declared.records.Unsound.{Unsound}
use Rattle.slots.specs.Words.{Link}
use Rattle.slots.specs.declared.records.Tree.{Tree}
use Rattle.slots.specs.declared.records.Record.{Record}
use Rattle.slots.specs.declared.records.Record.TheVariants.{Leaf}
use Rattle.tree.specs.Post.{Made}
use Rattle.pieces.specs.Sound.{itself, mark_mean}
use Rattle.mark_moves.specs.declared.parting.MarkHalves.{MarkHalves}

-- no mark's offset passes it: a text has at most 4,094 pieces of 256 bytes
abbrev pub farthest : ℕ
farthest = 2000000

abbrev pub heft : MarkRow → ℕ
heft m = m.gap + 1

-- another gap
abbrev pub moved : ℕ → MarkRow → MarkRow
moved g x = record { gap = g; label = x.label }

-- every mark is before the offset, counted on from the marks v; nothing changes but the place
abbrev pub AllBefore : List (Record MarkRow MarkTotals) → List (Record MarkRow MarkTotals) → Link → Link → List MarkRow → ℕ → MarkTotals → Result (Option MarkHalves) Unsound → List MarkRow → Type 0
AllBefore ms ms' f f' v at p' r xs = (r ≡ Ok None) × (ms' ≡ ms) × (f' ≡ f) × (p' ≡ totals_of_marks (v ++ xs)) × ((xs ≡ []) ⊎ (gaps v + gaps xs < at))

-- The mark x in slot i is the first with that offset or a later one. The tree u became l, which has the marks before it, and q.
pub record MarksApart (ms ms' : List (Record MarkRow MarkTotals)) (f' : Link) (v : List MarkRow) (at : ℕ) (p' : MarkTotals) (r : Result (Option MarkHalves) Unsound) (u : Finger MarkRow MarkTotals) (gs : List ℕ) : Type 0 where
  pub l : Finger MarkRow MarkTotals
  pub i : ℕ
  pub x : MarkRow
  pub q : Finger MarkRow MarkTotals
  pub gs' : List ℕ
  pub ok : r ≡ Ok (Some (record { left = tree_of l; at = i; row = x; right = tree_of q }))
  pub first : head_of gs' ≡ f'
  pub text : rows u ≡ rows l ++ (x ∷ rows q)
  pub place : p' ≡ totals_of_marks (v ++ rows l)
  pub low : (rows l ≡ []) ⊎ (gaps v + gaps (rows l) < at)
  pub high : at ≤ gaps v + gaps (rows l) + x.gap
  pub fit_l : Fit mark_mean ms' l 0
  pub holds : At ms' i (Leaf x (mark_mean (x ∷ [])))
  pub fit_q : Fit mark_mean ms' q 0
  pub chain : Chain ms' gs'
  pub kept : (j : ℕ) → occ l j + (same i j + (occ q j + occ_list gs' j)) ≡ occ u j + occ_list gs j
  pub frame : Off ms ms' (λ j. occ u j + occ_list gs j)
  pub calm : (j : ℕ) → Calm (slice_index_or ms j none) (slice_index_or ms' j none)

pub record MarksParted (ms ms' : List (Record MarkRow MarkTotals)) (f f' : Link) (tr : Tree) (at : ℕ) (p p' : MarkTotals) (r : Result (Option MarkHalves) Unsound) : Type 0 where
  pub parts : (v : List MarkRow) (u : Finger MarkRow MarkTotals) (gs : List ℕ) → Holds heft totals_of_marks itself ms f tr u gs → p ≡ totals_of_marks v → gaps (v ++ rows u) ≤ farthest → length (v ++ rows u) ≤ most
      → AllBefore ms ms' f f' v at p' r (rows u) ⊎ MarksApart ms ms' f' v at p' r u gs

-- The slots hold the trees l and q, a slot for the mark x between them, and the chain gs, each slot at most once.
pub record Around (ms : List (Record MarkRow MarkTotals)) (f : Link) (h : MarkHalves) (x : MarkRow) (l q : Finger MarkRow MarkTotals) (gs : List ℕ) : Type 0 where
  pub left : tree_of l ≡ h.left
  pub right : tree_of q ≡ h.right
  pub within : h.at < length ms
  pub first : head_of gs ≡ f
  pub fit_l : Fit mark_mean ms l 0
  pub fit_q : Fit mark_mean ms q 0
  pub chain : Chain ms gs
  pub once : (j : ℕ) → occ l j + (same h.at j + (occ q j + occ_list gs j)) ≤ 1
  pub near : gaps (rows l ++ (x ∷ rows q)) ≤ farthest
  pub small : length (rows l ++ (x ∷ rows q)) ≤ most
  pub long : spare ≤ length gs

-- A tree of the rows T was made from slots that τ counts; at most 4 new nodes for each of its levels and `leaves` more are new.
pub record JoinMade (ms ms' : List (Record MarkRow MarkTotals)) (f' : Link) (r : Result Tree Unsound) (T : List MarkRow) (τ : ℕ → ℕ) (leaves : ℕ) : Type 0 where
  pub made : Made heft totals_of_marks itself ms ms' f' r T τ 0
  pub few : length made.js ≤ 4 * levels made.t' + leaves

pub record MovedJoined (ms ms' : List (Record MarkRow MarkTotals)) (f f' : Link) (h : MarkHalves) (g : ℕ) (r : Result Tree Unsound) : Type 0 where
  pub joins : (l q : Finger MarkRow MarkTotals) (gs : List ℕ) → Around ms f h (moved g h.row) l q gs
      → JoinMade ms ms' f' r (rows l ++ (moved g h.row ∷ rows q)) (λ j. occ l j + (same h.at j + (occ q j + occ_list gs j))) 1
