-- What `run` promises: the claim about a whole list of calls, from the opening to the end.
--
-- It shuts out, each by a part that stands in every step of the trace:
-- * a tree that is built anew at an edit: at most 9d + 4 slots are fresh (`Edited`), with d bounded
--   by the elements (`InOrder`);
-- * slots that are never taken back: each watched slot is in use or free, once (`InOrder`), at every moment;
-- * a store that swallows appends: the moment spells the machine, whose bytes are the store's own (`spells`);
-- * an invented count of reads, or reading the whole text at an edit: the count is the store's own, and what an edit, a
--   question and the audit may add to it is bounded, for the audit exactly (`Effect`);
-- * an accepted edit that does nothing, and a refusal that is none: answer, size and machine are those of the plain step;
-- * refusing every edit, or answering always none: the plain machine decides both;
-- * an audit that does not read: each byte of text and clip exactly once (`Audited`).
use Rattle.std.specs.Prelude.{◌≡◌, ℕ, max, Bool, List, ◌∷◌, map, length, take, drop, Some, None, Ok, Err, Option, Result, nat_le}
use Rattle.plain.specs.Lists.{first_no}
use Rattle.plain.specs.Machine as plain
use Rattle.plain.specs.Machine.{Machine, Call, fresh, discard, watched, open_asked}
use Rattle.plain.specs.declared.faults.TextFault.{TextFault}
use Rattle.stores.specs.Stores.{Contents, summed}
use Rattle.measures.specs.declared.mark_totals.MarkRow.{MarkRow}
use Rattle.measures.specs.declared.mark_totals.MarkTotals.{MarkTotals}
use Rattle.slots.specs.declared.records.Record.{Record}
use Rattle.pieces.specs.Sound.{TextValue}
use Rattle.pieces.specs.declared.rows.PieceRow.{PieceRow}
use Rattle.text.specs.Texts.{LaterKept}
use Rattle.text.specs.declared.Whole.{Whole}
use Rattle.calls.specs.Claim.{Moment, moment, SpellsAt, Ran}
use Rattle.calls.specs.declared.RunFault.{RunFault}
use Rattle.calls.specs.declared.RunFault.TheVariants.{Replies, Scratch, Opening}
use Rattle.calls.specs.declared.texts.Text.TheVariants as text
use Rattle.calls.specs.declared.texts.Reply.{Reply}

-- What is asked before a list of n calls is begun, in this order: places for the replies, scratch bytes, and what opening asks.
abbrev pub as_opening : Bool × TextFault → Bool × RunFault
as_opening p = (p.0, Opening p.1)

abbrev pub run_asked : List ℕ → ℕ → ℕ → ℕ → ℕ → ℕ → List (Bool × RunFault)
run_asked B slots marks scratch n replies =
    (nat_le n replies, Replies) ∷ (nat_le (max (watched slots) (watched marks)) scratch, Scratch) ∷ map as_opening (open_asked B slots marks)

module _ {A S : Type 0} (am : List ℕ → A) (contents : S → Contents) where
  -- The list was run: the text was opened at a first moment, the calls led to a last one, and there a clip that was left was discarded.
  pub record WasRun (cs : List Call) (rs rs' : List (Record PieceRow (TextValue A))) (ms ms' : List (Record MarkRow MarkTotals)) (s s' : S) (z z' : List ℕ) (ans ans' : List (Reply A)) (w : Whole) (m : Machine) : Type 0 where
    pub first : Moment A S
    pub last : Moment A S
    -- opening: memory spells the fresh machine, each byte was read once, and later slots and the scratch are as they were
    pub opened : SpellsAt am contents first m
    pub each_byte_once : (contents first.store).reads ≡ summed (contents s).reads (length (contents s).bytes)
    pub opened_later : LaterKept rs first.slots ms first.marks
    pub opened_scratch : first.scratch ≡ z
    -- the calls: one reply each, and no other place for a reply was written
    pub ran : Ran am contents first m cs (take (length cs) ans') last
    pub answers : map (λ (a : Reply A). a.outcome) (take (length cs) ans') ≡ (plain.run am m cs).1
    pub other_replies : drop (length cs) ans' ≡ drop (length cs) ans
    -- the end: what `run` leaves spells the machine after the last call, without a clip
    pub ends : SpellsAt am contents (moment (text.Whole w) rs' ms' s' z') (discard (plain.run am m cs).0)
    pub ends_later : LaterKept last.slots rs' last.marks ms'
    pub ends_store : s' ≡ last.store
    pub ends_scratch : z' ≡ last.scratch

  -- A list that is not begun: nothing was touched.
  pub record NotBegun (rs rs' : List (Record PieceRow (TextValue A))) (ms ms' : List (Record MarkRow MarkTotals)) (s s' : S) (z z' : List ℕ) (ans ans' : List (Reply A)) : Type 0 where
    pub slots : rs' ≡ rs
    pub marks : ms' ≡ ms
    pub same_bytes : (contents s').bytes ≡ (contents s).bytes
    pub same_capacity : (contents s').capacity ≡ (contents s).capacity
    pub no_reads : (contents s').reads ≡ (contents s).reads
    pub scratch : z' ≡ z
    pub replies : ans' ≡ ans

  abbrev pub RunOutcome : Option RunFault → List Call → List (Record PieceRow (TextValue A)) → List (Record PieceRow (TextValue A)) → List (Record MarkRow MarkTotals) → List (Record MarkRow MarkTotals) → S → S → List ℕ → List ℕ → List (Reply A) → List (Reply A) → Result Whole RunFault → Type 0
  RunOutcome None cs rs rs' ms ms' s s' z z' ans ans' r =
      (w : Whole) × (r ≡ Ok w) × WasRun cs rs rs' ms ms' s s' z z' ans ans' w (fresh (contents s).bytes (contents s).capacity (length rs) (length ms))
  RunOutcome (Some f) cs rs rs' ms ms' s s' z z' ans ans' r = (r ≡ Err f) × NotBegun rs rs' ms ms' s s' z z' ans ans'

  -- For every store and every lawful added measure, whatever slots and scratch held before.
  pub record Claim (cs : List Call) (rs rs' : List (Record PieceRow (TextValue A))) (ms ms' : List (Record MarkRow MarkTotals)) (s s' : S) (z z' : List ℕ) (ans ans' : List (Reply A)) (r : Result Whole RunFault) : Type 0 where
    pub outcome : RunOutcome (first_no (run_asked (contents s).bytes (length rs) (length ms) (length z) (length cs) (length ans))) cs rs rs' ms ms' s s' z z' ans ans' r
