-- On memory that spells a machine the audit answers as the machine does. Assumes nothing.
use Rattle.std.proofs.Common.{◌≡◌, ℕ, ◌+◌, ◌<◌, ◌≤◌, max, Bool, List, [], ◌∷◌, ◌++◌, map, length, drop, replicate, Ok, Err, Result, sym, refl, ap, ◌∙◌, ap₂, arith}
use Rattle.std.proofs.lemmas.Bool.{le-leb, lt-leb}
use Rattle.plain.specs.Lists.{first_no}
use Rattle.plain.specs.Pieces.{spell}
use Rattle.plain.specs.Machine.{Machine, size, clipped, asked}
use Rattle.plain.specs.declared.calls.Call.TheVariants as call
use Rattle.plain.specs.declared.faults.TextFault.{TextFault}
use Rattle.plain.specs.declared.faults.TextFault.TheVariants as fault
use Rattle.stores.specs.Stores.{Contents, summed}
use Rattle.measures.specs.declared.mark_totals.MarkRow.{MarkRow}
use Rattle.measures.specs.declared.mark_totals.MarkTotals.{MarkTotals}
use Rattle.slots.specs.Ghost.{rows}
use Rattle.slots.specs.declared.records.Record.{Record}
use Rattle.slots.proofs.Shapes.{tree_empty}
use Rattle.pieces.specs.Rows.{piece_of, AllGood, sizes}
use Rattle.pieces.specs.Sound.{TextValue, Mode, whole, held, ClipIs, machine_of, Spells}
use Rattle.pieces.specs.Asked.{result_of}
use Rattle.pieces.specs.declared.rows.PieceRow.{PieceRow}
use Rattle.pieces.specs.declared.head.Head.{Head}
use Rattle.pieces.proofs.RowParts.{spells, flat_size}
use Rattle.memory_audit.specs.MemoryAudited.{MemoryAudited}

-- how many bytes good rows spell
spelled_size : (B : List ℕ) (xs : List PieceRow) → AllGood B xs → sizes xs ≡ length (spell B (map piece_of xs))
spelled_size B xs g = sym (flat_size B xs g) ∙ ap length (spells B xs)

module _ {A : Type 0} {am : List ℕ → A} {B : List ℕ} {rs : List (Record PieceRow (TextValue A))} {ms : List (Record MarkRow MarkTotals)} {h : Head} {m : Machine} {c : ℕ} (mode : Mode)
    (sp : Spells am mode B c rs ms h m) where
  most_slots : max m.text_slots m.mark_slots ≡ max (length rs) (length ms)
  most_slots = ap (λ (x : Machine). max x.text_slots x.mark_slots) sp.machine

  clip_size : (mode : Mode) → ClipIs mode h.clip → sizes (rows sp.sound.k) ≡ length (spell B (clipped (machine_of mode B c (length rs) (length ms) (rows sp.sound.t) (rows sp.sound.k) (rows sp.sound.u))))
  clip_size whole none = ap sizes (tree_empty (λ t. rows t ≡ []) refl sp.sound.k (sp.sound.text.clip ∙ none))
  clip_size held any = spelled_size B (rows sp.sound.k) sp.sound.good_clip

  both_sizes : sizes (rows sp.sound.t) + sizes (rows sp.sound.k) ≡ size m + length (spell m.bytes (clipped m))
  both_sizes =
      ap₂ (λ (x y : ℕ). x + y) (spelled_size B (rows sp.sound.t) sp.sound.good) (clip_size mode sp.clipped)
      ∙ ap (λ (x : Machine). size x + length (spell x.bytes (clipped x))) (sym sp.machine)

  enough : (n : ℕ) → max (length rs) (length ms) ≤ n → result_of (first_no (asked m (call.Audit n))) (tt {0}) ≡ Ok (tt {0})
  enough n le = ap (λ (b : Bool). result_of (first_no ((b, fault.Slots) ∷ [])) (tt {0})) (le-leb (max m.text_slots m.mark_slots) n (omega (arith, most_slots)))

  too_few : (n : ℕ) → n < max (length rs) (length ms) → result_of (first_no (asked m (call.Audit n))) (tt {0}) ≡ Err fault.Slots
  too_few n lt = ap (λ (b : Bool). result_of (first_no ((b, fault.Slots) ∷ [])) (tt {0})) (lt-leb (max m.text_slots m.mark_slots) n (omega (arith, most_slots)))

module _ {A S : Type 0} {am : List ℕ → A} {contents : S → Contents} {s s' : S} {rs : List (Record PieceRow (TextValue A))} {ms : List (Record MarkRow MarkTotals)} {h : Head} {scratch scratch' : List ℕ} {m : Machine} {c : ℕ} (mode : Mode)
    (sp : Spells am mode (contents s).bytes c rs ms h m) where
  pub answer_told : (r : Result (Unit {0}) TextFault) → MemoryAudited am contents s s' rs ms h scratch scratch' r → r ≡ result_of (first_no (asked m (call.Audit (length scratch)))) (tt {0})
  answer_told (Ok u) a = sym (enough mode sp (length scratch) a.outcome.0.enough)
  answer_told (Err fault.Unsound) a = absurd (a.outcome.1 sp.sound)
  answer_told (Err fault.Slots) a = sym (too_few mode sp (length scratch) a.outcome.short)
  answer_told (Err fault.Pieces) a = absurd a.outcome
  answer_told (Err fault.Length) a = absurd a.outcome
  answer_told (Err fault.Offset) a = absurd a.outcome
  answer_told (Err (fault.Store f)) a = absurd a.outcome
  answer_told (Err fault.Marks) a = absurd a.outcome

  -- each byte of text and clip was read once
  pub reads_told : {u : Unit {0}} → MemoryAudited am contents s s' rs ms h scratch scratch' (Ok u) → (contents s').reads ≡ summed (contents s).reads (size m + length (spell m.bytes (clipped m)))
  reads_told a = a.outcome.1.each_once sp.sound ∙ ap (λ (n : ℕ). summed (contents s).reads n) (both_sizes mode sp)

  pub zeros_told : {u : Unit {0}} → MemoryAudited am contents s s' rs ms h scratch scratch' (Ok u) → scratch' ≡ replicate (max m.text_slots m.mark_slots) 0 ++ drop (max m.text_slots m.mark_slots) scratch
  zeros_told a = a.outcome.0.zeros ∙ ap (λ (n : ℕ). replicate n 0 ++ drop n scratch) (sym (most_slots mode sp))
