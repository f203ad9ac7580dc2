-- The audit by the front of a scratch, which is zeroed at the end. Assumes nothing.
use Rattle.std.proofs.Common.{◌≡◌, ℕ, ◌-◌, ◌<◌, ◌≤◌, max, List, ◌++◌, length, take, drop, replicate, Ok, Err, Result, sym, refl, ap, ◌∙◌, subst, arith}
use borrow.Rule.Slice.PartMut.{post_of, Post-is}
use Rattle.std.proofs.lemmas.List.{length-take-le}
use Rattle.plain.specs.declared.faults.TextFault.{TextFault}
use Rattle.plain.specs.declared.faults.TextFault.TheVariants as fault
use Rattle.measures.specs.declared.mark_totals.MarkRow.{MarkRow}
use Rattle.measures.specs.declared.mark_totals.MarkTotals.{MarkTotals}
use Rattle.stores.specs.Stores.{Contents}
use Rattle.slots.specs.declared.records.Unsound.{Unsound}
use Rattle.slots.specs.declared.records.Record.{Record}
use Rattle.audit.specs.Post.{Zeroed}
use Rattle.pieces.specs.Sound.{TextValue}
use Rattle.pieces.specs.declared.rows.PieceRow.{PieceRow}
use Rattle.pieces.specs.declared.head.Head.{Head}
use Rattle.memory_audit.specs.MemoryAudited.{MemoryAudited}
use Rattle.memory_audit.specs.Inspected.{MemoryVerdict, MemoryInspected}

module _ {A S : Type 0} {am : List ℕ → A} {contents : S → Contents} {s : S} {rs : List (Record PieceRow (TextValue A))} {ms : List (Record MarkRow MarkTotals)} {h : Head} where
  pub short_scratch : {scratch : List ℕ} {n : ℕ} → n ≡ max (length rs) (length ms) → length scratch < n → MemoryAudited am contents s s rs ms h scratch scratch (Err fault.Slots)
  short_scratch is lt = record { outcome = record { short = omega arith; same_scratch = refl; same_store = refl }; same_bytes = refl; same_capacity = refl }

  module _ {s' : S} (scratch : List ℕ) {z : List ℕ} {n k : ℕ} {q : Result (Unit {0}) Unsound} (is : n ≡ max (length rs) (length ms)) (within : n ≤ length scratch)
      (I : MemoryInspected am contents s s' rs ms h (take (n - 0) scratch) q) (long : k ≡ length (take (n - 0) scratch)) (filled : z ≡ replicate k 0) where
    front : length (take (n - 0) scratch) ≡ max (length rs) (length ms)
    front = length-take-le (n - 0) scratch (omega arith) ∙ omega arith

    zeroed : Zeroed (max (length rs) (length ms)) scratch (z ++ post_of 0 (n - 0) scratch)
    zeroed =
        let front_is : z ≡ replicate (max (length rs) (length ms)) 0 = filled ∙ ap (λ j. replicate j 0) (long ∙ front) in
        let rest_is : post_of 0 (n - 0) scratch ≡ drop (max (length rs) (length ms)) scratch = Post-is 0 n scratch (omega arith) ∙ ap (λ j. drop j scratch) is in
        record { enough = omega arith; zeros = ap (λ x. x ++ post_of 0 (n - 0) scratch) front_is ∙ ap (λ x. replicate (max (length rs) (length ms)) 0 ++ x) rest_is }

    verdict : (x : Result (Unit {0}) Unsound) → q ≡ x → MemoryVerdict am contents s s' rs ms h x
    verdict x e = subst (MemoryVerdict am contents s s' rs ms h) e (I.says (omega (arith, front)))

    pub front_sound : {u : Unit {0}} → q ≡ Ok u → MemoryAudited am contents s s' rs ms h scratch (z ++ post_of 0 (n - 0) scratch) (Ok u)
    front_sound {u} got = record { outcome = (zeroed, verdict (Ok u) got); same_bytes = I.same_bytes; same_capacity = I.same_capacity }

    pub front_unsound : {e : Unsound} {r : Result (Unit {0}) TextFault} → q ≡ Err e → r ≡ Err fault.Unsound → MemoryAudited am contents s s' rs ms h scratch (z ++ post_of 0 (n - 0) scratch) r
    front_unsound {e} bad told =
        subst (MemoryAudited am contents s s' rs ms h scratch (z ++ post_of 0 (n - 0) scratch)) (sym told)
        (record { outcome = (zeroed, verdict (Err e) bad); same_bytes = I.same_bytes; same_capacity = I.same_capacity })
