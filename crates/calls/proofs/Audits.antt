-- The audit in a list of calls.
use Rattle.std.proofs.Common.{◌≡◌, ℕ, ◌+◌, ◌-◌, ◌≤◌, min, max, Bool, true, false, cond, leb, List, [], ◌++◌, map, length, take, drop, replicate, Some, None, Ok, Err, Result, unwrap_or, sym, refl, ap, ◌∙◌, subst, ap₂, append_assoc, arith, take-append-drop, length-take}
use lib.Seq.{drop-append-le}
use Rattle.std.proofs.lemmas.Bool.{leb-true, leb-false}
use Rattle.std.specs.Option.{option_map}
use Rattle.plain.specs.Pieces.{spell}
use Rattle.plain.specs.Machine.{Machine, size, clipped, refusal}
use Rattle.plain.specs.declared.calls.Call.TheVariants as call
use Rattle.plain.specs.declared.faults.TextFault.{TextFault}
use Rattle.plain.specs.declared.faults.TextFault.TheVariants as fault
use Rattle.plain.specs.declared.faults.CallFault.TheVariants.{Text}
use Rattle.stores.specs.Stores.{Contents, summed}
use Rattle.measures.specs.declared.mark_totals.MarkRow.{MarkRow}
use Rattle.measures.specs.declared.mark_totals.MarkTotals.{MarkTotals}
use Rattle.slots.specs.Ghost.{Finger, nil, one, deep, tree_of, rows}
use Rattle.slots.specs.declared.records.Record.{Record}
use Rattle.slots.specs.declared.records.Tree.TheVariants.{Empty}
use Rattle.pieces.specs.Rows.{piece_of, AllGood, sizes}
use Rattle.pieces.specs.Sound as sound
use Rattle.pieces.specs.Sound.{TextValue, Mode, whole, held, ClipIs, clip_in, Spells}
use Rattle.pieces.specs.declared.rows.PieceRow.{PieceRow}
use Rattle.pieces.specs.declared.head.Head.{Head}
use Rattle.pieces.proofs.RowParts.{spells, flat_size}
use Rattle.memory_audit.specs.MemoryAudited.{MemoryAudited}
use Rattle.text.specs.Texts.{watched_of}
use Rattle.calls.specs.Calls.{head_of, mode_of, sound_or_fault}
use Rattle.calls.specs.Claim.{Moment, moment, SpellsAt, Kept}
use Rattle.calls.specs.Steps.{Enough, AuditLent, Performed}
use Rattle.calls.proofs.Made.{performed, still, refused}

no_rows : {R V : Type 0} (t : Finger R V) → tree_of t ≡ Empty → rows t ≡ []
no_rows nil e = refl
no_rows (one w) e = let z : ◌≡◌ {A = ℕ} 0 1 = cc in absurd (omega arith)
no_rows (deep i v f m b) e = let z : ◌≡◌ {A = ℕ} 0 1 = cc in absurd (omega arith)

spelled : (B : List ℕ) (xs : List PieceRow) → AllGood B xs → length (spell B (map piece_of xs)) ≡ sizes xs
spelled B xs g = ap length (sym (spells B xs)) ∙ flat_size B xs g

module _ {A : Type 0} (am : List ℕ → A) (B : List ℕ) (n : ℕ) (rs : List (Record PieceRow (TextValue A))) (ms : List (Record MarkRow MarkTotals)) (h : Head) (m : Machine) where
  clip_size : (mode : Mode) (so : sound.Sound am B rs ms h) → ClipIs mode h.clip → length (spell B (unwrap_or (clip_in mode (map piece_of (rows so.k))) [])) ≡ sizes (rows so.k)
  clip_size whole so e = sym (ap sizes (no_rows so.k (so.text.clip ∙ e)))
  clip_size held so e = spelled B (rows so.k) so.good_clip

  -- the bytes of text and clip
  all_bytes : (mode : Mode) (sp : Spells am mode B n rs ms h m) → sizes (rows sp.sound.t) + sizes (rows sp.sound.k) ≡ size m + length (spell m.bytes (clipped m))
  all_bytes mode sp =
      let so = sp.sound in
      ap₂ (λ a b. a + b) (sym (spelled B (rows so.t) so.good)) (sym (clip_size mode so sp.clipped))
      ∙ ap (λ (q : Machine). size q + length (spell q.bytes (clipped q))) (sym sp.machine)

-- the rest of what was lent, and what was not
rest_kept : (a k : ℕ) (z : List ℕ) → a ≤ length (take k z) → drop a (take k z) ++ drop k z ≡ drop a z
rest_kept a k z le = sym (drop-append-le a (take k z) (drop k z) le) ∙ ap (drop a) (take-append-drop k z)

module _ {A S : Type 0} (am : List ℕ → A) (contents : S → Contents) where
  pub audit_lent : {s s' : S} {rs : List (Record PieceRow (TextValue A))} {ms : List (Record MarkRow MarkTotals)} {h : Head} (z lent : List ℕ) (n k : ℕ) {r : Result (Unit {0}) TextFault} → k ≡ min n (length z)
      → MemoryAudited am contents s s' rs ms h (take (k - 0) z) lent r → AuditLent am contents s s' rs ms h z (lent ++ drop (k - 0) z) n r
  audit_lent {s} {s'} {rs} {ms} {h} z lent n k {r} e a =
      let f : k - 0 ≡ min n (length z) = omega arith in
      record {
        lent = lent;
        audited = subst (λ q. MemoryAudited am contents s s' rs ms h (take q z) lent r) f a;
        others = ap (λ q. lent ++ drop q z) f;
      }

  module _ (x : Moment A S) (n : ℕ) (s' : S) (z' : List ℕ) (h : Head) (at : h ≡ head_of x.text) (room : Enough x.slots x.marks x.scratch) (m : Machine) (sp : SpellsAt am contents x m) where
    abbrev after : Moment A S
    after = moment x.text x.slots x.marks s' z'

    most : ℕ
    most = max m.text_slots m.mark_slots

    slots_are : m.text_slots ≡ length (watched_of x.slots)
    slots_are = ap (λ (q : Machine). q.text_slots) sp.machine

    marks_are : m.mark_slots ≡ length (watched_of x.marks)
    marks_are = ap (λ (q : Machine). q.mark_slots) sp.machine

    refusal_by : (b : Bool) → leb (max m.text_slots m.mark_slots) n ≡ b → refusal m (call.Audit n) ≡ option_map Text (cond b None (Some fault.Slots))
    refusal_by b e = ap (λ q. option_map Text (cond q None (Some fault.Slots))) e

    lent_size : length (take (min n (length x.scratch)) x.scratch) ≡ min n (length x.scratch)
    lent_size = omega (arith, length-take (min n (length x.scratch)) x.scratch)

    there : Spells am (mode_of x.text) (contents x.store).bytes (contents x.store).capacity (watched_of x.slots) (watched_of x.marks) h m
    there = subst (λ q. Spells am (mode_of x.text) (contents x.store).bytes (contents x.store).capacity (watched_of x.slots) (watched_of x.marks) q m) (sym at) sp

    passed : (lent : List ℕ) (u : Unit {0}) → leb (max m.text_slots m.mark_slots) n ≡ true → AuditLent am contents x.store s' (watched_of x.slots) (watched_of x.marks) h x.scratch z' n (Ok u)
        → Performed am contents m x (call.Audit n) (sound_or_fault (Ok u)) after
    passed lent u e L =
        let kept : Kept am contents x after = record { text = refl; slots = refl; marks = refl; same_bytes = L.audited.same_bytes } in
        let out = L.audited.outcome in
        let wide : max (length (watched_of x.slots)) (length (watched_of x.marks)) ≡ max m.text_slots m.mark_slots = omega (arith, slots_are, marks_are) in
        let zeros = ap (λ q. q ++ drop (min n (length x.scratch)) x.scratch) out.0.zeros in
        let w = max (length (watched_of x.slots)) (length (watched_of x.marks)) in
        performed am contents m x (call.Audit n) (sound_or_fault (Ok u)) after refl (refusal_by true e) (
          refl,
          (
            still am contents m x after kept L.audited.same_capacity sp,
            record {
              kept = kept;
              each_byte_once = out.1.each_once there.sound ∙ ap (summed (contents x.store).reads) (all_bytes am (contents x.store).bytes (contents x.store).capacity (watched_of x.slots) (watched_of x.marks) h m (mode_of x.text) there);
              zeroed =
                  L.others ∙ zeros
                  ∙ append_assoc (replicate w 0) (drop w (take (min n (length x.scratch)) x.scratch)) (drop (min n (length x.scratch)) x.scratch)
                  ∙ ap (λ q. replicate w 0 ++ q) (rest_kept w (min n (length x.scratch)) x.scratch out.0.enough)
                  ∙ ap (λ q. replicate q 0 ++ drop q x.scratch) wide;
            },
          ),
        )
        (record { slots = refl; marks = refl }) L.audited.same_capacity

    too_short : (r : Result (Unit {0}) TextFault) → leb (max m.text_slots m.mark_slots) n ≡ false → AuditLent am contents x.store s' (watched_of x.slots) (watched_of x.marks) h x.scratch z' n (Err fault.Slots)
        → Performed am contents m x (call.Audit n) (sound_or_fault (Err fault.Slots)) after
    too_short r e L =
        let out = L.audited.outcome in
        refused am contents m x (call.Audit n) (sound_or_fault (Err fault.Slots)) after (Text fault.Slots) (refusal_by false e) refl
        (record {
          kept = record { text = refl; slots = refl; marks = refl; same_bytes = L.audited.same_bytes };
          no_reads = omega (arith, ap (λ t. (contents t).reads) out.same_store);
          same_scratch = L.others ∙ ap (λ q. q ++ drop (min n (length x.scratch)) x.scratch) out.same_scratch ∙ take-append-drop (min n (length x.scratch)) x.scratch;
        })
        (record { slots = refl; marks = refl }) L.audited.same_capacity sp

    by : (b : Bool) → leb (max m.text_slots m.mark_slots) n ≡ b → (r : Result (Unit {0}) TextFault) → AuditLent am contents x.store s' (watched_of x.slots) (watched_of x.marks) h x.scratch z' n r
        → Performed am contents m x (call.Audit n) (sound_or_fault r) after
    by true e (Ok u) L = passed L.lent u e L
    by false e (Ok u) L = absurd (omega (arith, L.audited.outcome.0.enough, lent_size, slots_are, marks_are, leb-false (max m.text_slots m.mark_slots) n e))
    by true e (Err fault.Slots) L = absurd (omega (arith, room, L.audited.outcome.short, lent_size, slots_are, marks_are, leb-true (max m.text_slots m.mark_slots) n e))
    by false e (Err fault.Slots) L = too_short (Err fault.Slots) e L
    by true e (Err fault.Unsound) L = absurd (L.audited.outcome.1 there.sound)
    by false e (Err fault.Unsound) L = absurd (L.audited.outcome.1 there.sound)
    by b e (Err fault.Pieces) L = absurd L.audited.outcome
    by b e (Err fault.Length) L = absurd L.audited.outcome
    by b e (Err fault.Offset) L = absurd L.audited.outcome
    by b e (Err (fault.Store f)) L = absurd L.audited.outcome
    by b e (Err fault.Marks) L = absurd L.audited.outcome

    pub audit_made : (r : Result (Unit {0}) TextFault) → AuditLent am contents x.store s' (watched_of x.slots) (watched_of x.marks) h x.scratch z' n r
        → Performed am contents m x (call.Audit n) (sound_or_fault r) after
    audit_made r L = by (leb (max m.text_slots m.mark_slots) n) refl r L
