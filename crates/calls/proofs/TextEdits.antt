-- The edits of a list, by the text that they are made on.
use Rattle.std.proofs.Common.{◌≡◌, ℕ, true, false, not, List, is_some, Some, None, Ok, Err, Option, Result, sym, refl, ap, ◌∙◌, subst, inl, arith, Bor}
use Rattle.plain.specs.Lists.{first_no}
use Rattle.plain.specs.Machine.{Machine, Call, Outcome, allowed, asked, accepted}
use Rattle.plain.specs.declared.calls.Call as calls
use Rattle.plain.specs.declared.faults.TextFault.{TextFault}
use Rattle.measures.specs.declared.mark_totals.MarkRow.{MarkRow}
use Rattle.measures.specs.declared.mark_totals.MarkTotals.{MarkTotals}
use Rattle.stores.specs.Stores.{Contents}
use Rattle.slots.specs.declared.records.Record.{Record}
use Rattle.pieces.specs.Sound.{TextValue, Mode, whole, held}
use Rattle.pieces.specs.Edited as edited
use Rattle.pieces.specs.declared.rows.PieceRow.{PieceRow}
use Rattle.pieces.specs.declared.head.Head.{Head}
use Rattle.text.specs.Texts.{watched_of, EditsText}
use Rattle.text.specs.declared.Whole.{Whole}
use Rattle.text.specs.declared.Held.{Held}
use Rattle.calls.specs.Calls.{edits, kind_of, plain_call, head_of, mode_of, done_or_fault}
use Rattle.calls.specs.Claim.{Moment, moment, SpellsAt}
use Rattle.calls.specs.Steps.{Performs}
use Rattle.calls.specs.declared.texts.Text.{Text}
use Rattle.calls.specs.declared.texts.Text.TheVariants as text
use Rattle.calls.proofs.Made.{edit_made}

ok_not_err : {X T E : Type 0} {u : T} {f : E} → ◌≡◌ {A = Result T E} (Ok u) (Err f) → X
ok_not_err e = let z : ◌≡◌ {A = ℕ} 0 1 = cc in absurd (omega arith)

-- A refused edit hands the text back, and that has the former head.
pub same_whole : (w v : Whole) → v.head ≡ w.head → text.Whole v ≡ text.Whole w
same_whole w v e = ap (λ h. text.Whole (record { head = h })) e

pub same_held : (w v : Held) → v.head ≡ w.head → text.Held v ≡ text.Held w
same_held w v e = ap (λ h. text.Held (record { head = h })) e

module _ {A S : Type 0} (am : List ℕ → A) (contents : S → Contents) where
  -- a whole text has no clip, a held one has
  pub no_clip_lem : (w : Whole) (rs : List (Record PieceRow (TextValue A))) (ms : List (Record MarkRow MarkTotals)) (s : S) (z : List ℕ) (m : Machine) → SpellsAt am contents (moment (text.Whole w) rs ms s z) m → is_some m.clip ≡ false
  no_clip_lem w rs ms s z m sp = ap (λ (q : Machine). is_some q.clip) sp.machine

  pub a_clip : (w : Held) (rs : List (Record PieceRow (TextValue A))) (ms : List (Record MarkRow MarkTotals)) (s : S) (z : List ℕ) (m : Machine) → SpellsAt am contents (moment (text.Held w) rs ms s z) m → is_some m.clip ≡ true
  a_clip w rs ms s z m sp = ap (λ (q : Machine). is_some q.clip) sp.machine

  -- an edit for which no store is lent
  pub unlent : (s : S) {c : Call} {mode mode' : Mode} {rs rs' : List (Record PieceRow (TextValue A))} {ms ms' : List (Record MarkRow MarkTotals)} {h h' : Head} {r : Result (Unit {0}) TextFault}
      → EditsText am (λ (t : Contents). t) c mode mode' (contents s) (contents s) rs rs' ms ms' h h' r → EditsText am contents c mode mode' s s rs rs' ms ms' h h' r
  unlent s {c} {mode} {mode'} {rs} {rs'} {ms} {ms'} {h} {h'} {r} E = record {
    edits = record { outcome = λ m sp. go (first_no (asked m c)) (accepted am m c).0 (E.edits.outcome m sp); store = inl refl; same_capacity = refl };
    later = E.later;
  }
    where
      go : (o : Option TextFault) (m' : Machine)
          → edited.Outcome am (λ (t : Contents). t) o (contents s) (contents s) (watched_of rs) (watched_of rs') (watched_of ms) (watched_of ms') h h' mode' m' r
          → edited.Outcome am contents o s s (watched_of rs) (watched_of rs') (watched_of ms) (watched_of ms') h h' mode' m' r
      go None m' out = (out.0, record { spells = out.1.spells; text_fresh = out.1.text_fresh; mark_fresh = out.1.mark_fresh; few_reads = omega arith })
      go (Some f) m' out = (out.0, record { head = out.1.head; slots = out.1.slots; marks = out.1.marks; same_bytes = refl; same_capacity = refl; same_reads = refl })

  -- a call of the list, which is the edit k
  edit_call : (x y : Moment A S) {call k : calls.Call (Bor (List ℕ))} (r : Result (Unit {0}) TextFault) {o : Outcome A} (mode mode' : Mode) → call ≡ k → kind_of (plain_call k) ≡ edits → mode_of x.text ≡ mode
      → ((m : Machine) → SpellsAt am contents x m → allowed m (plain_call k) ≡ true)
      → (r ≡ Ok tt → mode_of y.text ≡ mode')
      → ((f : TextFault) → r ≡ Err f → head_of y.text ≡ head_of x.text → y.text ≡ x.text)
      → y.scratch ≡ x.scratch → o ≡ done_or_fault r
      → EditsText am contents (plain_call k) mode mode' x.store y.store x.slots y.slots x.marks y.marks (head_of x.text) (head_of y.text) r
      → Performs am contents x (plain_call call) o y
  edit_call x y {call} {k} r {o} mode mode' is kind at may turns back same ans E =
      subst (λ q. Performs am contents x (plain_call q) o y) (sym is)
      (subst (λ q. Performs am contents x (plain_call k) q y) (sym ans)
      (edit_made am contents x (plain_call k) r y mode mode' kind at may turns back same E))

  module _ (rs rs' : List (Record PieceRow (TextValue A))) (ms ms' : List (Record MarkRow MarkTotals)) (s s' : S) (z : List ℕ) where
    -- a whole text stays whole
    pub whole_edit : (w v : Whole) {call k : calls.Call (Bor (List ℕ))} (r : Result (Unit {0}) TextFault) {o : Outcome A} → call ≡ k → kind_of (plain_call k) ≡ edits → ((m : Machine) → allowed m (plain_call k) ≡ not (is_some m.clip))
        → o ≡ done_or_fault r → EditsText am contents (plain_call k) whole whole s s' rs rs' ms ms' w.head v.head r
        → Performs am contents (moment (text.Whole w) rs ms s z) (plain_call call) o (moment (text.Whole v) rs' ms' s' z)
    whole_edit w v r is kind asks ans E =
        edit_call (moment (text.Whole w) rs ms s z) (moment (text.Whole v) rs' ms' s' z) r whole whole is kind refl
        (λ m sp. asks m ∙ ap not (no_clip_lem w rs ms s z m sp)) (λ _. refl) (λ f e h. same_whole w v h) refl ans E

    pub whole_cut : (w : Whole) (v : Held) {call k : calls.Call (Bor (List ℕ))} → call ≡ k → kind_of (plain_call k) ≡ edits → ((m : Machine) → allowed m (plain_call k) ≡ not (is_some m.clip))
        → EditsText am contents (plain_call k) whole held s s' rs rs' ms ms' w.head v.head (Ok tt)
        → Performs am contents (moment (text.Whole w) rs ms s z) (plain_call call) (done_or_fault (Ok tt)) (moment (text.Held v) rs' ms' s' z)
    whole_cut w v is kind asks E =
        edit_call (moment (text.Whole w) rs ms s z) (moment (text.Held v) rs' ms' s' z) (Ok tt) whole held is kind refl
        (λ m sp. asks m ∙ ap not (no_clip_lem w rs ms s z m sp)) (λ _. refl) (λ f e h. ok_not_err e) refl refl E

    pub whole_uncut : (w v : Whole) {call k : calls.Call (Bor (List ℕ))} (f : TextFault) → call ≡ k → kind_of (plain_call k) ≡ edits → ((m : Machine) → allowed m (plain_call k) ≡ not (is_some m.clip))
        → EditsText am contents (plain_call k) whole held s s' rs rs' ms ms' w.head v.head (Err f)
        → Performs am contents (moment (text.Whole w) rs ms s z) (plain_call call) (done_or_fault (Err f)) (moment (text.Whole v) rs' ms' s' z)
    whole_uncut w v f is kind asks E =
        edit_call (moment (text.Whole w) rs ms s z) (moment (text.Whole v) rs' ms' s' z) (Err f) whole held is kind refl
        (λ m sp. asks m ∙ ap not (no_clip_lem w rs ms s z m sp)) (λ e. ok_not_err (sym e)) (λ g e h. same_whole w v h) refl refl E

    -- a held text becomes whole
    pub held_done : (w : Held) (v : Whole) {call k : calls.Call (Bor (List ℕ))} → call ≡ k → kind_of (plain_call k) ≡ edits → ((m : Machine) → allowed m (plain_call k) ≡ is_some m.clip)
        → EditsText am contents (plain_call k) held whole s s' rs rs' ms ms' w.head v.head (Ok tt)
        → Performs am contents (moment (text.Held w) rs ms s z) (plain_call call) (done_or_fault (Ok tt)) (moment (text.Whole v) rs' ms' s' z)
    held_done w v is kind asks E =
        edit_call (moment (text.Held w) rs ms s z) (moment (text.Whole v) rs' ms' s' z) (Ok tt) held whole is kind refl
        (λ m sp. asks m ∙ a_clip w rs ms s z m sp) (λ _. refl) (λ f e h. ok_not_err e) refl refl E

    pub held_still : (w v : Held) {call k : calls.Call (Bor (List ℕ))} (f : TextFault) → call ≡ k → kind_of (plain_call k) ≡ edits → ((m : Machine) → allowed m (plain_call k) ≡ is_some m.clip)
        → EditsText am contents (plain_call k) held whole s s' rs rs' ms ms' w.head v.head (Err f)
        → Performs am contents (moment (text.Held w) rs ms s z) (plain_call call) (done_or_fault (Err f)) (moment (text.Held v) rs' ms' s' z)
    held_still w v f is kind asks E =
        edit_call (moment (text.Held w) rs ms s z) (moment (text.Held v) rs' ms' s' z) (Err f) held whole is kind refl
        (λ m sp. asks m ∙ a_clip w rs ms s z m sp) (λ e. ok_not_err (sym e)) (λ g e h. same_held w v h) refl refl E

  -- a text that is one of the two
  pub of_text : {t u : Text} {rs : List (Record PieceRow (TextValue A))} {ms : List (Record MarkRow MarkTotals)} {s : S} {z : List ℕ} {c : Call} {o : Outcome A} {y : Moment A S} → t ≡ u
      → Performs am contents (moment u rs ms s z) c o y → Performs am contents (moment t rs ms s z) c o y
  of_text {t} {u} {rs} {ms} {s} {z} {c} {o} {y} e p = subst (λ q. Performs am contents (moment q rs ms s z) c o y) (sym e) p
