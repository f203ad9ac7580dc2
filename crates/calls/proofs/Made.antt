-- What a call does to a moment, from what the text's own call promises.
use Rattle.std.proofs.Common.{◌≡◌, ℕ, ◌+◌, ◌≤◌, true, false, cond, List, ◌++◌, take, drop, Some, None, Ok, Err, Option, Result, sym, refl, ap, ◌∙◌, subst, ap₂, arith, take-append-drop}
use Rattle.std.specs.Option.{option_map}
use Rattle.plain.specs.Lists.{first_no}
use Rattle.plain.specs.Machine.{Machine, Call, Outcome, allowed, asked, accepted, refusal}
use Rattle.plain.specs.declared.answers.Answer.{Answer}
use Rattle.plain.specs.declared.faults.TextFault.{TextFault}
use Rattle.plain.specs.declared.faults.CallFault.{CallFault}
use Rattle.plain.specs.declared.faults.CallFault.TheVariants.{NotAllowed, Text}
use Rattle.stores.specs.Stores.{Contents}
use Rattle.pieces.specs.Sound.{Mode, Spells}
use Rattle.pieces.specs.Edited as edited
use Rattle.pieces.specs.Asked.{ToldBy, result_of, most_reads}
use Rattle.pieces.specs.declared.head.Head.{Head}
use Rattle.text.specs.Texts.{watched_of, LaterKept, EditsText}
use Rattle.calls.specs.Calls.{Kind, edits, questions, audits, kind_of, head_of, mode_of, done_or_fault, answered}
use Rattle.calls.specs.Claim.{Moment, moment, SoundAt, SpellsAt, Kept, Refused, Edited, Effect}
use Rattle.calls.specs.Steps.{Performed, Performs}
use Rattle.calls.proofs.CallKinds.{asks_allowed, asks_keep, edit_done}

-- a list from its watched and its later part
from_parts : {X : Type 0} (xs ys : List X) → take 8316 ys ≡ take 8316 xs → drop 8316 ys ≡ drop 8316 xs → ys ≡ xs
from_parts xs ys e f = sym (take-append-drop 8316 ys) ∙ ap₂ (λ p q. p ++ q) e f ∙ take-append-drop 8316 xs

refused_by : (m : Machine) (c : Call) {o : Option TextFault} → allowed m c ≡ true → first_no (asked m c) ≡ o → refusal m c ≡ option_map Text o
refused_by m c a e = ap₂ (λ b p. cond b (option_map Text p) (Some NotAllowed)) a e

module _ {A S : Type 0} (am : List ℕ → A) (contents : S → Contents) where
  -- a step by its refusal
  abbrev stepped : Machine → Call → Option CallFault → Machine × Outcome A
  stepped m c o = elim o as (λ _. Machine × Outcome A) [ None ↦ ((accepted am m c).0, Ok (accepted am m c).1) | Some f ↦ (m, Err f) ]

  abbrev By : Machine → Moment A S → Call → Outcome A → Moment A S → Kind → Option CallFault → Type 0
  By m x c o y k p = (o ≡ (stepped m c p).1) × ((sp : SpellsAt am contents y (stepped m c p).0) × Effect am contents k p m x y sp.sound)

  pub performed : (m : Machine) (x : Moment A S) (c : Call) (o : Outcome A) (y : Moment A S) {k : Kind} {p : Option CallFault} → kind_of c ≡ k → refusal m c ≡ p
      → By m x c o y k p → LaterKept x.slots y.slots x.marks y.marks → (contents y.store).capacity ≡ (contents x.store).capacity → Performed am contents m x c o y
  performed m x c o y {k} {p} e f b l n =
      let q = subst (λ j. By m x c o y j (refusal m c)) (sym e) (subst (λ j. By m x c o y k j) (sym f) b) in
      record { answer = q.0; spells = q.1.0; effect = q.1.1; later = l; same_capacity = n }

  -- where nothing changed, memory spells what it spelled
  pub still : (m : Machine) (x y : Moment A S) → Kept am contents x y → (contents y.store).capacity ≡ (contents x.store).capacity → SpellsAt am contents x m → SpellsAt am contents y m
  still m x y K n sp =
      subst (λ t. Spells am (mode_of t) (contents y.store).bytes (contents y.store).capacity (watched_of y.slots) (watched_of y.marks) (head_of t) m) (sym K.text)
      (subst (λ q. Spells am (mode_of x.text) (contents y.store).bytes (contents y.store).capacity (watched_of q) (watched_of y.marks) (head_of x.text) m) (sym K.slots)
      (subst (λ q. Spells am (mode_of x.text) (contents y.store).bytes (contents y.store).capacity (watched_of x.slots) (watched_of q) (head_of x.text) m) (sym K.marks)
      (subst (λ q. Spells am (mode_of x.text) q (contents y.store).capacity (watched_of x.slots) (watched_of x.marks) (head_of x.text) m) (sym K.same_bytes)
      (subst (λ q. Spells am (mode_of x.text) (contents x.store).bytes q (watched_of x.slots) (watched_of x.marks) (head_of x.text) m) (sym n) sp))))

  refused_effect : (m : Machine) (x y : Moment A S) (so : SoundAt am contents y) (k : Kind) (f : CallFault) → Refused am contents x y → Effect am contents k (Some f) m x y so
  refused_effect m x y so edits f r = r
  refused_effect m x y so questions f r = r
  refused_effect m x y so audits f r = r

  pub refused : (m : Machine) (x : Moment A S) (c : Call) (o : Outcome A) (y : Moment A S) (f : CallFault) → refusal m c ≡ Some f → o ≡ Err f → Refused am contents x y
      → LaterKept x.slots y.slots x.marks y.marks → (contents y.store).capacity ≡ (contents x.store).capacity → SpellsAt am contents x m → Performed am contents m x c o y
  refused m x c o y f e ans r l n sp =
      let sp' = still m x y r.kept n sp in
      performed m x c o y refl e (ans, (sp', refused_effect m x y sp'.sound (kind_of c) f r)) l n

  -- a call that is not allowed at its place
  pub not_allowed : (x : Moment A S) (c : Call) → ((m : Machine) → SpellsAt am contents x m → allowed m c ≡ false) → Performs am contents x c (Err NotAllowed) x
  not_allowed x c never m sp =
      refused m x c (Err NotAllowed) x NotAllowed (ap (λ b. cond b (option_map Text (first_no (asked m c))) (Some NotAllowed)) (never m sp)) refl
      (record { kept = record { text = refl; slots = refl; marks = refl; same_bytes = refl }; no_reads = omega arith; same_scratch = refl })
      (record { slots = refl; marks = refl }) refl sp

  -- an edit of a text in one mode, which an accepted one leaves in another
  pub edit_made : (x : Moment A S) (c : Call) (r : Result (Unit {0}) TextFault) (y : Moment A S) (mode mode' : Mode) → kind_of c ≡ edits → mode_of x.text ≡ mode
      → ((m : Machine) → SpellsAt am contents x m → allowed m c ≡ true)
      → (r ≡ Ok tt → mode_of y.text ≡ mode')
      → ((f : TextFault) → r ≡ Err f → head_of y.text ≡ head_of x.text → y.text ≡ x.text)
      → y.scratch ≡ x.scratch
      → EditsText am contents c mode mode' x.store y.store x.slots y.slots x.marks y.marks (head_of x.text) (head_of y.text) r
      → Performs am contents x c (done_or_fault r) y
  edit_made x c r y mode mode' kind is may turns back same E m sp =
      go (first_no (asked m c)) refl (E.edits.outcome m (subst (λ q. Spells am q (contents x.store).bytes (contents x.store).capacity (watched_of x.slots) (watched_of x.marks) (head_of x.text) m) is sp))
    where
      go : (o : Option TextFault) → first_no (asked m c) ≡ o
          → edited.Outcome am contents o x.store y.store (watched_of x.slots) (watched_of y.slots) (watched_of x.marks) (watched_of y.marks) (head_of x.text) (head_of y.text) mode' (accepted am m c).0 r
          → Performed am contents m x c (done_or_fault r) y
      go None e out =
          let both = subst (λ q. (s : Spells am q (contents y.store).bytes (contents y.store).capacity (watched_of y.slots) (watched_of y.marks) (head_of y.text) (accepted am m c).0) × Edited am contents x y s.sound) (sym (turns out.0))
          (out.1.spells, record { fresh_slots = out.1.text_fresh; fresh_marks = out.1.mark_fresh; few_reads = out.1.few_reads; same_scratch = same }) in
          performed m x c (done_or_fault r) y kind (refused_by m c (may m sp) e) (ap done_or_fault out.0 ∙ ap Ok (sym (edit_done am m c kind)), both) E.later E.edits.same_capacity
      go (Some f) e out =
          let u = out.1 in
          refused m x c (done_or_fault r) y (Text f) (refused_by m c (may m sp) e) (ap done_or_fault out.0)
          (record {
            kept = record { text = back f out.0 u.head; slots = from_parts x.slots y.slots u.slots E.later.slots; marks = from_parts x.marks y.marks u.marks E.later.marks; same_bytes = u.same_bytes };
            no_reads = omega (arith, u.same_reads);
            same_scratch = same;
          })
          E.later u.same_capacity sp

  -- a question
  pub question_made : (x : Moment A S) (c : Call) (r : Result (Answer A) TextFault) (s' : S) (h : Head) → kind_of c ≡ questions → h ≡ head_of x.text
      → ToldBy am contents (watched_of x.slots) (watched_of x.marks) h c (λ m. (accepted am m c).1) x.store s' r
      → Performs am contents x c (answered r) (moment x.text x.slots x.marks s' x.scratch)
  question_made x c r s' h kind at T m sp = go (first_no (asked m c)) refl (T.tells (mode_of x.text) m sp') (T.few_reads (mode_of x.text) m sp')
    where
      y : Moment A S
      y = moment x.text x.slots x.marks s' x.scratch

      sp' : Spells am (mode_of x.text) (contents x.store).bytes (contents x.store).capacity (watched_of x.slots) (watched_of x.marks) h m
      sp' = subst (λ q. Spells am (mode_of x.text) (contents x.store).bytes (contents x.store).capacity (watched_of x.slots) (watched_of x.marks) q m) (sym at) sp

      kept : Kept am contents x (moment x.text x.slots x.marks s' x.scratch)
      kept = record { text = refl; slots = refl; marks = refl; same_bytes = T.same_bytes }

      go : (o : Option TextFault) → first_no (asked m c) ≡ o → r ≡ result_of o (accepted am m c).1 → (contents s').reads ≤ (contents x.store).reads + most_reads o
          → Performed am contents m x c (answered r) (moment x.text x.slots x.marks s' x.scratch)
      go None e t few =
          let n : (accepted am m c).0 ≡ m = asks_keep am m c kind in
          let sm = still m x (moment x.text x.slots x.marks s' x.scratch) kept T.same_capacity sp in
          performed m x c (answered r) (moment x.text x.slots x.marks s' x.scratch) kind (refused_by m c (asks_allowed m c kind) e)
          (ap answered t, (subst (λ q. SpellsAt am contents (moment x.text x.slots x.marks s' x.scratch) q) (sym n) sm, record { kept = kept; few_reads = few; same_scratch = refl }))
          (record { slots = refl; marks = refl }) T.same_capacity
      go (Some f) e t few =
          refused m x c (answered r) (moment x.text x.slots x.marks s' x.scratch) (Text f) (refused_by m c (asks_allowed m c kind) e) (ap answered t)
          (record { kept = kept; no_reads = omega arith; same_scratch = refl })
          (record { slots = refl; marks = refl }) T.same_capacity sp
