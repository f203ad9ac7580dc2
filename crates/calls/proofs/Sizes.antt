-- The size of a text, from its summary, and the steps that tell it.
use Rattle.std.proofs.Common.{◌≡◌, ℕ, List, length, Ok, Err, Result, sym, ap, ◌∙◌, subst, arith}
use Rattle.std.specs.Result.{MatchResult}
use Rattle.plain.specs.Machine.{Machine, Call, Outcome, text, step}
use Rattle.plain.specs.Questions.{summary}
use Rattle.plain.specs.declared.answers.Summary.{Summary}
use Rattle.plain.specs.declared.calls.Call.TheVariants as call
use Rattle.plain.specs.declared.faults.TextFault.{TextFault}
use Rattle.measures.specs.declared.mark_totals.MarkRow.{MarkRow}
use Rattle.measures.specs.declared.mark_totals.MarkTotals.{MarkTotals}
use Rattle.stores.specs.Stores.{Contents}
use Rattle.slots.specs.declared.records.Record.{Record}
use Rattle.slots.proofs.Counts.{named_one}
use Rattle.slots.proofs.Depth.{elements}
use Rattle.pieces.specs.Sound.{TextValue, text_mean, mark_mean, Spells}
use Rattle.pieces.specs.Asked.{Told}
use Rattle.pieces.specs.declared.rows.PieceRow.{PieceRow}
use Rattle.pieces.specs.declared.head.Head.{Head}
use Rattle.text.specs.Texts.{watched_of}
use Rattle.calls.specs.Calls.{head_of, mode_of}
use Rattle.calls.specs.Claim.{Moment, SoundAt, InOrder, Step}
use Rattle.calls.specs.Steps.{SizeTold, Performed}

abbrev bytes_in : Result Summary TextFault → ℕ
bytes_in (Ok s) = s.bytes
bytes_in (Err f) = 0

module _ {A : Type 0} {am : List ℕ → A} {rs : List (Record PieceRow (TextValue A))} {h : Head} where
  size_ok : {s : Summary} → ((B : List ℕ) (ms : List (Record MarkRow MarkTotals)) → Told am B rs ms h call.Whole (λ m. summary (text m)) (Ok s)) → SizeTold am rs h s.bytes
  size_ok t = record { tells = λ mode B c ms m sp. ap bytes_in ((t B ms).tells mode c m sp) }

  size_err : {f : TextFault} → ((B : List ℕ) (ms : List (Record MarkRow MarkTotals)) → Told am B rs ms h call.Whole (λ m. summary (text m)) (Err f)) → SizeTold am rs h 0
  size_err t = record { tells = λ mode B c ms m sp. ap bytes_in ((t B ms).tells mode c m sp) }

  pub size_told : {r : Result Summary TextFault} {n : ℕ} → ((B : List ℕ) (ms : List (Record MarkRow MarkTotals)) → Told am B rs ms h call.Whole (λ m. summary (text m)) r) → MatchResult r (λ s. n ≡ s.bytes) (λ f. n ≡ 0)
      → SizeTold am rs h n
  size_told {r = Ok s} t is = subst (SizeTold am rs h) (sym is) (size_ok t)
  size_told {r = Err f} t is = subst (SizeTold am rs h) (sym is) (size_err t)

module _ {A S : Type 0} (am : List ℕ → A) (contents : S → Contents) where
  in_order : (x : Moment A S) (so : SoundAt am contents x) → InOrder am contents x so
  in_order x so = record {
    slots_once = λ i lt. so.text.once i ∙ named_one (length (watched_of x.slots)) i lt;
    marks_once = λ i lt. so.marks.once i ∙ named_one (length (watched_of x.marks)) i lt;
    text_elements = omega (arith, elements (text_mean am (contents x.store).bytes) (watched_of x.slots) so.t so.text.fit);
    clip_elements = omega (arith, elements (text_mean am (contents x.store).bytes) (watched_of x.slots) so.k so.text.fit_clip);
    mark_elements = omega (arith, elements mark_mean (watched_of x.marks) so.u so.marks.fit);
  }

  -- the size told makes a step of what was performed
  pub step_told : {m : Machine} {x : Moment A S} {c : Call} {o : Outcome A} {y : Moment A S} {h : Head} {n : ℕ} → Performed am contents m x c o y → h ≡ head_of y.text → SizeTold am (watched_of y.slots) h n
      → Step am contents m x c (record { outcome = o; size = n }) y
  step_told {m} {x} {c} {o} {y} {h} {n} P at T = record {
    answer = P.answer;
    size_told = T.tells (mode_of y.text) (contents y.store).bytes (contents y.store).capacity (watched_of y.marks) (step am m c).0
        (subst (λ q. Spells am (mode_of y.text) (contents y.store).bytes (contents y.store).capacity (watched_of y.slots) (watched_of y.marks) q (step am m c).0) (sym at) P.spells);
    spells = P.spells;
    in_order = in_order y P.spells.sound;
    effect = P.effect;
    later = P.later;
    same_capacity = P.same_capacity;
  }
