-- The paths of running a list of calls.
use Rattle.std.proofs.Common.{◌≡◌, ℕ, ◌<◌, ◌≤◌, max, Bool, true, false, cond, leb, List, [], ◌∷◌, map, length, take, Some, None, Ok, Err, Option, Result, sym, refl, ap, ◌∙◌, subst, ap₂, arith, length-take, take_all}
use Rattle.std.specs.Result.{IsErrAnd}
use Rattle.std.proofs.lemmas.Bool.{le-leb, lt-leb}
use Rattle.std.specs.Option.{option_map}
use Rattle.plain.specs.Lists.{first_no}
use Rattle.plain.specs.Machine.{Machine, Call, watched, fresh, step, run, open_asked}
use Rattle.plain.specs.declared.faults.TextFault.{TextFault}
use Rattle.measures.specs.declared.mark_totals.MarkRow.{MarkRow}
use Rattle.measures.specs.declared.mark_totals.MarkTotals.{MarkTotals}
use Rattle.stores.specs.Stores.{Contents}
use Rattle.slots.specs.declared.records.Record.{Record}
use Rattle.pieces.specs.Sound.{TextValue, whole, Spells}
use Rattle.pieces.specs.declared.rows.PieceRow.{PieceRow}
use Rattle.text.specs.Texts.{watched_of, OpenOutcome, OpensText}
use Rattle.text.specs.declared.Whole.{Whole}
use Rattle.calls.specs.Claim.{Moment, moment, SpellsAt, Runs, Ran}
use Rattle.calls.specs.Steps.{Enough, MakesAll, Settles}
use Rattle.calls.specs.Runs.{as_opening, run_asked, RunOutcome, Claim}
use Rattle.calls.specs.declared.RunFault.{RunFault}
use Rattle.calls.specs.declared.RunFault.TheVariants.{Replies, Scratch, Opening}
use Rattle.calls.specs.declared.texts.Text.{Text}
use Rattle.calls.specs.declared.texts.Text.TheVariants as text
use Rattle.calls.specs.declared.texts.Reply.{Reply}

first_opening : (ps : List (Bool × TextFault)) → first_no (map as_opening ps) ≡ option_map Opening (first_no ps)
first_opening [] = refl
first_opening (p ∷ ps) = go p.0 (first_opening ps)
  where
    go : (b : Bool) → first_no (map as_opening ps) ≡ option_map Opening (first_no ps) → cond b (first_no (map as_opening ps)) (Some (Opening p.1)) ≡ option_map Opening (cond b (first_no ps) (Some p.1))
    go true e = e
    go false e = refl

-- which question is the first that is answered with no
pub err_is : {T E : Type 0} {r : Result T E} {x : E} → IsErrAnd r (λ e. e ≡ x) → r ≡ Err x
err_is {r = Ok v} h = absurd h
err_is {r = Err e} h = ap Err h

module _ (B : List ℕ) (u v z n a : ℕ) where
  no_places : a < n → first_no (run_asked B u v z n a) ≡ Some Replies
  no_places lt = ap (λ b. cond b (cond (leb (max (watched u) (watched v)) z) (first_no (map as_opening (open_asked B u v))) (Some Scratch)) (Some Replies)) (lt-leb n a lt)

  no_scratch : n ≤ a → z < max (watched u) (watched v) → first_no (run_asked B u v z n a) ≡ Some Scratch
  no_scratch le lt =
      ap₂ (λ b d. cond b (cond d (first_no (map as_opening (open_asked B u v))) (Some Scratch)) (Some Replies)) (le-leb n a le) (lt-leb (max (watched u) (watched v)) z lt)

  only_opening : n ≤ a → max (watched u) (watched v) ≤ z → first_no (run_asked B u v z n a) ≡ option_map Opening (first_no (open_asked B u v))
  only_opening le le' =
      ap₂ (λ b d. cond b (cond d (first_no (map as_opening (open_asked B u v))) (Some Scratch)) (Some Replies)) (le-leb n a le) (le-leb (max (watched u) (watched v)) z le')
      ∙ first_opening (open_asked B u v)

ok_whole : (w v : Whole) → ◌≡◌ {A = Result Whole TextFault} (Ok w) (Ok v) → w ≡ v
ok_whole w v e = cc

ok_not_err : {X : Type 0} {w : Whole} {f : TextFault} → ◌≡◌ {A = Result Whole TextFault} (Ok w) (Err f) → X
ok_not_err e = let q : ◌≡◌ {A = ℕ} 0 1 = cc in absurd (omega arith)

err_same : (f g : TextFault) → ◌≡◌ {A = Result Whole TextFault} (Err f) (Err g) → f ≡ g
err_same f g e = cc

module _ {A S : Type 0} (am : List ℕ → A) (contents : S → Contents) where
  answers_of : (x : Moment A S) (m : Machine) (ys : List (Moment A S)) (cs : List Call) (ans : List (Reply A)) → Runs am contents x m ys cs ans → map (λ (a : Reply A). a.outcome) ans ≡ (run am m cs).1
  answers_of x m [] [] [] r = refl
  answers_of x m [] [] (b ∷ ans) r = absurd r
  answers_of x m [] (d ∷ cs) ans r = absurd r
  answers_of x m (y ∷ ys) [] ans r = absurd r
  answers_of x m (y ∷ ys) (d ∷ cs) [] r = absurd r
  answers_of x m (y ∷ ys) (d ∷ cs) (b ∷ ans) r = ap₂ (λ o os. o ∷ os) r.0.answer (answers_of y (step am m d).0 ys cs ans r.1)

  module _ (cs : List Call) (rs : List (Record PieceRow (TextValue A))) (ms : List (Record MarkRow MarkTotals)) (s : S) (z : List ℕ) (ans : List (Reply A)) where
    not_begun : (f : RunFault) → first_no (run_asked (contents s).bytes (length rs) (length ms) (length z) (length cs) (length ans)) ≡ Some f → Claim am contents cs rs rs ms ms s s z z ans ans (Err f)
    not_begun f e = record {
      outcome = subst (λ o. RunOutcome am contents o cs rs rs ms ms s s z z ans ans (Err f)) (sym e)
          (refl, record { slots = refl; marks = refl; same_bytes = refl; same_capacity = refl; no_reads = refl; scratch = refl; replies = refl });
    }

    pub few_places : length ans < length cs → Claim am contents cs rs rs ms ms s s z z ans ans (Err Replies)
    few_places lt = not_begun Replies (no_places (contents s).bytes (length rs) (length ms) (length z) (length cs) (length ans) lt)

    pub short_scratch : length cs ≤ length ans → length z < max (watched (length rs)) (watched (length ms)) → Claim am contents cs rs rs ms ms s s z z ans ans (Err Scratch)
    short_scratch le lt = not_begun Scratch (no_scratch (contents s).bytes (length rs) (length ms) (length z) (length cs) (length ans) le lt)

    module _ (le : length cs ≤ length ans) (room : max (watched (length rs)) (watched (length ms)) ≤ length z) where
      by_opening : {rs' : List (Record PieceRow (TextValue A))} {ms' : List (Record MarkRow MarkTotals)} {s' : S} {z' : List ℕ} {ans' : List (Reply A)} {r : Result Whole RunFault}
          → ((o : Option TextFault) → first_no (open_asked (contents s).bytes (length rs) (length ms)) ≡ o → RunOutcome am contents (option_map Opening o) cs rs rs' ms ms' s s' z z' ans ans' r) → Claim am contents cs rs rs' ms ms' s s' z z' ans ans' r
      by_opening {rs'} {ms'} {s'} {z'} {ans'} {r} f = record {
        outcome = subst (λ o. RunOutcome am contents o cs rs rs' ms ms' s s' z z' ans ans' r) (sym (only_opening (contents s).bytes (length rs) (length ms) (length z) (length cs) (length ans) le room))
            (f (first_no (open_asked (contents s).bytes (length rs) (length ms))) refl);
      }

      pub unopened : (rs' : List (Record PieceRow (TextValue A))) (ms' : List (Record MarkRow MarkTotals)) (s' : S) {g : TextFault} {r : Result Whole RunFault} → OpensText am contents s s' rs rs' ms ms' (Err g) → r ≡ Err (Opening g)
          → Claim am contents cs rs rs' ms ms' s s' z z ans ans r
      unopened rs' ms' s' {g} O is = subst (Claim am contents cs rs rs' ms ms' s s' z z ans ans) (sym is)
          (by_opening (λ o e. go o (subst (λ q. OpenOutcome am contents q s s' rs rs' ms ms' (Err g)) e O.outcome)))
        where
          go : (o : Option TextFault) → OpenOutcome am contents o s s' rs rs' ms ms' (Err g) → RunOutcome am contents (option_map Opening o) cs rs rs' ms ms' s s' z z ans ans (Err (Opening g))
          go None out = ok_not_err (sym out.1)
          go (Some f) out = (
            ap (λ q. Err (Opening q)) (err_same g f out.0),
            record {
              slots = out.1.slots;
              marks = out.1.marks;
              same_bytes = O.same_bytes;
              same_capacity = O.same_capacity;
              no_reads = out.1.same_reads;
              scratch = refl;
              replies = refl;
            },
          )

      pub was_run : (rs₁ rs₂ rs₃ : List (Record PieceRow (TextValue A))) (ms₁ ms₂ : List (Record MarkRow MarkTotals)) (s₁ s₂ : S) (z₂ : List ℕ) (ans₂ : List (Reply A)) (w w' : Whole) (t : Text)
          → length rs₁ ≡ length rs → length ms₁ ≡ length ms
          → OpensText am contents s s₁ rs rs₁ ms ms₁ (Ok w) → MakesAll am contents (moment (text.Whole w) rs₁ ms₁ s₁ z) cs ans ans₂ (moment t rs₂ ms₂ s₂ z₂) → Settles am t rs₂ w' rs₃
          → Claim am contents cs rs rs₃ ms ms₂ s s₂ z z₂ ans ans₂ (Ok w')
      was_run rs₁ rs₂ rs₃ ms₁ ms₂ s₁ s₂ z₂ ans₂ w w' t ls lm O M E = by_opening (λ o e. go o (subst (λ q. OpenOutcome am contents q s s₁ rs rs₁ ms ms₁ (Ok w)) e O.outcome))
        where
          m : Machine
          m = fresh (contents s).bytes (contents s).capacity (length rs) (length ms)

          enough : Enough rs₁ ms₁ z
          enough = omega (arith, room, length-take 8316 rs₁, length-take 8316 ms₁)

          all : take (length ans) cs ≡ cs
          all = take_all (length ans) cs le

          run_from : (sp : SpellsAt am contents (moment (text.Whole w) rs₁ ms₁ s₁ z) (fresh (contents s).bytes (contents s).capacity (length rs) (length ms)))
              → Ran am contents (moment (text.Whole w) rs₁ ms₁ s₁ z) (fresh (contents s).bytes (contents s).capacity (length rs) (length ms)) cs (take (length cs) ans₂) (moment t rs₂ ms₂ s₂ z₂)
          run_from sp = subst (λ q. Ran am contents (moment (text.Whole w) rs₁ ms₁ s₁ z) (fresh (contents s).bytes (contents s).capacity (length rs) (length ms)) q (take (length cs) ans₂) (moment t rs₂ ms₂ s₂ z₂)) all (M.ran (fresh (contents s).bytes (contents s).capacity (length rs) (length ms)) sp enough)

          go : (o : Option TextFault) → OpenOutcome am contents o s s₁ rs rs₁ ms ms₁ (Ok w) → RunOutcome am contents (option_map Opening o) cs rs rs₃ ms ms₂ s s₂ z z₂ ans ans₂ (Ok w')
          go (Some f) out = ok_not_err out.0
          go None out =
              let f = fresh (contents s).bytes (contents s).capacity (length rs) (length ms) in
              let same : out.0 ≡ w = sym (ok_whole w out.0 out.1) in
              let sp = subst (λ q. Spells am whole (contents s₁).bytes (contents s₁).capacity (watched_of rs₁) (watched_of ms₁) q.head f) same out.2.spells in
              let r = run_from sp in
              let end = subst (λ q. SpellsAt am contents (moment t rs₂ ms₂ s₂ z₂) (run am f q).0) all (M.ends f sp enough) in (
                w',
                refl,
                record {
                  first = moment (text.Whole w) rs₁ ms₁ s₁ z;
                  last = moment t rs₂ ms₂ s₂ z₂;
                  opened = sp;
                  each_byte_once = out.2.each_once;
                  opened_later = O.later;
                  opened_scratch = refl;
                  ran = r;
                  answers = answers_of (moment (text.Whole w) rs₁ ms₁ s₁ z) f r.trace cs (take (length cs) ans₂) r.runs;
                  other_replies = M.others;
                  ends = E.ends (contents s₂).bytes (contents s₂).capacity ms₂ (run am f cs).0 end;
                  ends_later = record { slots = E.later; marks = refl };
                  ends_store = refl;
                  ends_scratch = refl;
                },
              )
