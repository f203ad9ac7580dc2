-- With one reply to each call, what is printed is the plain script machine's.
use Rattle.std.proofs.Common.{◌≡◌, ℕ, suc, List, [], ◌∷◌, ◌++◌, IfOk, Some, None, Ok, Err, Option, Result, refl, ap, ◌∙◌, subst, ap₂}
use Rattle.plain.specs.Questions.{longest}
use Rattle.plain.specs.Machine.{Machine, Call, size, step}
use Rattle.plain.specs.Script.{Request, request_of_line, lines_of, printed, outcome_fields, line_step, lines_from}
use Rattle.plain.specs.declared.calls.Request.TheVariants as request
use Rattle.measures.specs.Lines.{lines}
use Rattle.measures.specs.declared.longest_line.LongestLine.{LongestLine}
use Rattle.calls.specs.declared.texts.Reply.{Reply}
use Rattle.call_script.specs.Listed.{asked_call, with_call, calls_of}
use Rattle.call_script.specs.Replied.{Replies, Replied, numbered_outcome, reply_step, replies_from}
use Rattle.call_script.proofs.Numbers.{same_machine, number_step}

Printed : List (List ℕ) → Type 0
Printed ls = (i : ℕ) (m : Machine) (ans : Replies) → Replied m (calls_of ls) ans → replies_from i ans ls ≡ lines_from i (Some m) ls

module _ (ls : List (List ℕ)) (ih : Printed ls) (i : ℕ) (m : Machine) where
  fields_same : (c : Call) (a : Reply LongestLine) → a.outcome ≡ (step lines m c).1 → a.size ≡ size (step lines m c).0 → outcome_fields i a.size (numbered_outcome a.outcome) ≡ outcome_fields i (size (step longest m c).0) (step longest m c).1
  fields_same c a e f = ap₂ (outcome_fields i) (f ∙ ap size (same_machine m c)) (ap numbered_outcome e ∙ number_step m c)

  by_request : (r : Option Request) (ans : Replies) → Replied m (with_call (asked_call r) (calls_of ls)) ans
      → printed (reply_step i ans r).1 ++ replies_from (suc i) (reply_step i ans r).0 ls ≡ printed (line_step i (Some m) r).1 ++ lines_from (suc i) (line_step i (Some m) r).0 ls
  unfolding Printed
  by_request None ans h = ap (λ q. printed (line_step i (Some m) None).1 ++ q) (ih (suc i) m ans h)
  by_request (Some (request.Open s)) ans h = ap (λ q. printed (line_step i (Some m) (Some (request.Open s))).1 ++ q) (ih (suc i) m ans h)
  by_request (Some (request.Call c)) [] h = absurd h
  by_request (Some (request.Call c)) (a ∷ ans) h =
      ap₂ (λ p q. printed p ++ q) (fields_same c a h.0 h.1.0)
      (ih (suc i) (step lines m c).0 ans h.1.1 ∙ ap (λ k. lines_from (suc i) (Some k) ls) (same_machine m c))

all_printed : (ls : List (List ℕ)) → Printed ls
unfolding Printed
all_printed [] i m ans h = refl
all_printed (l ∷ ls) i m ans h = by_request ls (all_printed ls) i m (request_of_line l) ans h

-- of the calls cs, which are those of the lines
pub replies_printed : (i : ℕ) (m : Machine) (rest : List ℕ) (cs : List Call) (ans : Replies) → cs ≡ calls_of (lines_of rest) → Replied m cs ans → replies_from i ans (lines_of rest) ≡ lines_from i (Some m) (lines_of rest)
unfolding Printed
replies_printed i m rest cs ans e h = all_printed (lines_of rest) i m ans (subst (λ q. Replied m q ans) e h)

pub made_printed : {T E : Type 0} (r : Result T E) (old new a b : List ℕ) → a ≡ b → IfOk r (λ _. new ≡ old ++ a) → IfOk r (λ _. new ≡ old ++ b)
made_printed (Ok x) old new a b e h = h ∙ ap (λ q. old ++ q) e
made_printed (Err x) old new a b e h = tt
