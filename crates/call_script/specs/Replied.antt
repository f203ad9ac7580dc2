-- The replies to the calls of a script, and what is printed of them.
use Rattle.std.specs.Prelude.{◌≡◌, ℕ, suc, List, [], ◌∷◌, ◌++◌, Some, None, Ok, Err, Option}
use Rattle.plain.specs.Machine.{Machine, Call, Outcome, size, step}
use Rattle.plain.specs.Script.{Request, request_of_line, printed, refused_at, outcome_fields}
use Rattle.plain.specs.declared.answers.Answer.{Answer}
use Rattle.plain.specs.declared.answers.Answer.TheVariants as answer
use Rattle.plain.specs.declared.calls.Request.TheVariants as request
use Rattle.plain.specs.declared.faults.CallFault.TheVariants.{NotAllowed}
use Rattle.plain.specs.declared.faults.LineFault.TheVariants as fault
use Rattle.measures.specs.Lines.{lines, longest_in}
use Rattle.measures.specs.declared.longest_line.LongestLine.{LongestLine}
use Rattle.calls.specs.declared.texts.Reply.{Reply}

abbrev pub Replies : Type 0
Replies = List (Reply LongestLine)

-- One reply to each call, as the plain machine m gives it, and the size of the text after the call.
abbrev pub Replied : Machine → List Call → Replies → Type 0
Replied m [] [] = Unit {0}
Replied m [] (a ∷ more) = ⊥
Replied m (c ∷ cs) [] = ⊥
Replied m (c ∷ cs) (a ∷ more) =
    (a.outcome ≡ (step lines m c).1) × ((a.size ≡ size (step lines m c).0) × Replied (step lines m c).0 cs more)

-- Of the longest line a script prints the length.
abbrev pub numbered : Answer LongestLine → Answer ℕ
numbered answer.Done = answer.Done
numbered (answer.Line x) = answer.Line x
numbered (answer.Start o) = answer.Start o
numbered (answer.Token o) = answer.Token o
numbered (answer.Bracket o) = answer.Bracket o
numbered (answer.Mark o) = answer.Mark o
numbered (answer.Range v) = answer.Range (longest_in v)
numbered (answer.Whole x) = answer.Whole x
numbered answer.Sound = answer.Sound

abbrev pub numbered_outcome : Outcome LongestLine → Outcome ℕ
numbered_outcome (Ok x) = Ok (numbered x)
numbered_outcome (Err f) = Err f

-- Line i, when these replies are left: those left after it, and what is printed. A call takes the first of them; where there
-- is none, as never happens with one reply to each call, it counts as unreadable.
abbrev pub reply_step : ℕ → Replies → Option Request → Replies × List (List ℕ)
reply_step i more None = (more, refused_at i fault.Unreadable)
reply_step i more (Some (request.Open s)) = (more, refused_at i (fault.Call NotAllowed))
reply_step i [] (Some (request.Call c)) = ([], refused_at i fault.Unreadable)
reply_step i (a ∷ more) (Some (request.Call c)) = (more, outcome_fields i a.size (numbered_outcome a.outcome))

abbrev pub replies_from : ℕ → Replies → List (List ℕ) → List ℕ
replies_from i more [] = []
replies_from i more (l ∷ ls) = let x = reply_step i more (request_of_line l) in printed x.1 ++ replies_from (suc i) x.0 ls
