-- What an engine prints of the lines of a script.
use Rattle.std.specs.Prelude.{◌≡◌, ℕ, suc, ◌+◌, List, [], ◌∷◌, ◌++◌, length, Some, None, Ok, Err, Option, Result}
use Rattle.plain.specs.Machine.{Machine, fresh}
use Rattle.plain.specs.Script.{Request, State, request_of_line, line_step, printed, answer_fields, refused_at}
use Rattle.plain.specs.declared.calls.Request.TheVariants as request
use Rattle.plain.specs.declared.faults.CallFault.TheVariants.{NotAllowed}
use Rattle.plain.specs.declared.faults.LineFault.{LineFault}
use Rattle.plain.specs.declared.faults.LineFault.TheVariants as fault
use Rattle.script.specs.declared.replies.Answered.{Answered}

-- the text s that a script opened, with all that it lends the engine
abbrev pub opened : List ℕ → Machine
opened s = fresh s (length s + 4096) 168 168

-- while a text is open, the fault of a line that asks for no call
abbrev pub no_call : Option Request → Option LineFault
no_call None = Some fault.Unreadable
no_call (Some (request.Open s)) = Some (fault.Call NotAllowed)
no_call (Some (request.Call c)) = None

-- what is printed of line i, by what it gave
abbrev pub line_fields : ℕ → Result Answered LineFault → List (List ℕ)
line_fields i (Ok x) = answer_fields x.size x.answer
line_fields i (Err f) = refused_at i f

-- Of no lines nothing is printed, and while no text is open a line gives what it gives the plain script machine.
pub record Waits (prints : ℕ → State → List (List ℕ) → List ℕ) : Type 0 where
  pub ends : (i : ℕ) → prints i None [] ≡ []
  pub reads : (i : ℕ) (l : List ℕ) (ls : List (List ℕ)) → prints i None (l ∷ ls) ≡ printed (line_step i None (request_of_line l)).1 ++ prints (suc i) (line_step i None (request_of_line l)).0 ls
