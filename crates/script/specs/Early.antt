-- What is answered as long as the engine is missing: texts are opened and summed up, and every other call is refused
-- as one that is not allowed. With the engine this file goes, and the plain `panel` takes the place of `early_panel`.
use Rattle.std.specs.Prelude.{◌≡◌, ℕ, suc, Bool, true, false, cond, List, [], ◌∷◌, ◌++◌, Some, None, Option, refl}
use Rattle.std.proofs.Common.{ap}
use Rattle.plain.specs.Machine.{Call}
use Rattle.plain.specs.Script.{Request, State, line_step, refused_at, request_of_line, lines_of, printed}
use Rattle.plain.specs.declared.calls.Call.TheVariants as call
use Rattle.plain.specs.declared.calls.Request.TheVariants as request
use Rattle.plain.specs.declared.faults.CallFault.TheVariants.{NotAllowed}
use Rattle.plain.specs.declared.faults.LineFault.TheVariants as fault
use Rattle.script.specs.Engines.{Waits}

abbrev pub sums_up : Call → Bool
sums_up (call.Insert p s) = false
sums_up (call.Delete a b) = false
sums_up (call.Cut a b) = false
sums_up (call.Paste p) = false
sums_up call.Discard = false
sums_up (call.Mark q l) = false
sums_up (call.LineOf p) = false
sums_up (call.StartOf k) = false
sums_up (call.TokenAt p) = false
sums_up (call.TokenNumber k) = false
sums_up (call.BracketAt p) = false
sums_up (call.MarkFrom q) = false
sums_up (call.Range a b) = false
sums_up call.Whole = true
sums_up (call.Audit n) = false

abbrev pub ready : Option Request → Bool
ready None = true
ready (Some (request.Open s)) = true
ready (Some (request.Call c)) = sums_up c

-- as the plain script machine where it is ready
abbrev pub early_step : ℕ → State → Option Request → State × List (List ℕ)
early_step i m r = cond (ready r) (line_step i m r) (m, refused_at i (fault.Call NotAllowed))

abbrev pub early_from : ℕ → State → List (List ℕ) → List ℕ
early_from i m [] = []
early_from i m (l ∷ ls) = let x = early_step i m (request_of_line l) in printed x.1 ++ early_from (suc i) x.0 ls

abbrev pub early_panel : List ℕ → List ℕ
early_panel input = early_from 1 None (lines_of input)

-- It opens texts as the plain script machine does.
waits_step : (i : ℕ) (r : Option Request) → early_step i None r ≡ line_step i None r
waits_step i None = refl
waits_step i (Some (request.Open s)) = refl
waits_step i (Some (request.Call c)) = by (sums_up c)
  where
    by : (b : Bool) → cond b (line_step i None (Some (request.Call c))) (None, refused_at i (fault.Call NotAllowed)) ≡ line_step i None (Some (request.Call c))
    by true = refl
    by false = refl

pub early_waits : Waits early_from
early_waits = record {
  ends = λ i. refl;
  reads = λ i l ls. ap (λ (x : State × List (List ℕ)). printed x.1 ++ early_from (suc i) x.0 ls) (waits_step i (request_of_line l));
}
