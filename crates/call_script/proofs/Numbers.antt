-- The plain machine over the longest line as its measure has it, and over its length.
use Rattle.std.proofs.Common.{◌≡◌, ℕ, List, Some, None, Ok, Err, Option, refl, ap}
use Rattle.plain.specs.Lists.{slice}
use Rattle.plain.specs.Questions.{longest}
use Rattle.plain.specs.Machine.{Machine, Call, Outcome, text, refusal, accepted, step}
use Rattle.plain.specs.declared.answers.Answer.TheVariants as answer
use Rattle.plain.specs.declared.calls.Call.TheVariants as call
use Rattle.plain.specs.declared.faults.CallFault.{CallFault}
use Rattle.measures.specs.Lines.{lines}
use Rattle.measures.proofs.LineLaws.{lines_longest}
use Rattle.call_script.specs.Replied.{numbered, numbered_outcome}

same_accepted : (m : Machine) (c : Call) → (accepted lines m c).0 ≡ (accepted longest m c).0
same_accepted m (call.Insert p s) = refl
same_accepted m (call.Delete a b) = refl
same_accepted m (call.Cut a b) = refl
same_accepted m (call.Paste p) = refl
same_accepted m call.Discard = refl
same_accepted m (call.Mark q l) = refl
same_accepted m (call.LineOf p) = refl
same_accepted m (call.StartOf k) = refl
same_accepted m (call.TokenAt p) = refl
same_accepted m (call.TokenNumber k) = refl
same_accepted m (call.BracketAt p) = refl
same_accepted m (call.MarkFrom q) = refl
same_accepted m (call.Range a b) = refl
same_accepted m call.Whole = refl
same_accepted m (call.Audit n) = refl

number_accepted : (m : Machine) (c : Call) → numbered (accepted lines m c).1 ≡ (accepted longest m c).1
number_accepted m (call.Insert p s) = refl
number_accepted m (call.Delete a b) = refl
number_accepted m (call.Cut a b) = refl
number_accepted m (call.Paste p) = refl
number_accepted m call.Discard = refl
number_accepted m (call.Mark q l) = refl
number_accepted m (call.LineOf p) = refl
number_accepted m (call.StartOf k) = refl
number_accepted m (call.TokenAt p) = refl
number_accepted m (call.TokenNumber k) = refl
number_accepted m (call.BracketAt p) = refl
number_accepted m (call.MarkFrom q) = refl
number_accepted m (call.Range a b) = ap answer.Range (lines_longest (slice (text m) a b))
number_accepted m call.Whole = refl
number_accepted m (call.Audit n) = refl

by_refusal : {V : Type 0} → (List ℕ → V) → Machine → Call → Option CallFault → Machine × Outcome V
by_refusal M m c o = elim o [
  | None ↦ ((accepted M m c).0, Ok (accepted M m c).1)
  | Some f ↦ (m, Err f)
]

same_by : (m : Machine) (c : Call) (o : Option CallFault) → (by_refusal lines m c o).0 ≡ (by_refusal longest m c o).0
unfolding by_refusal
same_by m c None = same_accepted m c
same_by m c (Some f) = refl

number_by : (m : Machine) (c : Call) (o : Option CallFault) → numbered_outcome (by_refusal lines m c o).1 ≡ (by_refusal longest m c o).1
unfolding by_refusal
number_by m c None = ap Ok (number_accepted m c)
number_by m c (Some f) = refl

pub same_machine : (m : Machine) (c : Call) → (step lines m c).0 ≡ (step longest m c).0
unfolding by_refusal
same_machine m c = same_by m c (refusal m c)

pub number_step : (m : Machine) (c : Call) → numbered_outcome (step lines m c).1 ≡ (step longest m c).1
unfolding by_refusal
number_step m c = number_by m c (refusal m c)
