-- Calls and texts as the code has them, and as the plain machine does.
use Rattle.std.specs.Prelude.{ℕ, List, map, Ok, Err, Result}
use Rattle.std.specs.Borrow.{Bor}
use Rattle.plain.specs.Machine.{Call}
use Rattle.plain.specs.declared.answers.Answer.{Answer}
use Rattle.plain.specs.declared.answers.Answer.TheVariants.{Done, Sound}
use Rattle.plain.specs.declared.calls.Call as calls
use Rattle.plain.specs.declared.calls.Call.TheVariants as call
use Rattle.plain.specs.declared.faults.TextFault.{TextFault}
use Rattle.plain.specs.declared.faults.CallFault.{CallFault}
use Rattle.plain.specs.declared.faults.CallFault.TheVariants as fault
use Rattle.pieces.specs.Sound.{Mode, whole, held}
use Rattle.pieces.specs.declared.head.Head.{Head}
use Rattle.calls.specs.declared.texts.Text.{Text}
use Rattle.calls.specs.declared.texts.Text.TheVariants as text

-- a call whose bytes are lent, as the plain machine has it
abbrev pub plain_call : calls.Call (Bor (List ℕ)) → Call
plain_call (call.Insert p s) = call.Insert p s.now
plain_call (call.Delete a b) = call.Delete a b
plain_call (call.Cut a b) = call.Cut a b
plain_call (call.Paste p) = call.Paste p
plain_call call.Discard = call.Discard
plain_call (call.Mark q l) = call.Mark q l
plain_call (call.LineOf p) = call.LineOf p
plain_call (call.StartOf k) = call.StartOf k
plain_call (call.TokenAt p) = call.TokenAt p
plain_call (call.TokenNumber k) = call.TokenNumber k
plain_call (call.BracketAt p) = call.BracketAt p
plain_call (call.MarkFrom q) = call.MarkFrom q
plain_call (call.Range a b) = call.Range a b
plain_call call.Whole = call.Whole
plain_call (call.Audit n) = call.Audit n

abbrev pub plain_calls : List (calls.Call (Bor (List ℕ))) → List Call
plain_calls = map plain_call

-- A call is an edit, a question or the audit.
pub data Kind : Type 0 where
  edits questions audits : Kind

abbrev pub kind_of : Call → Kind
kind_of (call.Insert p s) = edits
kind_of (call.Delete a b) = edits
kind_of (call.Cut a b) = edits
kind_of (call.Paste p) = edits
kind_of call.Discard = edits
kind_of (call.Mark q l) = edits
kind_of (call.LineOf p) = questions
kind_of (call.StartOf k) = questions
kind_of (call.TokenAt p) = questions
kind_of (call.TokenNumber k) = questions
kind_of (call.BracketAt p) = questions
kind_of (call.MarkFrom q) = questions
kind_of (call.Range a b) = questions
kind_of call.Whole = questions
kind_of (call.Audit n) = audits

abbrev pub head_of : Text → Head
head_of (text.Whole w) = w.head
head_of (text.Held h) = h.head

abbrev pub mode_of : Text → Mode
mode_of (text.Whole w) = whole
mode_of (text.Held h) = held

-- what an edit, a question and an audit give in a list
abbrev pub done_or_fault : {V : Type 0} → Result (Unit {0}) TextFault → Result (Answer V) CallFault
done_or_fault (Ok u) = Ok Done
done_or_fault (Err f) = Err (fault.Text f)

abbrev pub answered : {V : Type 0} → Result (Answer V) TextFault → Result (Answer V) CallFault
answered (Ok x) = Ok x
answered (Err f) = Err (fault.Text f)

abbrev pub sound_or_fault : {V : Type 0} → Result (Unit {0}) TextFault → Result (Answer V) CallFault
sound_or_fault (Ok u) = Ok Sound
sound_or_fault (Err f) = Err (fault.Text f)
