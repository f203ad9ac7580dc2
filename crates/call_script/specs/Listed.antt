-- The calls of a script as one list, and the bytes that they insert.
use Rattle.std.specs.Prelude.{ℕ, List, [], ◌∷◌, ◌++◌, Some, None, Option}
use Rattle.plain.specs.Machine.{Call}
use Rattle.plain.specs.Script.{Request, request_of_line}
use Rattle.plain.specs.declared.calls.Call.TheVariants as call
use Rattle.plain.specs.declared.calls.Request.TheVariants as request

-- the call that a line asks for
abbrev pub asked_call : Option Request → Option Call
asked_call None = None
asked_call (Some (request.Open s)) = None
asked_call (Some (request.Call c)) = Some c

abbrev pub with_call : Option Call → List Call → List Call
with_call None cs = cs
with_call (Some c) cs = c ∷ cs

-- the calls that the lines ask for
abbrev pub calls_of : List (List ℕ) → List Call
calls_of [] = []
calls_of (l ∷ ls) = with_call (asked_call (request_of_line l)) (calls_of ls)

-- the bytes that a call inserts
abbrev pub inserted : Call → List ℕ
inserted (call.Insert p s) = s
inserted (call.Delete a b) = []
inserted (call.Cut a b) = []
inserted (call.Paste p) = []
inserted call.Discard = []
inserted (call.Mark q l) = []
inserted (call.LineOf p) = []
inserted (call.StartOf k) = []
inserted (call.TokenAt p) = []
inserted (call.TokenNumber k) = []
inserted (call.BracketAt p) = []
inserted (call.MarkFrom q) = []
inserted (call.Range a b) = []
inserted call.Whole = []
inserted (call.Audit n) = []

-- and those of all calls
abbrev pub all_inserted : List Call → List ℕ
all_inserted [] = []
all_inserted (c ∷ cs) = inserted c ++ all_inserted cs
