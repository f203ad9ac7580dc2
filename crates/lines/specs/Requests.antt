-- A request over other carriers of bytes: the same numbers, and f of the bytes.
use Rattle.plain.specs.declared.calls.Call.{Call}
use Rattle.plain.specs.declared.calls.Call.TheVariants as call
use Rattle.plain.specs.declared.calls.Request.{Request}
use Rattle.plain.specs.declared.calls.Request.TheVariants as request

module _ {B C : Type 0} (f : B → C) where
  abbrev pub map_call : Call B → Call C
  map_call (call.Insert p s) = call.Insert p (f s)
  map_call (call.Delete a b) = call.Delete a b
  map_call (call.Cut a b) = call.Cut a b
  map_call (call.Paste p) = call.Paste p
  map_call call.Discard = call.Discard
  map_call (call.Mark q l) = call.Mark q l
  map_call (call.LineOf p) = call.LineOf p
  map_call (call.StartOf k) = call.StartOf k
  map_call (call.TokenAt p) = call.TokenAt p
  map_call (call.TokenNumber k) = call.TokenNumber k
  map_call (call.BracketAt p) = call.BracketAt p
  map_call (call.MarkFrom q) = call.MarkFrom q
  map_call (call.Range a b) = call.Range a b
  map_call call.Whole = call.Whole
  map_call (call.Audit n) = call.Audit n

  abbrev pub map_request : Request B → Request C
  map_request (request.Open s) = request.Open (f s)
  map_request (request.Call c) = request.Call (map_call c)
