use Rattle.std.proofs.Common.{◌≡◌, ◌^◌, ◌<◌, drop}
use Rattle.plain.specs.Script.{digits_read}
use Rattle.lines.proofs.fields.read_number.Given as goal

abbrev pub invariant-loop-b : goal.invariant-loop-b
invariant-loop-b l = (digits_read 0 l.field ≡ digits_read l.n (drop l.b-index l.field)) × (l.n < 10 ^ l.b-index)
