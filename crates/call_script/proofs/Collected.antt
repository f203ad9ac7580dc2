-- The calls of a script, line by line, and their bytes.
use Rattle.std.proofs.Common.{List, map}
use Rattle.plain.specs.Machine as plain
use Rattle.plain.specs.declared.calls.Call.{Call}
use Rattle.lines.specs.Bytes.{bytes_of}
use Rattle.lines.specs.Requests.{map_call}
use Rattle.lines.specs.declared.hex.Hex.{Hex}

abbrev pub meant : Call Hex → plain.Call
meant = map_call bytes_of

abbrev pub meant_all : List (Call Hex) → List plain.Call
meant_all = map meant
