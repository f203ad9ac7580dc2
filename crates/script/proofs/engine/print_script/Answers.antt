use Rattle.std.proofs.Common.{rules}
use Rattle.script.specs.Input.{left, next_number}
use Rattle.lines.specs.Bytes.{bytes_of}
use Rattle.script.proofs.Opening.{open_short, open_more}
use Rattle.script.proofs.engine.print_script.Goals as goal

pub open_text-requires : goal.open_text-requires
open_text-requires g c = open_short (bytes_of c.in-Ok.bytes) c.in-Some.line.bytes.now c.in-Ok.ensures

pub returns-in-Ok : goal.returns-in-Ok
returns-in-Ok g c =
    let i = next_number c.loop-line.lines in
    let more = left c.next.new.self in
    let step = open_more g.E.Engine.prints g.met.E.Engine.waits i c.in-Some.line.bytes.now (bytes_of c.in-Ok.bytes) more c.in-Ok.ensures in
    search rules
