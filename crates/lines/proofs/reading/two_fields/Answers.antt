use Rattle.std.proofs.Common.{ap, ◌∙◌}
use Rattle.std.specs.Option.{option_map}
use Rattle.lines.specs.Bytes.{bytes_of}
use Rattle.lines.specs.Requests.{map_request}
use Rattle.lines.proofs.Records.{nameless_two}
use Rattle.lines.proofs.reading.two_fields.Goals as goal

pub returns-in-err-letter : goal.returns-in-err-letter
returns-in-err-letter c =
    ap (option_map (map_request bytes_of)) c.from-residual.ensures ∙ nameless_two c.args.name.now c.in-err-letter.ensures c.args.field.now
