use Rattle.std.proofs.Common.{ap, ◌∙◌}
use Rattle.std.specs.Option.{option_map}
use Rattle.lines.specs.Bytes.{bytes_of}
use Rattle.lines.specs.Requests.{map_request}
use Rattle.lines.proofs.Records.{nameless_three}
use Rattle.lines.proofs.reading.three_fields.Goals as goal

pub returns-in_err-letter : goal.returns-in_err-letter
returns-in_err-letter c =
    ap (option_map (map_request bytes_of)) c.from_residual.ensures ∙ nameless_three c.args.name.now c.in_err-letter.ensures c.args.first.now c.args.second.now
