use Rattle.std.proofs.Common.{ap, ◌∙◌, rules}
use Rattle.std.specs.Option.{option_transpose}
use Rattle.asking.proofs.RowTurns.{row_lost, row_read}
use Rattle.asking.proofs.finding.find_row.Goals as goal

pub returns-in_err-found : goal.returns-in_err-found
returns-in_err-found g c = row_lost c.search.ensures c.in_err-found.was

pub returns : goal.returns
returns g c = row_read c.search.ensures c.in_ok-found.was (c.transpose.ensures ∙ ap option_transpose (search rules))
