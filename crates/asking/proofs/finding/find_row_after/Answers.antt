use Rattle.std.proofs.Common.{ap, ◌∙◌, rules}
use Rattle.std.specs.Option.{option_transpose}
use Rattle.asking.proofs.RowTurns.{later_lost, later_read}
use Rattle.asking.proofs.finding.find_row_after.Goals as goal

pub returns-in_err-found : goal.returns-in_err-found
returns-in_err-found g c = later_lost c.seek_after.ensures c.in_err-found.was

pub returns : goal.returns
returns g c = later_read c.seek_after.ensures c.in_ok-found.was (c.transpose.ensures ∙ ap option_transpose (search rules))
