use Rattle.std.proofs.Common.{◌∙◌}
use Rattle.text.proofs.Lending.{lent}
use Rattle.text.proofs.watching.watched_part.Goals as goal

pub returns : goal.returns
returns g c = lent c.args.slots.now c.from.result (c.from.ensures ∙ c.watched.ensures)
