use Rattle.std.proofs.Common.{rules}
use Rattle.calls.proofs.Sizes.{size_told}
use Rattle.calls.proofs.making.size_of.Goals as goal

pub returns : goal.returns
returns g c = size_told c.whole.ensures (search rules)
