-- The table is computed.
use Rattle.std.proofs.Common.{refl}
use Rattle.std.specs.Fmt.{digits}
use Rattle.plain.proofs.laws.examples_hold.Goals as goal

pub returns : goal.returns
unfolding digits
returns c = record { table = refl; script = refl }
