use Rattle.plain.proofs.Pairing.{paired, nested}
use Rattle.plain.proofs.Reading.{covers, found}
use Rattle.plain.proofs.laws.tokens_cover.Goals as goal

pub returns : goal.returns
returns c = record { covers = covers; found = found; paired = paired; nested = nested }
