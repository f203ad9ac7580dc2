use Rattle.text_laws.proofs.Single.{one_text_lem}
use Rattle.text_laws.proofs.one_text.Goals as goal

pub returns : goal.returns
returns g c = one_text_lem g.row.V.Denot
