use Rattle.asking.proofs.PartPaths.{part_empty, part_read}
use Rattle.asking.proofs.parts.measure_part.Goals as goal

pub returns-then-part-eq0 : goal.returns-then-part-eq0
returns-then-part-eq0 g c = part_empty c.if-part-eq0.true c.empty.ensures

pub returns : goal.returns
returns g c = part_read g.S.Store.lawful c.if-part-eq0.false c.measure_row.ensures
