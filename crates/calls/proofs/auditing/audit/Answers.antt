use Rattle.calls.proofs.Audits.{audit_lent}
use Rattle.calls.proofs.auditing.audit.Goals as goal

pub returns : goal.returns
returns g c = audit_lent g.A.Measure.means g.S.Store.contents c.args.scratch.now c.audit.new.scratch c.args.bytes c.min-lent.result c.min-lent.ensures c.audit.ensures
