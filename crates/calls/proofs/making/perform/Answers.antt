use Rattle.std.proofs.Common.{◌≡◌, refl, rules}
use Rattle.calls.specs.Calls.{questions, kind_of, plain_call}
use Rattle.calls.proofs.CallKinds.{edit_kind, asks_kind}
use Rattle.calls.proofs.Made.{question_made}
use Rattle.calls.proofs.Audits.{audit_made}
use Rattle.calls.proofs.Performing.{performs_as}
use Rattle.calls.proofs.making.perform.Goals as goal

pub returns-in-Insert : goal.returns-in-Insert
returns-in-Insert g c room = c.edit.ensures (edit_kind c.args.call c.in-Insert.is) c.args.scratch.now

pub returns-in-Audit : goal.returns-in-Audit
returns-in-Audit g c room =
    performs_as g.A.Measure.means g.S.Store.contents c.in-Audit.is (search rules)
    (λ m sp. audit_made g.A.Measure.means g.S.Store.contents _ c.in-Audit.bytes c.audit-result.new.store c.audit-result.new.scratch c.view.result.head.now c.view.ensures room m sp c.audit-result.result c.audit-result.ensures)

pub returns-in_default : goal.returns-in_default
returns-in_default g c room =
    let kind : kind_of (plain_call c.args.call) ≡ questions =
    asks_kind c.args.call c.in_default.not-Insert c.in_default.not-Delete c.in_default.not-Cut c.in_default.not-Paste c.in_default.not-Discard c.in_default.not-Mark c.in_default.not-Audit in
    performs_as g.A.Measure.means g.S.Store.contents refl (search rules) (question_made g.A.Measure.means g.S.Store.contents _ (plain_call c.args.call) c.ask-result.result c.ask-result.new.store c.view-in_default.result.head.now kind c.view-in_default.ensures (c.ask-result.ensures kind))
