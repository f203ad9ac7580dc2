use Rattle.std.proofs.Common.{rules}
use Rattle.memory_audit.proofs.Fronts.{short_scratch, front_sound, front_unsound}
use Rattle.memory_audit.proofs.audit_memory.Goals as goal

pub returns-then-scratch-larger : goal.returns-then-scratch-larger
returns-then-scratch-larger g c = short_scratch c.max-larger.ensures c.if-scratch-larger.true

pub returns-in_err-found : goal.returns-in_err-found
returns-in_err-found g c =
    front_unsound c.args.scratch.now c.max-larger.ensures c.if-scratch-larger.false c.inspect_memory-found.ensures c.inspect_memory-found.auto.scratch (c.fill.ensures.after (λ y e. e)) c.in_err-found.was
    (search rules)

pub returns : goal.returns
returns g c =
    front_sound c.args.scratch.now c.max-larger.ensures c.if-scratch-larger.false c.inspect_memory-found.ensures c.inspect_memory-found.auto.scratch (c.fill.ensures.after (λ y e. e)) c.in_ok-found.was
