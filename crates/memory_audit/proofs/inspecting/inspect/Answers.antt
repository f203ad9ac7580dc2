use Rattle.std.proofs.Common.{◌≤◌, length, rules, sym, ◌∙◌}
use Rattle.memory_audit.proofs.Counting.{all_counted, other_count, no_trees}
use Rattle.memory_audit.proofs.inspecting.inspect.Goals as goal

pub returns-then-from-count : goal.returns-then-from-count
returns-then-from-count g c =
    let least : 130 ≤ length c.args.slots.now = search rules in
    let most : length c.args.slots.now ≤ 8316 = search rules in
    all_counted least most c.limit-most.ensures c.audit.ensures c.in-Ok.is (sym c.from-2.ensures ∙ c.if-from-count.true)

pub returns-else-from-count : goal.returns-else-from-count
returns-else-from-count g c =
    let least : 130 ≤ length c.args.slots.now = search rules in
    let most : length c.args.slots.now ≤ 8316 = search rules in
    other_count least most c.limit-most.ensures c.audit.ensures c.in-Ok.is (λ is. c.if-from-count.false (c.from-2.ensures ∙ is))

pub returns-in_default : goal.returns-in_default
returns-in_default g c =
    let least : 130 ≤ length c.args.slots.now = search rules in
    let most : length c.args.slots.now ≤ 8316 = search rules in
    no_trees least most c.limit-most.ensures c.audit.ensures c.in_default.is
