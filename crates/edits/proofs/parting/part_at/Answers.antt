use Rattle.std.proofs.Common.{Ok, ap, ◌∙◌}
use Rattle.edits.proofs.PartingAt.{no_split, all_left_of, no_ends, halved_at}
use Rattle.edits.proofs.parting.part_at.Goals as goal

pub returns-in_err-found : goal.returns-in_err-found
returns-in_err-found g c = no_split c.args.p c.empty-place.ensures c.split.ensures c.in_err-found.was

pub returns-in-None : goal.returns-in-None
returns-in-None g c = all_left_of c.args.p c.empty-place.ensures c.split.ensures (c.in_ok-found.was ∙ ap Ok c.in-None.is)

pub returns-in_err-ends-in-Some : goal.returns-in_err-ends-in-Some
returns-in_err-ends-in-Some g c = no_ends c.args.p c.empty-place.ensures c.split.ensures (c.in_ok-found.was ∙ ap Ok c.in-Some.is) c.saturating_sub-k.ensures c.keep_ends.ensures c.in_err-ends-in-Some.was

pub returns-in_ok-ends-in-Some : goal.returns-in_ok-ends-in-Some
returns-in_ok-ends-in-Some g c = halved_at c.args.p c.empty-place.ensures c.split.ensures (c.in_ok-found.was ∙ ap Ok c.in-Some.is) c.saturating_sub-k.ensures c.keep_ends.ensures c.in_ok-ends-in-Some.was
