use Rattle.concat.proofs.Melting.{left_empty, right_empty, left_one, right_one, no_left, no_right, no_fuel, no_nodes, no_middle, no_gift, both}
use Rattle.concat.proofs.joins.+concat_down.Goals as goal

pub returns-in-Empty-default-clause-melted : goal.returns-in-Empty-default-clause-melted
returns-in-Empty-default-clause-melted g t c = left_empty c.in-Empty-default.is-0 c.extend_down.ensures.extended

pub returns-in-Single-default-clause-melted : goal.returns-in-Single-default-clause-melted
returns-in-Single-default-clause-melted g t c = left_one c.in-Single-default.is-0 c.extend_past.ensures.extended

pub returns-in_default-Empty-clause-melted : goal.returns-in_default-Empty-clause-melted
returns-in_default-Empty-clause-melted g t c = right_empty c.in_default-Empty.is-1 c.extend_down-in_default-Empty.ensures.extended

pub returns-in_default-Single-clause-melted : goal.returns-in_default-Single-clause-melted
returns-in_default-Single-clause-melted g t c = right_one c.in_default-Single.is-1 c.extend_past-in_default-Single.ensures.extended

pub returns-then-fuel-eq0-clause-melted : goal.returns-then-fuel-eq0-clause-melted
returns-then-fuel-eq0-clause-melted g t c = no_fuel c.if-fuel-eq0.true

pub returns-in_err-l-in-Deep-Deep-clause-melted : goal.returns-in_err-l-in-Deep-Deep-clause-melted
returns-in_err-l-in-Deep-Deep-clause-melted g t c = no_left c.in-Deep-Deep.is-0 c.spine_at.ensures c.in_err-l-in-Deep-Deep.was

pub returns-in_err-r-in-Deep-Deep-clause-melted : goal.returns-in_err-r-in-Deep-Deep-clause-melted
returns-in_err-r-in-Deep-Deep-clause-melted g t c = no_right c.in-Deep-Deep.is-1 c.spine_at-in-Deep-Deep.ensures c.in_err-r-in-Deep-Deep.was

pub returns-in_err-nodes-in-Deep-Deep-clause-melted : goal.returns-in_err-nodes-in-Deep-Deep-clause-melted
returns-in_err-nodes-in-Deep-Deep-clause-melted g t c = no_nodes c.in-Deep-Deep.is-0 c.in-Deep-Deep.is-1 c.spine_at.ensures c.in_ok-l-in-Deep-Deep.was c.spine_at-in-Deep-Deep.ensures c.in_ok-r-in-Deep-Deep.was c.bundle.ensures.bundled c.in_err-nodes-in-Deep-Deep.was

pub returns-in_err-middle-in-Deep-Deep-clause-melted : goal.returns-in_err-middle-in-Deep-Deep-clause-melted
returns-in_err-middle-in-Deep-Deep-clause-melted g t c = no_middle c.in-Deep-Deep.is-0 c.in-Deep-Deep.is-1 c.spine_at.ensures c.in_ok-l-in-Deep-Deep.was c.spine_at-in-Deep-Deep.ensures c.in_ok-r-in-Deep-Deep.was c.bundle.ensures.bundled c.in_ok-nodes-in-Deep-Deep.was c.concat_down.ensures.melted c.in_err-middle-in-Deep-Deep.was

pub returns-in_err-give-in-Deep-Deep-clause-melted : goal.returns-in_err-give-in-Deep-Deep-clause-melted
returns-in_err-give-in-Deep-Deep-clause-melted g t c = no_gift c.in-Deep-Deep.is-0 c.in-Deep-Deep.is-1 c.spine_at.ensures c.in_ok-l-in-Deep-Deep.was c.spine_at-in-Deep-Deep.ensures c.in_ok-r-in-Deep-Deep.was c.bundle.ensures.bundled c.in_ok-nodes-in-Deep-Deep.was c.concat_down.ensures.melted c.give.ensures.given c.in_err-give-in-Deep-Deep.was

pub returns-in_ok-give-in-Deep-Deep-clause-melted : goal.returns-in_ok-give-in-Deep-Deep-clause-melted
returns-in_ok-give-in-Deep-Deep-clause-melted g t c = both c.in-Deep-Deep.is-0 c.in-Deep-Deep.is-1 c.spine_at.ensures c.in_ok-l-in-Deep-Deep.was c.spine_at-in-Deep-Deep.ensures c.in_ok-r-in-Deep-Deep.was c.bundle.ensures.bundled c.in_ok-nodes-in-Deep-Deep.was c.concat_down.ensures.melted c.join_between_in-value.ensures c.in_ok-middle-in-Deep-Deep.was c.give.ensures.given c.put_level.ensures
