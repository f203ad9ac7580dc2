use Rattle.std.proofs.lemmas.Bool.{not-true, not-false}
use Rattle.token_answers.proofs.TokenPaths.{token_zero, token_no_edge, token_past, token_no_end, token_no_kind, token_found}
use Rattle.token_answers.proofs.tokens.token_numbered.Goals as goal

pub returns-then-number-eq0 : goal.returns-then-number-eq0
returns-then-number-eq0 g c = token_zero c.args.number c.if-number-eq0.true

pub returns-in_err-from : goal.returns-in_err-from
returns-in_err-from g c = token_no_edge c.args.number c.if-number-eq0.false c.token_edge.ensures c.in_err-from.was

pub returns-then-not-from : goal.returns-then-not-from
returns-then-not-from g c = token_past c.args.number c.if-number-eq0.false c.token_edge.ensures c.in_ok-from.was (not-true _ c.if-not-from.true)

pub returns-in_err-until : goal.returns-in_err-until
returns-in_err-until g c = token_no_end c.args.number c.if-number-eq0.false c.token_edge.ensures c.in_ok-from.was (not-false _ c.if-not-from.false) c.saturating_add.ensures c.token_edge-2.ensures c.in_err-until.was

pub returns-in_err-kind : goal.returns-in_err-kind
returns-in_err-kind g c =
    let kind = rw (c.kind_between.ensures.1) at c.kind_between.ensures.2 in
    token_no_kind c.args.number c.if-number-eq0.false c.token_edge.ensures c.in_ok-from.was (not-false _ c.if-not-from.false) c.saturating_add.ensures c.token_edge-2.ensures c.in_ok-until.was kind c.in_err-kind.was

pub returns : goal.returns
returns g c =
    let kind = rw (c.kind_between.ensures.1) at c.kind_between.ensures.2 in
    token_found c.args.number c.if-number-eq0.false c.token_edge.ensures c.in_ok-from.was (not-false _ c.if-not-from.false) c.saturating_add.ensures c.token_edge-2.ensures c.in_ok-until.was kind c.in_ok-kind.was
