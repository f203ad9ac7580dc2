use Rattle.std.proofs.Common.{◌<◌, ap, arith, rules}
use Rattle.slots.specs.Sides.{count}
use Rattle.slots.proofs.Ends.{count_peeled}
use Rattle.concat.proofs.Extending.{extend_none, extend_more, extend_no_push}
use Rattle.concat.proofs.joins.+extend_down.Goals as goal

pub returns-in-None-clause-extended : goal.returns-in-None-clause-extended
returns-in-None-clause-extended g t c = extend_none c.in-None.is

pub returns-in_ok-more-in-Some-clause-extended : goal.returns-in_ok-more-in-Some-clause-extended
returns-in_ok-more-in-Some-clause-extended g t c = extend_more c.push_down.ensures.pushed c.flip.ensures c.peel-near.ensures c.in-Some.is c.in_ok-more-in-Some.was c.extend_down.ensures.extended

pub returns-in_err-more-in-Some-clause-extended : goal.returns-in_err-more-in-Some-clause-extended
returns-in_err-more-in-Some-clause-extended g t c = extend_no_push c.push_down.ensures.pushed c.flip.ensures c.peel-near.ensures c.in-Some.is c.in_err-more-in-Some.was

pub extend_down-requires : goal.extend_down-requires
extend_down-requires g t c κs within =
    let less : count c.peel-near.result.rest < t = omega (arith, count_peeled c.flip.result c.in-Some.digit c.peel-near.ensures, ap count c.in-Some.is, c.decreases) in
    search rules
