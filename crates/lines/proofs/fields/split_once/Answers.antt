use Rattle.std.proofs.Common.{rules, tests, eqb}
use Rattle.std.proofs.lemmas.Iterator.{YieldsList-from_slice}
use Rattle.std.proofs.lemmas.Iterator.Search.{position_from_yields_List}
use Rattle.lines.proofs.Parting.{parted_nowhere, parted_here}
use Rattle.lines.proofs.fields.split_once.Goals as goal

pub returns-in_err-at-clause-parts : goal.returns-in_err-at-clause-parts
returns-in_err-at-clause-parts c =
    let t = c.args.bytes.now in
    let e = position_from_yields_List (λ b. eqb b c.args.byte) _ _ c.position.result c.position.ensures.ran (YieldsList-from_slice t cc) (λ x b q k. search (rules, tests)) in
    let p = parted_nowhere c.args.byte t c.position.result e c.in_err-at.was in
    rw c.from_residual.ensures p

pub returns-clause-parts : goal.returns-clause-parts
returns-clause-parts c =
    let t = c.args.bytes.now in
    let e = position_from_yields_List (λ b. eqb b c.args.byte) _ _ c.position.result c.position.ensures.ran (YieldsList-from_slice t cc) (λ x b q k. search (rules, tests)) in
    parted_here c.args.byte t c.position.result e c.in_ok-at.at c.in_ok-at.was
