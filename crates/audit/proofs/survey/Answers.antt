use Rattle.std.proofs.Common.{◌≡◌, ◌≤◌, length, eqb, refl, rules, arith}
use Rattle.std.proofs.lemmas.List.Elements.{contains_decides}
use Rattle.audit.proofs.Covers.{lent_back, roots_unsound, chain_unsound, slot_lost, all_sound}
use Rattle.audit.proofs.survey.Goals as goal
use Rattle.std.proofs.lemmas.Bool.Decides.{Decides-eqb}

pub returns-in_err-visit_roots : goal.returns-in_err-visit_roots
returns-in_err-visit_roots g c = let fits : c.args.limit ≤ 65535 = omega arith in lent_back (roots_unsound fits refl refl c.visit_roots.ensures.visited _ c.in_err-visit_roots.was c.from_residual.ensures.0) (search rules)

pub returns-in_err-visit_chain : goal.returns-in_err-visit_chain
returns-in_err-visit_chain g c = let fits : c.args.limit ≤ 65535 = omega arith in lent_back (chain_unsound fits refl refl c.visit_roots.ensures.visited c.in_ok-visit_roots.was c.visit_chain.ensures _ c.in_err-visit_chain.was c.from_residual-in_err-visit_chain.ensures.0) (search rules)

pub returns-then-contains : goal.returns-then-contains
returns-then-contains g c =
    let fits : c.args.limit ≤ 65535 = omega arith in
    lent_back (slot_lost fits refl refl c.visit_roots.ensures.visited c.in_ok-visit_roots.was c.visit_chain.ensures c.in_ok-visit_chain.was
    (contains_decides eqb Decides-eqb c.visit_chain.new.marks 0 c.contains.result c.contains.ensures.cases) c.if-contains.true) (search rules)

pub returns : goal.returns
returns g c =
    let fits : c.args.limit ≤ 65535 = omega arith in
    let long : length c.visit_chain.new.marks ≡ length c.args.marks.now = search rules in
    lent_back (all_sound fits refl refl c.visit_roots.ensures.visited c.in_ok-visit_roots.was c.visit_chain.ensures c.in_ok-visit_chain.was
    (contains_decides eqb Decides-eqb c.visit_chain.new.marks 0 c.contains.result c.contains.ensures.cases) c.if-contains.false long refl) (search rules)
