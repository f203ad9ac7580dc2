use Rattle.std.proofs.Common.{ltb, refl, arith}
use Rattle.std.proofs.lemmas.Bool.{lt-ltb, le-ltb}
use Rattle.asking.proofs.Tellings.{hears, hears_none, unsized_by, refusal_by, told_by}
use Rattle.bracket_answers.proofs.brackets.bracket_at.Goals as goal

pub returns-in_err-size : goal.returns-in_err-size
returns-in_err-size g c ms = unsized_by c.size_of.ensures c.in_err-size.was

pub returns-then-at-size : goal.returns-then-at-size
returns-then-at-size g c ms = refusal_by c.size_of.ensures c.in_ok-size.was (ltb c.args.at) (λ m. refl) (le-ltb _ _ c.if-at-size.true)

pub returns-in_err-bracket_in : goal.returns-in_err-bracket_in
returns-in_err-bracket_in g c ms =
    told_by c.size_of.ensures c.in_ok-size.was (ltb c.args.at) (λ m. refl) (lt-ltb _ _ c.if-at-size.false) (λ T e. omega arith) (λ m. refl) (omega arith) c.bracket_in.ensures
    (hears_none c.in_err-bracket_in.was)

pub returns : goal.returns
returns g c ms =
    told_by c.size_of.ensures c.in_ok-size.was (ltb c.args.at) (λ m. refl) (lt-ltb _ _ c.if-at-size.false) (λ T e. omega arith) (λ m. refl) (omega arith) c.bracket_in.ensures
    (hears c.in_ok-bracket_in.was)
