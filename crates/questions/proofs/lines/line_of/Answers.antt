use Rattle.std.proofs.Common.{leb, refl, arith}
use Rattle.std.proofs.lemmas.Bool.{le-leb, lt-leb}
use Rattle.asking.proofs.Tellings.{hears, hears_none, unsized_by, refusal_by, told_by}
use Rattle.questions.proofs.lines.line_of.Goals as goal

pub returns-in_err-size : goal.returns-in_err-size
returns-in_err-size g c ms = unsized_by c.size_of.ensures c.in_err-size.was

pub returns-then-at-size : goal.returns-then-at-size
returns-then-at-size g c ms = refusal_by c.size_of.ensures c.in_ok-size.was (leb c.args.at) (λ m. refl) (lt-leb _ _ c.if-at-size.true)

pub returns-in_err-place_of : goal.returns-in_err-place_of
returns-in_err-place_of g c ms =
    told_by c.size_of.ensures c.in_ok-size.was (leb c.args.at) (λ m. refl) (le-leb _ _ c.if-at-size.false) (λ T e. omega arith) (λ m. refl) (omega arith) c.place_of.ensures (hears_none c.in_err-place_of.was)

pub returns : goal.returns
returns g c ms =
    told_by c.size_of.ensures c.in_ok-size.was (leb c.args.at) (λ m. refl) (le-leb _ _ c.if-at-size.false) (λ T e. omega arith) (λ m. refl) (omega arith) c.place_of.ensures (hears c.in_ok-place_of.was)
