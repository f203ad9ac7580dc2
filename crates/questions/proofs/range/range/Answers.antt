use Rattle.std.proofs.Common.{◌&&◌, leb, refl, arith, ⊎_elim}
use Rattle.std.proofs.lemmas.Bool.{le-leb, lt-leb, and_left, and_right, and_from}
use Rattle.asking.proofs.Tellings.{hears, hears_none, unsized_by, refusal_by, told_by}
use Rattle.questions.proofs.range.range.Goals as goal

pub returns-in_err-size : goal.returns-in_err-size
returns-in_err-size g c ms = unsized_by c.size_of.ensures c.in_err-size.was

pub returns-then-from-to : goal.returns-then-from-to
returns-then-from-to g c ms =
    refusal_by c.size_of.ensures c.in_ok-size.was (λ n. leb c.args.from c.args.to && leb c.args.to n) (λ m. refl)
    (⊎_elim (λ lt. and_left _ _ (lt-leb _ _ lt)) (λ both. and_right _ _ (lt-leb _ _ both.1)) c.then-from-to.either)

pub returns-in_err-measure_between : goal.returns-in_err-measure_between
returns-in_err-measure_between g c ms =
    told_by c.size_of.ensures c.in_ok-size.was (λ n. leb c.args.from c.args.to && leb c.args.to n) (λ m. refl) (and_from _ _ (le-leb _ _ c.if-from-to.false) (le-leb _ _ c.if-to-size.false))
    (λ T e. (c.if-from-to.false, omega arith)) (λ m. refl) (omega arith) c.measure_between.ensures (hears_none c.in_err-measure_between.was)

pub returns : goal.returns
returns g c ms =
    told_by c.size_of.ensures c.in_ok-size.was (λ n. leb c.args.from c.args.to && leb c.args.to n) (λ m. refl) (and_from _ _ (le-leb _ _ c.if-from-to.false) (le-leb _ _ c.if-to-size.false))
    (λ T e. (c.if-from-to.false, omega arith)) (λ m. refl) (omega arith) c.measure_between.ensures (hears c.in_ok-measure_between.was)
