use Rattle.std.proofs.Common.{leb, refl}
use Rattle.std.proofs.lemmas.Bool.{le-leb, lt-leb}
use Rattle.asking.proofs.Tellings.{hears, hears_none, unsized, refusal, told}
use Rattle.questions.proofs.MarkPaths.{marks_told}
use Rattle.questions.proofs.marks.mark_from.Goals as goal

pub returns-in_err-size : goal.returns-in_err-size
returns-in_err-size g c B = unsized c.size_of.ensures c.in_err-size.was

pub returns-then-at-size : goal.returns-then-at-size
returns-then-at-size g c B = refusal c.size_of.ensures c.in_ok-size.was (leb c.args.at) (λ m. refl) (lt-leb _ _ c.if-at-size.true)

pub returns-in_err-first_mark : goal.returns-in_err-first_mark
returns-in_err-first_mark g c B =
    told c.size_of.ensures c.in_ok-size.was (leb c.args.at) (λ m. refl) (le-leb _ _ c.if-at-size.false) (λ mode k m P. marks_told c.first_mark.ensures P) (hears_none c.in_err-first_mark.was)

pub returns : goal.returns
returns g c B = told c.size_of.ensures c.in_ok-size.was (leb c.args.at) (λ m. refl) (le-leb _ _ c.if-at-size.false) (λ mode k m P. marks_told c.first_mark.ensures P) (hears c.in_ok-first_mark.was)
