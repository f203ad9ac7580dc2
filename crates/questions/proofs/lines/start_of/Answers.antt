use Rattle.std.proofs.Common.{refl, arith}
use Rattle.asking.proofs.Tellings.{hears, hears_none, told_always}
use Rattle.questions.proofs.lines.start_of.Goals as goal

pub returns-in_err-line_start : goal.returns-in_err-line_start
returns-in_err-line_start g c ms = told_always (λ m. refl) (λ m. refl) (omega arith) c.line_start.ensures (hears_none c.in_err-line_start.was)

pub returns : goal.returns
returns g c ms = told_always (λ m. refl) (λ m. refl) (omega arith) c.line_start.ensures (hears c.in_ok-line_start.was)
