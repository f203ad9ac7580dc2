use Rattle.std.proofs.Common.{refl, arith}
use Rattle.asking.proofs.Tellings.{hears, hears_none, told_always}
use Rattle.token_answers.proofs.tokens.token_number.Goals as goal

pub returns-in_err-token_numbered : goal.returns-in_err-token_numbered
returns-in_err-token_numbered g c ms = told_always (λ m. refl) (λ m. refl) (omega arith) c.token_numbered.ensures (hears_none c.in_err-token_numbered.was)

pub returns : goal.returns
returns g c ms = told_always (λ m. refl) (λ m. refl) (omega arith) c.token_numbered.ensures (hears c.in_ok-token_numbered.was)
