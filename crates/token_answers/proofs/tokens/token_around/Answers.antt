use Rattle.token_answers.proofs.TokenPaths.{around_uncounted, around_found}
use Rattle.token_answers.proofs.tokens.token_around.Goals as goal

pub returns-in_err-number : goal.returns-in_err-number
returns-in_err-number g c = around_uncounted c.args.at c.number_at.ensures c.in_err-number.was

pub returns : goal.returns
returns g c = around_found c.args.at c.number_at.ensures c.in_ok-number.was c.token_numbered.ensures
