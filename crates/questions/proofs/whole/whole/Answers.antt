use Rattle.questions.proofs.WholePaths.{whole_broken, whole_told}
use Rattle.questions.proofs.whole.whole.Goals as goal

pub returns-in_err-value : goal.returns-in_err-value
returns-in_err-value g c = whole_broken c.tree_value.ensures c.in_err-value.was

pub returns : goal.returns
returns g c = whole_told c.tree_value.ensures c.in_ok-value.was c.sum_up.ensures.law
