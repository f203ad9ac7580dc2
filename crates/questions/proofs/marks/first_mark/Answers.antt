use Rattle.std.proofs.Common.{refl, rules}
use Rattle.questions.proofs.MarkPaths.{mark_lost, mark_told}
use Rattle.questions.proofs.marks.first_mark.Goals as goal

pub returns-in_err-found : goal.returns-in_err-found
returns-in_err-found c = mark_lost c.args.at refl c.find_row.ensures c.in_err-found.was

pub returns : goal.returns
returns c = mark_told c.args.at refl c.find_row.ensures c.in_ok-found.was (search rules)
