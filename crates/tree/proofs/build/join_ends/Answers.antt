use Rattle.tree.proofs.Levels.{join_front, join_back, no_value_there, no_value_here}
use Rattle.tree.proofs.build.join_ends.Goals as goal

pub returns-in_ok-value_at-in-Front : goal.returns-in_ok-value_at-in-Front
returns-in_ok-value_at-in-Front g c = join_front c.in-Front.is c.in_ok-value_at-in-Front.ensures c.join_on.ensures

pub returns-in_err-value_at-in-Front : goal.returns-in_err-value_at-in-Front
returns-in_err-value_at-in-Front g c = no_value_there c.in_err-value_at-in-Front.ensures

pub returns-in_ok-value_at-in-Back : goal.returns-in_ok-value_at-in-Back
returns-in_ok-value_at-in-Back g c = join_back c.in-Back.is c.in_ok-value_at-in-Back.ensures c.join_on-in-Back.ensures

pub returns-in_err-value_at-in-Back : goal.returns-in_err-value_at-in-Back
returns-in_err-value_at-in-Back g c = no_value_here c.in_err-value_at-in-Back.ensures
