use Rattle.measures.proofs.SideLives.{item_lives, value_lives}
use Rattle.measures.proofs.probes.OnRightProbePair.TheImpl.Goals as goal

pub M-Item-lives : goal.M-Item-lives
M-Item-lives g = item_lives _ g.row.L.lives _ g.row.L-Item.lives g.met.L.Measure.Self-Item-lives

pub M-Value-lives : goal.M-Value-lives
M-Value-lives g = value_lives _ g.row.L.lives g.row.R.lives g.row.L-Value.lives g.row.R-Value.lives g.met.L.Measure.Self-Value-lives g.met.R.Measure.Self-Value-lives
