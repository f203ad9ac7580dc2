use Rattle.plain.proofs.Keeping.{proper_run, unchanged}
use Rattle.plain.proofs.Opened.{opens}
use Rattle.plain.proofs.laws.runs_keep.Goals as goal

pub returns : goal.returns
returns g c = record {
  opened = opens;
  kept = λ M cs m i. proper_run M cs m i;
  refused = λ M c m m' f e. unchanged M c m m' f e;
}
