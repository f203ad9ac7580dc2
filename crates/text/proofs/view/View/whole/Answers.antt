use Rattle.text.proofs.view.View.whole.Goals as goal

pub returns : goal.returns
returns g c B ms = rw c.watched_part.ensures at (c.whole.ensures B ms)
