use Rattle.text.proofs.view.View.range.Goals as goal

pub returns : goal.returns
returns g c ms = rw c.watched_part.ensures at (c.range.ensures ms)
