use Rattle.text.proofs.view.View.start_of.Goals as goal

pub returns : goal.returns
returns g c ms = rw c.watched_part.ensures at (c.start_of.ensures ms)
