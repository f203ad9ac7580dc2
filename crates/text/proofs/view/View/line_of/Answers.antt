use Rattle.text.proofs.view.View.line_of.Goals as goal

pub returns : goal.returns
returns g c ms = rw c.watched_part.ensures at (c.line_of.ensures ms)
