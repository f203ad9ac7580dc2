use Rattle.text.proofs.view.View.bracket_at.Goals as goal

pub returns : goal.returns
returns g c ms = rw c.watched_part.ensures at (c.bracket_at.ensures ms)
