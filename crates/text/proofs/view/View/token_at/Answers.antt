use Rattle.text.proofs.view.View.token_at.Goals as goal

pub returns : goal.returns
returns g c ms = rw c.watched_part.ensures at (c.token_at.ensures ms)
