use Rattle.text.proofs.view.View.mark_from.Goals as goal

pub returns : goal.returns
returns g c B = rw (c.watched_part.ensures, c.watched_part-2.ensures) at (c.mark_from.ensures B)
