use Rattle.text.proofs.view.View.audit.Goals as goal

pub returns : goal.returns
returns g c = rw (c.watched_part.ensures, c.watched_part-2.ensures) at c.audit_memory.ensures
