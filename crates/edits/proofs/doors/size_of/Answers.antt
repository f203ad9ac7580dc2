use Rattle.edits.proofs.Doorsteps.{size_broken, size_told}
use Rattle.edits.proofs.doors.size_of.Goals as goal

pub returns-in_err-all : goal.returns-in_err-all
returns-in_err-all g c = size_broken c.tree_value.ensures c.in_err-all.was

pub returns : goal.returns
returns g c = size_told c.tree_value.ensures c.in_ok-all.was
