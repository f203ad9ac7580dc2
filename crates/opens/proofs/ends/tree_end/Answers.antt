use Rattle.std.proofs.Common.{⊎_elim}
use Rattle.opens.proofs.Placing.{tree_ends_empty, tree_ends_single, tree_ends_deep}
use Rattle.opens.proofs.ends.tree_end.Goals as goal

pub returns-in-Empty : goal.returns-in-Empty
returns-in-Empty g c = tree_ends_empty c.in-Empty.is

pub returns-in-Single : goal.returns-in-Single
returns-in-Single g c = ⊎_elim (λ is. tree_ends_single is c.slot_end.ensures) (λ is. tree_ends_deep is c.slot_end.ensures) c.in-Single.is
