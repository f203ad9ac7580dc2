use Rattle.std.proofs.Common.{refl}
use Rattle.seek.proofs.Onward.{tree_then_found, tree_then}
use Rattle.seek.proofs.after.then_tree.Goals as goal

pub returns-then-is_some : goal.returns-then-is_some
returns-then-is_some g c = tree_then_found refl c.is_some.ensures c.if-is_some.true

pub returns : goal.returns
returns g c = tree_then refl c.is_some.ensures c.if-is_some.false c.search_tree.ensures
