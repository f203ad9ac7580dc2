use Rattle.slots.proofs.Shapes.{ok_err}
use Rattle.tree.proofs.build.take_node.Goals as goal

pub returns-in_err-give_slot : goal.returns-in_err-give_slot
returns-in_err-give_slot g c = record { takes = λ d e lt. absurd (ok_err (c.give_slot.ensures.gives lt).0 c.in_err-give_slot.was) }
