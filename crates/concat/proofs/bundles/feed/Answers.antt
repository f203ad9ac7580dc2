use Rattle.std.proofs.Common.{refl}
use Rattle.concat.proofs.Feeding.{feed_room, feed_over, feed_no_node, feed_no_room}
use Rattle.concat.proofs.bundles.feed.Goals as goal

pub returns-in-Room-clause-fed : goal.returns-in-Room-clause-fed
returns-in-Room-clause-fed g c = feed_room c.grow.ensures c.in-Room.is refl refl

pub returns-in_ok-made-in-Over-clause-fed : goal.returns-in_ok-made-in-Over-clause-fed
returns-in_ok-made-in-Over-clause-fed g c = feed_over c.put_node.ensures.put c.grow.ensures c.in-Over.is c.in_ok-n-in-Over.was c.append.ensures c.in_ok-made-in-Over.was refl refl

pub returns-in_err-n-in-Over-clause-fed : goal.returns-in_err-n-in-Over-clause-fed
returns-in_err-n-in-Over-clause-fed g c = feed_no_node c.put_node.ensures.put c.grow.ensures c.in-Over.is c.in_err-n-in-Over.was

pub returns-in_err-made-in-Over-clause-fed : goal.returns-in_err-made-in-Over-clause-fed
returns-in_err-made-in-Over-clause-fed g c = feed_no_room c.put_node.ensures.put c.grow.ensures c.in-Over.is c.in_ok-n-in-Over.was c.append.ensures c.in_err-made-in-Over.was
