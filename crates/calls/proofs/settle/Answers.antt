use Rattle.calls.proofs.Settled.{whole_settles, held_settles}
use Rattle.calls.proofs.settle.Goals as goal

pub returns-in-Whole : goal.returns-in-Whole
returns-in-Whole g c = whole_settles g.A.Measure.means c.args.text c.in-Whole.whole c.args.slots.now c.in-Whole.is

pub returns-in-Held : goal.returns-in-Held
returns-in-Held g c = held_settles g.A.Measure.means c.args.text c.in-Held.held c.discard.result c.args.slots.now c.discard.new.slots c.in-Held.is c.discard.ensures.edits
