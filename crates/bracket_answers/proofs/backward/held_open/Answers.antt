use Rattle.bracket_answers.proofs.Heldings.{held_near, held_far}
use Rattle.bracket_answers.proofs.backward.held_open.Goals as goal

pub returns-then-before-eq0 : goal.returns-then-before-eq0
returns-then-before-eq0 g c = held_far c.if-before-eq0.true c.walk_back.ensures

pub returns : goal.returns
returns g c = held_near c.if-before-eq0.false
