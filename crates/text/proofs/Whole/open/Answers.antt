use Rattle.std.proofs.Common.{◌∙◌, rules}
use Rattle.text.proofs.Opening.{opens_text, opens_not}
use Rattle.text.proofs.Whole.«open».Goals as goal

pub returns-in_err-head : goal.returns-in_err-head
returns-in_err-head g c =
    opens_not (opens_text c.args.slots.now c.from-lent.result c.open.new.slots c.args.marks.now c.from-lent_marks.result c.open.new.marks (c.from-lent.ensures ∙ c.watched.ensures) c.open.auto.slots
    (c.from-lent_marks.ensures ∙ c.watched-2.ensures) c.open.auto.marks c.in_err-head.ensures)
    (search rules)

pub returns : goal.returns
returns g c =
    opens_text c.args.slots.now c.from-lent.result c.open.new.slots c.args.marks.now c.from-lent_marks.result c.open.new.marks (c.from-lent.ensures ∙ c.watched.ensures) c.open.auto.slots
    (c.from-lent_marks.ensures ∙ c.watched-2.ensures) c.open.auto.marks c.in_ok-head.ensures
