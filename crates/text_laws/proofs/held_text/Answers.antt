use Rattle.text_laws.proofs.Parting.{not_opened, not_inserted, not_marked, not_cut, all_done}
use Rattle.text_laws.proofs.held_text.Goals as goal

pub returns-in_err-head : goal.returns-in_err-head
returns-in_err-head g c = not_opened c.«open».ensures c.in_err-head.was

pub returns-in_err-insert : goal.returns-in_err-insert
returns-in_err-insert g c = not_inserted c.«open».ensures c.in_ok-head.was c.insert.ensures.edits c.in_err-insert.was

pub returns-in_err-mark : goal.returns-in_err-mark
returns-in_err-mark g c = not_marked c.«open».ensures c.in_ok-head.was c.insert.ensures.edits c.mark.ensures.edits c.in_err-mark.was

pub returns-in_err-cut : goal.returns-in_err-cut
returns-in_err-cut g c = not_cut c.«open».ensures c.in_ok-head.was c.insert.ensures.edits c.mark.ensures.edits c.cut.ensures.edits c.in_err-cut.was

pub returns : goal.returns
returns g c = all_done c.«open».ensures c.in_ok-head.was c.insert.ensures.edits c.mark.ensures.edits c.cut.ensures.edits
