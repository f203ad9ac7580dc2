use Rattle.split.proofs.Edges.{join_err, join_no_slot, join_no_right, join_ok}
use Rattle.split.proofs.halves.rejoin_in.Goals as goal

pub returns-in_err-left-clause-rejoined : goal.returns-in_err-left-clause-rejoined
returns-in_err-left-clause-rejoined g c = join_err c.args.level c.args.middle c.args.cut c.deep.ensures.deepened c.in_err-left.was

pub returns-in_err-j-clause-rejoined : goal.returns-in_err-j-clause-rejoined
returns-in_err-j-clause-rejoined g c = join_no_slot c.args.level c.args.middle c.args.cut c.deep.ensures.deepened c.take.ensures.taken c.in_err-j.was

pub returns-in_err-right-clause-rejoined : goal.returns-in_err-right-clause-rejoined
returns-in_err-right-clause-rejoined g c = join_no_right c.args.level c.args.middle c.args.cut c.deep.ensures.deepened c.take.ensures.taken c.take.ensures.slots c.in_ok-j.was c.deep-2.ensures.deepened c.in_err-right.was

pub returns-clause-rejoined : goal.returns-clause-rejoined
returns-clause-rejoined g c = join_ok c.args.level c.args.middle c.args.cut c.deep.ensures.deepened c.take.ensures.taken c.take.ensures.slots c.in_ok-j.was c.deep-2.ensures.deepened c.in_ok-left.was c.in_ok-right.was
