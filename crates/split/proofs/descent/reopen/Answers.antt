use Rattle.split.proofs.Edges.{reopen_no_node, reopen_found, reopen_err}
use Rattle.split.proofs.descent.reopen.Goals as goal

pub returns-in_err-parts : goal.returns-in_err-parts
returns-in_err-parts g c = reopen_no_node c.take_node.ensures c.in_err-parts.was

pub returns-in_err-pick : goal.returns-in_err-pick
returns-in_err-pick g c = reopen_err c.take_node.ensures c.in_ok-parts.was c.pick.ensures c.in_err-pick.was

pub returns : goal.returns
returns g c = reopen_found c.take_node.ensures c.in_ok-parts.was c.pick.ensures c.in_ok-pick.was c.ok_or.ensures.ok_part
