use Rattle.concat.proofs.Feeding.{finish_one, finish_no_one, finish_four, finish_no_first, finish_no_room, finish_no_second}
use Rattle.concat.proofs.bundles.finish.Goals as goal

pub returns-in_err-n-in-Four-clause-finished : goal.returns-in_err-n-in-Four-clause-finished
returns-in_err-n-in-Four-clause-finished g c = finish_no_first c.in-Four.is c.put_node.ensures.put c.in_err-n-in-Four.was

pub returns-in_err-made-in-Four-clause-finished : goal.returns-in_err-made-in-Four-clause-finished
returns-in_err-made-in-Four-clause-finished g c = finish_no_room c.put_node.ensures.put c.in_ok-n-in-Four.was c.append.ensures c.in-Four.is c.in_err-made-in-Four.was

pub returns-in_err-m-in-Four-clause-finished : goal.returns-in_err-m-in-Four-clause-finished
returns-in_err-m-in-Four-clause-finished g c = finish_no_second c.put_node.ensures.put c.in_ok-n-in-Four.was c.append.ensures c.in_ok-made-in-Four.was c.put_node-in-Four.ensures.put c.in-Four.is c.in_err-m-in-Four.was

pub returns-in_ok-m-in-Four-clause-finished : goal.returns-in_ok-m-in-Four-clause-finished
returns-in_ok-m-in-Four-clause-finished g c = finish_four c.put_node.ensures.put c.in_ok-n-in-Four.was c.append.ensures c.in_ok-made-in-Four.was c.put_node-in-Four.ensures.put c.in-Four.is c.in_ok-m-in-Four.was c.append-in-Four.ensures

pub returns-in_err-n-in_default-clause-finished : goal.returns-in_err-n-in_default-clause-finished
returns-in_err-n-in_default-clause-finished g c = finish_no_one c.in_default.not-Four c.put_node-in_default.ensures.put c.in_err-n-in_default.was

pub returns-in_ok-n-in_default-clause-finished : goal.returns-in_ok-n-in_default-clause-finished
returns-in_ok-n-in_default-clause-finished g c = finish_one c.in_default.not-Four c.put_node-in_default.ensures.put c.in_ok-n-in_default.was c.append-in_default.ensures
