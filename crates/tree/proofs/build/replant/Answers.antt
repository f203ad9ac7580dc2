use Rattle.tree.proofs.Shrinking.{replant_one, replant_no_gift, replant_two, replant_three, replant_four}
use Rattle.tree.proofs.build.replant.Goals as goal

pub returns-in_ok-give-in-One-clause-grown : goal.returns-in_ok-give-in-One-clause-grown
returns-in_ok-give-in-One-clause-grown g c = replant_one c.in-One.is c.give.ensures.given

pub returns-in_err-give-in-One-clause-grown : goal.returns-in_err-give-in-One-clause-grown
returns-in_err-give-in-One-clause-grown g c = replant_no_gift c.give.ensures.given c.in_err-give-in-One.was

pub returns-in-Two-clause-grown : goal.returns-in-Two-clause-grown
returns-in-Two-clause-grown g c = replant_two c.in-Two.is c.settle.ensures

pub returns-in-Three-clause-grown : goal.returns-in-Three-clause-grown
returns-in-Three-clause-grown g c = replant_three c.in-Three.is c.settle-in-Three.ensures

pub returns-in-Four-clause-grown : goal.returns-in-Four-clause-grown
returns-in-Four-clause-grown g c = replant_four c.in-Four.is c.settle-in-Four.ensures
