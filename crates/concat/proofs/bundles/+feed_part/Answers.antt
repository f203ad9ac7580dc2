use Rattle.concat.proofs.Feeding.{part_done, part_more, part_no_more}
use Rattle.concat.proofs.bundles.+feed_part.Goals as goal

pub returns-in-None-clause-fed : goal.returns-in-None-clause-fed
returns-in-None-clause-fed g t c = part_done c.in-None.is

pub returns-in_ok-more-in-Some-clause-fed : goal.returns-in_ok-more-in-Some-clause-fed
returns-in_ok-more-in-Some-clause-fed g t c = part_more c.feed.ensures.fed c.peel-first.ensures c.in-Some.is c.in_ok-more-in-Some.was c.feed_part.ensures.fed

pub returns-in_err-more-in-Some-clause-fed : goal.returns-in_err-more-in-Some-clause-fed
returns-in_err-more-in-Some-clause-fed g t c = part_no_more c.feed.ensures.fed c.peel-first.ensures c.in-Some.is c.in_err-more-in-Some.was
