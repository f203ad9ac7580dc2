use Rattle.std.proofs.Common.{refl}
use Rattle.concat.proofs.Extending.{bundle_no_some, bundle_no_all, bundled}
use Rattle.concat.proofs.bundles.bundle.Goals as goal

pub returns-in_err-some-clause-bundled : goal.returns-in_err-some-clause-bundled
returns-in_err-some-clause-bundled g c = bundle_no_some refl refl c.feed_part.ensures.fed c.in_err-some.was

pub returns-in_err-all-clause-bundled : goal.returns-in_err-all-clause-bundled
returns-in_err-all-clause-bundled g c = bundle_no_all refl refl c.feed_part.ensures.fed c.in_ok-some.was c.feed_part-2.ensures.fed c.in_err-all.was

pub returns-clause-bundled : goal.returns-clause-bundled
returns-clause-bundled g c = bundled refl refl c.feed_part.ensures.fed c.in_ok-some.was c.feed_part-2.ensures.fed c.in_ok-all.was c.finish.ensures.finished
