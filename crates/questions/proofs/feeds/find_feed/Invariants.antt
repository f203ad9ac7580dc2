use Rattle.questions.proofs.FeedScan.{Scanned}
use Rattle.questions.proofs.feeds.find_feed.Given as goal

abbrev pub invariant-loop-i : goal.invariant-loop-i
invariant-loop-i g l = Scanned g.S.Store.contents l.initial.store l.piece.address l.piece.length l.number l.i l.met l.store
