use Rattle.questions.proofs.LinePaths.{feed_lost, feed_none, feed_no_piece, feed_unread, feed_found}
use Rattle.questions.proofs.lines.after_feed.Goals as goal

pub returns-in_err-found : goal.returns-in_err-found
returns-in_err-found g c = feed_lost c.args.number c.empty-before.ensures (rw c.at_feed.ensures at c.find_row.ensures) c.in_err-found.was

pub returns-in_default : goal.returns-in_default
returns-in_default g c = feed_none c.args.number c.empty-before.ensures (rw c.at_feed.ensures at c.find_row.ensures) c.in_ok-found.was c.in_default.is

pub returns-in_err-piece : goal.returns-in_err-piece
returns-in_err-piece g c =
    feed_no_piece c.args.number c.empty-before.ensures (rw c.at_feed.ensures at c.find_row.ensures) c.in_ok-found.was c.in-Some.is g.S.Store.lawful c.in_err-piece.ensures

pub returns-in_err-inside : goal.returns-in_err-inside
returns-in_err-inside g c =
    feed_unread c.args.number c.empty-before.ensures (rw c.at_feed.ensures at c.find_row.ensures) c.in_ok-found.was c.in-Some.is c.in_ok-piece.ensures c.saturating_sub.ensures c.find_feed.ensures
    c.in_err-inside.was

pub returns : goal.returns
returns g c =
    feed_found c.args.number c.empty-before.ensures (rw c.at_feed.ensures at c.find_row.ensures) c.in_ok-found.was c.in-Some.is c.in_ok-piece.ensures c.saturating_sub.ensures c.find_feed.ensures
    c.in_ok-inside.was c.saturating_add.ensures
