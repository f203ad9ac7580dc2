use Rattle.bracket_answers.proofs.Closings.{close_lost, close_none, close_no_piece, close_unread, close_told}
use Rattle.bracket_answers.proofs.forward.close_of.Goals as goal

pub returns-in_err-reach : goal.returns-in_err-reach
returns-in_err-reach g c = close_lost c.args.spot g.S.Store.lawful c.saturating_add-next.ensures c.saturating_add.ensures c.saturating_sub.ensures c.reach_close.ensures c.in_err-reach.was

pub returns-in_default : goal.returns-in_default
returns-in_default g c = close_none c.args.spot g.S.Store.lawful c.saturating_add-next.ensures c.saturating_add.ensures c.saturating_sub.ensures c.reach_close.ensures c.in_ok-reach.was c.in_default.is

pub returns-in_err-piece : goal.returns-in_err-piece
returns-in_err-piece g c =
    close_no_piece c.args.spot g.S.Store.lawful c.saturating_add-next.ensures c.saturating_add.ensures c.saturating_sub.ensures c.reach_close.ensures c.in_ok-reach.was c.in-Some.is c.in_err-piece.ensures

pub returns-in_err-stop : goal.returns-in_err-stop
returns-in_err-stop g c =
    close_unread c.args.spot g.S.Store.lawful c.saturating_add-next.ensures c.saturating_add.ensures c.saturating_sub.ensures c.reach_close.ensures c.in_ok-reach.was c.in-Some.is
    c.in_ok-piece.ensures c.scan.ensures c.in_err-stop.was

pub returns : goal.returns
returns g c =
    close_told c.args.spot g.S.Store.lawful c.saturating_add-next.ensures c.saturating_add.ensures c.saturating_sub.ensures c.reach_close.ensures c.in_ok-reach.was c.in-Some.is
    c.in_ok-piece.ensures c.scan.ensures c.in_ok-stop.was c.saturating_add-2.ensures c.saturating_add-offset.ensures c.saturating_add-3.ensures
