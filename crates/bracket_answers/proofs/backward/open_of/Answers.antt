use Rattle.bracket_answers.proofs.Heldings.{open_lost, open_none, open_no_piece, open_unread, open_told}
use Rattle.bracket_answers.proofs.backward.open_of.Goals as goal

pub returns-in_err-held : goal.returns-in_err-held
returns-in_err-held g c = open_lost c.held_open.ensures c.in_err-held.was

pub returns-in_default : goal.returns-in_default
returns-in_default g c = open_none c.held_open.ensures c.in_ok-held.was c.in_default.is

pub returns-in_err-piece : goal.returns-in_err-piece
returns-in_err-piece g c = open_no_piece c.held_open.ensures c.in_ok-held.was c.in-Some.is g.S.Store.lawful c.in_err-piece.ensures

pub returns-in_err-met : goal.returns-in_err-met
returns-in_err-met g c =
    let met = rw (c.find_open.ensures.1) at c.find_open.ensures.2 in
    open_unread c.held_open.ensures c.in_ok-held.was c.in-Some.is c.in_ok-piece.ensures met c.in_err-met.was

pub returns : goal.returns
returns g c =
    let met = rw (c.find_open.ensures.1) at c.find_open.ensures.2 in
    open_told c.held_open.ensures c.in_ok-held.was c.in-Some.is c.in_ok-piece.ensures met c.in_ok-met.was c.saturating_add.ensures
