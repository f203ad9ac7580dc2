use Rattle.token_answers.proofs.EdgePaths.{edge_lost, edge_none, edge_no_piece, edge_unread, edge_found}
use Rattle.token_answers.proofs.edges.token_edge.Goals as goal

pub returns-in_err-found : goal.returns-in_err-found
returns-in_err-found g c = edge_lost c.args.number c.empty-before.ensures (rw c.at_token.ensures at c.find_row.ensures) c.in_err-found.was

pub returns-in_default : goal.returns-in_default
returns-in_default g c = edge_none c.args.number c.empty-before.ensures (rw c.at_token.ensures at c.find_row.ensures) c.in_ok-found.was c.in_default.is c.whole-read.ensures.value

pub returns-in_err-piece : goal.returns-in_err-piece
returns-in_err-piece g c = edge_no_piece c.args.number c.empty-before.ensures (rw c.at_token.ensures at c.find_row.ensures) c.in_ok-found.was c.in-Some.is g.S.Store.lawful c.in_err-piece.ensures

pub returns-in_err-stop : goal.returns-in_err-stop
returns-in_err-stop g c =
    edge_unread c.args.number c.empty-before.ensures (rw c.at_token.ensures at c.find_row.ensures) c.in_ok-found.was c.in-Some.is c.in_ok-piece.ensures c.whole-read.ensures.value c.scan.ensures c.in_err-stop.was

pub returns : goal.returns
returns g c =
    edge_found c.args.number c.empty-before.ensures (rw c.at_token.ensures at c.find_row.ensures) c.in_ok-found.was c.in-Some.is c.in_ok-piece.ensures c.whole-read.ensures.value c.scan.ensures c.in_ok-stop.was c.saturating_add.ensures
