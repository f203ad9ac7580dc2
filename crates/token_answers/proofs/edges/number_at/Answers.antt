use Rattle.std.proofs.Common.{ap, ◌∙◌}
use Rattle.std.specs.Result.{result_ok}
use Rattle.token_answers.proofs.EdgePaths.{number_lost, number_none, number_no_piece, number_unread, number_found}
use Rattle.token_answers.proofs.edges.number_at.Goals as goal

pub returns-in_err-found : goal.returns-in_err-found
returns-in_err-found g c = number_lost c.args.at c.empty-before.ensures (rw c.at_byte.ensures at c.find_row.ensures) c.in_err-found.was

pub returns-in_err-row : goal.returns-in_err-row
returns-in_err-row g c = number_none c.args.at c.empty-before.ensures (rw c.at_byte.ensures at c.find_row.ensures) c.in_ok-found.was (c.ok_or.ensures.ok_part ∙ ap result_ok c.in_err-row.was)

pub returns-in_err-piece : goal.returns-in_err-piece
returns-in_err-piece g c =
    number_no_piece c.args.at c.empty-before.ensures (rw c.at_byte.ensures at c.find_row.ensures) c.in_ok-found.was (c.ok_or.ensures.ok_part ∙ ap result_ok c.in_ok-row.was) g.S.Store.lawful c.in_err-piece.ensures

pub returns-in_err-stop : goal.returns-in_err-stop
returns-in_err-stop g c =
    number_unread c.args.at c.empty-before.ensures (rw c.at_byte.ensures at c.find_row.ensures) c.in_ok-found.was (c.ok_or.ensures.ok_part ∙ ap result_ok c.in_ok-row.was) c.in_ok-piece.ensures c.whole-read.ensures.value
    c.saturating_sub-inside.ensures c.saturating_add.ensures c.scan.ensures c.in_err-stop.was

pub returns : goal.returns
returns g c =
    number_found c.args.at c.empty-before.ensures (rw c.at_byte.ensures at c.find_row.ensures) c.in_ok-found.was (c.ok_or.ensures.ok_part ∙ ap result_ok c.in_ok-row.was) c.in_ok-piece.ensures c.whole-read.ensures.value
    c.saturating_sub-inside.ensures c.saturating_add.ensures c.scan.ensures c.in_ok-stop.was
