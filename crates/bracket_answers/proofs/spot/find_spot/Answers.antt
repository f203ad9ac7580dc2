use Rattle.std.proofs.Common.{ap, ◌∙◌}
use Rattle.std.specs.Result.{result_ok}
use Rattle.bracket_answers.proofs.Spotting.{spot_lost, spot_none, spot_no_piece, spot_unread, spot_found}
use Rattle.bracket_answers.proofs.spot.find_spot.Goals as goal

pub returns-in_err-found : goal.returns-in_err-found
returns-in_err-found g c = spot_lost c.args.at c.empty-before.ensures (rw c.at_byte.ensures at c.find_row.ensures) c.in_err-found.was

pub returns-in_err-row : goal.returns-in_err-row
returns-in_err-row g c = spot_none c.args.at c.empty-before.ensures (rw c.at_byte.ensures at c.find_row.ensures) c.in_ok-found.was (c.ok_or.ensures.ok_part ∙ ap result_ok c.in_err-row.was)

pub returns-in_err-piece : goal.returns-in_err-piece
returns-in_err-piece g c = spot_no_piece c.args.at c.empty-before.ensures (rw c.at_byte.ensures at c.find_row.ensures) c.in_ok-found.was (c.ok_or.ensures.ok_part ∙ ap result_ok c.in_ok-row.was) g.S.Store.lawful c.in_err-piece.ensures

pub returns-in_err-stop : goal.returns-in_err-stop
returns-in_err-stop g c =
    spot_unread c.args.at c.empty-before.ensures (rw c.at_byte.ensures at c.find_row.ensures) c.in_ok-found.was (c.ok_or.ensures.ok_part ∙ ap result_ok c.in_ok-row.was) c.in_ok-piece.ensures c.whole.ensures.value
    c.saturating_sub.ensures c.saturating_add-count.ensures c.start.ensures c.scan.ensures c.in_err-stop.was

pub returns : goal.returns
returns g c =
    spot_found c.args.at c.empty-before.ensures (rw c.at_byte.ensures at c.find_row.ensures) c.in_ok-found.was (c.ok_or.ensures.ok_part ∙ ap result_ok c.in_ok-row.was) c.in_ok-piece.ensures c.whole.ensures.value
    c.saturating_sub.ensures c.saturating_add-count.ensures c.start.ensures c.scan.ensures c.in_ok-stop.was
