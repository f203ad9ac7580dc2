use Rattle.std.proofs.Common.{ap, ◌∙◌}
use Rattle.std.specs.Result.{result_ok}
use Rattle.token_answers.proofs.WordPaths.{byte_lost, byte_none, byte_told}
use Rattle.token_answers.proofs.words.byte_at.Goals as goal

pub returns-in_err-found : goal.returns-in_err-found
returns-in_err-found g c = byte_lost c.args.at c.empty-before.ensures (rw c.at_byte.ensures at c.find_row.ensures) c.in_err-found.was

pub returns-in_err-row : goal.returns-in_err-row
returns-in_err-row g c = byte_none c.args.at c.empty-before.ensures (rw c.at_byte.ensures at c.find_row.ensures) c.in_ok-found.was (c.ok_or.ensures.ok_part ∙ ap result_ok c.in_err-row.was)

pub returns : goal.returns
returns g c =
    byte_told c.args.at c.empty-before.ensures (rw c.at_byte.ensures at c.find_row.ensures) g.S.Store.lawful c.in_ok-found.was (c.ok_or.ensures.ok_part ∙ ap result_ok c.in_ok-row.was) c.saturating_sub-inside.ensures
    c.saturating_add.ensures c.read.ensures c.ok_or-2.ensures.value
