use Rattle.std.proofs.Common.{Ok, ap, ◌∙◌}
use Rattle.std.specs.Result.{result_ok}
use Rattle.excisions.proofs.DeleteText.{delete_no_open, delete_none, delete_no_parts, delete_no_tree, delete_made}
use Rattle.excisions.proofs.deleting.delete_text.Goals as goal

pub returns-in_err-open_at : goal.returns-in_err-open_at
returns-in_err-open_at g c = delete_no_open c.open_at.ensures c.args.pieces c.args.to c.in_err-open_at.was

pub returns-in_err-spot : goal.returns-in_err-spot
returns-in_err-spot g c = delete_none c.open_at.ensures c.args.pieces c.args.to (c.in_ok-open_at.was ∙ ap Ok (c.ok_or.ensures.ok_part ∙ ap result_ok c.in_err-spot.was))

pub returns-in_err-parts : goal.returns-in_err-parts
returns-in_err-parts g c = delete_no_parts c.open_at.ensures c.args.pieces c.args.to (c.in_ok-open_at.was ∙ ap Ok (c.ok_or.ensures.ok_part ∙ ap result_ok c.in_ok-spot.was)) c.saturating_sub.ensures c.drop_from.ensures c.in_err-parts.was

pub returns-in_err-all : goal.returns-in_err-all
returns-in_err-all g c = delete_no_tree c.open_at.ensures c.args.pieces c.args.to (c.in_ok-open_at.was ∙ ap Ok (c.ok_or.ensures.ok_part ∙ ap result_ok c.in_ok-spot.was)) c.saturating_sub.ensures c.drop_from.ensures c.in_ok-parts.was c.close_up.ensures c.in_err-all.was

pub returns : goal.returns
returns g c = delete_made c.open_at.ensures c.args.pieces c.args.to (c.in_ok-open_at.was ∙ ap Ok (c.ok_or.ensures.ok_part ∙ ap result_ok c.in_ok-spot.was)) c.saturating_sub.ensures c.drop_from.ensures c.in_ok-parts.was c.close_up.ensures c.in_ok-all.was c.saturating_sub-kept.ensures c.one_part.ensures c.saturating_add.ensures c.one_part-2.ensures c.saturating_add-2.ensures
