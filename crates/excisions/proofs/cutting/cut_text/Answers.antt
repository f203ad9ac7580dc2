use Rattle.std.proofs.Common.{Ok, ap, ◌∙◌}
use Rattle.excisions.proofs.CutOutText.{cut_no_open, cut_none, cut_no_parts, cut_no_last, cut_no_clip, cut_no_text, cut_made}
use Rattle.excisions.proofs.cutting.cut_text.Goals as goal

pub returns-in_err-spot : goal.returns-in_err-spot
returns-in_err-spot g c = cut_no_open c.open_at.ensures c.args.to c.in_err-spot.was

pub returns-in_default : goal.returns-in_default
returns-in_default g c = cut_none c.open_at.ensures c.args.to (c.in_ok-spot.was ∙ ap Ok c.in_default.is)

pub returns-in_err-parts : goal.returns-in_err-parts
returns-in_err-parts g c = cut_no_parts c.open_at.ensures c.args.to (c.in_ok-spot.was ∙ ap Ok c.in-Some.is) c.saturating_sub.ensures c.take_from.ensures c.in_err-parts.was

pub returns-in_err-some : goal.returns-in_err-some
returns-in_err-some g c = cut_no_last c.open_at.ensures c.args.to (c.in_ok-spot.was ∙ ap Ok c.in-Some.is) c.saturating_sub.ensures c.take_from.ensures c.in_ok-parts.was c.extend.ensures c.in_err-some.was

pub returns-in_err-clip : goal.returns-in_err-clip
returns-in_err-clip g c = cut_no_clip c.open_at.ensures c.args.to (c.in_ok-spot.was ∙ ap Ok c.in-Some.is) c.saturating_sub.ensures c.take_from.ensures c.in_ok-parts.was c.extend.ensures c.in_ok-some.was c.extend-2.ensures c.in_err-clip.was

pub returns-in_err-text : goal.returns-in_err-text
returns-in_err-text g c = cut_no_text c.open_at.ensures c.args.to (c.in_ok-spot.was ∙ ap Ok c.in-Some.is) c.saturating_sub.ensures c.take_from.ensures c.in_ok-parts.was c.extend.ensures c.in_ok-some.was c.extend-2.ensures c.in_ok-clip.was c.close_up.ensures c.in_err-text.was

pub returns : goal.returns
returns g c = cut_made c.open_at.ensures c.args.to (c.in_ok-spot.was ∙ ap Ok c.in-Some.is) c.saturating_sub.ensures c.take_from.ensures c.in_ok-parts.was c.extend.ensures c.in_ok-some.was c.extend-2.ensures c.in_ok-clip.was c.close_up.ensures c.in_ok-text.was
