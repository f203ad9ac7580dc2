use Rattle.std.proofs.Common.{ap, ◌∙◌}
use Rattle.std.specs.Result.{result_ok}
use Rattle.questions.proofs.LinePaths.{place_no_feeds, place_no_start, place_no_line, place_found}
use Rattle.questions.proofs.lines.place_of.Goals as goal

pub returns-in_err-feeds : goal.returns-in_err-feeds
returns-in_err-feeds g c = place_no_feeds c.args.at c.feeds_before.ensures c.in_err-feeds.was

pub returns-in_err-line_start : goal.returns-in_err-line_start
returns-in_err-line_start g c = place_no_start c.args.at c.feeds_before.ensures c.in_ok-feeds.was c.saturating_add-line.ensures c.line_start.ensures c.in_err-line_start.was

pub returns-in_err-start : goal.returns-in_err-start
returns-in_err-start g c =
    place_no_line c.args.at c.feeds_before.ensures c.in_ok-feeds.was c.saturating_add-line.ensures c.line_start.ensures c.in_ok-line_start.was (c.ok_or.ensures.ok_part ∙ ap result_ok c.in_err-start.was)

pub returns : goal.returns
returns g c =
    place_found c.args.at c.feeds_before.ensures c.in_ok-feeds.was c.saturating_add-line.ensures c.line_start.ensures c.in_ok-line_start.was (c.ok_or.ensures.ok_part ∙ ap result_ok c.in_ok-start.was)
    c.saturating_sub.ensures
