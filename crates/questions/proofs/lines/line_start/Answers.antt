use Rattle.std.proofs.Common.{arith}
use Rattle.questions.proofs.LinePaths.{line_none, line_first, line_later}
use Rattle.questions.proofs.lines.line_start.Goals as goal

pub returns-in-0 : goal.returns-in-0
returns-in-0 g c = line_none c.in-0.is

pub returns-in-1 : goal.returns-in-1
returns-in-1 g c = line_first c.in-1.is

pub returns-in_default : goal.returns-in_default
returns-in_default g c = line_later (omega arith) c.after_feed.ensures
