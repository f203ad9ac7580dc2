use Rattle.measures.proofs.LineLaws.{lines_longest}
use Rattle.measures.proofs.longest_line.LongestLine.longest.Goals as goal

pub returns-in-Parted-clause-law : goal.returns-in-Parted-clause-law
returns-in-Parted-clause-law c bs e = cc (lines_longest bs)
