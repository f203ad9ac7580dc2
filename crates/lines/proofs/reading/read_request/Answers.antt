use Rattle.lines.proofs.Records.{too_long}
use Rattle.lines.proofs.reading.read_request.Goals as goal

pub returns-in-Some-split_once-2 : goal.returns-in-Some-split_once-2
returns-in-Some-split_once-2 c =
    too_long _ _ c.in-Some.rest.now _ c.in-Some-split_once.second.now _ c.in-Some-split_once-2.field-0.1.now
    c.if-line-gt-LINE.false c.in-Some.ensures.parts c.in-Some-split_once.ensures.parts
    c.in-Some-split_once-2.ensures.parts
