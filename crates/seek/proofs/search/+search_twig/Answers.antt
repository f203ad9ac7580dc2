use Rattle.seek.proofs.Finding.{twig_leaf, twig_no_parts, twig_some_path, twig_none_path, twig_err_path}
use Rattle.seek.proofs.search.+search_twig.Goals as goal

pub returns-then-height-eq0 : goal.returns-then-height-eq0
returns-then-height-eq0 g t c = twig_leaf c.if-height-eq0.true

pub returns-in_err-parts : goal.returns-in_err-parts
returns-in_err-parts g t c = twig_no_parts c.if-height-eq0.false c.parts_at.ensures c.in_err-parts.was

pub returns-in_err-pick : goal.returns-in_err-pick
returns-in_err-pick g t c = twig_err_path c.if-height-eq0.false c.parts_at.ensures c.in_ok-parts.was c.pick.ensures c.in_err-pick.was

pub returns-in_err-cut : goal.returns-in_err-cut
returns-in_err-cut g t c = twig_none_path c.if-height-eq0.false c.parts_at.ensures c.in_ok-parts.was c.pick.ensures c.in_ok-pick.was c.in_err-cut.ensures.ok_part

pub returns : goal.returns
returns g t c = twig_some_path c.if-height-eq0.false c.parts_at.ensures c.in_ok-parts.was c.pick.ensures c.in_ok-pick.was c.in_ok-cut.ensures.ok_part c.search_twig.ensures
