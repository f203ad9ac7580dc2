use Rattle.seek.proofs.search.+search_twig.Given as goal

abbrev pub decreases-search_twig : goal.decreases-search_twig
decreases-search_twig g l = l.height
