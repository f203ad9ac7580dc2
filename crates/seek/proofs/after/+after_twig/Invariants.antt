use Rattle.seek.proofs.after.+after_twig.Given as goal

abbrev pub decreases-after_twig : goal.decreases-after_twig
decreases-after_twig g l = l.height
