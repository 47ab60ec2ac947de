use Rattle.sdl_warnings.proofs.uninitialized.+has_initial.Given as goal

abbrev pub decreases-has_initial : goal.decreases-has_initial
decreases-has_initial l = l.most
