use Rattle.sdl_failures.proofs.replayed.create.+variables_of.Given as goal

abbrev pub decreases-variables_of : goal.decreases-variables_of
decreases-variables_of l = l.trace.now.pid
