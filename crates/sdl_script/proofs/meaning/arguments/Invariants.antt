use Rattle.sdl_script.proofs.MeaningLemmas.{ArgumentsUpTo}
use Rattle.sdl_script.proofs.meaning.arguments.Given as goal

abbrev pub invariant-loop-index : goal.invariant-loop-index
invariant-loop-index l = ArgumentsUpTo l.spelled l.sorts l.index l.values
