use Rattle.run_record.specs.Knowledge.{environment_of}
use Rattle.sdl_failures.specs.Fails.{EachBefore, IsFalse, continuous_of}
use Rattle.sdl_failures.proofs.replayed.condition.try_continuous.Given as goal

abbrev pub invariant-loop-one : goal.invariant-loop-one
invariant-loop-one l =
    EachBefore (IsFalse l.process (environment_of l.knowledge)) (continuous_of l.table) l.one-index
