use Rattle.run_record.specs.Knowledge.{environment_of}
use Rattle.sdl_failures.specs.Fails.{EachBefore, HasTruth, enabling_of}
use Rattle.sdl_failures.proofs.replayed.condition.try_enabling.Given as goal

abbrev pub invariant-loop-one : goal.invariant-loop-one
invariant-loop-one l =
    EachBefore (HasTruth l.process (environment_of l.knowledge)) (enabling_of l.table) l.one-index
