-- The condition at which the trials end.
use Rattle.std.proofs.Common.{subst}
use Rattle.run_record.specs.Knowledge.{environment_of}
use Rattle.sdl_failures.specs.Fails.{StopsIn}
use Rattle.sdl_failures.specs.declared.replayed.condition.Stopped.{Stopped}
use Rattle.sdl_failures.proofs.replayed.condition.failing_condition.Goals as goal

pub returns-in-At : goal.returns-in-At
returns-in-At c =
    subst (λ (s : Stopped).
    StopsIn c.args.process.now (environment_of c.args.knowledge.now) c.args.table.now c.args.why s)
    c.in-At.is c.in-Err.ensures
