-- An enabling condition fails, or that of a continuous signal.
use Rattle.std.proofs.lemmas.Result.{IfErr-weaker, err_from_is_err_and}
use Rattle.run_record.specs.Knowledge.{environment_of}
use Rattle.sdl_failures.proofs.ConditionLemmas.{stops_first, stops_later}
use Rattle.sdl_failures.proofs.replayed.condition.try_conditions.Goals as goal

pub returns-in_err-try_enabling : goal.returns-in_err-try_enabling
returns-in_err-try_enabling c =
    let q = err_from_is_err_and c.from_residual.result c.from_residual.ensures.1 in
    rw (q.1, q.2)
    (stops_first c.args.process.now (environment_of c.args.knowledge.now) c.args.why c.args.table.now _
    c.in_err-try_enabling.ensures.err)

pub returns : goal.returns
returns c =
    IfErr-weaker c.try_continuous.result _ _
    (λ stopped stops.
    stops_later c.args.process.now (environment_of c.args.knowledge.now) c.args.why c.args.table.now
    c.in_ok-try_enabling.ensures.ok stopped stops)
    c.try_continuous.ensures
