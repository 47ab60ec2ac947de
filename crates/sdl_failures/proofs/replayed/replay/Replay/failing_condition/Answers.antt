-- By the table of the state.
use Rattle.std.proofs.Common.{◌⊎◌, IfSome, subst, sym}
use Rattle.std.proofs.lemmas.Option.{IfSome_then}
use Rattle.run_record.specs.Knowledge.{KnowledgeValue, environment_of}
use Rattle.sdl_failures.specs.Fails.{ContinuousFails, EnablingFails}
use Rattle.sdl_failures.proofs.replayed.replay.Replay.failing_condition.Goals as goal

pub returns-in_ok-table-in_default : goal.returns-in_ok-table-in_default
returns-in_ok-table-in_default c =
    let process = c.args.self.now.process.now in
    let table = c.in_ok-table-in_default.table.now in
    let why = c.args.why in
    let found = c.failing_condition.result in
    IfSome_then found
    (subst (λ (k : KnowledgeValue). IfSome found (λ number. EnablingFails process (environment_of k) table number why
    ⊎ ContinuousFails process (environment_of k) table number why))
    c.knowledge-knowledge.ensures c.failing_condition.ensures)
    (λ number fails. record { table = table; is = sym c.in_ok-table-in_default.ensures; fails = fails })
