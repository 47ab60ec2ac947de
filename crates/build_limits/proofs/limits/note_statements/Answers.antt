use Rattle.std.proofs.Common.{◌∙◌, ap, flat_map}
use Rattle.std.proofs.lemmas.List.{take_all}
use Rattle.build_limits.specs.Counted.{Left, counted, past_limit}
use Rattle.build_names.specs.Faults.{least_of, limit_at}
use Rattle.build_limits.specs.Limits.{process_statements}
use Rattle.build_limits.specs.Listed.{processes_listed}
use Rattle.build_limits.proofs.CountLemmas.{past_limit-counted}
use Rattle.build_limits.proofs.limits.note_statements.Goals as goal

pub returns : goal.returns
returns c =
    let all = take_all c.loop-process.process-index c.args.processes.now c.loop-process-test.false in
    c.note.ensures
    ∙ ap (λ past. least_of c.args.faults.now (limit_at past))
    (ap past_limit (c.loop-process.invariant
    ∙ ap (λ list. counted (Left 50000) (flat_map process_statements (processes_listed list))) all)
    ∙ past_limit-counted 50000 (flat_map process_statements (processes_listed c.args.processes.now)))
