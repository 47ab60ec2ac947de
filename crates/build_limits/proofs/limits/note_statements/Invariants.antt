use Rattle.std.proofs.Common.{flat_map, take}
use Rattle.build_limits.specs.Counted.{Counts}
use Rattle.build_limits.specs.Limits.{process_statements}
use Rattle.build_limits.specs.Listed.{processes_listed}
use Rattle.build_limits.proofs.limits.note_statements.Given as goal

abbrev pub invariant-loop-process : goal.invariant-loop-process
invariant-loop-process l =
    Counts l.initial.count l.count (flat_map process_statements (processes_listed (take l.process-index l.processes)))
