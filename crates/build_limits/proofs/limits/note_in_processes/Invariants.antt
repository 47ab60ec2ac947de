use Rattle.std.proofs.Common.{flat_map, take}
use Rattle.build_names.specs.Faults.{Notes}
use Rattle.build_limits.specs.Limits.{process_faults}
use Rattle.build_limits.specs.Listed.{processes_listed}
use Rattle.build_limits.proofs.limits.note_in_processes.Given as goal

abbrev pub invariant-loop-process : goal.invariant-loop-process
invariant-loop-process l =
    Notes l.initial.faults l.faults (flat_map process_faults (processes_listed (take l.process-index l.processes)))
