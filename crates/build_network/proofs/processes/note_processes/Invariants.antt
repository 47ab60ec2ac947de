use Rattle.std.proofs.Common.{map, take}
use Rattle.build_definitions.specs.Seen.{process_seen}
use Rattle.build_network.specs.Processes.{processes_faults}
use Rattle.build_names.specs.Faults.{Notes}
use Rattle.build_network.proofs.processes.note_processes.Given as goal

abbrev pub invariant-loop-index : goal.invariant-loop-index
invariant-loop-index l =
    Notes l.initial.faults l.faults
    (processes_faults l.symbols (map process_seen (take l.index l.entries)))
