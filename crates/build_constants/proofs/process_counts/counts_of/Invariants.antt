use Rattle.std.proofs.Common.{◌≡◌, flat_map, map, take}
use Rattle.build_definitions.specs.Seen.{process_seen}
use Rattle.build_definitions.specs.Definitions.{rows_of}
use Rattle.build_constants.specs.ConstantTable.{counts_at, counts_faults_at}
use Rattle.build_names.specs.Faults.{Notes}
use Rattle.build_constants.proofs.process_counts.counts_of.Given as goal

abbrev pub invariant-loop-entry : goal.invariant-loop-entry
invariant-loop-entry l = record {
  counts : l.counts.items ≡ map (counts_at (rows_of l.definitions) l.symbols l.constants)
      (map process_seen (take l.entry-index l.definitions.processes.items));
  noted : Notes l.initial.faults l.faults
      (flat_map (counts_faults_at (rows_of l.definitions) l.symbols l.constants)
      (map process_seen (take l.entry-index l.definitions.processes.items)));
}
