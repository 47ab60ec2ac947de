use Rattle.std.proofs.Common.{◌≡◌, flat_map, map, take}
use Rattle.build_definitions.specs.Seen.{signal_seen}
use Rattle.build_definitions.specs.Definitions.{rows_of}
use Rattle.build_constants.specs.ConstantTable.{duration_at, duration_faults_at}
use Rattle.build_names.specs.Faults.{Notes}
use Rattle.build_constants.proofs.durations.durations_of.Given as goal

abbrev pub invariant-loop-entry : goal.invariant-loop-entry
invariant-loop-entry l = record {
  durations : l.durations.items ≡ map (duration_at (rows_of l.definitions) l.symbols l.constants)
      (map signal_seen (take l.entry-index l.definitions.signals.items));
  noted : Notes l.initial.faults l.faults
      (flat_map (duration_faults_at (rows_of l.definitions) l.symbols l.constants)
      (map signal_seen (take l.entry-index l.definitions.signals.items)));
}
