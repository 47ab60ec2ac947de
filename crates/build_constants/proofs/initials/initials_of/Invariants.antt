use Rattle.std.proofs.Common.{◌≡◌, flat_map, map, take}
use Rattle.build_definitions.specs.Seen.{value_seen}
use Rattle.build_definitions.specs.Definitions.{rows_of}
use Rattle.build_constants.specs.ConstantTable.{initial_at, initial_faults_at}
use Rattle.build_names.specs.Faults.{Notes}
use Rattle.build_constants.proofs.initials.initials_of.Given as goal

abbrev pub invariant-loop-entry : goal.invariant-loop-entry
invariant-loop-entry l = record {
  values : l.values.items ≡ map (initial_at (rows_of l.definitions) l.symbols l.constants)
      (map value_seen (take l.entry-index l.definitions.values.items));
  noted : Notes l.initial.faults l.faults
      (flat_map (initial_faults_at (rows_of l.definitions) l.symbols l.constants)
      (map value_seen (take l.entry-index l.definitions.values.items)));
}
