use Rattle.std.proofs.Common.{flat_map, map, take}
use Rattle.build_network.specs.Paths.{path_faults, placed_value}
use Rattle.build_names.specs.Faults.{Notes}
use Rattle.build_network.proofs.paths.note_paths.Given as goal

abbrev pub invariant-loop-entry : goal.invariant-loop-entry
invariant-loop-entry l =
    Notes l.initial.faults l.faults
    (flat_map (path_faults l.symbols l.blocks) (map placed_value (take l.entry-index l.entries)))
