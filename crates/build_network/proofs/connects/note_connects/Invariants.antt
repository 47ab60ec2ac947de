use Rattle.std.proofs.Common.{flat_map, map, take}
use Rattle.build_definitions.specs.Seen.{connection_seen}
use Rattle.build_network.specs.Connects.{connect_faults}
use Rattle.build_names.specs.Faults.{Notes}
use Rattle.build_network.proofs.connects.note_connects.Given as goal

abbrev pub invariant-loop-entry : goal.invariant-loop-entry
invariant-loop-entry l =
    Notes l.initial.faults l.faults
    (flat_map (connect_faults l.symbols) (map connection_seen (take l.entry-index l.entries)))
