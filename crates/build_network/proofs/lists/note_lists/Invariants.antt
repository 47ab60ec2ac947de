use Rattle.std.proofs.Common.{flat_map, map, take}
use Rattle.build_definitions.specs.Seen.{signal_list_seen}
use Rattle.build_definitions.specs.Definitions.{rows_of}
use Rattle.build_network.specs.Lists.{list_faults}
use Rattle.build_names.specs.Faults.{Notes}
use Rattle.build_network.proofs.lists.note_lists.Given as goal

abbrev pub invariant-loop-entry : goal.invariant-loop-entry
invariant-loop-entry l =
    Notes l.initial.faults l.faults (flat_map (list_faults l.symbols (rows_of l.definitions).processes)
    (map signal_list_seen (take l.entry-index l.definitions.lists.items)))
