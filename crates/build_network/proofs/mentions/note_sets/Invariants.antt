use Rattle.std.proofs.Common.{flat_map, map, take}
use Rattle.build_network.specs.Processes.{set_faults}
use Rattle.build_network.specs.Seen.{seen_of}
use Rattle.build_names.specs.Faults.{Notes}
use Rattle.sdl_tree.specs.Views.{local_value}
use Rattle.build_network.proofs.mentions.note_sets.Given as goal

abbrev pub invariant-loop-definition : goal.invariant-loop-definition
invariant-loop-definition l =
    Notes l.initial.faults l.faults
    (flat_map (set_faults (seen_of l.seen)) (map local_value (take l.definition-index l.process.definitions.items)))
