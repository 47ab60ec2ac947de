use Rattle.std.proofs.Common.{flat_map, take}
use Rattle.build_network.specs.Connects.{channel_faults}
use Rattle.build_names.specs.Faults.{Notes}
use Rattle.build_names.specs.Spaces.{names_of}
use Rattle.sdl_tree.specs.Views.{names_value}
use Rattle.build_network.proofs.connects.note_channels.Given as goal

abbrev pub invariant-loop-name : goal.invariant-loop-name
invariant-loop-name l =
    Notes l.initial.faults l.faults
    (flat_map (channel_faults (names_of l.channels l.scope)) (names_value (take l.name-index l.names)))
