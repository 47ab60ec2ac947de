use Rattle.std.proofs.Common.{◌≡◌, ◌++◌, flat_map, map, take}
use Rattle.build_network.specs.Processes.{stimulus_items}
use Rattle.build_network.specs.Seen.{seen_of}
use Rattle.sdl_tree.specs.Views.{stimulus_value}
use Rattle.build_network.proofs.mentions.add_stimuli.Given as goal

abbrev pub invariant-loop-stimulus : goal.invariant-loop-stimulus
invariant-loop-stimulus l =
    l.list.items ≡ l.initial.list.items ++ flat_map (stimulus_items (seen_of l.seen)) (map stimulus_value (take l.stimulus-index l.stimuli))
