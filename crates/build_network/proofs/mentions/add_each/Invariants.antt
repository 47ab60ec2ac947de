use Rattle.std.proofs.Common.{◌≡◌, ◌++◌, flat_map, map, take}
use Rattle.build_network.specs.Processes.{input_item}
use Rattle.build_network.specs.Seen.{seen_of}
use Rattle.sdl_tree.specs.Views.{input_value}
use Rattle.build_network.proofs.mentions.add_each.Given as goal

abbrev pub invariant-loop-input : goal.invariant-loop-input
invariant-loop-input l =
    l.list.items ≡ l.initial.list.items ++ flat_map (input_item (seen_of l.seen)) (map input_value (take l.input-index l.inputs))
