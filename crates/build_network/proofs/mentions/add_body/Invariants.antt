use Rattle.std.proofs.Common.{◌≡◌, ◌++◌, flat_map, map, take}
use Rattle.build_network.specs.Processes.{part_items}
use Rattle.build_network.specs.Seen.{seen_of}
use Rattle.sdl_tree.specs.Views.{body_part_value}
use Rattle.build_network.proofs.mentions.add_body.Given as goal

abbrev pub invariant-loop-part : goal.invariant-loop-part
invariant-loop-part l =
    l.list.items ≡ l.initial.list.items ++ flat_map (part_items (seen_of l.seen)) (map body_part_value (take l.part-index l.body))
