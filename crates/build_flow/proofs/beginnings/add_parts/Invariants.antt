use Rattle.std.proofs.Common.{◌≡◌, ◌++◌, flat_map, map, take}
use Rattle.sdl_tree.specs.Views.{body_part_value}
use Rattle.build_flow.specs.Beginnings.{part_beginnings}
use Rattle.build_flow.specs.Listed.{beginnings_listed}
use Rattle.build_flow.proofs.beginnings.add_parts.Given as goal

abbrev pub invariant-loop-part : goal.invariant-loop-part
invariant-loop-part l =
    beginnings_listed l.list.items
    ≡ beginnings_listed l.initial.list.items
    ++ flat_map part_beginnings (map body_part_value (take l.part-index l.body))
