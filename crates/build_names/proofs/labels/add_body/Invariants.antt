use Rattle.std.proofs.Common.{◌≡◌, ◌++◌, flat_map, map, take}
use Rattle.build_names.specs.Labels.{body_labels, names_listed}
use Rattle.sdl_tree.specs.Views.{body_part_value}
use Rattle.build_names.proofs.labels.add_body.Given as goal

abbrev pub invariant-loop-part : goal.invariant-loop-part
invariant-loop-part l =
    names_listed l.labels.items
    ≡ names_listed l.initial.labels.items ++ flat_map body_labels (map body_part_value (take l.part-index l.parts))
