use Rattle.std.proofs.Common.{◌≡◌, flat_map, take}
use Rattle.build_network.specs.Connects.{named_paths}
use Rattle.build_names.specs.Spaces.{names_of}
use Rattle.sdl_tree.specs.Views.{names_value}
use Rattle.build_network.proofs.connects.named_paths.Given as goal

abbrev pub invariant-loop-name : goal.invariant-loop-name
invariant-loop-name l =
    l.paths.items ≡ flat_map (named_paths l.numbers (names_of l.channels l.scope)) (names_value (take l.name-index l.names))
