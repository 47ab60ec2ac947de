use Rattle.std.proofs.Common.{◌≡◌, ◌++◌, flat_map, map, take}
use Rattle.build_network.specs.Processes.{local_timers}
use Rattle.build_network.specs.Seen.{seen_of}
use Rattle.sdl_tree.specs.Views.{local_value}
use Rattle.build_network.proofs.mentions.add_timers.Given as goal

abbrev pub invariant-loop-definition : goal.invariant-loop-definition
invariant-loop-definition l =
    l.list.items ≡ l.initial.list.items
    ++ flat_map (local_timers (seen_of l.seen)) (map local_value (take l.definition-index l.process.definitions.items))
