use Rattle.std.proofs.Common.{◌≡◌, ◌++◌, flat_map, map, take}
use Rattle.build_network.specs.Processes.{timer_items}
use Rattle.build_network.specs.Seen.{seen_of}
use Rattle.sdl_tree.specs.Views.{timer_value}
use Rattle.build_network.proofs.mentions.add_all.Given as goal

abbrev pub invariant-loop-timer : goal.invariant-loop-timer
invariant-loop-timer l =
    l.list.items ≡ l.initial.list.items ++ flat_map (timer_items (seen_of l.seen)) (map timer_value (take l.timer-index l.timers))
