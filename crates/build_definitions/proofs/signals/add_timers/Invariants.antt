use Rattle.std.proofs.Common.{◌≡◌, ◌++◌, map, take}
use Rattle.build_definitions.specs.Rows.{timer_row}
use Rattle.build_definitions.specs.Seen.{signal_seen}
use Rattle.sdl_tree.specs.Views.{timer_value}
use Rattle.build_definitions.proofs.signals.add_timers.Given as goal

abbrev pub invariant-loop-timer : goal.invariant-loop-timer
invariant-loop-timer l =
    map signal_seen l.table.items
    ≡ map signal_seen l.initial.table.items ++ map (timer_row l.scope) (map timer_value (take l.timer-index l.timers))
