use Rattle.std.proofs.Common.{◌≡◌, ◌++◌, map, take}
use Rattle.sdl_tree.specs.Views.{timer_value}
use Rattle.build_limits.specs.Limits.{of_timer}
use Rattle.build_limits.specs.Listed.{declared_listed}
use Rattle.build_limits.proofs.limits.add_timers.Given as goal

abbrev pub invariant-loop-timer : goal.invariant-loop-timer
invariant-loop-timer l =
    declared_listed l.declared.items
    ≡ declared_listed l.initial.declared.items ++ map of_timer (map timer_value (take l.timer-index l.timers))
