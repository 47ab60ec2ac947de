use Rattle.std.proofs.Common.{◌≡◌, ◌++◌, map, take}
use Rattle.sdl_tree.specs.Views.{signal_value}
use Rattle.build_limits.specs.Limits.{of_signal}
use Rattle.build_limits.specs.Listed.{declared_listed}
use Rattle.build_limits.proofs.limits.add_signals.Given as goal

abbrev pub invariant-loop-signal : goal.invariant-loop-signal
invariant-loop-signal l =
    declared_listed l.declared.items
    ≡ declared_listed l.initial.declared.items ++ map of_signal (map signal_value (take l.signal-index l.signals))
