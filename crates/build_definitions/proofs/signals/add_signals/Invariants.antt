use Rattle.std.proofs.Common.{◌≡◌, ◌++◌, map, take}
use Rattle.build_definitions.specs.Rows.{signal_row}
use Rattle.build_definitions.specs.Seen.{signal_seen}
use Rattle.sdl_tree.specs.Views.{signal_value}
use Rattle.build_definitions.proofs.signals.add_signals.Given as goal

abbrev pub invariant-loop-signal : goal.invariant-loop-signal
invariant-loop-signal l =
    map signal_seen l.table.items
    ≡ map signal_seen l.initial.table.items ++ map (signal_row l.scope) (map signal_value (take l.signal-index l.signals))
