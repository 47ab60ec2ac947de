use Rattle.std.proofs.Common.{◌≡◌, ◌++◌, map, take}
use Rattle.build_states.specs.Listed.{continuous_value}
use Rattle.build_states.proofs.table.add_signals.Given as goal

abbrev pub invariant-loop-signal : goal.invariant-loop-signal
invariant-loop-signal l = map continuous_value l.list.items
    ≡ map continuous_value l.initial.list.items ++ map continuous_value (take l.signal-index l.signals)
