use Rattle.std.proofs.Common.{flat_map, map, take}
use Rattle.build_definitions.specs.Parts.{signal_sort_faults}
use Rattle.build_names.specs.Faults.{Notes}
use Rattle.sdl_tree.specs.Views.{signal_value}
use Rattle.build_definitions.proofs.sorts.note_in_signals.Given as goal

abbrev pub invariant-loop-signal : goal.invariant-loop-signal
invariant-loop-signal l = Notes l.initial.faults l.faults
    (flat_map signal_sort_faults (map signal_value (take l.signal-index l.signals)))
