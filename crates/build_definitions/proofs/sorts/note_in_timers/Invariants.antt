use Rattle.std.proofs.Common.{flat_map, map, take}
use Rattle.build_definitions.specs.Parts.{timer_sort_faults}
use Rattle.build_names.specs.Faults.{Notes}
use Rattle.sdl_tree.specs.Views.{timer_value}
use Rattle.build_definitions.proofs.sorts.note_in_timers.Given as goal

abbrev pub invariant-loop-timer : goal.invariant-loop-timer
invariant-loop-timer l = Notes l.initial.faults l.faults
    (flat_map timer_sort_faults (map timer_value (take l.timer-index l.timers)))
