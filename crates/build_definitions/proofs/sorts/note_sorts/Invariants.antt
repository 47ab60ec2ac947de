use Rattle.std.proofs.Common.{take}
use Rattle.build_definitions.specs.Sorts.{unknown_sorts}
use Rattle.build_names.specs.Faults.{Notes}
use Rattle.sdl_tree.specs.Views.{sorts_value}
use Rattle.build_definitions.proofs.sorts.note_sorts.Given as goal

abbrev pub invariant-loop-name : goal.invariant-loop-name
invariant-loop-name l =
    Notes l.initial.faults l.faults (unknown_sorts (sorts_value (take l.name-index l.names)))
