use Rattle.std.proofs.Common.{flat_map, take}
use Rattle.build_definitions.specs.Parts.{placed_sort_faults}
use Rattle.build_definitions.specs.Views.{parts_listed}
use Rattle.build_names.specs.Faults.{Notes}
use Rattle.build_definitions.proofs.sorts.note_in_parts.Given as goal

abbrev pub invariant-loop-placed : goal.invariant-loop-placed
invariant-loop-placed l = Notes l.initial.faults l.faults
    (flat_map placed_sort_faults (parts_listed (take l.placed-index l.parts)))
