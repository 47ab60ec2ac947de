use Rattle.std.proofs.Common.{flat_map, map, take}
use Rattle.build_statements.specs.Contexts.{context_of}
use Rattle.build_statements.specs.Faulty.{asked_faults}
use Rattle.build_names.specs.Faults.{Notes}
use Rattle.sdl_tree.specs.Views.{expr_value}
use Rattle.build_statements.proofs.applied.note_each.Given as goal

abbrev pub invariant-loop-value : goal.invariant-loop-value
invariant-loop-value l =
    Notes l.initial.faults l.faults
    (flat_map (asked_faults (context_of l.context)) (map expr_value (take l.value-index l.values)))
