use Rattle.std.proofs.Common.{◌≡◌, flat_map, map, option_map, take}
use Rattle.build_statements.specs.Contexts.{context_of}
use Rattle.build_statements.specs.Faulty.{assignment_faults}
use Rattle.build_statements.specs.Statements.{assigning_in}
use Rattle.sdl_system.specs.Table.{assigning}
use Rattle.build_names.specs.Faults.{Notes}
use Rattle.sdl_tree.specs.Views.{assignment_value}
use Rattle.build_statements.proofs.task.resolve_assignments.Given as goal

abbrev pub invariant-loop-assignment : goal.invariant-loop-assignment
invariant-loop-assignment l = record {
  assignments : map (option_map assigning) l.found.items
      ≡ map (assigning_in (context_of l.context)) (map assignment_value (take l.assignment-index l.assignments));
  noted : Notes l.initial.faults l.faults
      (flat_map (assignment_faults (context_of l.context))
      (map assignment_value (take l.assignment-index l.assignments)));
}
