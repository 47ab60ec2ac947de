use Rattle.std.proofs.Common.{◌≡◌, ◌≤◌, ◌++◌, None, drop, flat_map, length, map, option_map, take}
use Rattle.build_statements.specs.Built.{BuiltIf, table_of}
use Rattle.build_statements.specs.Contexts.{context_of}
use Rattle.build_statements.specs.Decided.{BuiltPiecesIf}
use Rattle.build_statements.specs.Transitions.{ending_faults, ending_in, part_faults, piece_in, steps_faults, steps_in}
use Rattle.build_names.specs.Faults.{Notes, least_of}
use Rattle.build_expressions.specs.Partial.{all_some}
use Rattle.sdl_tree.specs.Tree.{actions_of}
use Rattle.sdl_tree.specs.Views.{answer_part_value, ending_value, statement_value}
use Rattle.build_statements.proofs.nodes.transition.+add.Given as goal

abbrev pub invariant-add_steps-loop-left : goal.invariant-add_steps-loop-left
invariant-add_steps-loop-left l = record {
  bound : l.left ≤ length l.steps;
  built : BuiltIf (table_of l.fn.table) (table_of l.table) l.place
      (steps_in (context_of l.context) (actions_of (map statement_value (drop l.left l.steps)))
      (ending_in (context_of l.context) (option_map ending_value l.ending))) l.fn.next;
  noted : l.later ≡ least_of None
      (steps_faults (context_of l.context) (actions_of (map statement_value (drop l.left l.steps)))
      ++ ending_faults (context_of l.context) (option_map ending_value l.ending));
}

abbrev pub invariant-add_parts-loop-part : goal.invariant-add_parts-loop-part
invariant-add_parts-loop-part l = record {
  built : BuiltPiecesIf (table_of l.initial.table) (table_of l.table) (option_map (λ list. list.items) l.found)
      (all_some (map (piece_in (context_of l.context) l.question)
      (map answer_part_value (take l.part-index l.parts)))) l.fn.next;
  noted : Notes l.initial.faults l.faults
      (flat_map (part_faults (context_of l.context) l.question) (map answer_part_value (take l.part-index l.parts)));
}

abbrev pub decreases-add_steps-loop-left : goal.decreases-add_steps-loop-left
decreases-add_steps-loop-left l = l.left
