use Rattle.std.proofs.Common.{◌≡◌, ◌++◌, drop, map}
use Rattle.sdl_tree.specs.Tree.{actions_of, parts_of}
use Rattle.sdl_tree.specs.Views.{answer_part_value, statement_value}
use Rattle.build_flow.specs.Listed.{found_listed, turns_of}
use Rattle.build_flow.specs.Turns.{actions_found, actions_turn, parts_found, parts_turn, sooner}
use Rattle.build_flow.proofs.walk.+transition.Given as goal

abbrev pub invariant-statements-loop-one : goal.invariant-statements-loop-one
invariant-statements-loop-one l = record {
  turn : actions_turn (turns_of l.entries) (actions_of (map statement_value (drop l.one-index l.statements))) l.here
      ≡ actions_turn (turns_of l.entries) (actions_of (map statement_value l.statements)) l.fn.comes;
  found : found_listed l.found.items
      ++ actions_found (turns_of l.entries) (actions_of (map statement_value (drop l.one-index l.statements))) l.here
      ≡ found_listed l.initial.found.items
      ++ actions_found (turns_of l.entries) (actions_of (map statement_value l.statements)) l.fn.comes;
}

abbrev pub invariant-answer_parts-loop-part : goal.invariant-answer_parts-loop-part
invariant-answer_parts-loop-part l = record {
  turn : sooner l.soonest
      (parts_turn (turns_of l.entries) (parts_of (map answer_part_value (drop l.part-index l.parts))) l.fn.comes)
      ≡ parts_turn (turns_of l.entries) (parts_of (map answer_part_value l.parts)) l.fn.comes;
  found : found_listed l.found.items
      ++ parts_found (turns_of l.entries) (parts_of (map answer_part_value (drop l.part-index l.parts))) l.fn.comes
      ≡ found_listed l.initial.found.items
      ++ parts_found (turns_of l.entries) (parts_of (map answer_part_value l.parts)) l.fn.comes;
}
