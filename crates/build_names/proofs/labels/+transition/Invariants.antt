use Rattle.std.proofs.Common.{◌≡◌, ◌++◌, drop, map}
use Rattle.build_names.specs.Labels.{actions_labels, names_listed, parts_labels}
use Rattle.sdl_tree.specs.Tree.{actions_of, parts_of}
use Rattle.sdl_tree.specs.Views.{answer_part_value, statement_value}
use Rattle.build_names.proofs.labels.+transition.Given as goal

abbrev pub invariant-add_statements-loop-statement : goal.invariant-add_statements-loop-statement
invariant-add_statements-loop-statement l =
    names_listed l.labels.items
    ++ actions_labels (actions_of (map statement_value (drop l.statement-index l.statements)))
    ≡ names_listed l.initial.labels.items ++ actions_labels (actions_of (map statement_value l.statements))

abbrev pub invariant-add_parts-loop-part : goal.invariant-add_parts-loop-part
invariant-add_parts-loop-part l =
    names_listed l.labels.items ++ parts_labels (parts_of (map answer_part_value (drop l.part-index l.parts)))
    ≡ names_listed l.initial.labels.items ++ parts_labels (parts_of (map answer_part_value l.parts))
