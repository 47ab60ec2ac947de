use Rattle.std.proofs.Common.{◌≡◌, ◌++◌, drop, map}
use Rattle.sdl_tree.specs.Tree.{actions_of, parts_of}
use Rattle.sdl_tree.specs.Views.{answer_part_value, statement_value}
use Rattle.build_flow.specs.Listed.{mentions_listed}
use Rattle.build_flow.specs.Mentions.{actions_mentions, parts_mentions}
use Rattle.build_flow.proofs.mentions.+transition.Given as goal

abbrev pub invariant-add_statements-loop-statement : goal.invariant-add_statements-loop-statement
invariant-add_statements-loop-statement l =
    mentions_listed l.list.items
    ++ actions_mentions (actions_of (map statement_value (drop l.statement-index l.statements)))
    ≡ mentions_listed l.initial.list.items ++ actions_mentions (actions_of (map statement_value l.statements))

abbrev pub invariant-add_parts-loop-part : goal.invariant-add_parts-loop-part
invariant-add_parts-loop-part l =
    mentions_listed l.list.items ++ parts_mentions (parts_of (map answer_part_value (drop l.part-index l.parts)))
    ≡ mentions_listed l.initial.list.items ++ parts_mentions (parts_of (map answer_part_value l.parts))
