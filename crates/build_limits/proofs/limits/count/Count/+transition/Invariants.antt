use Rattle.std.proofs.Common.{◌≡◌, drop, map}
use Rattle.sdl_tree.specs.Tree.{actions_of, parts_of}
use Rattle.sdl_tree.specs.Views.{answer_part_value, statement_value}
use Rattle.build_limits.specs.Counted.{count_of, counted}
use Rattle.build_limits.specs.Limits.{actions_statements, parts_statements}
use Rattle.build_limits.proofs.limits.count.Count.+transition.Given as goal

abbrev pub invariant-statements-loop-statement : goal.invariant-statements-loop-statement
invariant-statements-loop-statement l =
    counted (count_of l.self)
    (actions_statements (actions_of (map statement_value (drop l.statement-index l.statements))))
    ≡ counted (count_of l.initial.self) (actions_statements (actions_of (map statement_value l.statements)))

abbrev pub invariant-answer_parts-loop-part : goal.invariant-answer_parts-loop-part
invariant-answer_parts-loop-part l =
    counted (count_of l.self) (parts_statements (parts_of (map answer_part_value (drop l.part-index l.parts))))
    ≡ counted (count_of l.initial.self) (parts_statements (parts_of (map answer_part_value l.parts)))
