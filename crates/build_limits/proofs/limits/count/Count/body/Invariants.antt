use Rattle.std.proofs.Common.{flat_map, map, take}
use Rattle.sdl_tree.specs.Views.{body_part_value}
use Rattle.build_limits.specs.Counted.{Counts}
use Rattle.build_limits.specs.Limits.{body_statements}
use Rattle.build_limits.proofs.limits.count.Count.body.Given as goal

abbrev pub invariant-loop-part : goal.invariant-loop-part
invariant-loop-part l =
    Counts l.initial.self l.self (flat_map body_statements (map body_part_value (take l.part-index l.parts)))
