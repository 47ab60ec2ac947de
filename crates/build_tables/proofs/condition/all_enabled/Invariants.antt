use Rattle.std.proofs.Common.{◌≡◌, map, take}
use Rattle.build_tables.specs.Grouped.{waits_by}
use Rattle.build_tables.specs.Linked.{enabling_value}
use Rattle.build_tables.proofs.condition.all_enabled.Given as goal

abbrev pub invariant-loop-condition : goal.invariant-loop-condition
invariant-loop-condition l = map enabling_value l.list.items
    ≡ map (waits_by l.waiting l.of_rest) (take l.condition-index l.enabling)
