use Rattle.std.proofs.Common.{◌≡◌, Some, map, take}
use Rattle.build_states.specs.Ordered.{numbered_value}
use Rattle.build_tables.specs.Linked.{continuous_linked}
use Rattle.build_tables.proofs.continuous.all_linked.Given as goal

abbrev pub invariant-loop-one : goal.invariant-loop-one
invariant-loop-one l = map Some l.list.items
    ≡ map (continuous_linked l.entries) (map numbered_value (take l.one-index l.numbered))
