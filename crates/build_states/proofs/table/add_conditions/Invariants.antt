use Rattle.std.proofs.Common.{◌≡◌, ◌++◌, take}
use Rattle.build_states.proofs.table.add_conditions.Given as goal

abbrev pub invariant-loop-condition : goal.invariant-loop-condition
invariant-loop-condition l = l.list.items ≡ l.initial.list.items ++ take l.condition-index l.conditions
