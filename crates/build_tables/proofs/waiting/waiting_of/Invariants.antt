use Rattle.std.proofs.Common.{◌≡◌}
use Rattle.sdl_system.specs.declared.id.ConditionId.{ConditionId}
use Rattle.build_tables.specs.Grouped.{group_of}
use Rattle.build_tables.specs.Linked.{waiting_for}
use Rattle.build_tables.proofs.waiting.waiting_of.Given as goal

abbrev pub invariant-loop-number : goal.invariant-loop-number
invariant-loop-number l =
    (condition : ConditionId) → group_of l.waiting condition ≡ waiting_for l.reactions condition l.number
