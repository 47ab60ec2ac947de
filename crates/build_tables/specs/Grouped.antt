-- What the code keeps of the signals that wait for conditions.
use Rattle.std.specs.Prelude.{◌==◌, Bool, List, [], Option, None, Some, if◌then◌else◌}
use Rattle.std.specs.Global.{Vec}
use Rattle.std.specs.Map.{lookup}
use Rattle.port_model.specs.declared.values.item.SignalId.{SignalId}
use Rattle.sdl_system.specs.declared.id.ConditionId.{ConditionId}
use Rattle.build_tables.specs.Linked.{Waiting, Waits, is_for, others, these}

abbrev pub group_value : ConditionId × Vec SignalId → ConditionId × List SignalId
group_value entry = (entry.0, entry.1.items)

abbrev pub same_condition : ConditionId → ConditionId → Bool
same_condition one other = one.0 == other.0

abbrev pub group_found : Option (List SignalId) → List SignalId
group_found None = []
group_found (Some signals) = signals

-- the signals that wait for a condition
abbrev pub group_of : List (ConditionId × List SignalId) → ConditionId → List SignalId
group_of groups condition = group_found (lookup (same_condition condition) groups)

-- what waits for a condition, by that of the signals that the state doesn't name
abbrev pub waiting_by : List (ConditionId × List SignalId) → Option ConditionId → ConditionId → Waiting
waiting_by groups of_rest condition =
    if is_for condition of_rest then others else these (group_of groups condition)

abbrev pub waits_by : List (ConditionId × List SignalId) → Option ConditionId → ConditionId → Waits
waits_by groups of_rest condition =
    record { condition = condition; signals = waiting_by groups of_rest condition }
