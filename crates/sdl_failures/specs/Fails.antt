-- What fails where an instance has come.
use Rattle.std.specs.Prelude.{◌≡◌, ◌⊎◌, ◌<◌, ℕ, Bool, false, List, Option, Some, Result, Ok, Err, length, map, slice_get}
use Rattle.std.specs.Option.{option_map}
use Rattle.run_record.specs.Environment.{Environment}
use Rattle.run_record.specs.Value.{at_place, key_at, truth_at, value_of, values_at}
use Rattle.run_record.specs.declared.evaluation.store.Store.{Store}
use Rattle.run_record.specs.declared.failure.Failure.{Failure}
use Rattle.run_semantics.specs.Fails.{IsTooLong, parameters_of, sent_by, set_by}
use Rattle.sdl_interp.specs.Walk.{HasNoWay, IsPassed}
use Rattle.sdl_system.specs.Process.{table_of}
use Rattle.sdl_system.specs.System.{SystemValue}
use Rattle.sdl_system.specs.Table.{sending, setting, whither_of}
use Rattle.sdl_system.specs.Term.{term_of}
use Rattle.sdl_system.specs.declared.expression.Expression.{Expression}
use Rattle.sdl_system.specs.declared.id.ConditionId.{ConditionId}
use Rattle.sdl_system.specs.declared.id.StateId.{StateId}
use Rattle.sdl_system.specs.declared.process.Process.{Process}
use Rattle.sdl_system.specs.declared.statement.Assignment.{Assignment}
use Rattle.sdl_system.specs.declared.statement.Creation.{Creation}
use Rattle.sdl_system.specs.declared.statement.Decision.{Decision}
use Rattle.sdl_system.specs.declared.statement.Destination.{Destination}
use Rattle.sdl_system.specs.declared.statement.Sending.{Sending}
use Rattle.sdl_system.specs.declared.statement.Setting.{Setting}
use Rattle.sdl_system.specs.declared.statement.Statement.{Statement}
use Rattle.sdl_system.specs.declared.statement.Statement.TheVariants as kind
use Rattle.sdl_system.specs.declared.statement.TimerUse.{TimerUse}
use Rattle.sdl_system.specs.declared.state.Continuous.{Continuous}
use Rattle.sdl_system.specs.declared.state.Enabling.{Enabling}
use Rattle.sdl_system.specs.declared.state.StateTable.{StateTable}
use Rattle.sdl_failures.specs.Part.{HasPart}
use Rattle.sdl_failures.specs.Received.{sort_in}
use Rattle.sdl_failures.specs.declared.replayed.condition.Stopped.{Stopped}
use Rattle.sdl_failures.specs.declared.replayed.condition.Stopped.TheVariants as stop

-- ---- by what a statement evaluates

abbrev pub AssignmentFails : Process → Environment → Assignment → Failure → Type 0
AssignmentFails process here one why =
    at_place (sort_in process one.variable) (value_of here (term_of one.value)) ≡ Err why

abbrev pub SendingFails : SystemValue → Environment → Option Destination → Sending → Failure → Type 0
SendingFails system here to one why = sent_by system here (option_map whither_of to) (sending one) ≡ Err why

abbrev pub SettingFails : Environment → Setting → Failure → Type 0
SettingFails here one why = set_by here (setting one) ≡ Err why

abbrev pub TimerFails : Environment → TimerUse → Failure → Type 0
TimerFails here one why = key_at here one.timer (map term_of one.values.items) ≡ Err why

abbrev pub CreationFails : SystemValue → Environment → Creation → Failure → Type 0
CreationFails system here creation why =
    values_at here (parameters_of system creation.process) (map term_of creation.values.items) ≡ Err why

-- the question fails, or there is no way
abbrev pub DecisionFails : Environment → Decision → Failure → Type 0
DecisionFails here asked why = (value_of here (term_of asked.question) ≡ Err why) ⊎ HasNoWay here asked why

-- a part of a statement
abbrev pub PartFails : SystemValue → Process → Environment → Statement → ℕ → Failure → Type 0
PartFails system process here (kind.Task list) part why =
    HasPart list.items part (λ (one : Assignment). AssignmentFails process here one why)
PartFails system process here (kind.Output output) part why =
    HasPart output.signals.items part (λ (one : Sending). SendingFails system here output.to one why)
PartFails system process here (kind.Set list) part why =
    HasPart list.items part (λ (one : Setting). SettingFails here one why)
PartFails system process here (kind.Reset list) part why =
    HasPart list.items part (λ (one : TimerUse). TimerFails here one why)
PartFails system process here (kind.Create creation) part why =
    (part ≡ 0) × CreationFails system here creation why
PartFails system process here (kind.Decision asked) part why = (part ≡ 0) × DecisionFails here asked why
PartFails system process here other part why = ⊥

-- or it is one statement too many for its transition
abbrev pub FailsAt : SystemValue → Process → Environment → Store → Statement → ℕ → Failure → Type 0
FailsAt system process here s statement part why =
    ((part ≡ 0) × IsPassed statement × IsTooLong s why) ⊎ PartFails system process here statement part why

-- ---- in a state

-- the conditions of a state, in the order in which they are evaluated
abbrev pub enabling_of : StateTable → List ConditionId
enabling_of table = map (λ (one : Enabling). one.condition) table.conditions.items

abbrev pub continuous_of : StateTable → List ConditionId
continuous_of table = map (λ (one : Continuous). one.condition) table.continuous.items

-- a condition of the process comes to this
pub record ComesTo (process : Process) (here : Environment) (number : ConditionId)
    (truth : Result Bool Failure) : Type 0 where
  pub condition : Expression
  pub is : slice_get process.conditions.items number.0 ≡ Some condition
  pub comes : truth_at here (term_of condition) ≡ truth

-- it is true or false, or it is false
abbrev pub HasTruth : Process → Environment → ConditionId → Type 0
HasTruth process here number = (truth : Bool) × ComesTo process here number (Ok truth)

abbrev pub IsFalse : Process → Environment → ConditionId → Type 0
IsFalse process here number = ComesTo process here number (Ok false)

-- this holds of so many of the conditions
abbrev pub EachBefore : (ConditionId → Type 0) → List ConditionId → ℕ → Type 0
EachBefore Holds numbers count =
    (index : ℕ) (number : ConditionId) → index < count → slice_get numbers index ≡ Some number → Holds number

-- a condition stands in the list and fails, and this holds of each before it
pub record FailsFirst (process : Process) (here : Environment) (Holds : ConditionId → Type 0)
    (numbers : List ConditionId) (number : ConditionId) (why : Failure) : Type 0 where
  pub index : ℕ
  pub is : slice_get numbers index ≡ Some number
  pub fails : ComesTo process here number (Err why)
  pub first : EachBefore Holds numbers index

-- An enabling condition fails, and those before it don't.
abbrev pub EnablingFails : Process → Environment → StateTable → ConditionId → Failure → Type 0
EnablingFails process here table number why =
    FailsFirst process here (HasTruth process here) (enabling_of table) number why

-- The condition of a continuous signal fails: no enabling one does, and those of the signals before it are false.
pub record ContinuousFails (process : Process) (here : Environment) (table : StateTable) (number : ConditionId)
    (why : Failure) : Type 0 where
  pub enabling : EachBefore (HasTruth process here) (enabling_of table) (length (enabling_of table))
  pub fails : FailsFirst process here (IsFalse process here) (continuous_of table) number why

-- The first condition of a state that fails does so by this: an enabling one, or that of a continuous signal.
pub record StateFails (process : Process) (here : Environment) (state : StateId) (number : ConditionId)
    (why : Failure) : Type 0 where
  pub table : StateTable
  pub is : table_of process state ≡ Some table
  pub fails : EnablingFails process here table number why ⊎ ContinuousFails process here table number why

-- ---- where trials of conditions end

-- this condition was found to fail so
abbrev pub IsStop : ConditionId → Failure → Failure → Stopped → Type 0
IsStop number found why (stop.At at) = (at ≡ number) × (found ≡ why)
IsStop number found why stop.Otherwise = Unit {0}

-- this condition fails
abbrev pub StopsAt : Process → Environment → ConditionId → Failure → Stopped → Type 0
StopsAt process here number why (stop.At at) = (at ≡ number) × ComesTo process here number (Err why)
StopsAt process here number why stop.Otherwise = Unit {0}

-- an enabling condition of a state, that of a continuous signal, or either
abbrev pub StopsEnabling : Process → Environment → StateTable → Failure → Stopped → Type 0
StopsEnabling process here table why (stop.At number) = EnablingFails process here table number why
StopsEnabling process here table why stop.Otherwise = Unit {0}

abbrev pub StopsContinuous : Process → Environment → StateTable → Failure → Stopped → Type 0
StopsContinuous process here table why (stop.At number) =
    FailsFirst process here (IsFalse process here) (continuous_of table) number why
StopsContinuous process here table why stop.Otherwise = Unit {0}

abbrev pub StopsIn : Process → Environment → StateTable → Failure → Stopped → Type 0
StopsIn process here table why (stop.At number) =
    EnablingFails process here table number why ⊎ ContinuousFails process here table number why
StopsIn process here table why stop.Otherwise = Unit {0}
