-- The place of a failure, and with what values an instance began.
use Rattle.std.specs.Prelude.{◌≡◌, ◌⊎◌, ℕ, List, [], ◌∷◌, Contains, Option, Some, Err, Ok, map, slice_get}
use Rattle.port_model.specs.Take.{name_of}
use Rattle.port_model.specs.declared.got.Got.{Got}
use Rattle.port_model.specs.declared.values.item.SignalId.{SignalId}
use Rattle.port_model.specs.declared.values.pid.Pid.TheVariants as pid
use Rattle.port_model.specs.declared.values.value.Value.{Value}
use Rattle.run_record.specs.Value.{values_at}
use Rattle.run_record.specs.Variables.{VariableList}
use Rattle.run_record.specs.declared.evaluation.identity.Identity.{Identity}
use Rattle.run_record.specs.Event.{Event, values_got}
use Rattle.run_record.specs.Event as event
use Rattle.run_record.specs.Record.{RecordValue}
use Rattle.run_record.specs.declared.failure.Failure.{Failure}
use Rattle.run_semantics.specs.Fails.{parameters_of}
use Rattle.sdl_system.specs.System.{SystemValue}
use Rattle.sdl_system.specs.Term.{term_of}
use Rattle.sdl_system.specs.declared.id.ConditionId.{ConditionId}
use Rattle.sdl_system.specs.declared.id.NodeId.{NodeId}
use Rattle.sdl_system.specs.declared.id.ProcessId.{ProcessId}
use Rattle.sdl_system.specs.declared.id.StateId.{StateId}
use Rattle.sdl_system.specs.declared.process.Process.{Process}
use Rattle.sdl_system.specs.declared.state.Reception.{Reception}
use Rattle.sdl_system.specs.declared.statement.Creation.{Creation}
use Rattle.sdl_system.specs.declared.statement.Statement.{Statement}
use Rattle.sdl_system.specs.declared.statement.Statement.TheVariants as kind
use Rattle.sdl_failures.specs.Came.{Came, IsNode}
use Rattle.sdl_failures.specs.Fails.{FailsAt, StateFails}
use Rattle.sdl_failures.specs.Known.{KnownValue, here_by}
use Rattle.sdl_failures.specs.Received.{received, reception_in, variables_from}
use Rattle.sdl_failures.specs.Told.{begun_at}
use Rattle.sdl_failures.specs.declared.replayed.halt.Halt.{Halt}
use Rattle.sdl_failures.specs.declared.replayed.halt.Halt.TheVariants as halt
use Rattle.sdl_failures.specs.declared.replayed.reception.Misfit.{Misfit}
use Rattle.sdl_failures.specs.declared.replayed.spot.Spot.TheVariants.{At, Between}

-- who the instance of a record is
abbrev pub identity_of : RecordValue → Identity
identity_of trace = record { process = trace.process; pid = trace.pid; parent = trace.parent }

-- ---- the place of a failure

-- The last event is the failure of a transition. The instance has come to a statement, of which the part is the next
-- that fails by this.
pub record FailsInStatement (system : SystemValue) (process : Process) (who : Identity) (variables : VariableList)
    (all : List Event) (number : NodeId) (part : ℕ) (known : KnownValue) (why : Failure) : Type 0 where
  pub came : Came system process who variables all (At number part) known (event.Failed why ∷ [])
  pub statement : Statement
  pub next : Option NodeId
  pub is : IsNode process number statement next
  pub fails : FailsAt system process (here_by system who known) known.store statement part why

-- the event takes this, and begins a transition
pub record IsTaking (took : Event) (got : Got) : Type 0 where
  pub at : ℕ
  pub is : (took ≡ event.Consumed at got) ⊎ (took ≡ event.Prior at got)

-- The last event but one is that it takes a signal in this state, of which a value doesn't fit its variable.
pub record FailsInReception (system : SystemValue) (process : Process) (who : Identity) (variables : VariableList)
    (all : List Event) (state : StateId) (signal : SignalId) (misfit : Misfit) (known : KnownValue)
    (why : Failure) : Type 0 where
  pub got : Got
  pub took : Event
  pub came : Came system process who variables all (Between (Some state)) known (took ∷ event.Failed why ∷ [])
  pub takes : IsTaking took got
  pub name : name_of got ≡ signal
  pub reception : Reception
  pub begins : reception_in process (Some state) signal ≡ Some reception
  pub fails : received process reception.variables.items (values_got got)
      (begun_at who.pid takes.at got known.store) ≡ Err misfit
  pub cause : misfit.why ≡ why

-- The last event is a failure in this state, of which a condition fails by this.
pub record FailsInState (system : SystemValue) (process : Process) (who : Identity) (variables : VariableList)
    (all : List Event) (state : StateId) (number : ConditionId) (known : KnownValue) (why : Failure) : Type 0 where
  pub at : ℕ
  pub came : Came system process who variables all (Between (Some state)) known (event.FailedAt at why ∷ [])
  pub fails : StateFails process (here_by system who known) state number why

-- the failure of this record comes here, where the instance began with these variables
abbrev pub ComesAt : SystemValue → Process → Identity → VariableList → List Event → Halt → KnownValue → Failure
    → Type 0
ComesAt system process who variables all (halt.Statement number part) known why =
    FailsInStatement system process who variables all number part known why
ComesAt system process who variables all (halt.Reception state signal misfit) known why =
    FailsInReception system process who variables all state signal misfit known why
ComesAt system process who variables all (halt.Condition state number) known why =
    FailsInState system process who variables all state number known why

-- ---- the beginning of an instance

-- By its record the instance has come to a create of the process that gives this number, and there the parameters come
-- to these values.
pub record Creates (system : SystemValue) (process : Process) (who : Identity) (variables : VariableList)
    (all : List Event) (created : ProcessId) (number : ℕ) (values : List Value) : Type 0 where
  pub node : NodeId
  pub known : KnownValue
  pub later : List Event
  pub came : Came system process who variables all (At node 0) known (event.Create created (Some number) ∷ later)
  pub creation : Creation
  pub next : Option NodeId
  pub is : IsNode process node (kind.Create creation) next
  pub same : creation.process ≡ created
  pub evaluated : values_at (here_by system who known) (parameters_of system created)
      (map term_of creation.values.items) ≡ Ok values

-- The variables with which the instance of a record begins: no values of parameters has one that no instance created.
pub data BeginsWith (system : SystemValue) (records : List RecordValue) : RecordValue → VariableList → Type 0 where
  first : (trace : RecordValue) (process : Process) → slice_get system.processes trace.process.0 ≡ Some process
      → trace.parent ≡ pid.Null → BeginsWith system records trace (variables_from process [])
  made : (trace parent : RecordValue) (process maker : Process) (variables : VariableList) (values : List Value)
      → slice_get system.processes trace.process.0 ≡ Some process
      → trace.parent ≡ pid.Of parent.pid → Contains records parent
      → slice_get system.processes parent.process.0 ≡ Some maker
      → BeginsWith system records parent variables
      → Creates system maker (identity_of parent) variables parent.events trace.process trace.pid values
      → BeginsWith system records trace (variables_from process values)

-- the failure of a record of a report comes here
pub record IsPlaceOf (system : SystemValue) (records : List RecordValue) (trace : RecordValue) (halt : Halt)
    (known : KnownValue) (why : Failure) : Type 0 where
  pub process : Process
  pub is : slice_get system.processes trace.process.0 ≡ Some process
  pub variables : VariableList
  pub begins : BeginsWith system records trace variables
  pub comes : ComesAt system process (identity_of trace) variables trace.events halt known why
