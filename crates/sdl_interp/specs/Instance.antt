-- An instance of a process, as its callers see it (Z.101: agent).
use Rattle.std.specs.Prelude.{◌≡◌, ◌≢◌, ◌⊎◌, ◌+◌, ◌<◌, Bool, true, false, List, [], ◌∷◌, ◌++◌, None, Some, IfSome, drop, length, map, slice_get}
use Rattle.port_model.specs.Ends.{OwnerState}
use Rattle.port_model.specs.declared.selection.Class.{Class}
use Rattle.port_model.specs.declared.values.value.Value.{Value}
use Rattle.run_record.specs.Environment.{initial_store}
use Rattle.run_record.specs.Variables.{VariableList}
use Rattle.run_record.specs.declared.evaluation.identity.Identity.{Identity}
use Rattle.run_record.specs.declared.evaluation.store.Store.{Store}
use Rattle.run_record.specs.Event.{Event}
use Rattle.run_record.specs.Event as event
use Rattle.run_record.specs.Record.{RecordValue}
use Rattle.run_semantics.specs.Goes.{Goes, IsOneStep, MachineValue}
use Rattle.run_semantics.specs.Instance.{HasRun, parameters_from}
use Rattle.run_semantics.specs.Leads.{IsQuiet}
use Rattle.run_semantics.specs.ControlPoint.{Closed, Definition, ControlPoint}
use Rattle.run_semantics.specs.ControlPoint as place
use Rattle.run_semantics.specs.World.{WorldValue}
use Rattle.sdl_interp.specs.Stimulus.{WaitsAt}
use Rattle.sdl_interp.specs.declared.instance.Stepped.{Stepped}
use Rattle.sdl_interp.specs.declared.instance.Stepped.TheVariants as stepped
use Rattle.sdl_interp.specs.Machine.{IsPositionIn, place_of}
use Rattle.sdl_interp.specs.Running.{CoreValue, IsReady}
use Rattle.sdl_interp.specs.Work.{IsOf}
use Rattle.sdl_interp.specs.declared.transitions.machine.Position.{Position}
use Rattle.sdl_interp.specs.declared.transitions.machine.Position.TheVariants as at
use Rattle.sdl_system.specs.Process.{table_of}
use Rattle.sdl_system.specs.System.{SystemValue}
use Rattle.sdl_system.specs.declared.id.StateId.{StateId}
use Rattle.sdl_system.specs.declared.process.Process.{Process}
use Rattle.sdl_system.specs.declared.process.Variable.{Variable}
use Rattle.sdl_system.specs.declared.state.StateTable.{StateTable}

-- The system and the process, who the instance is, where it is between two steps, what it knows, its port, and what it
-- did so far.
pub record InstanceValue : Type 0 where
  pub system : SystemValue
  pub process : Process
  pub who : Identity
  pub position : Position
  pub store : Store
  pub owner : OwnerState
  pub events : List Event

-- the same, as the work of a step sees it
abbrev pub work_of : InstanceValue → MachineValue
work_of i = record { who = i.who; store = i.store; owner = i.owner; events = i.events }

-- what is run is the process of this instance
abbrev pub IsRunAs : InstanceValue → Definition → Type 0
IsRunAs i d = IsOf i.system i.process d

-- all that it did is a run of its process
abbrev pub HasRunOf : Bool → InstanceValue → Type 0
HasRunOf shared i =
    (d : Definition) → IsRunAs i d → HasRun shared d i.who i.events (place_of i.position) i.store i.owner

-- what the fields of an instance mean
abbrev pub instance_of : Position → CoreValue → InstanceValue
instance_of position k = record {
  system = k.system;
  process = k.process;
  who = k.work.who;
  position = position;
  store = k.work.store;
  owner = k.work.owner;
  events = k.work.events;
}

-- There is room for what may come, the process is the one that the system has at the instance's number of it, the state
-- is one of the process, and all that was done is a run of it.
pub record IsInstance (shared : Bool) (position : Position) (k : CoreValue) : Type 0 where
  pub ready : IsReady position k
  pub listed : slice_get k.system.processes k.work.who.process.0 ≡ Some k.process
  pub state : IsPositionIn k.process position
  pub run : HasRunOf shared (instance_of position k)

-- the variables before the start, by the process: parameters have the values that there are
abbrev pub variables_from : Process → List Value → VariableList
variables_from process values =
    parameters_from process.parameters values
    ++ drop process.parameters (map (λ (v : Variable). v.initial) process.variables.items)

-- an instance before its start
abbrev pub created : SystemValue → Process → Identity → List Value → OwnerState → InstanceValue
created system process who values owner = record {
  system = system;
  process = process;
  who = who;
  position = at.BeforeStart;
  store = initial_store (variables_from process values);
  owner = owner;
  events = [];
}

-- ---- steps

-- who an instance is, and what it is of, never changes
pub record Keeps (old new : InstanceValue) : Type 0 where
  pub system : new.system ≡ old.system
  pub process : new.process ≡ old.process
  pub who : new.who ≡ old.who
  pub port : new.owner.port ≡ old.owner.port
  pub pid : new.owner.pid ≡ old.owner.pid

-- one whole transition, one discard, or what fails the instance in a state; and whether a transition begins with it
abbrev pub Moves : Bool → InstanceValue → WorldValue → InstanceValue → WorldValue → Type 0
Moves counts old w new v =
    (d : Definition) → IsRunAs old d
    → Goes (IsOneStep counts) d (place_of old.position) (work_of old) w (place_of new.position) (work_of new) v

abbrev pub IsIdle : InstanceValue → WorldValue → InstanceValue → WorldValue → Type 0
IsIdle old w new v =
    (new.position ≡ old.position)
    × ((d : Definition) → IsRunAs old d → WaitsAt d old.position (work_of old) w (work_of new) v)

-- the step that ends an instance, and every later one, in which nothing happens
abbrev pub EndsBy : Bool → InstanceValue → WorldValue → InstanceValue → WorldValue → Type 0
EndsBy counts old w new v =
    ((old.position ≡ at.Ended) × (new ≡ old) × (v ≡ w) × (counts ≡ false))
    ⊎ ((old.position ≢ at.Ended) × (new.position ≡ at.Ended) × Moves counts old w new v)

-- The instance makes a transition and lives on; or it waits; or it has ended.
abbrev pub Steps : Stepped → InstanceValue → WorldValue → InstanceValue → WorldValue → Type 0
Steps stepped.Moved old w new v = Moves true old w new v × (new.position ≢ at.Ended)
Steps stepped.Idle old w new v = IsIdle old w new v
Steps (stepped.Ended counts) old w new v = EndsBy counts old w new v

-- what a transition that has led there comes to
abbrev pub came_to : Position → Stepped
came_to at.Ended = stepped.Ended true
came_to at.BeforeStart = stepped.Moved
came_to (at.In state) = stepped.Moved

-- ---- the end

-- The instance waits where nothing can be taken and no continuous signal is true, or has ended.
abbrev pub IsQuietAt : Definition → Position → InstanceValue → Type 0
IsQuietAt d at.BeforeStart i = ⊥
IsQuietAt d (at.In n) i = (classes : List Class) × IsQuiet d i.who i.owner.state n i.store classes
IsQuietAt d at.Ended i = Unit {0}

abbrev pub IsAtRest : InstanceValue → Type 0
IsAtRest i = (d : Definition) → IsRunAs i d → IsQuietAt d i.position i

-- the event that closes the record of an instance that has not ended, and the place behind it
abbrev pub closing : Bool → Position → List Event
closing whole at.BeforeStart = event.Cut None ∷ []
closing true (at.In n) = event.Rest n ∷ []
closing false (at.In n) = event.Cut (Some n) ∷ []
closing whole at.Ended = []

abbrev pub closed : Position → ControlPoint
closed at.BeforeStart = Closed
closed (at.In n) = Closed
closed at.Ended = place.Ended

-- The record is that of the instance, closed, and all that it did is a run of its process, which is the one that the
-- system has at the number in the record.
pub record IsClosed (shared whole : Bool) (i : InstanceValue) (trace : RecordValue) : Type 0 where
  pub process : trace.process ≡ i.who.process
  pub pid : trace.pid ≡ i.who.pid
  pub parent : trace.parent ≡ i.who.parent
  pub listed : slice_get i.system.processes trace.process.0 ≡ Some i.process
  pub events : trace.events ≡ i.events ++ closing whole i.position
  pub run : (d : Definition) → IsRunAs i d → HasRun shared d i.who trace.events (closed i.position) i.store i.owner

-- ---- what is ahead

-- Nothing waits, in a state that has neither an enabling condition nor a continuous signal.
pub record WaitsForNothing (n : StateId) (i : InstanceValue) : Type 0 where
  pub table : StateTable
  pub listed : table_of i.process n ≡ Some table
  pub conditions : table.conditions.items ≡ []
  pub continuous : table.continuous.items ≡ []
  pub waiting : i.owner.state.waiting ≡ []

abbrev pub HasNothing : Position → InstanceValue → Type 0
HasNothing at.BeforeStart i = ⊥
HasNothing (at.In n) i = WaitsForNothing n i
HasNothing at.Ended i = ⊥

-- A look at the port does not tell what the next step finds: it is not in a state, or nothing waits, in a state that has
-- an enabling condition or a continuous signal.
abbrev pub NeedsStep : Position → InstanceValue → Type 0
NeedsStep at.BeforeStart i = Unit {0}
NeedsStep (at.In n) i =
    IfSome (table_of i.process n) (λ (table : StateTable). (i.owner.state.waiting ≡ [])
    × (0 < length table.conditions.items + length table.continuous.items))
NeedsStep at.Ended i = Unit {0}
