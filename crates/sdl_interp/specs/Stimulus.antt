-- What begins a step of an instance.
use Rattle.std.specs.Prelude.{◌≡◌, ◌≤◌, ℕ, List, Option, None, Some, false, map, true}
use Rattle.std.specs.List.{AllZip}
use Rattle.port_model.specs.Calls.{TakesHere, after_stop}
use Rattle.port_model.specs.Ends.{OwnerState}
use Rattle.port_model.specs.declared.inbox.entry.Entry.{Entry}
use Rattle.port_model.specs.declared.got.Got.{Got}
use Rattle.port_model.specs.declared.selection.Class.{Class}
use Rattle.port_model.specs.declared.taken.Taken.{Taken}
use Rattle.port_model.specs.declared.taken.Taken.TheVariants.{Nothing}
use Rattle.port_model.specs.declared.values.value.Value.{Value}
use Rattle.run_record.specs.Environment.{environment}
use Rattle.sdl_interp.specs.Selected.{IsTried}
use Rattle.run_record.specs.Event as event
use Rattle.run_record.specs.Event.{values_got}
use Rattle.run_record.specs.declared.failure.Failure.{Failure}
use Rattle.run_semantics.specs.Goes.{AreInner, Goes, GoesWrong, IsOneStep, MachineValue, Waits, with_event}
use Rattle.run_semantics.specs.Leads.{Selecting}
use Rattle.run_semantics.specs.ControlPoint.{Definition, Doing, Ended, In, ControlPoint, Receiving}
use Rattle.run_semantics.specs.Selection.{tried}
use Rattle.run_semantics.specs.World.{IsReading, WorldValue}
use Rattle.sdl_interp.specs.Machine.{place_of, value_of}
use Rattle.sdl_interp.specs.Running.{CoreValue, IsGoing, IsReached, IsReady, seen}
use Rattle.sdl_interp.specs.Walk.{marks_of}
use Rattle.sdl_interp.specs.Work.{IsOf}
use Rattle.sdl_interp.specs.declared.transitions.machine.Machine.{Machine}
use Rattle.sdl_interp.specs.declared.transitions.machine.Position.{Position}
use Rattle.sdl_interp.specs.declared.transitions.machine.Position.TheVariants as position
use Rattle.sdl_interp.specs.declared.transitions.running.Core.{Core}
use Rattle.sdl_system.specs.Behaviour.{MeansContinuous, variable_meaning}
use Rattle.sdl_system.specs.Body.{Body}
use Rattle.sdl_system.specs.System.{SystemValue}
use Rattle.sdl_system.specs.Table.{Stands}
use Rattle.sdl_system.specs.declared.id.StateId.{StateId}
use Rattle.sdl_system.specs.declared.id.VariableId.{VariableId}
use Rattle.sdl_system.specs.declared.process.Process.{Process}
use Rattle.sdl_system.specs.declared.state.Continuous.{Continuous}
use Rattle.sdl_system.specs.declared.state.Reception.{Reception}

-- the variables of the process are those of what it means
abbrev pub HasVariables : Process → Definition → Type 0
HasVariables process d = map variable_meaning process.variables.items ≡ d.behaviour.variables

-- the values go to the variables, whatever transition they begin
abbrev pub Receives : Process → List (Option VariableId) → List Value → Machine → Machine → Type 0
Receives process variables values old new =
    (d : Definition) → HasVariables process d
    → (origin : Option StateId) (next : Body) (owner : OwnerState) (w : WorldValue)
    → Goes AreInner d (Receiving origin variables values next) (value_of old owner) w
    (Doing origin next) (value_of new owner) w

-- one doesn't fit its variable
abbrev pub ReceivesWrong : Process → List (Option VariableId) → List Value → Machine → Machine → Failure → Type 0
ReceivesWrong process variables values old new why =
    (d : Definition) → HasVariables process d
    → (origin : Option StateId) (next : Body) (owner : OwnerState) (w : WorldValue)
    → GoesWrong d (Receiving origin variables values next) (value_of old owner) w (value_of new owner) w why

-- The state of this number selected these classes, and a take of the port under them gave this.
pub record Took (d : Definition) (n : StateId) (m : MachineValue) (k : MachineValue) (classes : List Class)
    (taken : Taken) : Type 0 where
  pub selecting : Selecting d m.who m.owner.state n m.store classes
  pub takes : TakesHere classes m.owner k.owner taken
  pub who : k.who ≡ m.who
  pub store : k.store ≡ m.store
  pub events : k.events ≡ m.events
  pub alive : m.owner.state.alive ≡ true

-- ---- what a stimulus leads to

-- with or without something to do it goes on, or has ended
abbrev pub IsAnswered : Option Position → CoreValue → Type 0
IsAnswered None k = IsGoing k
IsAnswered (Some to) k = IsReached to k

-- from a position: where there is nothing to do it is as ready as before
abbrev pub IsStepped : Position → Option Position → CoreValue → Type 0
IsStepped at None k = IsReady at k
IsStepped at (Some to) k = IsReached to k

-- from a place on, whatever process means it
abbrev pub LeadsFrom : ControlPoint → SystemValue → Process → MachineValue → WorldValue → Position → MachineValue
    → WorldValue → Type 0
LeadsFrom from system process m w to n v =
    (d : Definition) → IsOf system process d → Goes (IsOneStep true) d from m w (place_of to) n v

-- in a state the instance makes a transition or discards, or it waits
abbrev pub Answers : Definition → StateId → MachineValue → WorldValue → Option Position → MachineValue → WorldValue
    → Type 0
Answers d state m w None n v = Waits d state m w n v
Answers d state m w (Some to) n v = Goes (IsOneStep true) d (In state) m w (place_of to) n v

-- The instance fails at a reading of the clock, and its port is stopped.
pub record FailsThen (w : WorldValue) (m : MachineValue) (why : Failure) (n : MachineValue) : Type 0 where
  pub at : ℕ
  pub later : m.store.time ≤ at
  pub reading : IsReading w m.store.time at
  pub is : n ≡ with_event (record m { store = record m.store { time = at }; owner = after_stop m.owner })
      (event.FailedAt at why)

-- in a state something fails: once the instance has failed at a reading of the clock, that was a step
abbrev pub AnswersWrong : Definition → StateId → MachineValue → WorldValue → MachineValue → WorldValue → Failure
    → Type 0
AnswersWrong d state m w k v why =
    (n : MachineValue) → FailsThen v k why n → Goes (IsOneStep false) d (In state) m w Ended n v

-- so it does in this state
abbrev pub Responds : SystemValue → Process → StateId → MachineValue → WorldValue → Option Position → MachineValue
    → WorldValue → Type 0
Responds system process state m w answer n v =
    (d : Definition) → IsOf system process d → Answers d state m w answer n v

abbrev pub RespondsWrong : SystemValue → Process → StateId → MachineValue → WorldValue → MachineValue → WorldValue
    → Failure → Type 0
RespondsWrong system process state m w k v why =
    (d : Definition) → IsOf system process d → AnswersWrong d state m w k v why

-- one take that found nothing, in a state in which no continuous signal is true
abbrev pub WaitsAt : Definition → Position → MachineValue → WorldValue → MachineValue → WorldValue → Type 0
WaitsAt d (position.In n) m w k v = Waits d n m w k v
WaitsAt d at m w k v = ⊥

-- from a position the instance moves, or it waits, or something fails
abbrev pub StepsFrom : SystemValue → Process → Position → MachineValue → WorldValue → Option Position → MachineValue
    → WorldValue → Type 0
StepsFrom system process at m w None n v = (d : Definition) → IsOf system process d → WaitsAt d at m w n v
StepsFrom system process at m w (Some to) n v = LeadsFrom (place_of at) system process m w to n v

abbrev pub StepsWrong : SystemValue → Process → Position → MachineValue → WorldValue → MachineValue → WorldValue
    → Failure → Type 0
StepsWrong system process at m w k v why =
    (d : Definition) → IsOf system process d → (n : MachineValue) → FailsThen v k why n
    → Goes (IsOneStep false) d (place_of at) m w Ended n v

-- and so it does after a take that gave this
abbrev pub Reacts : SystemValue → Process → StateId → Taken → MachineValue → WorldValue → Option Position
    → MachineValue → WorldValue → Type 0
Reacts system process state taken k w answer n v =
    (d : Definition) → IsOf system process d → (m : MachineValue) (classes : List Class)
    → Took d state m k classes taken
    → Answers d state m w answer n v

abbrev pub ReactsWrong : SystemValue → Process → StateId → Taken → MachineValue → WorldValue → MachineValue
    → WorldValue → Failure → Type 0
ReactsWrong system process state taken k w l v why =
    (d : Definition) → IsOf system process d → (m : MachineValue) (classes : List Class)
    → Took d state m k classes taken
    → AnswersWrong d state m w l v why

-- ---- transitions that begin

-- The values that came go to the variables of the input, and then its transition is made, whatever body begins there.
abbrev pub BeginsWith : SystemValue → Process → StateId → Reception → Got → MachineValue → WorldValue → Position
    → MachineValue → WorldValue → Type 0
BeginsWith system process state reception got m w to n v =
    (d : Definition) → (is : IsOf system process d) → (next : Body)
    → Stands process.nodes.items (marks_of is) (Some reception.begin) next
    → Goes AreInner d (Receiving (Some state) reception.variables.items (values_got got) next) m w (place_of to) n v

-- The take before gave nothing, in a state whose table has these continuous signals.
abbrev pub ContinuesWith : SystemValue → Process → StateId → List Continuous → MachineValue → WorldValue
    → Option Position → MachineValue → WorldValue → Type 0
ContinuesWith system process state signals k w answer n v =
    (d : Definition) → (is : IsOf system process d) → (m : MachineValue) (classes : List Class)
    → (took : Took d state m k classes Nothing)
    → AllZip (MeansContinuous process is.behaves.means.entries) signals took.selecting.state.continuous
    → Answers d state m w answer n v

abbrev pub ContinuesWrong : SystemValue → Process → StateId → List Continuous → MachineValue → WorldValue
    → MachineValue → WorldValue → Failure → Type 0
ContinuesWrong system process state signals k w l v why =
    (d : Definition) → (is : IsOf system process d) → (m : MachineValue) (classes : List Class)
    → (took : Took d state m k classes Nothing)
    → AllZip (MeansContinuous process is.behaves.means.entries) signals took.selecting.state.continuous
    → AnswersWrong d state m w l v why

-- The take before gave nothing, and this is the first continuous signal that is true.
abbrev pub ProvidesBy : SystemValue → Process → StateId → Continuous → MachineValue → WorldValue → Position
    → MachineValue → WorldValue → Type 0
ProvidesBy system process state signal k w to n v =
    (d : Definition) → (is : IsOf system process d) → (m : MachineValue) (classes : List Class)
    → (took : Took d state m k classes Nothing)
    → IsTried is.behaves.means.entries (Some signal)
    (tried (environment d.system m.who m.store m.owner.state) took.selecting.state.continuous)
    → Goes (IsOneStep true) d (In state) m w (place_of to) n v

-- ---- the same of a core, by what its port says of its owner and of what was drawn since the stop

abbrev pub Answered : {I : Type 0} → (I → OwnerState) → (I → List Entry) → Option Position → Core I → Type 0
Answered owning since to c = IsAnswered to (seen owning since c)

abbrev pub Stepped : {I : Type 0} → (I → OwnerState) → (I → List Entry) → Position → Option Position → Core I → Type 0
Stepped owning since at to c = IsStepped at to (seen owning since c)

abbrev pub LeadsTo : {I : Type 0} → (I → OwnerState) → ControlPoint → Core I → WorldValue → Position → Core I
    → WorldValue → Type 0
LeadsTo owning from old w to new v =
    LeadsFrom from old.system.now old.process.now (value_of old.machine (owning old.inbox)) w to
    (value_of new.machine (owning new.inbox)) v

abbrev pub RespondsTo : {I : Type 0} → (I → OwnerState) → StateId → Core I → WorldValue → Option Position → Core I
    → WorldValue → Type 0
RespondsTo owning state old w to new v =
    Responds old.system.now old.process.now state (value_of old.machine (owning old.inbox)) w to
    (value_of new.machine (owning new.inbox)) v

abbrev pub RespondsAmiss : {I : Type 0} → (I → OwnerState) → StateId → Core I → WorldValue → Core I → WorldValue
    → Failure → Type 0
RespondsAmiss owning state old w new v why =
    RespondsWrong old.system.now old.process.now state (value_of old.machine (owning old.inbox)) w
    (value_of new.machine (owning new.inbox)) v why

abbrev pub StepsTo : {I : Type 0} → (I → OwnerState) → Position → Core I → WorldValue → Option Position → Core I
    → WorldValue → Type 0
StepsTo owning at old w to new v =
    StepsFrom old.system.now old.process.now at (value_of old.machine (owning old.inbox)) w to
    (value_of new.machine (owning new.inbox)) v

abbrev pub StepsAmiss : {I : Type 0} → (I → OwnerState) → Position → Core I → WorldValue → Core I → WorldValue
    → Failure → Type 0
StepsAmiss owning at old w new v why =
    StepsWrong old.system.now old.process.now at (value_of old.machine (owning old.inbox)) w
    (value_of new.machine (owning new.inbox)) v why

abbrev pub ReactsTo : {I : Type 0} → (I → OwnerState) → StateId → Taken → Core I → WorldValue → Option Position
    → Core I → WorldValue → Type 0
ReactsTo owning state taken old w to new v =
    Reacts old.system.now old.process.now state taken (value_of old.machine (owning old.inbox)) w to
    (value_of new.machine (owning new.inbox)) v

abbrev pub ReactsAmiss : {I : Type 0} → (I → OwnerState) → StateId → Taken → Core I → WorldValue → Core I → WorldValue
    → Failure → Type 0
ReactsAmiss owning state taken old w new v why =
    ReactsWrong old.system.now old.process.now state taken (value_of old.machine (owning old.inbox)) w
    (value_of new.machine (owning new.inbox)) v why

abbrev pub FailsNow : {I : Type 0} → (I → OwnerState) → Core I → WorldValue → Failure → Core I → Type 0
FailsNow owning old w why new =
    FailsThen w (value_of old.machine (owning old.inbox)) why (value_of new.machine (owning new.inbox))

abbrev pub BeginsBy : {I : Type 0} → (I → OwnerState) → StateId → Reception → Got → Core I → WorldValue → Position
    → Core I → WorldValue → Type 0
BeginsBy owning state reception got old w to new v =
    BeginsWith old.system.now old.process.now state reception got (value_of old.machine (owning old.inbox)) w to
    (value_of new.machine (owning new.inbox)) v

abbrev pub ContinuesBy : {I : Type 0} → (I → OwnerState) → StateId → List Continuous → Core I → WorldValue
    → Option Position → Core I → WorldValue → Type 0
ContinuesBy owning state signals old w to new v =
    ContinuesWith old.system.now old.process.now state signals (value_of old.machine (owning old.inbox)) w to
    (value_of new.machine (owning new.inbox)) v

abbrev pub ContinuesAmiss : {I : Type 0} → (I → OwnerState) → StateId → List Continuous → Core I → WorldValue → Core I
    → WorldValue → Failure → Type 0
ContinuesAmiss owning state signals old w new v why =
    ContinuesWrong old.system.now old.process.now state signals (value_of old.machine (owning old.inbox)) w
    (value_of new.machine (owning new.inbox)) v why

abbrev pub Provides : {I : Type 0} → (I → OwnerState) → StateId → Continuous → Core I → WorldValue → Position → Core I
    → WorldValue → Type 0
Provides owning state signal old w to new v =
    ProvidesBy old.system.now old.process.now state signal (value_of old.machine (owning old.inbox)) w to
    (value_of new.machine (owning new.inbox)) v
