-- How a transition is walked over the nodes of its process.
use Rattle.std.specs.Prelude.{◌≡◌, ◌⊎◌, ◌+◌, ◌<◌, List, Option, None, Some, Ok, length, slice_get}
use Rattle.port_model.specs.Ends.{OwnerState}
use Rattle.port_model.specs.declared.inbox.entry.Entry.{Entry}
use Rattle.port_model.specs.declared.values.value.Value.{Value}
use Rattle.run_record.specs.Environment.{Environment, environment}
use Rattle.run_record.specs.Memory.{FailsAs, wants_memory}
use Rattle.run_record.specs.Value as evaluated
use Rattle.run_record.specs.declared.evaluation.store.Store.{Store}
use Rattle.run_record.specs.Event as event
use Rattle.run_record.specs.declared.failure.Failure.{Failure}
use Rattle.run_record.specs.declared.failure.Failure.TheVariants.{Memory, NoAnswer, Undefined}
use Rattle.run_semantics.specs.Fails.{IsTooLong, most_statements}
use Rattle.run_semantics.specs.Goes.{AreInner, Goes, GoesWrong, MachineValue, with_event}
use Rattle.run_semantics.specs.ControlPoint.{Definition, Doing}
use Rattle.run_semantics.specs.World.{WorldValue}
use Rattle.sdl_interp.specs.Machine.{identity_of, place_of, value_of}
use Rattle.sdl_interp.specs.Running.{CoreValue, seen, stopped}
use Rattle.sdl_interp.specs.Work.{Does, DoesWrong, IsOf, amid, behind}
use Rattle.sdl_interp.specs.declared.transitions.machine.Position.{Position}
use Rattle.sdl_interp.specs.declared.transitions.machine.Position.TheVariants as at
use Rattle.sdl_interp.specs.declared.transitions.running.Core.{Core}
use Rattle.sdl_system.specs.Body.{Action, Body}
use Rattle.sdl_system.specs.System.{SystemValue}
use Rattle.sdl_system.specs.Table.{Stands, action_of, way_of}
use Rattle.sdl_system.specs.Term.{term_of}
use Rattle.sdl_system.specs.Walk.{Heads}
use Rattle.sdl_system.specs.declared.id.NodeId.{NodeId}
use Rattle.sdl_system.specs.declared.id.StateId.{StateId}
use Rattle.sdl_system.specs.declared.process.Process.{Process}
use Rattle.sdl_system.specs.declared.statement.Decision.{Decision}
use Rattle.sdl_system.specs.declared.statement.Node.{Node}
use Rattle.sdl_system.specs.declared.statement.Statement.{Statement}
use Rattle.sdl_system.specs.declared.statement.Statement.TheVariants as kind
use Rattle.sdl_system.specs.declared.statement.Way.{Way}

-- where the labels of the process stand among its nodes
abbrev pub marks_of : {system : SystemValue} {process : Process} {d : Definition} → IsOf system process d
    → List (Option NodeId)
marks_of is = is.behaves.means.bodies_are.marks

-- from a node to where the flow goes on, or to the end of the transition
pub record GoesTo (d : Definition) (nodes : List Node) (marks : List (Option NodeId)) (origin : Option StateId)
    (todo : Body) (m : MachineValue) (w : WorldValue) (place : Option NodeId) (n : MachineValue)
    (v : WorldValue) : Type 0 where
  pub rest : Body
  pub stands : Stands nodes marks place rest
  pub goes : Goes AreInner d (Doing origin todo) m w (Doing origin rest) n v

-- whatever stands where the node begins, which is one of the process, is done and leads on, or fails
abbrev pub Visits : SystemValue → Process → Node → Option StateId → MachineValue → WorldValue → Option NodeId
    → MachineValue → WorldValue → Type 0
Visits system process node origin m w place n v =
    (d : Definition) → (is : IsOf system process d) → (todo : Body)
    → (number : NodeId) → slice_get process.nodes.items number.0 ≡ Some node
    → Heads process.nodes.items (marks_of is) node todo
    → GoesTo d process.nodes.items (marks_of is) origin todo m w place n v

abbrev pub VisitsWrong : SystemValue → Process → Node → Option StateId → MachineValue → WorldValue → MachineValue
    → WorldValue → Failure → Type 0
VisitsWrong system process node origin m w n v why =
    (d : Definition) → (is : IsOf system process d) → (todo : Body)
    → Heads process.nodes.items (marks_of is) node todo → GoesWrong d (Doing origin todo) m w n v why

-- whatever stands at a place is done to its end, or fails
abbrev pub Walks : SystemValue → Process → Option NodeId → Option StateId → MachineValue → WorldValue → Position
    → MachineValue → WorldValue → Type 0
Walks system process place origin m w position n v =
    (d : Definition) → (is : IsOf system process d) → (todo : Body)
    → Stands process.nodes.items (marks_of is) place todo
    → Goes AreInner d (Doing origin todo) m w (place_of position) n v

abbrev pub WalksWrong : SystemValue → Process → Option NodeId → Option StateId → MachineValue → WorldValue
    → MachineValue → WorldValue → Failure → Type 0
WalksWrong system process place origin m w n v why =
    (d : Definition) → (is : IsOf system process d) → (todo : Body)
    → Stands process.nodes.items (marks_of is) place todo → GoesWrong d (Doing origin todo) m w n v why

-- what goes on counts one statement more
abbrev pub CountsOne : Store → Store → Type 0
CountsOne old new = (old.done < most_statements) × (new.done ≡ old.done + 1)

-- ---- actions

-- the statement is no end of a transition
abbrev pub IsPassed : Statement → Type 0
IsPassed (kind.NextState state) = ⊥
IsPassed kind.SameState = ⊥
IsPassed kind.Stop = ⊥
IsPassed other = Unit {0}

-- nor a decision
abbrev pub IsPlain : Statement → Type 0
IsPlain (kind.Decision asked) = ⊥
IsPlain (kind.NextState state) = ⊥
IsPlain kind.SameState = ⊥
IsPlain kind.Stop = ⊥
IsPlain other = Unit {0}

-- in the midst of an action, it is done, or fails; where there is none, nothing is done
abbrev pub ActsAs : SystemValue → Process → Option Action → MachineValue → WorldValue → MachineValue → WorldValue
    → Type 0
ActsAs system process None m w n v = (n ≡ m) × (v ≡ w)
ActsAs system process (Some action) m w n v = Does (IsOf system process) (amid action) m w behind n v

abbrev pub FailsToAct : SystemValue → Process → Option Action → MachineValue → WorldValue → MachineValue → WorldValue
    → Failure → Type 0
FailsToAct system process None m w n v why = ⊥
FailsToAct system process (Some action) m w n v why = DoesWrong (IsOf system process) (amid action) m w n v why

-- ---- decisions

-- the value of the question takes this way
pub record ChoosesWay (here : Environment) (asked : Decision) (way : Way) : Type 0 where
  pub value : Value
  pub is : evaluated.value_of here (term_of asked.question) ≡ Ok value
  pub takes : way_of asked value ≡ Some way

-- it takes none
pub record HasNoWay (here : Environment) (asked : Decision) (why : Failure) : Type 0 where
  pub value : Value
  pub is : evaluated.value_of here (term_of asked.question) ≡ Ok value
  pub none : way_of asked value ≡ None
  pub told : why ≡ NoAnswer

-- It can't be counted, the question fails, or there is no way.
abbrev pub CantChoose : Environment → Store → Decision → Failure → Type 0
CantChoose here s asked why =
    IsTooLong s why
    ⊎ ((s.done < most_statements)
    × (FailsAs (wants_memory (term_of asked.question)) (evaluated.value_of here (term_of asked.question)) why
    ⊎ HasNoWay here asked why))

-- ---- states

-- the state is entered, which is one of the process
pub record IsEntered (state : Option StateId) (k : CoreValue) (position : Position) (l : CoreValue) : Type 0 where
  pub number : StateId
  pub is : state ≡ Some number
  pub there : number.0 < length k.process.states.items
  pub position_is : position ≡ at.In number
  pub work : l.work ≡ with_event k.work (event.NextState number)

-- there is no state to enter, or no memory to record it
abbrev pub EntersNone : Option StateId → Process → Failure → Type 0
EntersNone None process why = why ≡ Undefined
EntersNone (Some number) process why =
    (why ≡ Memory) ⊎ ((why ≡ Undefined) × (number.0 < length process.states.items → ⊥))

-- the instance ends
abbrev pub IsStopped : CoreValue → Position → CoreValue → Type 0
IsStopped k position l = (position ≡ at.Ended) × (l.work ≡ with_event (stopped k).work event.Stop)

-- ---- the same of a core, by what its port says of its owner and of what was drawn since the stop

abbrev pub Enters : {I : Type 0} → (I → OwnerState) → (I → List Entry) → Option StateId → Core I → Position → Core I
    → Type 0
Enters owning since state old position new = IsEntered state (seen owning since old) position (seen owning since new)

abbrev pub Stops : {I : Type 0} → (I → OwnerState) → (I → List Entry) → Core I → Position → Core I → Type 0
Stops owning since old position new = IsStopped (seen owning since old) position (seen owning since new)

abbrev pub Chooses : {I : Type 0} → (I → OwnerState) → Decision → Core I → Way → Type 0
Chooses owning asked c way =
    ChoosesWay (environment c.system.now (identity_of c.machine.trace) c.machine.store (owning c.inbox).state) asked way

abbrev pub CantChooseIn : {I : Type 0} → (I → OwnerState) → Decision → Core I → Failure → Type 0
CantChooseIn owning asked c why =
    CantChoose (environment c.system.now (identity_of c.machine.trace) c.machine.store (owning c.inbox).state)
    c.machine.store asked why

abbrev pub PerformsTo : {I : Type 0} → (I → OwnerState) → Statement → Core I → WorldValue → Core I → WorldValue
    → Type 0
PerformsTo owning statement old w new v =
    ActsAs old.system.now old.process.now (action_of statement) (value_of old.machine (owning old.inbox)) w
    (value_of new.machine (owning new.inbox)) v

abbrev pub PerformsAmiss : {I : Type 0} → (I → OwnerState) → Statement → Core I → WorldValue → Core I → WorldValue
    → Failure → Type 0
PerformsAmiss owning statement old w new v why =
    FailsToAct old.system.now old.process.now (action_of statement) (value_of old.machine (owning old.inbox)) w
    (value_of new.machine (owning new.inbox)) v why

abbrev pub VisitsTo : {I : Type 0} → (I → OwnerState) → Node → Option StateId → Core I → WorldValue → Option NodeId
    → Core I → WorldValue → Type 0
VisitsTo owning node origin old w place new v =
    Visits old.system.now old.process.now node origin (value_of old.machine (owning old.inbox)) w place
    (value_of new.machine (owning new.inbox)) v

abbrev pub VisitsAmiss : {I : Type 0} → (I → OwnerState) → Node → Option StateId → Core I → WorldValue → Core I
    → WorldValue → Failure → Type 0
VisitsAmiss owning node origin old w new v why =
    VisitsWrong old.system.now old.process.now node origin (value_of old.machine (owning old.inbox)) w
    (value_of new.machine (owning new.inbox)) v why

abbrev pub WalksTo : {I : Type 0} → (I → OwnerState) → NodeId → Option StateId → Core I → WorldValue → Position → Core I
    → WorldValue → Type 0
WalksTo owning begin origin old w position new v =
    Walks old.system.now old.process.now (Some begin) origin (value_of old.machine (owning old.inbox)) w position
    (value_of new.machine (owning new.inbox)) v

abbrev pub WalksAmiss : {I : Type 0} → (I → OwnerState) → NodeId → Option StateId → Core I → WorldValue → Core I
    → WorldValue → Failure → Type 0
WalksAmiss owning begin origin old w new v why =
    WalksWrong old.system.now old.process.now (Some begin) origin (value_of old.machine (owning old.inbox)) w
    (value_of new.machine (owning new.inbox)) v why
