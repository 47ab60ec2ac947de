-- How far an instance has come, by its record: what it did up to its last transition is taken from the events alone,
-- and that transition is gone through, statement by statement.
use Rattle.std.specs.Prelude.{◌≡◌, ◌==◌, ℕ, ◌+◌, List, [], ◌∷◌, Option, None, Some, if◌then◌else◌, slice_get}
use Rattle.std.specs.Option.{option_map}
use Rattle.port_model.specs.Port.{empty_port}
use Rattle.port_model.specs.Take.{name_of}
use Rattle.run_record.specs.Environment.{initial_store}
use Rattle.run_record.specs.Variables.{VariableList}
use Rattle.run_record.specs.declared.evaluation.identity.Identity.{Identity}
use Rattle.run_record.specs.declared.evaluation.store.Store.{Store}
use Rattle.run_record.specs.Event.{Event}
use Rattle.run_record.specs.Event as event
use Rattle.run_semantics.specs.Leads.{Counts}
use Rattle.sdl_interp.specs.Walk.{ChoosesWay}
use Rattle.sdl_system.specs.Process.{table_of}
use Rattle.sdl_system.specs.System.{SystemValue}
use Rattle.sdl_system.specs.declared.id.NodeId.{NodeId}
use Rattle.sdl_system.specs.declared.id.StateId.{StateId}
use Rattle.sdl_system.specs.declared.process.Process.{Process}
use Rattle.sdl_system.specs.declared.state.Continuous.{Continuous}
use Rattle.sdl_system.specs.declared.state.Reception.{Reception}
use Rattle.sdl_system.specs.declared.state.StateTable.{StateTable}
use Rattle.sdl_system.specs.declared.statement.Decision.{Decision}
use Rattle.sdl_system.specs.declared.statement.Statement.{Statement}
use Rattle.sdl_system.specs.declared.statement.Statement.TheVariants as kind
use Rattle.sdl_system.specs.declared.statement.Way.{Way}
use Rattle.sdl_failures.specs.Known.{KnownValue, here_by}
use Rattle.sdl_failures.specs.Part.{DoesPart, parts_of}
use Rattle.sdl_failures.specs.Received.{reception_in}
use Rattle.sdl_failures.specs.Told.{port_after, state_after, store_after}
use Rattle.sdl_failures.specs.declared.replayed.spot.Spot.{Spot}
use Rattle.sdl_failures.specs.declared.replayed.spot.Spot.TheVariants.{At, Between}

-- ---- where a transition begins

-- the continuous signal of this number
abbrev pub numbered : ℕ → List Continuous → Option Continuous
numbered number [] = None
numbered number (signal ∷ rest) = if signal.number == number then Some signal else numbered number rest

abbrev pub continuous_by : ℕ → Option StateTable → Option Continuous
continuous_by number None = None
continuous_by number (Some table) = numbered number table.continuous.items

abbrev pub continuous_in : Process → Option StateId → ℕ → Option Continuous
continuous_in process None number = None
continuous_in process (Some state) number = continuous_by number (table_of process state)

-- the node at which the transition begins that an event begins
abbrev pub begin_of : Process → Option StateId → Event → Option NodeId
begin_of process state (event.Start at) = Some process.start
begin_of process state (event.Consumed at got) =
    option_map (λ (r : Reception). r.begin) (reception_in process state (name_of got))
begin_of process state (event.Prior at got) =
    option_map (λ (r : Reception). r.begin) (reception_in process state (name_of got))
begin_of process state (event.Provided at number) =
    option_map (λ (c : Continuous). c.begin) (continuous_in process state number)
begin_of process state happened = None

-- ---- the way

-- the node of this number has this statement, and behind it comes that node
abbrev pub IsNode : Process → NodeId → Statement → Option NodeId → Type 0
IsNode process number statement next =
    slice_get process.nodes.items number.0 ≡ Some (record { statement = statement; next = next })

-- An instance has come to a spot, where it knows this, and these of its events are left. It begins with all of them. In
-- what it did up to its last transition each event tells what it knows then. With the event that begins the last one,
-- it is at the statement where that begins. A part of a statement makes the next event. When all of them have, the flow
-- goes on; a decision goes where the value of its question leads.
pub data Came (system : SystemValue) (process : Process) (who : Identity) (variables : VariableList)
    (all : List Event) : Spot → KnownValue → List Event → Type 0 where
  begins : Came system process who variables all (Between None)
      (record { store = initial_store variables; port = empty_port }) all
  tells : {state : Option StateId} {known : KnownValue} {left : List Event} (happened : Event) (store : Store)
      → Came system process who variables all (Between state) known (happened ∷ left)
      → store_after process who.pid state known.store happened ≡ Some store
      → Came system process who variables all (Between (state_after state happened))
      (record { store = store; port = port_after known.port happened }) left
  enters : {state : Option StateId} {known : KnownValue} {left : List Event} (happened : Event) (store : Store)
      (node : NodeId)
      → Came system process who variables all (Between state) known (happened ∷ left)
      → store_after process who.pid state known.store happened ≡ Some store
      → begin_of process state happened ≡ Some node
      → Came system process who variables all (At node 0)
      (record { store = store; port = port_after known.port happened }) left
  does : {number : NodeId} {part : ℕ} {known : KnownValue} {left : List Event} (happened : Event) (store : Store)
      (statement : Statement) (next : Option NodeId)
      → Came system process who variables all (At number part) known (happened ∷ left)
      → IsNode process number statement next → DoesPart statement part happened
      → store_after process who.pid None known.store happened ≡ Some store
      → Came system process who variables all (At number (part + 1))
      (record { store = store; port = port_after known.port happened }) left
  passes : {number : NodeId} {part : ℕ} {known : KnownValue} {left : List Event} (statement : Statement)
      (to : NodeId) (store : Store)
      → Came system process who variables all (At number part) known left
      → IsNode process number statement (Some to) → parts_of statement ≡ Some part → Counts known.store store
      → Came system process who variables all (At to 0) (record { store = store; port = known.port }) left
  decides : {number : NodeId} {known : KnownValue} {left : List Event} (asked : Decision) (next : Option NodeId)
      (way : Way) (to : NodeId) (store : Store)
      → Came system process who variables all (At number 0) known left
      → IsNode process number (kind.Decision asked) next → ChoosesWay (here_by system who known) asked way
      → way.0 ≡ Some to → Counts known.store store
      → Came system process who variables all (At to 0) (record { store = store; port = known.port }) left
