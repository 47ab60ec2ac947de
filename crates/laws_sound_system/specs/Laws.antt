-- A system that is what a specification says is sound (Z.101: system, process).
use Rattle.std.specs.Prelude.{◌≡◌, ◌<◌, ◌≤◌, ℕ, All, IfSome, List, Some, length, slice_get}
use Rattle.port_model.specs.History.{PortEvent}
use Rattle.port_model.specs.Port.{PortState}
use Rattle.port_model.specs.declared.values.item.SignalId.{SignalId}
use Rattle.port_model.specs.declared.values.value.Value.{Value}
use Rattle.sdl_build.specs.Built.{IsBuilt}
use Rattle.sdl_build.specs.Laws.{CanRun}
use Rattle.sdl_build.specs.ProcessScope.{process_scope}
use Rattle.build_routes.specs.declared.network.joined.Source.{Source}
use Rattle.run_record.specs.declared.evaluation.identity.Identity.{Identity}
use Rattle.run_record.specs.declared.evaluation.store.Store.{Store}
use Rattle.build_process.specs.Meant.{IsBehaviour}
use Rattle.run_record.specs.declared.failure.Failure.TheVariants.{Undefined}
use Rattle.build_routes.specs.Table.{SendsFrom}
use Rattle.run_semantics.specs.Effect.{Deed}
use Rattle.run_semantics.specs.Fails.{HasCause}
use Rattle.run_semantics.specs.Instance.{first_store}
use Rattle.run_semantics.specs.ControlPoint.{AtStart, Definition, ControlPoint}
use Rattle.run_semantics.specs.Runs.{Runs}
use Rattle.laws_sound_runs.specs.Asked.{IsUnassigned}
use Rattle.laws_sound_runs.specs.Sorts.{FitParameters, HaveSorts}
use Rattle.laws_sound_processes.specs.Behaviours.{IsSoundAround, IsSoundBehaviour}
use Rattle.sdl_system.specs.Behaviour.{Behaviour}
use Rattle.sdl_system.specs.Route.{receivers}
use Rattle.sdl_system.specs.Soundness.{IsProcess, IsSoundVariable}
use Rattle.sdl_system.specs.System.{SystemValue, meaning_of}
use Rattle.sdl_system.specs.declared.id.ProcessId.{ProcessId}
use Rattle.sdl_system.specs.declared.process.Process.{Process}
use Rattle.sdl_system.specs.declared.route.Source as sender
use Rattle.sdl_system.specs.declared.signal.Signal.{Signal}
use Rattle.sdl_tree.specs.Tree.{Tree}

-- ---- processes

-- Each name around a process of the system stands for what is there.
abbrev pub NamesAreSound : Type 0
NamesAreSound =
    (tree : Tree) (system : SystemValue) (built : IsBuilt tree system) (number : ProcessId) (process : Process)
    (can : CanRun built.context system number process) → slice_get system.processes number.0 ≡ Some process
    → IsSoundAround system process (process_scope built.context number can.row.definition)

-- Each behaviour that the text of a process has is sound: each number in it is that of something, and each value fits
-- its place.
abbrev pub BuiltProcessesAreSound : Type 0
BuiltProcessesAreSound =
    (tree : Tree) (system : SystemValue) (built : IsBuilt tree system) (number : ProcessId) (process : Process)
    (can : CanRun built.context system number process) → slice_get system.processes number.0 ≡ Some process
    → (behaviour : Behaviour)
    → IsBehaviour (process_scope built.context number can.row.definition) can.row.definition can.heading behaviour
    → IsSoundBehaviour system process behaviour

-- So in a run of the process a transition fails as Undefined only where a variable is asked for that has no value.
abbrev pub BuiltRunsLeadToStates : Type 0
BuiltRunsLeadToStates =
    (tree : Tree) (system : SystemValue) (built : IsBuilt tree system) (number : ProcessId) (process : Process)
    (can : CanRun built.context system number process) → slice_get system.processes number.0 ≡ Some process
    → (d : Definition)
    → IsBehaviour (process_scope built.context number can.row.definition) can.row.definition can.heading d.behaviour
    → (who : Identity) (place : ControlPoint) (s t : Store) (q r : PortState) (deeds : List Deed) (history : List PortEvent)
    → Runs d who AtStart s q deeds history place t r → HasCause d who r place t Undefined
    → IsUnassigned t.variables place

-- And in a run that begins with values of the sorts of its formal parameters each variable that has a value has one of
-- its sort.
abbrev pub BuiltRunsHaveSorts : Type 0
BuiltRunsHaveSorts =
    (tree : Tree) (system : SystemValue) (built : IsBuilt tree system) (number : ProcessId) (process : Process)
    (can : CanRun built.context system number process) → slice_get system.processes number.0 ≡ Some process
    → (d : Definition)
    → IsBehaviour (process_scope built.context number can.row.definition) can.row.definition can.heading d.behaviour
    → (who : Identity) (place : ControlPoint) (values : List Value) (t : Store) (q r : PortState) (deeds : List Deed)
    (history : List PortEvent) → FitParameters d.behaviour values
    → Runs d who AtStart (first_store d.behaviour values) q deeds history place t r → HaveSorts d.behaviour t.variables

-- What the heading of a process says fits: no more instances at the start than there may be, no more formal parameters
-- than variables, and each initial value is of the sort of its variable.
pub record IsSoundHeading (process : Process) : Type 0 where
  pub counts : IfSome process.maximum (λ maximum. (1 ≤ maximum) × (process.initial ≤ maximum))
  pub parameters : process.parameters ≤ length process.variables.items
  pub variables : All IsSoundVariable process.variables.items

abbrev pub HeadingsAreSound : Type 0
HeadingsAreSound =
    (tree : Tree) (system : SystemValue) → IsBuilt tree system → (number : ProcessId) (process : Process)
    → slice_get system.processes number.0 ≡ Some process → IsSoundHeading process

-- ---- signals, names and routes

-- Each timer belongs to a process of the system.
abbrev pub TimersBelong : Type 0
TimersBelong =
    (tree : Tree) (system : SystemValue) → IsBuilt tree system
    → All (λ (signal : Signal). IfSome signal.timer (λ timer. IsProcess system timer.process)) system.signals

-- What the environment names are signals and processes of the system.
pub record AreThere (system : SystemValue) (text : List ℕ) : Type 0 where
  pub signal : IfSome (meaning_of system.own_signals text) (λ number. number.0 < length system.signals)
  pub process : IfSome (meaning_of system.process_names text) (IsProcess system)

abbrev pub NamesAreThere : Type 0
NamesAreThere = (tree : Tree) (system : SystemValue) → IsBuilt tree system → (text : List ℕ) → AreThere system text

-- Those to whom a signal of the system is led are processes of it, whoever sends it.
abbrev pub ReceiversAreThere : Type 0
ReceiversAreThere =
    (tree : Tree) (system : SystemValue) (built : IsBuilt tree system) (from : sender.Source) (source : Source)
    (signal : SignalId) → SendsFrom built.context.network from source → signal.0 < length system.signals
    → All (IsProcess system) (receivers system.routes from signal)
