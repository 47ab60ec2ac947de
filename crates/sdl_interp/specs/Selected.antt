-- What a state selects and tries, by the table of the state.
use Rattle.std.specs.Prelude.{◌≡◌, ◌<◌, ◌≤◌, ℕ, Bool, false, List, [], ◌∷◌, Option, None, Some, length, slice_get}
use Rattle.port_model.specs.History.{Stop}
use Rattle.port_model.specs.Port.{PortState}
use Rattle.port_model.specs.Selection as selection
use Rattle.port_model.specs.declared.values.item.SignalId.{SignalId}
use Rattle.port_model.specs.declared.selection.Class.{Class}
use Rattle.port_model.specs.declared.selection.Class.TheVariants as class
use Rattle.run_record.specs.Environment.{environment}
use Rattle.run_record.specs.Knowledge.{KnowledgeValue}
use Rattle.run_record.specs.declared.evaluation.identity.Identity.{Identity}
use Rattle.run_record.specs.declared.evaluation.store.Store.{Store}
use Rattle.run_record.specs.declared.failure.Failure.{Failure}
use Rattle.run_semantics.specs.Fails.{FailsIn}
use Rattle.run_semantics.specs.Leads.{Selecting}
use Rattle.run_semantics.specs.ControlPoint.{Definition}
use Rattle.run_semantics.specs.Selection.{Tried, begins, none_true}
use Rattle.sdl_interp.specs.Work.{IsOf}
use Rattle.sdl_system.specs.Behaviour.{StateMeaning}
use Rattle.sdl_system.specs.Process.{table_of}
use Rattle.sdl_system.specs.Soundness.{IsEnabled}
use Rattle.sdl_system.specs.declared.id.NodeId.{NodeId}
use Rattle.sdl_system.specs.declared.id.StateId.{StateId}
use Rattle.sdl_system.specs.declared.process.Process.{Process}
use Rattle.sdl_system.specs.declared.state.Continuous.{Continuous}
use Rattle.sdl_system.specs.declared.state.Enabling.{Enabling}
use Rattle.sdl_system.specs.declared.state.StateTable.{StateTable}

-- the continuous signal that was found is the one that begins
abbrev pub IsTried : List NodeId → Option Continuous → Tried → Type 0
IsTried entries None none_true = Unit {0}
IsTried entries (Some signal) (begins number body) =
    (signal.number ≡ number) × (slice_get entries body ≡ Some signal.begin)
IsTried entries found answer = ⊥

-- these are the classes of each state that has the table
abbrev pub SelectsBy : Process → StateTable → KnowledgeValue → List Class → Type 0
SelectsBy process table known classes =
    (d : Definition) → IsOf known.system process d → (n : StateId) → table_of process n ≡ Some table
    → Selecting d known.who known.port n known.store classes

-- a state that has the table can't select
pub record CannotSelect (d : Definition) (who : Identity) (q : PortState) (n : StateId) (s : Store)
    (why : Failure) : Type 0 where
  pub state : StateMeaning
  pub is : slice_get d.behaviour.states n.0 ≡ Some state
  pub fails : FailsIn d.behaviour state (environment d.system who s q) (Stop ∷ []) why

abbrev pub SelectsNone : Process → StateTable → KnowledgeValue → Failure → Type 0
SelectsNone process table known why =
    (d : Definition) → IsOf known.system process d → (n : StateId) → table_of process n ≡ Some table
    → CannotSelect d known.who known.port n known.store why

-- one of the conditions that are false so far stands with the signal
pub record IsShut (process : Process) (table : StateTable) (conditions : List Enabling) (truths : List Bool) (count : ℕ)
    (signal : SignalId) : Type 0 where
  pub place : ℕ
  pub within : place < count
  pub enabling : Enabling
  pub listed : slice_get conditions place ≡ Some enabling
  pub is_false : slice_get truths place ≡ Some false
  pub enables : IsEnabled process table enabling.signals signal

-- The classes of so many signals: those that the table has, but for the signals with which a false condition stands.
pub record AreShut (process : Process) (table : StateTable) (truths : List Bool) (count : ℕ)
    (classes : List Class) : Type 0 where
  pub shut : (signal : SignalId) → signal.0 < count
      → IsShut process table table.conditions.items truths (length truths) signal
      → selection.class_of classes signal ≡ class.Saved
  pub kept : (signal : SignalId) → signal.0 < count
      → (IsShut process table table.conditions.items truths (length truths) signal → ⊥)
      → selection.class_of classes signal ≡ selection.class_of table.selection signal
  pub past : (signal : SignalId) → count ≤ signal.0 → selection.class_of classes signal ≡ class.Discard
