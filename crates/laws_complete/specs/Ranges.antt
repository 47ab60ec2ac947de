-- Numbers in what the states of a process say are below what they count (Z.101: state, input, save; Z.102: priority
-- input, continuous signal).
use Rattle.std.specs.Prelude.{◌≡◌, ◌<◌, ℕ, All, List, Some, length}
use Rattle.port_model.specs.declared.values.item.SignalId.{SignalId}
use Rattle.build_flow.specs.Beginnings.{beginnings}
use Rattle.build_process.specs.Meant.{NamesSignals}
use Rattle.build_expressions.specs.Scope.{SignalMeaning, signal_in}
use Rattle.build_states.specs.States.{states_of, table_named}
use Rattle.build_states.specs.Context.{Context, list_in}
use Rattle.build_states.specs.Mentions.{number_of}
use Rattle.build_states.specs.Reading.{process_read}
use Rattle.sdl_system.specs.declared.id.NodeId.{NodeId}
use Rattle.build_tables.specs.Linked.{Lacks}
use Rattle.sdl_tree.specs.Tree.{ProcessDefinition}
use Rattle.sdl_tree.specs.Words.{Spot}

-- Each transition that a state begins is one of the process, so it has an entry where each of them has one.
abbrev pub EntriesReach : Type 0
EntriesReach = (context : Context) (process : ProcessDefinition) (name : Spot) (entries : List NodeId) →
    length entries ≡ length (beginnings process) →
    Lacks entries (table_named (process_read context process).parts name) → ⊥

abbrev pub IsBelow : ℕ → SignalId → Type 0
IsBelow count signal = signal.0 < count

-- each name of a signal, a timer or a signal list stands for signals with smaller numbers than this
pub record AreBelow (count : ℕ) (context : Context) : Type 0 where
  pub signals : (text : List ℕ) (meaning : SignalMeaning) → signal_in context.scope text ≡ Some meaning →
      IsBelow count (number_of meaning)
  pub lists : (text : List ℕ) (signals : List SignalId) → list_in context text ≡ Some signals →
      All (IsBelow count) signals

-- Then states name no others.
abbrev pub SignalsWithin : Type 0
SignalsWithin = (count : ℕ) (context : Context) (process : ProcessDefinition) → AreBelow count context →
    All (NamesSignals count) (states_of context process.body)
