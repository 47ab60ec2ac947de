-- What a specification defines: a table for each kind, in the order of the text.
use Rattle.std.specs.Prelude.{ℕ, ◌+◌, ◌++◌, List, [], ◌∷◌, Option, None, flat_map, length, map}
use Rattle.build_definitions.specs.Parts.{Part, OfBlock, OfProcess, OfChannel, OfConnection, OfSignals, OfTimers, OfSignalList, OfSynonyms, OfSignalSet, OfParameters, OfVariables, Placed, groups_of}
use Rattle.build_definitions.specs.Sorts.{sort_at}
use Rattle.build_definitions.specs.declared.entries.Agent.{Agent}
use Rattle.build_definitions.specs.declared.entries.Agent.TheVariants as agent
use Rattle.build_names.specs.Labels.{process_labels}
use Rattle.build_names.specs.States.{different, state_names}
use Rattle.build_expressions.specs.declared.scope.ValueEntry.{ValueEntry}
use Rattle.build_expressions.specs.declared.scope.ValueEntry.TheVariants as entry
use Rattle.build_names.specs.declared.scopes.scope.ScopeId.{ScopeId}
use Rattle.sdl_system.specs.declared.id.LabelId.{LabelId}
use Rattle.sdl_system.specs.declared.id.ProcessId.{ProcessId}
use Rattle.sdl_system.specs.declared.id.StateId.{StateId}
use Rattle.sdl_system.specs.declared.sort.Sort.{Sort}
use Rattle.sdl_tree.specs.Tree.{Expr, BlockDefinition, ProcessDefinition, ChannelDefinition, Connection, SignalDefinition, TimerDefinition, SignalListDefinition, SignalSet, SynonymDefinition, ParameterGroup}
use Rattle.sdl_tree.specs.Words.{Spot}

-- ---- blocks and processes

abbrev pub blocks_of : Part → List BlockDefinition
blocks_of (OfBlock number definition) = definition ∷ []
blocks_of _ = []

abbrev pub placed_blocks : Placed → List BlockDefinition
placed_blocks placed = blocks_of placed.part

-- a process, with the scope that it stands in and the sorts of its formal parameters
pub record ProcessRow : Type 0 where
  pub scope : ScopeId
  pub definition : ProcessDefinition
  pub sorts : List (Option Sort)

-- the sort of a group, for each name of it
abbrev pub repeated : Option Sort → List Spot → List (Option Sort)
repeated sort names = map (λ name. sort) names

abbrev pub group_sorts : ParameterGroup → List (Option Sort)
group_sorts group = repeated (sort_at group.sort) group.names

abbrev pub parameter_sorts : ProcessDefinition → List (Option Sort)
parameter_sorts process = flat_map group_sorts (groups_of process.parameters)

abbrev pub process_row : ScopeId → ProcessDefinition → ProcessRow
process_row place process = record { scope = place; definition = process; sorts = parameter_sorts process }

abbrev pub processes_of : ScopeId → Part → List ProcessRow
processes_of place (OfProcess number definition) = process_row place definition ∷ []
processes_of place _ = []

abbrev pub placed_processes : Placed → List ProcessRow
placed_processes placed = processes_of placed.scope placed.part

-- a block or a process, by its name
pub record AgentRow : Type 0 where
  pub scope : ScopeId
  pub name : Spot
  pub agent : Agent

abbrev pub agents_of : ScopeId → Part → List AgentRow
agents_of place (OfBlock number definition) =
    record { scope = place; name = definition.name; agent = agent.Block number } ∷ []
agents_of place (OfProcess number definition) =
    record { scope = place; name = definition.name; agent = agent.Process number } ∷ []
agents_of place _ = []

abbrev pub placed_agents : Placed → List AgentRow
placed_agents placed = agents_of placed.scope placed.part

-- ---- signals and timers

pub data SignalKind : Type 0 where
  OrdinarySignal : SignalKind
  -- with its default duration, where it has one
  OrdinaryTimer : (duration : Option Expr) → SignalKind

-- a signal or a timer, with the sorts of its parameters
pub record SignalRow : Type 0 where
  pub scope : ScopeId
  pub name : Spot
  pub sorts : List (Option Sort)
  pub kind : SignalKind

abbrev pub signal_row : ScopeId → SignalDefinition → SignalRow
signal_row place signal =
    record { scope = place; name = signal.name; sorts = map sort_at signal.sorts; kind = OrdinarySignal }

abbrev pub timer_row : ScopeId → TimerDefinition → SignalRow
timer_row place timer =
    record { scope = place; name = timer.name; sorts = map sort_at timer.sorts; kind = OrdinaryTimer timer.duration }

abbrev pub signals_of : ScopeId → Part → List SignalRow
signals_of place (OfSignals signals) = map (signal_row place) signals
signals_of place (OfTimers timers) = map (timer_row place) timers
signals_of place _ = []

abbrev pub placed_signals : Placed → List SignalRow
placed_signals placed = signals_of placed.scope placed.part

-- ---- signal lists, channels, connections and signal sets

pub record SignalListRow : Type 0 where
  pub scope : ScopeId
  pub definition : SignalListDefinition

abbrev pub signal_lists_of : ScopeId → Part → List SignalListRow
signal_lists_of place (OfSignalList definition) = record { scope = place; definition = definition } ∷ []
signal_lists_of place _ = []

abbrev pub placed_signal_lists : Placed → List SignalListRow
placed_signal_lists placed = signal_lists_of placed.scope placed.part

pub record ChannelRow : Type 0 where
  pub scope : ScopeId
  pub definition : ChannelDefinition

abbrev pub channels_of : ScopeId → Part → List ChannelRow
channels_of place (OfChannel definition) = record { scope = place; definition = definition } ∷ []
channels_of place _ = []

abbrev pub placed_channels : Placed → List ChannelRow
placed_channels placed = channels_of placed.scope placed.part

pub record ConnectionRow : Type 0 where
  pub scope : ScopeId
  pub definition : Connection

abbrev pub connections_of : ScopeId → Part → List ConnectionRow
connections_of place (OfConnection definition) = record { scope = place; definition = definition } ∷ []
connections_of place _ = []

abbrev pub placed_connections : Placed → List ConnectionRow
placed_connections placed = connections_of placed.scope placed.part

pub record SignalSetRow : Type 0 where
  pub scope : ScopeId
  pub definition : SignalSet

abbrev pub signal_sets_of : ScopeId → Part → List SignalSetRow
signal_sets_of place (OfSignalSet definition) = record { scope = place; definition = definition } ∷ []
signal_sets_of place _ = []

abbrev pub placed_signal_sets : Placed → List SignalSetRow
placed_signal_sets placed = signal_sets_of placed.scope placed.part

-- ---- synonyms, variables and formal parameters

pub record SynonymRow : Type 0 where
  pub scope : ScopeId
  pub sort : Option Sort
  pub definition : SynonymDefinition

abbrev pub synonym_row : ScopeId → SynonymDefinition → SynonymRow
synonym_row place synonym = record { scope = place; sort = sort_at synonym.sort; definition = synonym }

abbrev pub synonyms_of : ScopeId → Part → List SynonymRow
synonyms_of place (OfSynonyms synonyms) = map (synonym_row place) synonyms
synonyms_of place _ = []

abbrev pub placed_synonyms : Placed → List SynonymRow
placed_synonyms placed = synonyms_of placed.scope placed.part

-- a variable, a formal parameter or a synonym, by its name
pub record ValueRow : Type 0 where
  pub scope : ScopeId
  pub name : Spot
  pub entry : ValueEntry
  pub initial : Option Expr

-- variables of one sort, numbered from this one on
abbrev pub variable_rows : ScopeId → Option Sort → Option Expr → ℕ → List Spot → List ValueRow
variable_rows place sort initial number [] = []
variable_rows place sort initial number (name ∷ names) =
    record { scope = place; name = name; entry = entry.Variable (record { 0 = number }) sort; initial = initial }
    ∷ variable_rows place sort initial (number + 1) names

abbrev pub synonym_values : ScopeId → ℕ → List SynonymDefinition → List ValueRow
synonym_values place number [] = []
synonym_values place number (synonym ∷ synonyms) =
    record {
      scope = place;
      name = synonym.name;
      entry = entry.Synonym (record { 0 = number }) (sort_at synonym.sort);
      initial = None;
    }
    ∷ synonym_values place (number + 1) synonyms

-- Synonyms are numbered over the whole specification. Variables are numbered in their process, whose formal parameters come
-- first.
abbrev pub values_of : ℕ → ℕ → ScopeId → Part → List ValueRow
values_of synonyms variables place (OfSynonyms definitions) = synonym_values place synonyms definitions
values_of synonyms variables place (OfParameters group) =
    variable_rows place (sort_at group.sort) None variables group.names
values_of synonyms variables place (OfVariables group) =
    variable_rows place (sort_at group.sort) group.initial variables group.names
values_of synonyms variables place _ = []

abbrev pub after_synonyms : ℕ → Part → ℕ
after_synonyms number (OfSynonyms definitions) = number + length definitions
after_synonyms number _ = number

abbrev pub after_variables : ℕ → Part → ℕ
after_variables number (OfProcess process definition) = 0
after_variables number (OfParameters group) = number + length group.names
after_variables number (OfVariables group) = number + length group.names
after_variables number _ = number

-- with the numbers of synonyms, and of variables of the process, that stand before
abbrev pub value_rows : ℕ → ℕ → List Placed → List ValueRow
value_rows synonyms variables [] = []
value_rows synonyms variables (placed ∷ parts) =
    values_of synonyms variables placed.scope placed.part
    ++ value_rows (after_synonyms synonyms placed.part) (after_variables variables placed.part) parts

-- ---- labels and states

pub record LabelRow : Type 0 where
  pub process : ProcessId
  pub number : LabelId
  pub name : Spot

-- labels of a process, numbered from this one on
abbrev pub label_rows : ProcessId → ℕ → List Spot → List LabelRow
label_rows process number [] = []
label_rows process number (name ∷ names) =
    record { process = process; number = record { 0 = number }; name = name } ∷ label_rows process (number + 1) names

abbrev pub labels_in : Part → List LabelRow
labels_in (OfProcess number definition) = label_rows number 0 (process_labels definition)
labels_in _ = []

abbrev pub placed_labels : Placed → List LabelRow
placed_labels placed = labels_in placed.part

pub record StateRow : Type 0 where
  pub process : ProcessId
  pub number : StateId
  pub name : Spot

abbrev pub state_rows : ProcessId → ℕ → List Spot → List StateRow
state_rows process number [] = []
state_rows process number (name ∷ names) =
    record { process = process; number = record { 0 = number }; name = name } ∷ state_rows process (number + 1) names

abbrev pub states_in : Part → List StateRow
states_in (OfProcess number definition) = state_rows number 0 (different (state_names definition))
states_in _ = []

abbrev pub placed_states : Placed → List StateRow
placed_states placed = states_in placed.part
