-- The definitions of a specification in the order of the text, each with the scope that it stands in. Blocks and
-- processes are numbered from 0, each kind for itself, and what stands within one follows it.
use Rattle.std.specs.Prelude.{ℕ, ◌+◌, ◌++◌, List, [], ◌∷◌, Option, None, Some, flat_map}
use Rattle.build_definitions.specs.Sorts.{unknown_sort, unknown_sorts}
use Rattle.build_names.specs.Faults.{Diagnostic}
use Rattle.build_names.specs.declared.scopes.scope.ScopeId.{ScopeId}
use Rattle.build_names.specs.declared.scopes.scope.ScopeId.TheVariants as scope
use Rattle.sdl_system.specs.declared.id.BlockId.{BlockId}
use Rattle.sdl_system.specs.declared.id.ProcessId.{ProcessId}
use Rattle.sdl_tree.specs.Tree.{SignalDefinition, TimerDefinition, SignalListDefinition, SynonymDefinition, SignalSet, ParameterGroup, VariableGroup, FormalParameters, LocalDefinition, LocalSignals, LocalSignalList, LocalSynonyms, LocalSignalSet, Variables, Timers, ProcessDefinition, ChannelDefinition, Connection, Definition, Signals, SignalList, Synonyms, Channel, Process, BlockPart, InBlock, Connect, BlockDefinition, SystemDefinition, InSystem, Block, Tree}

-- a definition; what stands within a block or a process is not part of it
pub data Part : Type 0 where
  OfBlock : (number : BlockId) (definition : BlockDefinition) → Part
  OfProcess : (number : ProcessId) (definition : ProcessDefinition) → Part
  OfChannel : (definition : ChannelDefinition) → Part
  OfConnection : (definition : Connection) → Part
  OfSignals : (signals : List SignalDefinition) → Part
  OfTimers : (timers : List TimerDefinition) → Part
  OfSignalList : (definition : SignalListDefinition) → Part
  OfSynonyms : (synonyms : List SynonymDefinition) → Part
  OfSignalSet : (definition : SignalSet) → Part
  OfParameters : (group : ParameterGroup) → Part
  OfVariables : (group : VariableGroup) → Part

-- a definition with the scope that it stands in
pub record Placed : Type 0 where
  pub scope : ScopeId
  pub part : Part

abbrev pub placed : ScopeId → Part → Placed
placed place part = record { scope = place; part = part }

-- ---- a process

abbrev pub groups_of : Option FormalParameters → List ParameterGroup
groups_of None = []
groups_of (Some parameters) = parameters.groups

abbrev pub parameter_part : ScopeId → ParameterGroup → List Placed
parameter_part place group = placed place (OfParameters group) ∷ []

abbrev pub variable_part : ScopeId → VariableGroup → List Placed
variable_part place group = placed place (OfVariables group) ∷ []

abbrev pub local_parts : ScopeId → LocalDefinition → List Placed
local_parts place (LocalSignals signals) = placed place (OfSignals signals) ∷ []
local_parts place (LocalSignalList list) = placed place (OfSignalList list) ∷ []
local_parts place (LocalSynonyms synonyms) = placed place (OfSynonyms synonyms.synonyms) ∷ []
local_parts place (LocalSignalSet signals) = placed place (OfSignalSet signals) ∷ []
local_parts place (Variables groups) = flat_map (variable_part place) groups
local_parts place (Timers timers) = placed place (OfTimers timers.timers) ∷ []

-- what stands within a process: its formal parameters, and then its own definitions
abbrev pub own_parts : ScopeId → ProcessDefinition → List Placed
own_parts place process =
    flat_map (parameter_part place) (groups_of process.parameters) ++ flat_map (local_parts place) process.definitions

-- ---- a system and its blocks, with the number of processes that stand before

abbrev pub process_parts : ScopeId → ProcessId → ProcessDefinition → List Placed
process_parts place number process = placed place (OfProcess number process) ∷ own_parts (scope.Process number) process

abbrev pub definition_parts : ScopeId → ℕ → Definition → List Placed
definition_parts place processes (Signals signals) = placed place (OfSignals signals) ∷ []
definition_parts place processes (SignalList list) = placed place (OfSignalList list) ∷ []
definition_parts place processes (Synonyms synonyms) = placed place (OfSynonyms synonyms.synonyms) ∷ []
definition_parts place processes (Channel channel) = placed place (OfChannel channel) ∷ []
definition_parts place processes (Process process) = process_parts place (record { 0 = processes }) process

abbrev pub after_definition : ℕ → Definition → ℕ
after_definition processes (Signals signals) = processes
after_definition processes (SignalList list) = processes
after_definition processes (Synonyms synonyms) = processes
after_definition processes (Channel channel) = processes
after_definition processes (Process process) = processes + 1

abbrev pub block_part_parts : ScopeId → ℕ → BlockPart → List Placed
block_part_parts place processes (InBlock definition) = definition_parts place processes definition
block_part_parts place processes (Connect connection) = placed place (OfConnection connection) ∷ []

abbrev pub after_block_part : ℕ → BlockPart → ℕ
after_block_part processes (InBlock definition) = after_definition processes definition
after_block_part processes (Connect connection) = processes

abbrev pub block_parts : ScopeId → ℕ → List BlockPart → List Placed
block_parts place processes [] = []
block_parts place processes (part ∷ parts) =
    block_part_parts place processes part ++ block_parts place (after_block_part processes part) parts

abbrev pub after_block_parts : ℕ → List BlockPart → ℕ
after_block_parts processes [] = processes
after_block_parts processes (part ∷ parts) = after_block_parts (after_block_part processes part) parts

-- with the number of blocks that stand before, too
abbrev pub system_parts : ℕ → ℕ → SystemDefinition → List Placed
system_parts blocks processes (InSystem definition) = definition_parts scope.System processes definition
system_parts blocks processes (Block block) =
    placed scope.System (OfBlock (record { 0 = blocks }) block)
    ∷ block_parts (scope.Block (record { 0 = blocks })) processes block.definitions

abbrev pub blocks_after : ℕ → SystemDefinition → ℕ
blocks_after blocks (InSystem definition) = blocks
blocks_after blocks (Block block) = blocks + 1

abbrev pub processes_after : ℕ → SystemDefinition → ℕ
processes_after processes (InSystem definition) = after_definition processes definition
processes_after processes (Block block) = after_block_parts processes block.definitions

abbrev pub all_parts : ℕ → ℕ → List SystemDefinition → List Placed
all_parts blocks processes [] = []
all_parts blocks processes (definition ∷ definitions) =
    system_parts blocks processes definition
    ++ all_parts (blocks_after blocks definition) (processes_after processes definition) definitions

abbrev pub parts_in : Tree → List Placed
parts_in tree = all_parts 0 0 tree.definitions

-- ---- sorts that are none

abbrev pub signal_sort_faults : SignalDefinition → List Diagnostic
signal_sort_faults signal = unknown_sorts signal.sorts

abbrev pub timer_sort_faults : TimerDefinition → List Diagnostic
timer_sort_faults timer = unknown_sorts timer.sorts

abbrev pub synonym_sort_faults : SynonymDefinition → List Diagnostic
synonym_sort_faults synonym = unknown_sort synonym.sort

-- Unknown at each name of a definition that stands for a sort and is none's
abbrev pub sort_faults : Part → List Diagnostic
sort_faults (OfBlock number definition) = []
sort_faults (OfProcess number definition) = []
sort_faults (OfChannel definition) = []
sort_faults (OfConnection definition) = []
sort_faults (OfSignals signals) = flat_map signal_sort_faults signals
sort_faults (OfTimers timers) = flat_map timer_sort_faults timers
sort_faults (OfSignalList definition) = []
sort_faults (OfSynonyms synonyms) = flat_map synonym_sort_faults synonyms
sort_faults (OfSignalSet definition) = []
sort_faults (OfParameters group) = unknown_sort group.sort
sort_faults (OfVariables group) = unknown_sort group.sort

abbrev pub placed_sort_faults : Placed → List Diagnostic
placed_sort_faults placed = sort_faults placed.part

-- in a whole specification
abbrev pub all_sort_faults : Tree → List Diagnostic
all_sort_faults tree = flat_map placed_sort_faults (parts_in tree)
