-- The signals that a process names (Z.101: valid input signal set; Z.102: input, save), and its timers.
use Rattle.std.specs.Prelude.{◌++◌, ℕ, ◌+◌, ◌*◌, List, [], ◌∷◌, flat_map}
use Rattle.build_definitions.specs.Rows.{ProcessRow}
use Rattle.build_definitions.specs.declared.symbols.symbol_table.SymbolTable.{SymbolTable}
use Rattle.build_network.specs.Numbered.{joined, numbered}
use Rattle.build_network.specs.Seen.{Seen, items_faults, items_in, listed, path_within, seen_at, signal_in, timer_in}
use Rattle.build_routes.specs.declared.network.list.Item.{Item}
use Rattle.build_routes.specs.declared.network.joined.Process.{Process}
use Rattle.build_routes.specs.declared.network.joined.Scope as networks
use Rattle.build_routes.specs.declared.network.joined.Scope.TheVariants as its
use Rattle.build_names.specs.Faults.{Diagnostic}
use Rattle.build_names.specs.declared.scopes.scope.ScopeId.{ScopeId}
use Rattle.build_names.specs.declared.scopes.scope.ScopeId.TheVariants as scope
use Rattle.sdl_tree.specs.Tree.{BodyPart, StatePart, FreeAction, Input, Inputs, InputList, InputAll, LocalDefinition, LocalSignals, LocalSignalList, LocalSynonyms, LocalSignalSet, Variables, Timers, ProcessDefinition, Saved, SaveList, SaveAll, Stimulus, InputPart, PriorityInput, SavePart, ContinuousSignal, TimerDefinition}

-- ---- inputs and saves

abbrev pub input_item : Seen → Input → List Item
input_item seen input = listed (signal_in seen input.signal)

abbrev pub inputs_items : Seen → Inputs → List Item
inputs_items seen (InputList inputs) = flat_map (input_item seen) inputs
inputs_items seen (InputAll asterisk) = []

abbrev pub saved_items : Seen → Saved → List Item
saved_items seen (SaveList items) = items_in seen items
saved_items seen (SaveAll asterisk) = []

abbrev pub stimulus_items : Seen → Stimulus → List Item
stimulus_items seen (InputPart word inputs condition transition) = inputs_items seen inputs
stimulus_items seen (PriorityInput word inputs transition) = flat_map (input_item seen) inputs
stimulus_items seen (SavePart word saved) = saved_items seen saved
stimulus_items seen (ContinuousSignal word condition priority transition) = []

abbrev pub part_items : Seen → BodyPart → List Item
part_items seen (StatePart states stimuli) = flat_map (stimulus_items seen) stimuli
part_items seen (FreeAction word label transition) = []

-- ---- definitions

abbrev pub set_items : Seen → LocalDefinition → List Item
set_items seen (LocalSignalSet signals) = items_in seen signals.items
set_items seen (LocalSignals signals) = []
set_items seen (LocalSignalList list) = []
set_items seen (LocalSynonyms synonyms) = []
set_items seen (Variables groups) = []
set_items seen (Timers timers) = []

abbrev pub set_faults : Seen → LocalDefinition → List Diagnostic
set_faults seen (LocalSignalSet signals) = items_faults seen signals.items
set_faults seen (LocalSignals signals) = []
set_faults seen (LocalSignalList list) = []
set_faults seen (LocalSynonyms synonyms) = []
set_faults seen (Variables groups) = []
set_faults seen (Timers timers) = []

abbrev pub timer_items : Seen → TimerDefinition → List Item
timer_items seen timer = listed (timer_in seen timer.name)

abbrev pub local_timers : Seen → LocalDefinition → List Item
local_timers seen (Timers timers) = flat_map (timer_items seen) timers.timers
local_timers seen (LocalSignals signals) = []
local_timers seen (LocalSignalList list) = []
local_timers seen (LocalSynonyms synonyms) = []
local_timers seen (LocalSignalSet signals) = []
local_timers seen (Variables groups) = []

-- ---- processes

-- what a process inputs or saves by name, and its signal set
abbrev pub named_items : Seen → ProcessDefinition → List Item
named_items seen process = flat_map (part_items seen) process.body ++ flat_map (set_items seen) process.definitions

abbrev pub timers_items : Seen → ProcessDefinition → List Item
timers_items seen process = flat_map (local_timers seen) process.definitions

-- names in its signal set that stand for nothing
abbrev pub process_faults : Seen → ProcessDefinition → List Diagnostic
process_faults seen process = flat_map (set_faults seen) process.definitions

-- what is seen in the process of this number
abbrev pub seen_within : SymbolTable → ℕ → ProcessRow → Seen
seen_within symbols number process = seen_at symbols (path_within (record { 0 = number }) process.scope)

-- the two lists of a process
abbrev pub two_lists : Seen → ProcessDefinition → List (List Item)
two_lists seen process = named_items seen process ∷ timers_items seen process ∷ []

abbrev pub lists_of : SymbolTable → ℕ → ProcessRow → List (List Item)
lists_of symbols number process = two_lists (seen_within symbols number process) process.definition

abbrev pub process_lists : SymbolTable → List ProcessRow → List (List Item)
process_lists symbols processes = joined (numbered (lists_of symbols) 0 processes)

abbrev pub faults_of : SymbolTable → ℕ → ProcessRow → List Diagnostic
faults_of symbols number process = process_faults (seen_within symbols number process) process.definition

abbrev pub processes_faults : SymbolTable → List ProcessRow → List Diagnostic
processes_faults symbols processes = joined (numbered (faults_of symbols) 0 processes)

-- channels and agents stand in the system or in a block, and never in a process
abbrev pub scope_of : ScopeId → networks.Scope
scope_of scope.System = its.System
scope_of (scope.Block block) = its.Block block
scope_of (scope.Process process) = its.System

-- a process whose first list has this number
abbrev pub process_at : ℕ → ProcessRow → Process
process_at list process = record {
  scope = scope_of process.scope;
  named = record { 0 = list };
  timers = record { 0 = list + 1 };
}

-- the process of this number: the two lists of each process come behind the others, of which there are so many
abbrev pub process_of : ℕ → ℕ → ProcessRow → Process
process_of others number process = process_at (others + 2 * number) process

abbrev pub processes_from : ℕ → List ProcessRow → List Process
processes_from others processes = numbered (process_of others) 0 processes
