-- How large a specification may be: the words at which it is too large.
use Rattle.std.specs.Prelude.{◌++◌, List, [], ◌∷◌, Option, None, Some, flat_map, map}
use Rattle.sdl_tree.specs.Tree.{Ending, Join, Next, Stop, Terminator, Transition, Steps, Actions, NoAction, AndAction, Action, Task, Output, Set, Reset, Create, Decision, Parts, NoPart, AndPart, Otherwise, NoElse, Else, Stimulus, InputPart, PriorityInput, SavePart, ContinuousSignal, BodyPart, StatePart, FreeAction, SignalDefinition, TimerDefinition, ParameterGroup, FormalParameters, LocalDefinition, LocalSignals, LocalSignalList, LocalSynonyms, LocalSignalSet, Variables, Timers, ProcessDefinition, Definition, Signals, SignalList, Synonyms, Channel, Process, BlockPart, InBlock, Connect, SystemDefinition, InSystem, Block, Tree}
use Rattle.sdl_tree.specs.Words.{Spot}
use Rattle.sdl_tree.specs.declared.mark.Mark.TheVariants as mark
use Rattle.build_names.specs.Faults.{Diagnostic, fault_at, mark_word}
use Rattle.build_names.specs.States.{different, state_names}

-- ---- definitions, each list in the order of the text

abbrev pub block_definitions : BlockPart → List Definition
block_definitions (InBlock definition) = definition ∷ []
block_definitions (Connect connection) = []

abbrev pub system_definitions : SystemDefinition → List Definition
system_definitions (InSystem definition) = definition ∷ []
system_definitions (Block block) = flat_map block_definitions block.definitions

-- the definitions of a system and of its blocks
abbrev pub definitions_in : Tree → List Definition
definitions_in tree = flat_map system_definitions tree.definitions

abbrev pub processes_of : Definition → List ProcessDefinition
processes_of (Process process) = process ∷ []
processes_of (Signals signals) = []
processes_of (SignalList list) = []
processes_of (Synonyms synonyms) = []
processes_of (Channel channel) = []

abbrev pub processes_in : Tree → List ProcessDefinition
processes_in tree = flat_map processes_of (definitions_in tree)

abbrev pub process_name : ProcessDefinition → Spot
process_name process = process.name

-- a signal or a timer, with the sorts of its parameters
pub record Declared : Type 0 where
  pub name : Spot
  pub sorts : List Spot

abbrev pub of_signal : SignalDefinition → Declared
of_signal signal = record { name = signal.name; sorts = signal.sorts }

abbrev pub of_timer : TimerDefinition → Declared
of_timer timer = record { name = timer.name; sorts = timer.sorts }

abbrev pub local_declared : LocalDefinition → List Declared
local_declared (LocalSignals signals) = map of_signal signals
local_declared (Timers timers) = map of_timer timers.timers
local_declared (LocalSignalList list) = []
local_declared (LocalSynonyms synonyms) = []
local_declared (LocalSignalSet signals) = []
local_declared (Variables groups) = []

abbrev pub declared_of : Definition → List Declared
declared_of (Signals signals) = map of_signal signals
declared_of (Process process) = flat_map local_declared process.definitions
declared_of (SignalList list) = []
declared_of (Synonyms synonyms) = []
declared_of (Channel channel) = []

-- the signals and timers, those of a process where it stands
abbrev pub declared_in : Tree → List Declared
declared_in tree = flat_map declared_of (definitions_in tree)

abbrev pub declared_name : Declared → Spot
declared_name declared = declared.name

-- ---- statements, each by its word: nextstate and stop are none

abbrev pub terminator_statements : Terminator → List Spot
terminator_statements (Join word label) = mark_word mark.Join word ∷ []
terminator_statements (Next word state) = []
terminator_statements (Stop word) = []

abbrev pub ending_statements : Option Ending → List Spot
ending_statements None = []
ending_statements (Some ending) = terminator_statements ending.terminator

-- a decision comes before the statements of its parts
abbrev mutual
  pub transition_statements : Transition → List Spot
  transition_statements (Steps actions ending) = actions_statements actions ++ ending_statements ending

  pub actions_statements : Actions → List Spot
  actions_statements NoAction = []
  actions_statements (AndAction label first rest) = action_statements first ++ actions_statements rest

  pub action_statements : Action → List Spot
  action_statements (Task word assignments) = mark_word mark.Task word ∷ []
  action_statements (Output word outputs destination) = mark_word mark.Output word ∷ []
  action_statements (Set word clauses) = mark_word mark.Set word ∷ []
  action_statements (Reset word groups) = mark_word mark.Reset word ∷ []
  action_statements (Create word process) = mark_word mark.Create word ∷ []
  action_statements (Decision word question parts otherwise) =
      mark_word mark.Decision word ∷ (parts_statements parts ++ otherwise_statements otherwise)

  pub parts_statements : Parts → List Spot
  parts_statements NoPart = []
  parts_statements (AndPart answers transition rest) = transition_statements transition ++ parts_statements rest

  pub otherwise_statements : Otherwise → List Spot
  otherwise_statements NoElse = []
  otherwise_statements (Else transition) = transition_statements transition

abbrev pub stimulus_statements : Stimulus → List Spot
stimulus_statements (InputPart word inputs condition transition) = transition_statements transition
stimulus_statements (PriorityInput word inputs transition) = transition_statements transition
stimulus_statements (SavePart word saved) = []
stimulus_statements (ContinuousSignal word condition priority transition) = transition_statements transition

abbrev pub body_statements : BodyPart → List Spot
body_statements (StatePart states stimuli) = flat_map stimulus_statements stimuli
body_statements (FreeAction word label transition) = transition_statements transition

abbrev pub process_statements : ProcessDefinition → List Spot
process_statements process = transition_statements process.start.transition ++ flat_map body_statements process.body

abbrev pub statements_in : Tree → List Spot
statements_in tree = flat_map process_statements (processes_in tree)

-- ---- formal parameters of a process

abbrev pub group_names : ParameterGroup → List Spot
group_names group = group.names

abbrev pub parameter_names : Option FormalParameters → List Spot
parameter_names None = []
parameter_names (Some parameters) = flat_map group_names parameters.groups

-- ---- the limits

abbrev pub declared_faults : Declared → List Diagnostic
declared_faults declared = fault_at 16 declared.sorts

abbrev pub process_faults : ProcessDefinition → List Diagnostic
process_faults process =
    fault_at 16 (parameter_names process.parameters)
    ++ fault_at 1000 (different (state_names process))

-- each limit that a specification passes, at the first word past it
abbrev pub limit_faults : Tree → List Diagnostic
limit_faults tree =
    fault_at 200 (map process_name (processes_in tree))
    ++ fault_at 1000 (map declared_name (declared_in tree))
    ++ fault_at 50000 (statements_in tree)
    ++ flat_map declared_faults (declared_in tree)
    ++ flat_map process_faults (processes_in tree)
