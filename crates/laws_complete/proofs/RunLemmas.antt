-- The parts of a specification: each process has the next number, and its formal parameters stand behind it.
use Rattle.std.proofs.Common.{◌≡◌, ◌++◌, ℕ, ◌+◌, List, [], ◌∷◌, flat_map, refl, inl}
use Rattle.build_definitions.specs.Parts.{OfBlock, OfProcess, OfChannel, OfConnection, OfSignals, OfTimers, OfSignalList, OfSynonyms, OfSignalSet, OfParameters, OfVariables, Placed, placed, after_block_part, after_block_parts, after_definition, all_parts, block_part_parts, block_parts, blocks_after, definition_parts, groups_of, local_parts, own_parts, parameter_part, parts_in, process_parts, processes_after, system_parts, variable_part}
use Rattle.build_definitions.specs.Rows.{placed_labels, placed_processes, placed_states}
use Rattle.build_names.proofs.FaultLemmas.{in-each, in-left}
use Rattle.build_names.specs.FaultLaws.{In}
use Rattle.build_names.specs.declared.scopes.scope.ScopeId.{ScopeId}
use Rattle.build_names.specs.declared.scopes.scope.ScopeId.TheVariants as scope
use Rattle.sdl_system.specs.declared.id.ProcessId.{ProcessId}
use Rattle.sdl_tree.specs.Tree.{Definition, LocalDefinition, LocalSignals, LocalSignalList, LocalSynonyms, LocalSignalSet, Variables, Timers, ParameterGroup, ProcessDefinition, Signals, SignalList, Synonyms, Channel, Process, BlockPart, InBlock, Connect, SystemDefinition, InSystem, Block, Tree, VariableGroup}

abbrev pub the_process : ℕ → ProcessId
the_process number = record { 0 = number }

-- a definition that is no process's
pub record IsOther (one : Placed) : Type 0 where
  pub process : placed_processes one ≡ []
  pub label : placed_labels one ≡ []
  pub state : placed_states one ≡ []

-- from this number of processes to that one
pub data Run : ℕ → List Placed → ℕ → Type 0 where
  nothing : (n : ℕ) → Run n [] n
  other : (n m : ℕ) (one : Placed) (rest : List Placed) → IsOther one → Run n rest m → Run n (one ∷ rest) m
  process :
      (n m : ℕ) (place : ScopeId) (definition : ProcessDefinition) (rest : List Placed)
      → ((group : ParameterGroup) → In group (groups_of definition.parameters)
      → In (placed (scope.Process (the_process n)) (OfParameters group)) rest)
      → Run (n + 1) rest m → Run n (placed place (OfProcess (the_process n) definition) ∷ rest) m

pub run-then : {n m k : ℕ} {xs ys : List Placed} → Run n xs m → Run m ys k → Run n (xs ++ ys) k
run-then (nothing n) after = after
run-then {n} {m} {k} {xs} {ys} (other n' m' one rest is run) after = other n' k one (rest ++ ys) is (run-then run after)
run-then {n} {m} {k} {xs} {ys} (process n' m' place definition rest groups run) after =
    process n' k place definition (rest ++ ys)
    (λ group at. in-left (placed (scope.Process (the_process n')) (OfParameters group)) rest ys (groups group at))
    (run-then run after)

one-other : (n : ℕ) (one : Placed) → IsOther one → Run n (one ∷ []) n
one-other n one is = other n n one [] is (nothing n)

is-other : (one : Placed) → placed_processes one ≡ [] → placed_labels one ≡ [] → placed_states one ≡ [] → IsOther one
is-other one no_process no_label no_state = record { process = no_process; label = no_label; state = no_state }

parameters-run : (n : ℕ) (place : ScopeId) (groups : List ParameterGroup) →
    Run n (flat_map (parameter_part place) groups) n
parameters-run n place [] = nothing n
parameters-run n place (group ∷ groups) =
    other n n (placed place (OfParameters group)) (flat_map (parameter_part place) groups)
    (is-other (placed place (OfParameters group)) refl refl refl) (parameters-run n place groups)

variables-run : (n : ℕ) (place : ScopeId) (groups : List VariableGroup) →
    Run n (flat_map (variable_part place) groups) n
variables-run n place [] = nothing n
variables-run n place (group ∷ groups) =
    other n n (placed place (OfVariables group)) (flat_map (variable_part place) groups)
    (is-other (placed place (OfVariables group)) refl refl refl) (variables-run n place groups)

local-run : (n : ℕ) (place : ScopeId) (definition : LocalDefinition) → Run n (local_parts place definition) n
local-run n place (LocalSignals signals) =
    one-other n (placed place (OfSignals signals)) (is-other (placed place (OfSignals signals)) refl refl refl)
local-run n place (LocalSignalList list) =
    one-other n (placed place (OfSignalList list)) (is-other (placed place (OfSignalList list)) refl refl refl)
local-run n place (LocalSynonyms synonyms) =
    one-other n (placed place (OfSynonyms synonyms.synonyms))
    (is-other (placed place (OfSynonyms synonyms.synonyms)) refl refl refl)
local-run n place (LocalSignalSet signals) =
    one-other n (placed place (OfSignalSet signals)) (is-other (placed place (OfSignalSet signals)) refl refl refl)
local-run n place (Variables groups) = variables-run n place groups
local-run n place (Timers timers) =
    one-other n (placed place (OfTimers timers.timers))
    (is-other (placed place (OfTimers timers.timers)) refl refl refl)

locals-run : (n : ℕ) (place : ScopeId) (definitions : List LocalDefinition) →
    Run n (flat_map (local_parts place) definitions) n
locals-run n place [] = nothing n
locals-run n place (definition ∷ definitions) =
    run-then (local-run n place definition) (locals-run n place definitions)

process-run : (n : ℕ) (place : ScopeId) (definition : ProcessDefinition) →
    Run n (process_parts place (the_process n) definition) (n + 1)
process-run n place definition =
    let own = scope.Process (the_process n) in
    let groups = groups_of definition.parameters in
    process n (n + 1) place definition (own_parts own definition)
    (λ group at. in-left (placed own (OfParameters group)) (flat_map (parameter_part own) groups)
    (flat_map (local_parts own) definition.definitions)
    (in-each (placed own (OfParameters group)) (parameter_part own) groups group at (inl refl)))
    (run-then (parameters-run (n + 1) own groups) (locals-run (n + 1) own definition.definitions))

definition-run : (n : ℕ) (place : ScopeId) (definition : Definition) →
    Run n (definition_parts place n definition) (after_definition n definition)
definition-run n place (Signals signals) =
    one-other n (placed place (OfSignals signals)) (is-other (placed place (OfSignals signals)) refl refl refl)
definition-run n place (SignalList list) =
    one-other n (placed place (OfSignalList list)) (is-other (placed place (OfSignalList list)) refl refl refl)
definition-run n place (Synonyms synonyms) =
    one-other n (placed place (OfSynonyms synonyms.synonyms))
    (is-other (placed place (OfSynonyms synonyms.synonyms)) refl refl refl)
definition-run n place (Channel channel) =
    one-other n (placed place (OfChannel channel)) (is-other (placed place (OfChannel channel)) refl refl refl)
definition-run n place (Process definition) = process-run n place definition

block-part-run : (n : ℕ) (place : ScopeId) (part : BlockPart) →
    Run n (block_part_parts place n part) (after_block_part n part)
block-part-run n place (InBlock definition) = definition-run n place definition
block-part-run n place (Connect connection) =
    one-other n (placed place (OfConnection connection))
    (is-other (placed place (OfConnection connection)) refl refl refl)

block-run : (n : ℕ) (place : ScopeId) (parts : List BlockPart) →
    Run n (block_parts place n parts) (after_block_parts n parts)
block-run n place [] = nothing n
block-run n place (part ∷ parts) =
    run-then (block-part-run n place part) (block-run (after_block_part n part) place parts)

system-run : (blocks n : ℕ) (definition : SystemDefinition) →
    Run n (system_parts blocks n definition) (processes_after n definition)
system-run blocks n (InSystem definition) = definition-run n scope.System definition
system-run blocks n (Block block) =
    other n (after_block_parts n block.definitions) (placed scope.System (OfBlock (record { 0 = blocks }) block))
    (block_parts (scope.Block (record { 0 = blocks })) n block.definitions)
    (is-other (placed scope.System (OfBlock (record { 0 = blocks }) block)) refl refl refl)
    (block-run n (scope.Block (record { 0 = blocks })) block.definitions)

-- as many processes as stand in all of them
abbrev pub processes_before : ℕ → List SystemDefinition → ℕ
processes_before n [] = n
processes_before n (definition ∷ definitions) = processes_before (processes_after n definition) definitions

all-run : (blocks n : ℕ) (definitions : List SystemDefinition) →
    Run n (all_parts blocks n definitions) (processes_before n definitions)
all-run blocks n [] = nothing n
all-run blocks n (definition ∷ definitions) =
    run-then (system-run blocks n definition)
    (all-run (blocks_after blocks definition) (processes_after n definition) definitions)

pub tree-run : (tree : Tree) → Run 0 (parts_in tree) (processes_before 0 tree.definitions)
tree-run tree = all-run 0 0 tree.definitions
