-- The parts of a specification: each process has the next number, its formal parameters stand right behind it, and then
-- its variables and timers, before the next process.
use Rattle.std.proofs.Common.{◌≡◌, ◌∙◌, ◌++◌, ◌+◌, ◌<◌, ℕ, suc, List, [], ◌∷◌, arith, flat_map, length, refl, ap, subst}
use Rattle.std.proofs.lemmas.List.{append_assoc}
use Rattle.build_definitions.specs.Parts.{Part, OfBlock, OfProcess, OfChannel, OfConnection, OfSignals, OfTimers, OfSignalList, OfSynonyms, OfSignalSet, OfParameters, OfVariables, Placed, after_block_part, after_block_parts, after_definition, all_parts, block_part_parts, block_parts, blocks_after, definition_parts, groups_of, local_parts, own_parts, parameter_part, parts_in, placed, process_parts, processes_after, system_parts, variable_part}
use Rattle.build_definitions.specs.Rows.{AgentRow, ProcessRow, SignalKind, OrdinarySignal, OrdinaryTimer, SignalRow, placed_agents, placed_processes, placed_signals}
use Rattle.build_definitions.specs.declared.entries.Agent.{Agent}
use Rattle.build_definitions.specs.declared.entries.Agent.TheVariants as agent
use Rattle.build_names.proofs.FaultLemmas.{each-both}
use Rattle.build_names.specs.FaultLaws.{Each}
use Rattle.build_names.specs.declared.scopes.scope.ScopeId.{ScopeId}
use Rattle.build_names.specs.declared.scopes.scope.ScopeId.TheVariants as scope
use Rattle.sdl_system.specs.declared.id.BlockId.{BlockId}
use Rattle.sdl_system.specs.declared.id.ProcessId.{ProcessId}
use Rattle.sdl_tree.specs.Tree as written
use Rattle.sdl_tree.specs.Tree.{BlockPart, Definition, LocalDefinition, ParameterGroup, ProcessDefinition, SignalDefinition, SystemDefinition, TimerDefinition, Tree, VariableGroup}

abbrev pub the_process : ℕ → ProcessId
the_process number = record { 0 = number }

abbrev pub scope_of_process : ℕ → ScopeId
scope_of_process number = scope.Process (the_process number)

-- what stands in a process alone
abbrev pub IsOwn : Part → Type 0
IsOwn (OfParameters group) = Unit {0}
IsOwn (OfVariables group) = Unit {0}
IsOwn (OfTimers timers) = Unit {0}
IsOwn (OfBlock number definition) = ⊥
IsOwn (OfProcess number definition) = ⊥
IsOwn (OfChannel definition) = ⊥
IsOwn (OfConnection definition) = ⊥
IsOwn (OfSignals signals) = ⊥
IsOwn (OfSignalList definition) = ⊥
IsOwn (OfSynonyms synonyms) = ⊥
IsOwn (OfSignalSet definition) = ⊥

-- what may stand anywhere
abbrev pub IsPlain : Part → Type 0
IsPlain (OfParameters group) = ⊥
IsPlain (OfVariables group) = ⊥
IsPlain (OfTimers timers) = ⊥
IsPlain (OfProcess number definition) = ⊥
IsPlain (OfBlock number definition) = Unit {0}
IsPlain (OfChannel definition) = Unit {0}
IsPlain (OfConnection definition) = Unit {0}
IsPlain (OfSignals signals) = Unit {0}
IsPlain (OfSignalList definition) = Unit {0}
IsPlain (OfSynonyms synonyms) = Unit {0}
IsPlain (OfSignalSet definition) = Unit {0}

-- the formal parameters of a process
abbrev pub parameters_of : ℕ → ProcessDefinition → List Placed
parameters_of n definition = flat_map (parameter_part (scope_of_process n)) (groups_of definition.parameters)

-- from so many processes to so many
pub data Walk : ℕ → List Placed → ℕ → Type 0 where
  nothing : (n : ℕ) → Walk n [] n
  plain : (n m : ℕ) (place : ScopeId) (part : Part) (rest : List Placed) → IsPlain part → Walk n rest m
      → Walk n (placed place part ∷ rest) m
  own : (k m : ℕ) (part : Part) (rest : List Placed) → IsOwn part → Walk (suc k) rest m
      → Walk (suc k) (placed (scope_of_process k) part ∷ rest) m
  process : (n m : ℕ) (place : ScopeId) (definition : ProcessDefinition) (rest more : List Placed)
      → rest ≡ parameters_of n definition ++ more → Walk (suc n) rest m
      → Walk n (placed place (OfProcess (the_process n) definition) ∷ rest) m

pub walk-then : {n m k : ℕ} {xs ys : List Placed} → Walk n xs m → Walk m ys k → Walk n (xs ++ ys) k
walk-then (nothing n) after = after
walk-then {k} {ys} (plain n' m' place part rest is walk) after =
    plain n' k place part (rest ++ ys) is (walk-then walk after)
walk-then {k} {ys} (own k' m' part rest is walk) after =
    own k' k part (rest ++ ys) is (walk-then walk after)
walk-then {k} {ys} (process n' m' place definition rest more same walk) after =
    process n' k place definition (rest ++ ys) (more ++ ys)
    (ap (λ list. list ++ ys) same ∙ append_assoc (parameters_of n' definition) more ys)
    (walk-then walk after)

one-plain : (n : ℕ) (place : ScopeId) (part : Part) → IsPlain part → Walk n (placed place part ∷ []) n
one-plain n place part is = plain n n place part [] is (nothing n)

one-own : (k : ℕ) (part : Part) → IsOwn part → Walk (suc k) (placed (scope_of_process k) part ∷ []) (suc k)
one-own k part is = own k (suc k) part [] is (nothing (suc k))

parameters-walk : (k : ℕ) (groups : List ParameterGroup) →
    Walk (suc k) (flat_map (parameter_part (scope_of_process k)) groups) (suc k)
parameters-walk k [] = nothing (suc k)
parameters-walk k (group ∷ groups) =
    own k (suc k) (OfParameters group) (flat_map (parameter_part (scope_of_process k)) groups) tt
    (parameters-walk k groups)

variables-walk : (k : ℕ) (groups : List VariableGroup) →
    Walk (suc k) (flat_map (variable_part (scope_of_process k)) groups) (suc k)
variables-walk k [] = nothing (suc k)
variables-walk k (group ∷ groups) =
    own k (suc k) (OfVariables group) (flat_map (variable_part (scope_of_process k)) groups) tt
    (variables-walk k groups)

local-walk : (k : ℕ) (definition : LocalDefinition) →
    Walk (suc k) (local_parts (scope_of_process k) definition) (suc k)
local-walk k (written.LocalSignals signals) = one-plain (suc k) (scope_of_process k) (OfSignals signals) tt
local-walk k (written.LocalSignalList list) = one-plain (suc k) (scope_of_process k) (OfSignalList list) tt
local-walk k (written.LocalSynonyms synonyms) = one-plain (suc k) (scope_of_process k) (OfSynonyms synonyms.synonyms) tt
local-walk k (written.LocalSignalSet signals) = one-plain (suc k) (scope_of_process k) (OfSignalSet signals) tt
local-walk k (written.Variables groups) = variables-walk k groups
local-walk k (written.Timers timers) = one-own k (OfTimers timers.timers) tt

locals-walk : (k : ℕ) (definitions : List LocalDefinition) →
    Walk (suc k) (flat_map (local_parts (scope_of_process k)) definitions) (suc k)
locals-walk k [] = nothing (suc k)
locals-walk k (definition ∷ definitions) = walk-then (local-walk k definition) (locals-walk k definitions)

process-walk : (n : ℕ) (place : ScopeId) (definition : ProcessDefinition) →
    Walk n (process_parts place (the_process n) definition) (suc n)
process-walk n place definition =
    process n (suc n) place definition (own_parts (scope_of_process n) definition)
    (flat_map (local_parts (scope_of_process n)) definition.definitions) refl
    (walk-then (parameters-walk n (groups_of definition.parameters)) (locals-walk n definition.definitions))

-- one more process
one-more : (n m : ℕ) (parts : List Placed) → m ≡ n + 1 → Walk n parts (suc n) → Walk n parts m
one-more n m parts is walk = subst (Walk n parts) (let e : suc n ≡ m = omega (arith, is) in e) walk

definition-walk : (n : ℕ) (place : ScopeId) (definition : Definition) →
    Walk n (definition_parts place n definition) (after_definition n definition)
definition-walk n place (written.Signals signals) = one-plain n place (OfSignals signals) tt
definition-walk n place (written.SignalList list) = one-plain n place (OfSignalList list) tt
definition-walk n place (written.Synonyms synonyms) = one-plain n place (OfSynonyms synonyms.synonyms) tt
definition-walk n place (written.Channel channel) = one-plain n place (OfChannel channel) tt
definition-walk n place (written.Process definition) =
    one-more n (n + 1) (process_parts place (the_process n) definition) refl (process-walk n place definition)

block-part-walk : (n : ℕ) (place : ScopeId) (part : BlockPart) →
    Walk n (block_part_parts place n part) (after_block_part n part)
block-part-walk n place (written.InBlock definition) = definition-walk n place definition
block-part-walk n place (written.Connect connection) = one-plain n place (OfConnection connection) tt

block-walk : (n : ℕ) (place : ScopeId) (parts : List BlockPart) →
    Walk n (block_parts place n parts) (after_block_parts n parts)
block-walk n place [] = nothing n
block-walk n place (part ∷ parts) =
    walk-then (block-part-walk n place part) (block-walk (after_block_part n part) place parts)

abbrev the_block : ℕ → BlockId
the_block number = record { 0 = number }

system-walk : (blocks n : ℕ) (definition : SystemDefinition) →
    Walk n (system_parts blocks n definition) (processes_after n definition)
system-walk blocks n (written.InSystem definition) = definition-walk n scope.System definition
system-walk blocks n (written.Block block) =
    plain n (after_block_parts n block.definitions) scope.System (OfBlock (the_block blocks) block)
    (block_parts (scope.Block (the_block blocks)) n block.definitions) tt
    (block-walk n (scope.Block (the_block blocks)) block.definitions)

abbrev pub processes_before : ℕ → List SystemDefinition → ℕ
processes_before n [] = n
processes_before n (definition ∷ definitions) = processes_before (processes_after n definition) definitions

all-walk : (blocks n : ℕ) (definitions : List SystemDefinition) →
    Walk n (all_parts blocks n definitions) (processes_before n definitions)
all-walk blocks n [] = nothing n
all-walk blocks n (definition ∷ definitions) =
    walk-then (system-walk blocks n definition)
    (all-walk (blocks_after blocks definition) (processes_after n definition) definitions)

pub tree-walk : (tree : Tree) → Walk 0 (parts_in tree) (processes_before 0 tree.definitions)
tree-walk tree = all-walk 0 0 tree.definitions

-- ---- how many processes there are

plain-processes : (place : ScopeId) (part : Part) → IsPlain part → placed_processes (placed place part) ≡ []
plain-processes place (OfBlock number definition) is = refl
plain-processes place (OfProcess number definition) is = absurd is
plain-processes place (OfChannel definition) is = refl
plain-processes place (OfConnection definition) is = refl
plain-processes place (OfSignals signals) is = refl
plain-processes place (OfTimers timers) is = absurd is
plain-processes place (OfSignalList definition) is = refl
plain-processes place (OfSynonyms synonyms) is = refl
plain-processes place (OfSignalSet definition) is = refl
plain-processes place (OfParameters group) is = absurd is
plain-processes place (OfVariables group) is = absurd is

own-processes : (place : ScopeId) (part : Part) → IsOwn part → placed_processes (placed place part) ≡ []
own-processes place (OfBlock number definition) is = absurd is
own-processes place (OfProcess number definition) is = absurd is
own-processes place (OfChannel definition) is = absurd is
own-processes place (OfConnection definition) is = absurd is
own-processes place (OfSignals signals) is = absurd is
own-processes place (OfTimers timers) is = refl
own-processes place (OfSignalList definition) is = absurd is
own-processes place (OfSynonyms synonyms) is = absurd is
own-processes place (OfSignalSet definition) is = absurd is
own-processes place (OfParameters group) is = refl
own-processes place (OfVariables group) is = refl

abbrev pub rows_among : List Placed → List ProcessRow
rows_among parts = flat_map placed_processes parts

pub plain-rows : (place : ScopeId) (part : Part) (rest : List Placed) → IsPlain part →
    rows_among (placed place part ∷ rest) ≡ rows_among rest
plain-rows place part rest is = ap (λ list. list ++ rows_among rest) (plain-processes place part is)

pub own-rows : (place : ScopeId) (part : Part) (rest : List Placed) → IsOwn part →
    rows_among (placed place part ∷ rest) ≡ rows_among rest
own-rows place part rest is = ap (λ list. list ++ rows_among rest) (own-processes place part is)

pub walk-long : {n m : ℕ} {parts : List Placed} → Walk n parts m → n + length (rows_among parts) ≡ m
walk-long (nothing n) = omega arith
walk-long (plain n m place part rest is walk) =
    ap (λ list. n + length list) (plain-rows place part rest is) ∙ walk-long walk
walk-long (own k m part rest is walk) =
    ap (λ list. suc k + length list) (own-rows (scope_of_process k) part rest is) ∙ walk-long walk
walk-long (process n m place definition rest more same walk) =
    let later = walk-long walk in omega (arith, later)

-- ---- agents and timers

-- the number of a process is below
abbrev pub IsCounted : ℕ → Agent → Type 0
IsCounted count (agent.Block number) = Unit {0}
IsCounted count (agent.Process number) = number.0 < count

abbrev pub IsNumbered : ℕ → AgentRow → Type 0
IsNumbered count row = IsCounted count row.agent

agent-below : (count : ℕ) (place : ScopeId) (part : Part) → IsPlain part →
    Each (IsNumbered count) (placed_agents (placed place part))
agent-below count place (OfBlock number definition) is = (tt, tt)
agent-below count place (OfProcess number definition) is = absurd is
agent-below count place (OfChannel definition) is = tt
agent-below count place (OfConnection definition) is = tt
agent-below count place (OfSignals signals) is = tt
agent-below count place (OfTimers timers) is = absurd is
agent-below count place (OfSignalList definition) is = tt
agent-below count place (OfSynonyms synonyms) is = tt
agent-below count place (OfSignalSet definition) is = tt
agent-below count place (OfParameters group) is = absurd is
agent-below count place (OfVariables group) is = absurd is

own-agents : (count : ℕ) (place : ScopeId) (part : Part) → IsOwn part →
    Each (IsNumbered count) (placed_agents (placed place part))
own-agents count place (OfBlock number definition) is = absurd is
own-agents count place (OfProcess number definition) is = absurd is
own-agents count place (OfChannel definition) is = absurd is
own-agents count place (OfConnection definition) is = absurd is
own-agents count place (OfSignals signals) is = absurd is
own-agents count place (OfTimers timers) is = tt
own-agents count place (OfSignalList definition) is = absurd is
own-agents count place (OfSynonyms synonyms) is = absurd is
own-agents count place (OfSignalSet definition) is = absurd is
own-agents count place (OfParameters group) is = tt
own-agents count place (OfVariables group) is = tt

below-last : (n m length : ℕ) → suc n + length ≡ m → n < m
below-last n m length is = omega (arith, is)

pub walk-agents : {n m : ℕ} {parts : List Placed} → Walk n parts m → (count : ℕ) → m ≡ count →
    Each (IsNumbered count) (flat_map placed_agents parts)
walk-agents (nothing n) count same = tt
walk-agents (plain n m place part rest is walk) count same =
    each-both (IsNumbered count) (placed_agents (placed place part)) (flat_map placed_agents rest)
    (agent-below count place part is) (walk-agents walk count same)
walk-agents (own k m part rest is walk) count same =
    each-both (IsNumbered count) (placed_agents (placed (scope_of_process k) part)) (flat_map placed_agents rest)
    (own-agents count (scope_of_process k) part is) (walk-agents walk count same)
walk-agents (process n m place definition rest more is walk) count same =
    (below-last n count (length (rows_among rest)) (walk-long walk ∙ same), walk-agents walk count same)

-- a timer stands in a process
abbrev pub IsTimed : ℕ → ScopeId → SignalKind → Type 0
IsTimed count place OrdinarySignal = Unit {0}
IsTimed count place (OrdinaryTimer duration) = (k : ℕ) × (place ≡ scope_of_process k) × (k < count)

abbrev pub IsTimedRow : ℕ → SignalRow → Type 0
IsTimedRow count row = IsTimed count row.scope row.kind

signals-timed : (count : ℕ) (place : ScopeId) (signals : List SignalDefinition) →
    Each (IsTimedRow count) (placed_signals (placed place (OfSignals signals)))
signals-timed count place [] = tt
signals-timed count place (signal ∷ signals) = (tt, signals-timed count place signals)

timers-timed : (count k : ℕ) (timers : List TimerDefinition) → k < count →
    Each (IsTimedRow count) (placed_signals (placed (scope_of_process k) (OfTimers timers)))
timers-timed count k [] below = tt
timers-timed count k (timer ∷ timers) below = ((k, refl, below), timers-timed count k timers below)

plain-timed : (count : ℕ) (place : ScopeId) (part : Part) → IsPlain part →
    Each (IsTimedRow count) (placed_signals (placed place part))
plain-timed count place (OfBlock number definition) is = tt
plain-timed count place (OfProcess number definition) is = absurd is
plain-timed count place (OfChannel definition) is = tt
plain-timed count place (OfConnection definition) is = tt
plain-timed count place (OfSignals signals) is = signals-timed count place signals
plain-timed count place (OfTimers timers) is = absurd is
plain-timed count place (OfSignalList definition) is = tt
plain-timed count place (OfSynonyms synonyms) is = tt
plain-timed count place (OfSignalSet definition) is = tt
plain-timed count place (OfParameters group) is = absurd is
plain-timed count place (OfVariables group) is = absurd is

own-timed : (count k : ℕ) (part : Part) → IsOwn part → k < count →
    Each (IsTimedRow count) (placed_signals (placed (scope_of_process k) part))
own-timed count k (OfBlock number definition) is below = absurd is
own-timed count k (OfProcess number definition) is below = absurd is
own-timed count k (OfChannel definition) is below = absurd is
own-timed count k (OfConnection definition) is below = absurd is
own-timed count k (OfSignals signals) is below = absurd is
own-timed count k (OfTimers timers) is below = timers-timed count k timers below
own-timed count k (OfSignalList definition) is below = absurd is
own-timed count k (OfSynonyms synonyms) is below = absurd is
own-timed count k (OfSignalSet definition) is below = absurd is
own-timed count k (OfParameters group) is below = tt
own-timed count k (OfVariables group) is below = tt

pub walk-timed : {n m : ℕ} {parts : List Placed} → Walk n parts m → (count : ℕ) → m ≡ count →
    Each (IsTimedRow count) (flat_map placed_signals parts)
walk-timed (nothing n) count same = tt
walk-timed (plain n m place part rest is walk) count same =
    each-both (IsTimedRow count) (placed_signals (placed place part)) (flat_map placed_signals rest)
    (plain-timed count place part is) (walk-timed walk count same)
walk-timed (own k m part rest is walk) count same =
    each-both (IsTimedRow count) (placed_signals (placed (scope_of_process k) part)) (flat_map placed_signals rest)
    (own-timed count k part is (below-last k count (length (rows_among rest)) (walk-long walk ∙ same)))
    (walk-timed walk count same)
walk-timed (process n m place definition rest more is walk) count same = walk-timed walk count same
