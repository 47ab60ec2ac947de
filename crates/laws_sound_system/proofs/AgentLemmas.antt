-- The processes of a system are those of the rows, with the sorts of their formal parameters and variables.
use Rattle.std.proofs.Common.{◌≡◌, ◌∙◌, ◌++◌, ◌<◌, ℕ, zero, suc, List, [], ◌∷◌, Option, Some, arith, length, map, refl, ap, slice_get, sym, take}
use Rattle.std.proofs.lemmas.List.{length-map, take-map, take_at}
use Rattle.build_definitions.specs.Rows.{AgentRow, ProcessRow}
use Rattle.build_definitions.specs.declared.entries.Agent.{Agent}
use Rattle.build_definitions.specs.declared.entries.Agent.TheVariants as agent
use Rattle.build_definitions.specs.Entries.{Entry}
use Rattle.build_definitions.specs.Meanings.{agent_entry, agent_means, sorts_of_row}
use Rattle.build_names.specs.FaultLaws.{Each}
use Rattle.build_expressions.specs.Scope as names
use Rattle.build_expressions.specs.Scope.{AgentMeaning}
use Rattle.laws_sound_system.proofs.VariableLemmas.{sort_meant}
use Rattle.laws_sound_system.proofs.WalkLemmas.{IsCounted, IsNumbered}
use Rattle.laws_sound_runs.specs.Scopes.{IsSoundAgent, parameter_sorts}
use Rattle.sdl_system.specs.Behaviour.{variable_meaning}
use Rattle.sdl_system.specs.System.{SystemValue}
use Rattle.sdl_system.specs.declared.id.ProcessId.{ProcessId}
use Rattle.sdl_system.specs.declared.process.Process.{Process}
use Rattle.sdl_system.specs.declared.process.Variable.{Variable}
use Rattle.sdl_system.specs.declared.sort.Sort.{Sort}

abbrev pub some_sort : Variable → Option Sort
some_sort v = Some v.sort

pub map-map : {A B C : Type 0} (g : B → C) (f : A → B) (xs : List A) → map g (map f xs) ≡ map (λ x. g (f x)) xs
map-map g f [] = refl
map-map g f (x ∷ xs) = ap (λ list. g (f x) ∷ list) (map-map g f xs)

-- the sorts of the variables, as their meanings have them
pub meant-sorts : (variables : List Variable) →
    map sort_meant (map variable_meaning variables) ≡ map some_sort variables
meant-sorts variables = map-map sort_meant variable_meaning variables

-- ---- formal parameters are the first variables

parameters-are : (one : Process) (sorts more : List (Option Sort)) →
    map some_sort one.variables.items ≡ sorts ++ more → one.parameters ≡ length sorts →
    sorts ≡ map Some (parameter_sorts one)
parameters-are one sorts more all many =
    sym (take_at sorts more (length sorts) refl)
    ∙ ap (take (length sorts)) (sym all)
    ∙ ap (λ n. take n (map some_sort one.variables.items)) (sym many)
    ∙ take-map some_sort one.parameters one.variables.items
    ∙ sym (map-map Some (λ (v : Variable). v.sort) (take one.parameters one.variables.items))

parameters-many : (one : Process) (sorts : List (Option Sort)) → sorts ≡ map Some (parameter_sorts one) →
    one.parameters ≡ length sorts → length (parameter_sorts one) ≡ one.parameters
parameters-many one sorts same many =
    sym (length-map (parameter_sorts one) Some) ∙ ap length (sym same) ∙ sym many

-- ---- the process of a row

-- it has the variables of the row, and as many formal parameters as this has sorts
pub record HasVariables (sorts : List (Option Sort)) (row : ProcessRow) (process : Process) : Type 0 where
  pub parameters : process.parameters ≡ length row.sorts
  pub variables : map some_sort process.variables.items ≡ sorts

-- each process of the system is that of its row, and its first variables have the sorts of the row
pub record AreProcesses (system : SystemValue) (rows : List ProcessRow) (sorts : ℕ → List (Option Sort)) : Type 0 where
  pub size : length system.processes ≡ length rows
  pub each : (number : ℕ) (row : ProcessRow) (process : Process) → slice_get rows number ≡ Some row
      → slice_get system.processes number ≡ Some process → HasVariables (sorts number) row process
  pub begins : (number : ℕ) (row : ProcessRow) → slice_get rows number ≡ Some row
      → (more : List (Option Sort)) × (sorts number ≡ row.sorts ++ more)

get-some : {A : Type 0} (xs : List A) (n : ℕ) → n < length xs → (x : A) × (slice_get xs n ≡ Some x)
get-some [] n below = absurd (let never : ⊥ = omega (arith, below) in never)
get-some (x ∷ xs) zero below = (x, refl)
get-some (x ∷ xs) (suc n) below = get-some xs n (omega (arith, below))

module _ (system : SystemValue) (rows : List ProcessRow) (sorts : ℕ → List (Option Sort))
    (are : AreProcesses system rows sorts) where
  numbered-sound : (number : ProcessId) → number.0 < length rows →
      IsSoundAgent system (names.process number (sorts_of_row (slice_get rows number.0)))
  numbered-sound number below =
      let row = get-some rows number.0 below in
      let size = are.size in
      let one = get-some system.processes number.0 (omega (arith, below, size)) in
      let has = are.each number.0 row.0 one.0 row.1 one.1 in
      let begins = are.begins number.0 row.0 row.1 in
      let same = parameters-are one.0 (row.0).sorts begins.0 (has.variables ∙ begins.1) has.parameters in (
        one.0,
        one.1,
        ap sorts_of_row row.1 ∙ same,
        parameters-many one.0 (row.0).sorts same has.parameters,
      )

  agent-sound : (one : Agent) → IsCounted (length rows) one → IsSoundAgent system (agent_means rows one)
  agent-sound (agent.Block number) counted = tt
  agent-sound (agent.Process number) counted = numbered-sound number counted

  -- what the names of blocks and processes stand for
  pub agents-sound : (agents : List AgentRow) → Each (IsNumbered (length rows)) agents →
      Each (λ (one : Entry AgentMeaning). IsSoundAgent system one.what) (map (agent_entry rows) agents)
  agents-sound [] counted = tt
  agents-sound (row ∷ agents) counted = (agent-sound row.agent counted.0, agents-sound agents counted.1)
