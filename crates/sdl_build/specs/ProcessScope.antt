-- What stands around each process of a specification: what the names in it stand for.
use Rattle.std.specs.Prelude.{◌||◌, ℕ, zero, suc, ◌+◌, ◌++◌, Bool, List, [], ◌∷◌, length}
use Rattle.port_model.specs.declared.values.item.SignalId.{SignalId}
use Rattle.build_process.specs.Numbered.{numbered}
use Rattle.sdl_build.specs.Context.{Context}
use Rattle.build_definitions.specs.Definitions.{path_of}
use Rattle.build_constants.specs.ConstantTable.{all_durations}
use Rattle.build_constants.specs.Scopes.{scope_at}
use Rattle.build_names.specs.Labels.{process_labels}
use Rattle.build_process.specs.ProcessScope.{ProcessScope}
use Rattle.build_names.specs.States.{different, state_names}
use Rattle.build_expressions.specs.Scope.{meaning}
use Rattle.build_names.specs.Spaces.{seen_in}
use Rattle.build_names.specs.declared.scopes.scope.ScopeId.TheVariants as scope
use Rattle.build_names.specs.declared.scopes.scope.ScopePath.{ScopePath}
use Rattle.build_states.specs.Context.{members_of}
use Rattle.sdl_system.specs.Route.{reaches_env, reaches_process}
use Rattle.sdl_system.specs.declared.id.LabelId.{LabelId}
use Rattle.sdl_system.specs.declared.id.ProcessId.{ProcessId}
use Rattle.sdl_system.specs.declared.id.StateId.{StateId}
use Rattle.sdl_system.specs.declared.route.Routes.{Routes}
use Rattle.sdl_system.specs.declared.route.Source.TheVariants as from
use Rattle.sdl_tree.specs.Tree.{ProcessDefinition}
use Rattle.sdl_tree.specs.Words.{Spot}

-- states by their names, numbered from this number on
abbrev pub numbered_states : ℕ → List Spot → List (List ℕ × StateId)
numbered_states number [] = []
numbered_states number (name ∷ names) = (name.text, record { 0 = number }) ∷ numbered_states (number + 1) names

-- whether a path leads the signal from the process to another or to the environment
abbrev pub is_reaching : Routes → ProcessId → SignalId → Bool
is_reaching routes process signal =
    reaches_process routes signal (from.Process process) || reaches_env routes (from.Process process) signal

-- so for the first so many signals
abbrev pub reaching : Routes → ProcessId → ℕ → List Bool
reaching routes process zero = []
reaching routes process (suc count) =
    reaching routes process count ++ is_reaching routes process (record { 0 = count }) ∷ []

abbrev pub path_in : Context → ProcessId → ScopePath
path_in context number = path_of context.rows.processes (scope.Process number)

-- around the process of this number, with these states, labels and signals that reach a receiver
abbrev pub process_scope_with :
    Context → ProcessId → List (List ℕ × StateId) → List (List ℕ × LabelId) → List Bool → ProcessScope
process_scope_with context number states labels reaches = record {
  scope = scope_at context.symbols context.constants (path_in context number);
  lists = meaning (members_of context.members) (seen_in context.symbols.lists (path_in context number));
  states = states;
  labels = labels;
  reaches = reaches;
  durations = all_durations context.rows context.symbols context.constants;
  signals = length context.rows.signals;
}

-- around the process of this number, with this definition
abbrev pub process_scope : Context → ProcessId → ProcessDefinition → ProcessScope
process_scope context number definition = process_scope_with context number
    (numbered_states 0 (different (state_names definition)))
    (numbered 0 (process_labels definition))
    (reaching context.routes number (length context.rows.signals))
