-- What there is to cover in the processes of a specification.
use Rattle.std.specs.Prelude.{◌≡◌, ◌+◌, ℕ, List, [], ◌∷◌, map}
use Rattle.build_definitions.specs.Definitions.{path_of, rows_in}
use Rattle.build_definitions.specs.Parts.{parts_in}
use Rattle.build_definitions.specs.Rows.{ProcessRow}
use Rattle.build_expressions.specs.declared.scope.SignalMeaning.{SignalMeaning}
use Rattle.build_names.specs.Labels.{names_listed}
use Rattle.build_names.specs.States.{different, state_names}
use Rattle.build_definitions.specs.Spaces.{AreNamesOf}
use Rattle.build_definitions.specs.declared.symbols.symbol_table.SymbolTable.{SymbolTable}
use Rattle.build_names.specs.declared.scopes.scope.ScopeId.TheVariants.{Process}
use Rattle.build_names.specs.declared.scopes.spaces.Spaces.{Spaces}
use Rattle.sdl_system.specs.declared.id.ProcessId.{ProcessId}
use Rattle.sdl_tree.specs.Tree.{ProcessDefinition, Tree}
use Rattle.sdl_tree.specs.Views.{name_value}
use Rattle.sdl_tree.specs.Words.{Spot}
use Rattle.view_coverage.specs.Stimuli.{signal_on, stimuli_in}
use Rattle.view_coverage.specs.declared.goals.goal.ProcessGoals as goals
use Rattle.view_coverage.specs.declared.goals.goal.StimulusGoal.{StimulusGoal}

-- those of a process: its states, each by the word that names it first, and what they wait for
pub record OfProcess : Type 0 where
  pub number : ProcessId
  pub name : Spot
  pub states : List Spot
  pub stimuli : List StimulusGoal

abbrev pub process_goals : Spaces SignalMeaning → List ProcessRow → ProcessId → ProcessDefinition → OfProcess
process_goals signals rows number definition = record {
  number = number;
  name = definition.name;
  states = different (state_names definition);
  stimuli = stimuli_in (signal_on signals (path_of rows (Process number))) (different (state_names definition))
      definition.body;
}

-- those of processes that are numbered from this number on, among all of these rows
abbrev pub goals_from : Spaces SignalMeaning → List ProcessRow → ℕ → List ProcessRow → List OfProcess
goals_from signals rows number [] = []
goals_from signals rows number (row ∷ rest) =
    process_goals signals rows (record { 0 = number }) row.definition ∷ goals_from signals rows (number + 1) rest

abbrev pub all_goals : Spaces SignalMeaning → List ProcessRow → List OfProcess
all_goals signals rows = goals_from signals rows 0 rows

-- ---- what the code keeps

abbrev pub goals_seen : goals.ProcessGoals → OfProcess
goals_seen own = record {
  number = own.number;
  name = name_value own.name.now;
  states = names_listed own.states.items;
  stimuli = own.stimuli.items;
}

-- these are the goals of all processes of a specification, where its names stand for what they do
pub record AreGoals (tree : Tree) (processes : List goals.ProcessGoals) : Type 0 where
  pub symbols : SymbolTable
  pub names : AreNamesOf (rows_in (parts_in tree)) symbols
  pub are_all : map goals_seen processes ≡ all_goals symbols.signals (rows_in (parts_in tree)).processes
