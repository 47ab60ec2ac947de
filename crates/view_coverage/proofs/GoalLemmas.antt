-- What the names of signals stand for in a process, and what there is to cover in it.
use Rattle.std.proofs.Common.{◌≡◌, ◌∙◌, ℕ, List, Option, ap, option_map}
use Rattle.port_model.specs.declared.values.item.SignalId.{SignalId}
use Rattle.build_definitions.specs.Definitions.{path_of}
use Rattle.build_definitions.specs.Rows.{ProcessRow}
use Rattle.build_expressions.specs.declared.scope.SignalMeaning.{SignalMeaning}
use Rattle.build_names.specs.States.{different, state_names}
use Rattle.build_names.specs.Names.{first_outward, names_in}
use Rattle.build_names.specs.Spaces.{block_names, names_of, process_names}
use Rattle.build_names.specs.declared.scopes.names.Outward.{Outward}
use Rattle.build_names.specs.declared.scopes.scope.ScopeId.TheVariants.{Process, System}
use Rattle.build_names.specs.declared.scopes.scope.ScopePath.{ScopePath}
use Rattle.build_names.specs.declared.scopes.spaces.Spaces.{Spaces}
use Rattle.sdl_system.specs.declared.id.ProcessId.{ProcessId}
use Rattle.sdl_tree.specs.Tree.{ProcessDefinition}
use Rattle.sdl_tree.specs.Words.{Spot}
use Rattle.view_coverage.specs.Goals.{OfProcess, process_goals}
use Rattle.view_coverage.specs.Stimuli.{number_of, signal_on, signal_outward, stimuli_in}
use Rattle.view_coverage.specs.declared.goals.goal.StimulusGoal.{StimulusGoal}

-- the signal of a name, by the names of three scopes
abbrev pub signal_by :
    List (List ℕ × SignalMeaning) → List (List ℕ × SignalMeaning) → List (List ℕ × SignalMeaning) → List ℕ
    → Option SignalId
signal_by process block system text = option_map number_of (first_outward process block system text)

pub signals-on : (names : Outward SignalMeaning) (spaces : Spaces SignalMeaning) (path : ScopePath)
    → names_in names.process ≡ process_names spaces path.process
    → names_in names.block ≡ block_names spaces path.block
    → names.system.now ≡ names_of spaces System
    → signal_outward names ≡ signal_on spaces path
signals-on names spaces path process block system =
    ap (λ own. signal_by own (names_in names.block) names.system.now) process
    ∙ ap (λ own. signal_by (process_names spaces path.process) own names.system.now) block
    ∙ ap (λ own. signal_by (process_names spaces path.process) (block_names spaces path.block) own) system

abbrev pub of_process : ProcessId → Spot → List Spot → List StimulusGoal → OfProcess
of_process number name states stimuli = record { number = number; name = name; states = states; stimuli = stimuli }

pub goals-made : (spaces : Spaces SignalMeaning) (rows : List ProcessRow) (number : ProcessId)
    (definition : ProcessDefinition) (states : List Spot) (signal_of : List ℕ → Option SignalId)
    (stimuli : List StimulusGoal) → states ≡ different (state_names definition)
    → signal_of ≡ signal_on spaces (path_of rows (Process number))
    → stimuli ≡ stimuli_in signal_of states definition.body
    → of_process number definition.name states stimuli ≡ process_goals spaces rows number definition
goals-made spaces rows number definition states signal_of stimuli are_states is_signals are_stimuli =
    ap (of_process number definition.name states) are_stimuli
    ∙ ap (λ own. of_process number definition.name states (stimuli_in own states definition.body)) is_signals
    ∙ ap (λ own. of_process number definition.name own
    (stimuli_in (signal_on spaces (path_of rows (Process number))) own definition.body)) are_states
