-- What the states of a process wait for (Z.101: state, input; Z.102: priority input, continuous signal).
use Rattle.std.specs.Prelude.{◌==◌, ◌&&◌, ◌+◌, ◌++◌, ℕ, Bool, true, false, List, [], ◌∷◌, Option, None, Some, count_by, flat_map, fold, map, option_map, if◌then◌else◌}
use Rattle.port_model.specs.declared.values.item.SignalId.{SignalId}
use Rattle.sdl_lex.specs.declared.place.Place.{Place}
use Rattle.sdl_system.specs.declared.id.StateId.{StateId}
use Rattle.sdl_tree.specs.Tree.{BodyPart, ContinuousSignal, FreeAction, Input, InputAll, InputList, InputPart, Inputs, PriorityInput, SavePart, StatePart, States, Stimulus}
use Rattle.sdl_tree.specs.Words.{Spot}
use Rattle.build_expressions.specs.declared.scope.SignalMeaning.{SignalMeaning}
use Rattle.build_expressions.specs.declared.scope.SignalMeaning.TheVariants as meant
use Rattle.build_names.specs.Names.{first_outward, names_in}
use Rattle.build_names.specs.Spaces.{block_names, names_of, process_names}
use Rattle.build_names.specs.declared.scopes.names.Outward.{Outward}
use Rattle.build_names.specs.declared.scopes.scope.ScopeId.TheVariants.{System}
use Rattle.build_names.specs.declared.scopes.scope.ScopePath.{ScopePath}
use Rattle.build_names.specs.declared.scopes.spaces.Spaces.{Spaces}
use Rattle.build_states.specs.States.{is_part_of}
use Rattle.view_coverage.specs.declared.goals.goal.Awaited.{Awaited}
use Rattle.view_coverage.specs.declared.goals.goal.Awaited.TheVariants.{Continuous, Rest, Signal}
use Rattle.view_coverage.specs.declared.goals.goal.StimulusGoal.{StimulusGoal}
use Rattle.view_coverage.specs.declared.goals.goal.Urgency.{Urgency}
use Rattle.view_coverage.specs.declared.goals.goal.Urgency.TheVariants.{Plain, Priority}

-- ---- the states of a part

abbrev pub state_if : Bool → StateId → List StateId
state_if belongs state = if belongs then state ∷ [] else []

-- those to which a part with this state list belongs, where the states have these names and are numbered from this
-- number on
abbrev pub states_from : ℕ → States → List Spot → List StateId
states_from number listed [] = []
states_from number listed (name ∷ names) =
    state_if (is_part_of name.text listed) (record { 0 = number }) ++ states_from (number + 1) listed names

-- ---- signals and timers by their names

abbrev pub number_of : SignalMeaning → SignalId
number_of (meant.Signal number sorts) = number
number_of (meant.Timer number sorts has_default) = number

-- the signal or the timer of this name, by the names of a process, of its block and of the system
abbrev pub signal_on : Spaces SignalMeaning → ScopePath → List ℕ → Option SignalId
signal_on spaces path text = option_map number_of
    (first_outward (process_names spaces path.process) (block_names spaces path.block) (names_of spaces System) text)

-- ---- inputs

-- a goal of each of these states, at one place
abbrev pub goals_at : List StateId → Place → Awaited → List StimulusGoal
goals_at states place what = map (λ state. record { place = place; state = state; awaited = what }) states

abbrev pub goals_if : List StateId → Place → Urgency → Option SignalId → List StimulusGoal
goals_if states place urgency None = []
goals_if states place urgency (Some signal) = goals_at states place (Signal urgency signal)

-- those of a name that is a signal's or a timer's
abbrev pub input_goals : (List ℕ → Option SignalId) → List StateId → Urgency → Input → List StimulusGoal
input_goals signal_of states urgency input = goals_if states input.signal.place urgency (signal_of input.signal.text)

abbrev pub listed_goals : (List ℕ → Option SignalId) → List StateId → Urgency → List Input → List StimulusGoal
listed_goals signal_of states urgency inputs = flat_map (input_goals signal_of states urgency) inputs

abbrev pub inputs_goals : (List ℕ → Option SignalId) → List StateId → Inputs → List StimulusGoal
inputs_goals signal_of states (InputList inputs) = listed_goals signal_of states Plain inputs
inputs_goals signal_of states (InputAll asterisk) = goals_at states asterisk.place Rest

-- ---- continuous signals

abbrev pub same_state : StateId → StateId → Bool
same_state one other = one.0 == other.0

abbrev pub is_continuous : Awaited → Bool
is_continuous (Continuous number) = true
is_continuous other = false

abbrev pub is_continuous_of : StateId → StimulusGoal → Bool
is_continuous_of state goal = same_state goal.state state && is_continuous goal.awaited

-- one more of a state, which is numbered after those of the state among these goals
abbrev pub continuous_goal : Place → List StimulusGoal → StateId → StimulusGoal
continuous_goal place goals state = record {
  place = place;
  state = state;
  awaited = Continuous (count_by (is_continuous_of state) goals + 1);
}

abbrev pub with_continuous : Place → List StimulusGoal → StateId → List StimulusGoal
with_continuous place goals state = goals ++ continuous_goal place goals state ∷ []

-- ---- all of a process, in the order of the text

-- these goals, and those of one stimulus more of these states; with a save nothing begins
abbrev pub with_stimulus : (List ℕ → Option SignalId) → List StateId → List StimulusGoal → Stimulus → List StimulusGoal
with_stimulus signal_of states goals (InputPart word inputs condition transition) =
    goals ++ inputs_goals signal_of states inputs
with_stimulus signal_of states goals (PriorityInput word inputs transition) =
    goals ++ listed_goals signal_of states Priority inputs
with_stimulus signal_of states goals (SavePart word saved) = goals
with_stimulus signal_of states goals (ContinuousSignal word condition priority transition) =
    fold (with_continuous word.place) goals states

abbrev pub with_stimuli :
    (List ℕ → Option SignalId) → List StateId → List StimulusGoal → List Stimulus → List StimulusGoal
with_stimuli signal_of states goals stimuli = fold (with_stimulus signal_of states) goals stimuli

-- these, and those of one part more of a process with states of these names
abbrev pub with_part : (List ℕ → Option SignalId) → List Spot → List StimulusGoal → BodyPart → List StimulusGoal
with_part signal_of names goals (StatePart listed stimuli) =
    with_stimuli signal_of (states_from 0 listed names) goals stimuli
with_part signal_of names goals (FreeAction word label transition) = goals

abbrev pub stimuli_in : (List ℕ → Option SignalId) → List Spot → List BodyPart → List StimulusGoal
stimuli_in signal_of names body = fold (with_part signal_of names) [] body

-- ---- what the code keeps

abbrev pub signal_outward : Outward SignalMeaning → List ℕ → Option SignalId
signal_outward names text =
    option_map number_of (first_outward (names_in names.process) (names_in names.block) names.system.now text)
