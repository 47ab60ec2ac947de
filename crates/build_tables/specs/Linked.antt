-- What a table holds, by what its states say: the node at which each transition begins, the class of each signal, and
-- the signals that wait for each condition.
use Rattle.std.specs.Prelude.{◌≡◌, ◌==◌, ◌<◌, ◌≤◌, ℕ, zero, suc, ◌++◌, Bool, false, List, [], ◌∷◌, Option, None, Some, Contains, if◌then◌else◌, map, option_map, slice_get}
use Rattle.port_model.specs.Selection as selection
use Rattle.port_model.specs.declared.values.item.SignalId.{SignalId}
use Rattle.port_model.specs.declared.selection.Class.{Class}
use Rattle.port_model.specs.declared.selection.Class.TheVariants.{Discard}
use Rattle.build_states.specs.Mentions.{Response, input, priority_input, save}
use Rattle.build_states.specs.declared.stimuli.transition.TransitionId.{TransitionId}
use Rattle.build_states.specs.States.{Numbered, Table, named_in, numbered_from, tried}
use Rattle.sdl_system.specs.Signal.{is_member}
use Rattle.sdl_system.specs.State.{choice_of, named_reaction, or_rest}
use Rattle.sdl_system.specs.declared.id.ConditionId.{ConditionId}
use Rattle.sdl_system.specs.declared.id.NodeId.{NodeId}
use Rattle.sdl_system.specs.declared.id.VariableId.{VariableId}
use Rattle.sdl_system.specs.declared.state.Choice.{Choice}
use Rattle.sdl_system.specs.declared.state.Continuous.{Continuous}
use Rattle.sdl_system.specs.declared.state.Enabled as enabled
use Rattle.sdl_system.specs.declared.state.Enabled.TheVariants as whom
use Rattle.sdl_system.specs.declared.state.Enabling.{Enabling}
use Rattle.sdl_system.specs.declared.state.Reaction.{Reaction}
use Rattle.sdl_system.specs.declared.state.Reaction.TheVariants as react
use Rattle.sdl_system.specs.declared.state.StateTable.{StateTable}

-- ---- reactions

-- What is done with a signal, with the node at which its transition begins.
pub data Doing : Type 0 where
  -- the values go to the variables and the node is gone to, where the condition is true; else the signal waits
  received : (variables : List (Option VariableId)) (condition : Option ConditionId) (begin : NodeId) → Doing
  -- the values go to the variables and the node is gone to, before the signals that are no priority inputs
  preferred : (variables : List (Option VariableId)) (begin : NodeId) → Doing
  -- the signal waits
  kept : Doing

abbrev pub reaction_value : Reaction → Doing
reaction_value (react.Input reception condition) = received reception.variables.items condition reception.begin
reaction_value (react.Priority reception) = preferred reception.variables.items reception.begin
reaction_value react.Save = kept

-- the node at which a transition begins, if it is there
abbrev pub entry_of : List NodeId → TransitionId → Option NodeId
entry_of entries transition = slice_get entries transition.0

-- what is done with a signal of which this is said; none where the transition has no entry
abbrev pub linked : List NodeId → Response → Option Doing
linked entries (input variables condition begin) =
    option_map (λ node. received variables condition node) (entry_of entries begin)
linked entries (priority_input variables begin) =
    option_map (λ node. preferred variables node) (entry_of entries begin)
linked entries save = Some kept

-- The reaction is what is said, with the node of its transition; where nothing is said there is none.
abbrev pub IsLinked : List NodeId → Option Reaction → Option Response → Type 0
IsLinked entries reaction response =
    option_map (λ one. Some (reaction_value one)) reaction ≡ option_map (linked entries) response

-- a transition of which this is said has no entry
pub record IsUnlinked (entries : List NodeId) (said : Option Response) : Type 0 where
  pub response : Response
  pub is : said ≡ Some response
  pub no_entry : linked entries response ≡ None

-- reactions to the signals with smaller numbers than this, by what is said of signals
pub record AreLinked (entries : List NodeId) (count : ℕ) (named : List (SignalId × Response))
    (reactions : List (SignalId × Reaction)) : Type 0 where
  pub within : (signal : SignalId) → signal.0 < count →
      IsLinked entries (named_reaction reactions signal) (named_in named signal)
  pub past : (signal : SignalId) → count ≤ signal.0 → named_reaction reactions signal ≡ None

-- a signal is named whose transition has no entry
pub record SomeUnlinked (entries : List NodeId) (named : List (SignalId × Response)) : Type 0 where
  pub signal : SignalId
  pub unlinked : IsUnlinked entries (named_in named signal)

abbrev pub ReactionsOf : List NodeId → ℕ → List (SignalId × Response) → Option (List (SignalId × Reaction)) → Type 0
ReactionsOf entries count named None = SomeUnlinked entries named
ReactionsOf entries count named (Some reactions) = AreLinked entries count named reactions

abbrev pub RestOf : List NodeId → Option Response → Option (Option Reaction) → Type 0
RestOf entries said None = IsUnlinked entries said
RestOf entries said (Some reaction) = IsLinked entries reaction said

-- ---- classes

-- the class of a signal, and the condition without which it waits
abbrev pub choice_by : List Bool → List (SignalId × Reaction) → Option Reaction → SignalId → Choice
choice_by valid reactions rest signal =
    choice_of (or_rest (named_reaction reactions signal) (is_member valid signal) rest)

-- the classes of the signals with smaller numbers than this
pub record AreClasses (count : ℕ) (valid : List Bool) (reactions : List (SignalId × Reaction)) (rest : Option Reaction)
    (classes : List Class) : Type 0 where
  pub within : (signal : SignalId) → signal.0 < count →
      selection.class_of classes signal ≡ (choice_by valid reactions rest signal).class
  pub past : (signal : SignalId) → count ≤ signal.0 → selection.class_of classes signal ≡ Discard

-- ---- conditions

-- the condition without which a signal waits
abbrev pub condition_of : Option Reaction → Option ConditionId
condition_of reaction = (choice_of reaction).condition

abbrev pub is_for : ConditionId → Option ConditionId → Bool
is_for condition None = false
is_for condition (Some one) = condition.0 == one.0

-- the signals with smaller numbers than this that wait for a condition, by what is done with them by name
abbrev pub waiting_for : List (SignalId × Reaction) → ConditionId → ℕ → List SignalId
waiting_for reactions condition zero = []
waiting_for reactions condition (suc count) =
    waiting_for reactions condition count
    ++ (if is_for condition (condition_of (named_reaction reactions (record { 0 = count })))
    then record { 0 = count } ∷ [] else [])

-- what waits while a condition is false
pub data Waiting : Type 0 where
  these : List SignalId → Waiting
  -- what the state doesn't name
  others : Waiting

abbrev pub enabled_value : enabled.Enabled → Waiting
enabled_value (whom.Named list) = these list.items
enabled_value whom.Rest = others

-- a condition and what waits for it
pub record Waits : Type 0 where
  pub condition : ConditionId
  pub signals : Waiting

abbrev pub enabling_value : Enabling → Waits
enabling_value enabling = record { condition = enabling.condition; signals = enabled_value enabling.signals }

abbrev pub waits_for : List (SignalId × Reaction) → ℕ → Option Reaction → ConditionId → Waits
waits_for reactions count rest condition = record {
  condition = condition;
  signals = if is_for condition (condition_of rest) then others else these (waiting_for reactions condition count);
}

-- ---- continuous signals

-- a continuous signal, with the node at which its transition begins; none where that has no entry
abbrev pub continuous_linked : List NodeId → Numbered → Option Continuous
continuous_linked entries one =
    option_map (λ node. record { condition = one.signal.condition; number = one.number; begin = node })
    (entry_of entries one.signal.begin)

-- the transition of a continuous signal has no entry
pub record OneUnlinked (entries : List NodeId) (said : List Numbered) : Type 0 where
  pub one : Numbered
  pub listed : Contains said one
  pub no_entry : continuous_linked entries one ≡ None

abbrev pub ContinuousOf : List NodeId → List Numbered → Option (List Continuous) → Type 0
ContinuousOf entries said None = OneUnlinked entries said
ContinuousOf entries said (Some list) = map Some list ≡ map (continuous_linked entries) said

-- ---- tables

abbrev pub in_order : Table → List Numbered
in_order said = tried (numbered_from 1 said.continuous)

-- A table holds what its states say.
pub record IsTable (entries : List NodeId) (valid : List Bool) (count : ℕ) (said : Table)
    (table : StateTable) : Type 0 where
  pub named : AreLinked entries count said.answers.named table.reactions
  pub rest : IsLinked entries table.rest said.answers.rest
  pub classes : AreClasses count valid table.reactions table.rest table.selection
  pub conditions : map enabling_value table.conditions.items
      ≡ map (waits_for table.reactions count table.rest) said.enabling
  pub continuous : map Some table.continuous.items ≡ map (continuous_linked entries) (in_order said)

-- a transition of a table has no entry
pub data Lacks (entries : List NodeId) (said : Table) : Type 0 where
  of_signal : SomeUnlinked entries said.answers.named → Lacks entries said
  of_rest : IsUnlinked entries said.answers.rest → Lacks entries said
  of_continuous : OneUnlinked entries (in_order said) → Lacks entries said

abbrev pub TableOf : List NodeId → List Bool → ℕ → Table → Option StateTable → Type 0
TableOf entries valid count said None = Lacks entries said
TableOf entries valid count said (Some table) = IsTable entries valid count said table
