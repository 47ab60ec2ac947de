-- Of which signals a stimulus speaks, and what it says of them (Z.101: input, save; Z.102: priority input, enabling
-- condition).
use Rattle.std.specs.Prelude.{List, [], ◌∷◌, Option, None, Some, map}
use Rattle.port_model.specs.declared.values.item.SignalId.{SignalId}
use Rattle.build_names.specs.Faults.{mark_word}
use Rattle.build_expressions.specs.Scope.{Scope, SignalMeaning, signal, signal_in, timer, value_in}
use Rattle.build_expressions.specs.declared.scope.ValueMeaning.{ValueMeaning}
use Rattle.build_expressions.specs.declared.scope.ValueMeaning.TheVariants as meant
use Rattle.sdl_system.specs.declared.id.ConditionId.{ConditionId}
use Rattle.sdl_system.specs.declared.id.VariableId.{VariableId}
use Rattle.sdl_system.specs.declared.sort.Sort.{Sort}
use Rattle.sdl_tree.specs.Tree.{Input, Inputs, InputAll, InputList, ListItem, SaveAll, SaveList, Saved, SignalItem, SignalListItem}
use Rattle.sdl_tree.specs.Words.{Spot}
use Rattle.sdl_tree.specs.declared.mark.Mark.TheVariants.{Asterisk}
use Rattle.sdl_tree.specs.declared.name.Spelling.{Spelling}
use Rattle.build_states.specs.Context.{Context, list_in}
use Rattle.build_states.specs.declared.stimuli.mention.Manner.{Manner}
use Rattle.build_states.specs.declared.stimuli.mention.Manner.TheVariants as manner
use Rattle.build_states.specs.declared.stimuli.subject.Subject.{Subject}
use Rattle.build_states.specs.declared.stimuli.subject.Subject.TheVariants.{Rest, Signal}
use Rattle.build_states.specs.declared.stimuli.transition.TransitionId.{TransitionId}

-- What a state does with a signal. A condition and a transition are named by their numbers.
pub data Response : Type 0 where
  -- the values go to the variables and the transition begins, where the condition is true; else the signal waits
  input : (variables : List (Option VariableId)) (condition : Option ConditionId) (begin : TransitionId) → Response
  -- the values go to the variables and the transition begins, before the signals that are no priority inputs
  priority_input : (variables : List (Option VariableId)) (begin : TransitionId) → Response
  -- the signal waits
  save : Response

-- a word of a stimulus, with the signals of which it speaks there, and what is done with them
pub record Mention : Type 0 where
  pub word : Spot
  pub subjects : List Subject
  pub response : Response

-- ---- signals

-- the number of a signal or a timer
abbrev pub number_of : SignalMeaning → SignalId
number_of (signal number sorts) = number
number_of (timer number sorts has_default) = number

-- the sorts of its parameters
abbrev pub sorts_of : SignalMeaning → List (Option Sort)
sorts_of (signal number sorts) = sorts
sorts_of (timer number sorts has_default) = sorts

-- none are known where the name means nothing
abbrev pub parameters_of : Option SignalMeaning → List (Option Sort)
parameters_of None = []
parameters_of (Some meaning) = sorts_of meaning

-- a name that means nothing speaks of nothing
abbrev pub subjects_of : Option SignalMeaning → List Subject
subjects_of None = []
subjects_of (Some meaning) = Signal (number_of meaning) ∷ []

abbrev pub subjects_in : Option (List SignalId) → List Subject
subjects_in None = []
subjects_in (Some signals) = map Signal signals

-- ---- variables

-- the variable or formal parameter, if it is one
abbrev pub variable_of : Option ValueMeaning → Option VariableId
variable_of None = None
variable_of (Some (meant.Variable number sort)) = Some number
variable_of (Some (meant.Synonym sort value)) = None

-- the variable at a place of an input; none where the place is left out
abbrev pub variable_in : Scope → Option Spot → Option VariableId
variable_in scope None = None
variable_in scope (Some name) = variable_of (value_in scope name.text)

abbrev pub variables_in : Scope → List (Option Spot) → List (Option VariableId)
variables_in scope variables = map (variable_in scope) variables

-- ---- inputs

-- what an input of this manner does that puts the values of its signal into these variables
abbrev pub received : Manner → TransitionId → List (Option VariableId) → Response
received (manner.Input condition) begin variables = input variables condition begin
received manner.Priority begin variables = priority_input variables begin

abbrev pub input_mention : Context → Manner → TransitionId → Input → Mention
input_mention context manner begin one = record {
  word = one.signal;
  subjects = subjects_of (signal_in context.scope one.signal.text);
  response = received manner begin (variables_in context.scope one.variables);
}

-- an asterisk, which speaks of what the state doesn't name
abbrev pub rest_mention : Spelling → Response → Mention
rest_mention asterisk response = record { word = mark_word Asterisk asterisk; subjects = Rest ∷ []; response = response }

abbrev pub list_mentions : Context → Manner → TransitionId → List Input → List Mention
list_mentions context manner begin inputs = map (input_mention context manner begin) inputs

abbrev pub inputs_mentions : Context → Manner → TransitionId → Inputs → List Mention
inputs_mentions context manner begin (InputList inputs) = list_mentions context manner begin inputs
inputs_mentions context manner begin (InputAll asterisk) = rest_mention asterisk (received manner begin []) ∷ []

-- ---- save

-- the signals for which a name stands in a save, or in parentheses that of a list
abbrev pub item_subjects : Context → SignalListItem → List Subject
item_subjects context (SignalItem name) = subjects_of (signal_in context.scope name.text)
item_subjects context (ListItem name) = subjects_in (list_in context name.text)

abbrev pub item_word : SignalListItem → Spot
item_word (SignalItem name) = name
item_word (ListItem name) = name

abbrev pub item_mention : Context → SignalListItem → Mention
item_mention context item =
    record { word = item_word item; subjects = item_subjects context item; response = save }

abbrev pub saved_mentions : Context → Saved → List Mention
saved_mentions context (SaveList items) = map (item_mention context) items
saved_mentions context (SaveAll asterisk) = rest_mention asterisk save ∷ []
