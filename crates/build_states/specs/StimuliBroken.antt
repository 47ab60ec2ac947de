-- When a rule is broken in a stimulus, and at which word: said of the words of the text, and not of what is noted.
use Rattle.std.specs.Prelude.{◌≡◌, ◌++◌, ◌<◌, ℕ, false, List, ◌∷◌, Option, None, Some, length}
use Rattle.build_names.specs.FaultLaws.{Each, In}
use Rattle.build_names.specs.Faults.{Diagnostic, diagnostic_at}
use Rattle.build_names.specs.declared.faults.fault.Rule.TheVariants.{Sort, Unknown}
use Rattle.build_expressions.specs.Broken.{IsBrokenAt}
use Rattle.build_expressions.specs.OperandSorts.{fits, kind_of}
use Rattle.build_expressions.specs.Scope.{Scope, SignalMeaning, signal_in, value_in}
use Rattle.build_expressions.specs.declared.context.Context.TheVariants as at
use Rattle.build_expressions.specs.declared.scope.Constant.{Constant}
use Rattle.build_expressions.specs.declared.scope.ValueMeaning.{ValueMeaning}
use Rattle.build_expressions.specs.declared.scope.ValueMeaning.TheVariants as meant
use Rattle.sdl_system.specs.declared.id.VariableId.{VariableId}
use Rattle.sdl_system.specs.declared.sort.Sort as sorts
use Rattle.sdl_system.specs.declared.sort.Sort.TheVariants.{Boolean}
use Rattle.sdl_tree.specs.Tree.{BodyPart, Condition, ContinuousSignal, Expr, Input, InputList, InputPart, Inputs, ListItem, Number, PriorityInput, SaveList, SavePart, SignalItem, SignalListItem, StatePart, States, Stimulus, Transition}
use Rattle.sdl_tree.specs.Words.{Spot}
use Rattle.sdl_tree.specs.declared.name.Spelling.{Spelling}
use Rattle.build_states.specs.Context.{Context, list_in}
use Rattle.build_states.specs.Mentions.{parameters_of, sorts_of}
use Rattle.build_states.specs.Places.{sort_at}
use Rattle.build_states.specs.Reading.{body_faults}

-- what a name stands for that is no variable's and no formal parameter's
pub data IsNoVariable : Option ValueMeaning → Type 0 where
  nothing : IsNoVariable None
  a_synonym : (sort : Option sorts.Sort) (value : Constant) → IsNoVariable (Some (meant.Synonym sort value))

-- a name at a place of an input takes the value of the parameter at that place
pub record TakesAt (variables : List (Option Spot)) (name : Spot) (place : ℕ) : Type 0 where
  pub before : List (Option Spot)
  pub after : List (Option Spot)
  pub variables_are : variables ≡ before ++ Some name ∷ after
  pub counted : place ≡ length before

-- a rule is broken at the places of an input
pub data BreaksPlaces (scope : Scope) (parameters : List (Option sorts.Sort)) (variables : List (Option Spot)) :
    Diagnostic → Type 0 where
  -- a name is no variable's
  unknown :
      (name : Spot) (place : ℕ) → TakesAt variables name place → IsNoVariable (value_in scope name.text)
      → BreaksPlaces scope parameters variables (diagnostic_at Unknown name)
  -- a variable has a sort that doesn't fit its parameter
  unfit :
      (name : Spot) (place : ℕ) → TakesAt variables name place
      → (number : VariableId) (sort parameter : sorts.Sort)
      → value_in scope name.text ≡ Some (meant.Variable number (Some sort)) → sort_at parameters place ≡ Some parameter
      → fits (kind_of parameter) sort ≡ false → BreaksPlaces scope parameters variables (diagnostic_at Sort name)

-- a rule is broken in an input
pub data BreaksInput (context : Context) (input : Input) : Diagnostic → Type 0 where
  -- its name is no signal's and no timer's
  unknown_signal :
      signal_in context.scope input.signal.text ≡ None → BreaksInput context input (diagnostic_at Unknown input.signal)
  -- it has more places for variables than the signal has parameters
  more_places :
      (meaning : SignalMeaning) → signal_in context.scope input.signal.text ≡ Some meaning
      → length (sorts_of meaning) < length input.variables → BreaksInput context input (diagnostic_at Sort input.signal)
  at_place :
      (fault : Diagnostic)
      → BreaksPlaces context.scope (parameters_of (signal_in context.scope input.signal.text)) input.variables fault
      → BreaksInput context input fault

-- an item of a save names nothing
pub data BreaksItem (context : Context) : SignalListItem → Diagnostic → Type 0 where
  no_signal :
      (name : Spot) → signal_in context.scope name.text ≡ None
      → BreaksItem context (SignalItem name) (diagnostic_at Unknown name)
  no_list :
      (name : Spot) → list_in context name.text ≡ None → BreaksItem context (ListItem name) (diagnostic_at Unknown name)

-- a rule is broken in a stimulus
pub data BreaksStimulus (context : Context) : Stimulus → Diagnostic → Type 0 where
  of_input :
      (word : Spelling) (inputs : List Input) (condition : Option Condition) (transition : Transition) (input : Input)
      (fault : Diagnostic) → In input inputs → BreaksInput context input fault
      → BreaksStimulus context (InputPart word (InputList inputs) condition transition) fault
  of_enabling :
      (word : Spelling) (inputs : Inputs) (condition : Condition) (transition : Transition) (fault : Diagnostic)
      → IsBrokenAt at.Condition context.scope (Some Boolean) condition.condition fault
      → BreaksStimulus context (InputPart word inputs (Some condition) transition) fault
  of_priority_input :
      (word : Spelling) (inputs : List Input) (transition : Transition) (input : Input) (fault : Diagnostic)
      → In input inputs → BreaksInput context input fault
      → BreaksStimulus context (PriorityInput word inputs transition) fault
  of_save :
      (word : Spelling) (items : List SignalListItem) (item : SignalListItem) (fault : Diagnostic) → In item items
      → BreaksItem context item fault → BreaksStimulus context (SavePart word (SaveList items)) fault
  of_continuous :
      (word : Spelling) (condition : Expr) (priority : Option Number) (transition : Transition) (fault : Diagnostic)
      → IsBrokenAt at.Condition context.scope (Some Boolean) condition fault
      → BreaksStimulus context (ContinuousSignal word condition priority transition) fault

-- a rule is broken in a stimulus of a process
pub record IsBroken (context : Context) (body : List BodyPart) (fault : Diagnostic) : Type 0 where
  pub states : States
  pub stimuli : List Stimulus
  pub stimulus : Stimulus
  pub part : In (StatePart states stimuli) body
  pub among : In stimulus stimuli
  pub broken : BreaksStimulus context stimulus fault

-- Each fault of the list is broken.
abbrev pub ListedBroken : Type 0
ListedBroken = (context : Context) (body : List BodyPart) → Each (IsBroken context body) (body_faults context body)

-- Each rule that is broken is in the list.
abbrev pub BrokenListed : Type 0
BrokenListed = (context : Context) (body : List BodyPart) (fault : Diagnostic) → IsBroken context body fault →
    In fault (body_faults context body)
