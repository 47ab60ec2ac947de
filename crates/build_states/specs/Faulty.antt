-- The faults of a stimulus: the rules that it breaks, each at the word where it does (Z.101: input, save).
use Rattle.std.specs.Prelude.{◌++◌, Bool, false, not, is_none, List, [], ◌∷◌, Option, None, Some, flat_map, length, nat_lt}
use Rattle.build_names.specs.Faults.{Diagnostic, fault_if, diagnostic_at}
use Rattle.build_names.specs.declared.faults.fault.Rule.TheVariants as broken
use Rattle.build_expressions.specs.OperandSorts.{fits, kind_of}
use Rattle.build_expressions.specs.Misused.{place_faults}
use Rattle.build_expressions.specs.Scope.{Scope, SignalMeaning, signal_in, value_in}
use Rattle.build_expressions.specs.declared.context.Context.TheVariants as at
use Rattle.build_expressions.specs.declared.scope.ValueMeaning.{ValueMeaning}
use Rattle.build_expressions.specs.declared.scope.ValueMeaning.TheVariants as meant
use Rattle.sdl_system.specs.declared.sort.Sort.{Sort}
use Rattle.sdl_system.specs.declared.sort.Sort.TheVariants as sorts
use Rattle.sdl_tree.specs.Tree.{Condition, ContinuousSignal, Expr, Input, InputAll, InputList, InputPart, Inputs, ListItem, PriorityInput, SaveAll, SaveList, SavePart, Saved, SignalItem, SignalListItem, Stimulus}
use Rattle.sdl_tree.specs.Words.{Spot}
use Rattle.build_states.specs.Context.{Context, list_in}
use Rattle.build_states.specs.Mentions.{parameters_of, sorts_of}

-- ---- variables

-- whether the sort of a parameter doesn't fit that of the variable which takes its values; an unknown sort fits
abbrev pub is_unfit : Option Sort → Option Sort → Bool
is_unfit None variable = false
is_unfit (Some parameter) None = false
is_unfit (Some parameter) (Some variable) = not (fits (kind_of parameter) variable)

-- a name that is no variable's and no formal parameter's, or one whose sort doesn't fit
abbrev pub taken_faults : Option Sort → Spot → Option ValueMeaning → List Diagnostic
taken_faults parameter name None = diagnostic_at broken.Unknown name ∷ []
taken_faults parameter name (Some (meant.Variable number sort)) = fault_if (is_unfit parameter sort) broken.Sort name
taken_faults parameter name (Some (meant.Synonym sort value)) = diagnostic_at broken.Unknown name ∷ []

-- of a place of an input, which may be left out
abbrev pub variable_faults : Scope → Option Sort → Option Spot → List Diagnostic
variable_faults scope parameter None = []
variable_faults scope parameter (Some name) = taken_faults parameter name (value_in scope name.text)

-- the first of these sorts; none is known where there is none
abbrev pub first_sort : List (Option Sort) → Option Sort
first_sort [] = None
first_sort (sort ∷ rest) = sort

abbrev pub other_sorts : List (Option Sort) → List (Option Sort)
other_sorts [] = []
other_sorts (sort ∷ rest) = rest

-- of the places of an input, each for the parameter at its place
abbrev pub variables_faults : Scope → List (Option Sort) → List (Option Spot) → List Diagnostic
variables_faults scope parameters [] = []
variables_faults scope parameters (variable ∷ variables) =
    variable_faults scope (first_sort parameters) variable ++ variables_faults scope (other_sorts parameters) variables

-- ---- inputs and saves

-- a name that is no signal's and no timer's, or more places than parameters
abbrev pub named_faults : Input → Option SignalMeaning → List Diagnostic
named_faults input None = diagnostic_at broken.Unknown input.signal ∷ []
named_faults input (Some meaning) =
    fault_if (nat_lt (length (sorts_of meaning)) (length input.variables)) broken.Sort input.signal

abbrev pub signal_faults : Scope → Input → Option SignalMeaning → List Diagnostic
signal_faults scope input meaning =
    named_faults input meaning ++ variables_faults scope (parameters_of meaning) input.variables

abbrev pub input_faults : Context → Input → List Diagnostic
input_faults context input = signal_faults context.scope input (signal_in context.scope input.signal.text)

abbrev pub list_faults : Context → List Input → List Diagnostic
list_faults context inputs = flat_map (input_faults context) inputs

abbrev pub inputs_faults : Context → Inputs → List Diagnostic
inputs_faults context (InputList inputs) = list_faults context inputs
inputs_faults context (InputAll asterisk) = []

-- a name that is no signal's and no timer's, or in parentheses no list's
abbrev pub item_faults : Context → SignalListItem → List Diagnostic
item_faults context (SignalItem name) = fault_if (is_none (signal_in context.scope name.text)) broken.Unknown name
item_faults context (ListItem name) = fault_if (is_none (list_in context name.text)) broken.Unknown name

abbrev pub saved_faults : Context → Saved → List Diagnostic
saved_faults context (SaveList items) = flat_map (item_faults context) items
saved_faults context (SaveAll asterisk) = []

-- ---- conditions

abbrev pub expression_faults : Context → Expr → List Diagnostic
expression_faults context condition = place_faults at.Condition context.scope (Some sorts.Boolean) condition

abbrev pub condition_faults : Context → Option Condition → List Diagnostic
condition_faults context None = []
condition_faults context (Some condition) = expression_faults context condition.condition

-- ---- stimuli

abbrev pub stimulus_faults : Context → Stimulus → List Diagnostic
stimulus_faults context (InputPart word inputs condition transition) =
    inputs_faults context inputs ++ condition_faults context condition
stimulus_faults context (PriorityInput word inputs transition) = list_faults context inputs
stimulus_faults context (SavePart word saved) = saved_faults context saved
stimulus_faults context (ContinuousSignal word condition priority transition) = expression_faults context condition
