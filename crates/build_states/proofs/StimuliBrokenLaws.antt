-- The faults of stimuli are the rules that they break.
use Rattle.std.proofs.Common.{◌≡◌, ◌∙◌, inl, ◌+◌, ◌<◌, ◌++◌, ℕ, suc, true, false, not, List, [], ◌∷◌, Option, None, Some, ap, arith, drop, is_none, length, nat_lt, refl, subst, sym}
use Rattle.std.proofs.lemmas.Bool.Decides.{nat_tests}
use Rattle.std.proofs.lemmas.List.{append_assoc, length-append}
use Rattle.build_names.proofs.FaultLemmas.{each-both, each-if, each-of, in-each, in-if, in-left, in-right}
use Rattle.build_names.specs.FaultLaws.{Each, In}
use Rattle.build_names.specs.Faults.{Diagnostic, diagnostic_at}
use Rattle.build_names.specs.declared.faults.fault.Rule.TheVariants as kind
use Rattle.build_expressions.proofs.BrokenLaws.{broken-listed-at}
use Rattle.build_expressions.proofs.ListedLaws.{each-weaker, listed-broken-at, none-is, not-true}
use Rattle.build_expressions.specs.Broken.{IsBrokenAt}
use Rattle.build_expressions.specs.OperandSorts.{fits, kind_of}
use Rattle.build_expressions.specs.Scope.{Scope, SignalMeaning, signal_in, value_in}
use Rattle.build_expressions.specs.declared.context.Context.TheVariants as at
use Rattle.build_expressions.specs.declared.scope.ValueMeaning.{ValueMeaning}
use Rattle.build_expressions.specs.declared.scope.ValueMeaning.TheVariants as meant
use Rattle.sdl_system.specs.declared.sort.Sort.{Sort}
use Rattle.sdl_system.specs.declared.sort.Sort.TheVariants.{Boolean}
use Rattle.sdl_tree.specs.Tree.{BodyPart, Condition, ContinuousSignal, FreeAction, Input, InputAll, InputList, InputPart, Inputs, ListItem, PriorityInput, SaveAll, SaveList, SavePart, SignalItem, SignalListItem, StatePart, Stimulus, Transition}
use Rattle.sdl_tree.specs.Words.{Spot}
use Rattle.sdl_tree.specs.declared.name.Spelling.{Spelling}
use Rattle.build_states.specs.StimuliBroken.{BreaksInput, BreaksItem, BreaksPlaces, BreaksStimulus, BrokenListed, IsBroken, IsNoVariable, ListedBroken, TakesAt, a_synonym, at_place, more_places, no_list, no_signal, nothing, of_continuous, of_enabling, of_input, of_priority_input, of_save, unfit, unknown, unknown_signal}
use Rattle.build_states.specs.Context.{Context, list_in}
use Rattle.build_states.specs.Faulty.{condition_faults, expression_faults, first_sort, input_faults, inputs_faults, is_unfit, item_faults, list_faults, named_faults, other_sorts, stimulus_faults, taken_faults, variable_faults, variables_faults}
use Rattle.build_states.specs.Mentions.{parameters_of, sorts_of}
use Rattle.build_states.specs.Places.{sort_at}
use Rattle.build_states.specs.Reading.{part_faults}
use Rattle.build_states.proofs.PlaceLemmas.{first_sort-at, other_sorts-more}

-- ---- variables

record Unfit (parameter variable : Option Sort) : Type 0 where
  taken : Sort
  sort : Sort
  taken_is : parameter ≡ Some taken
  sort_is : variable ≡ Some sort
  isnt : fits (kind_of taken) sort ≡ false

unfit-is : (parameter variable : Option Sort) → is_unfit parameter variable ≡ true → Unfit parameter variable
unfit-is None variable h = let never : false ≡ true = h in cc
unfit-is (Some parameter) None h = let never : false ≡ true = h in cc
unfit-is (Some parameter) (Some variable) h =
    record {
      taken = parameter;
      sort = variable;
      taken_is = refl;
      sort_is = refl;
      isnt = not-true (fits (kind_of parameter) variable) h;
    }

module _ (scope : Scope) (parameters : List (Option Sort)) (variables : List (Option Spot)) where
  abbrev Breaks : Diagnostic → Type 0
  Breaks = BreaksPlaces scope parameters variables

  taken-broken : (name : Spot) (place : ℕ) (takes : TakesAt variables name place) (meaning : Option ValueMeaning) →
      value_in scope name.text ≡ meaning → Each Breaks (taken_faults (sort_at parameters place) name meaning)
  taken-broken name place takes None is =
      (unknown name place takes (subst IsNoVariable (sym is) nothing), tt)
  taken-broken name place takes (Some (meant.Variable number sort)) is =
      each-if Breaks (is_unfit (sort_at parameters place) sort) kind.Sort name (λ h.
      let bad = unfit-is (sort_at parameters place) sort h in
      unfit name place takes number bad.sort bad.taken
      (is ∙ ap (λ s. Some (meant.Variable number s)) bad.sort_is) bad.taken_is bad.isnt)
  taken-broken name place takes (Some (meant.Synonym sort value)) is =
      (unknown name place takes (subst IsNoVariable (sym is) (a_synonym sort value)), tt)

  variable-broken : (before after : List (Option Spot)) (variable : Option Spot) →
      variables ≡ before ++ variable ∷ after →
      Each Breaks (variable_faults scope (sort_at parameters (length before)) variable)
  variable-broken before after None are = tt
  variable-broken before after (Some name) are =
      taken-broken name (length before)
      (record { before = before; after = after; variables_are = are; counted = refl }) (value_in scope name.text) refl

  each-places : (before after : List (Option Spot)) → variables ≡ before ++ after →
      Each Breaks (variables_faults scope (drop (length before) parameters) after)
  each-places before [] are = tt
  each-places before (variable ∷ after) are =
      let next : length (before ++ variable ∷ []) ≡ length before + 1 =
      omega (arith, length-append before (variable ∷ [])) in
      each-both Breaks (variable_faults scope (first_sort (drop (length before) parameters)) variable)
      (variables_faults scope (other_sorts (drop (length before) parameters)) after)
      (subst (λ sort. Each Breaks (variable_faults scope sort variable))
      (sym (first_sort-at parameters (length before))) (variable-broken before after variable are))
      (subst (λ sorts. Each Breaks (variables_faults scope sorts after))
      (sym (other_sorts-more parameters (length before) ∙ ap (λ n. drop n parameters) (sym next)))
      (each-places (before ++ variable ∷ []) after (are ∙ sym (append_assoc before (variable ∷ []) after))))

sort-later : (sorts : List (Option Sort)) (place : ℕ) → sort_at sorts (suc place) ≡ sort_at (other_sorts sorts) place
sort-later [] place = refl
sort-later (sort ∷ sorts) place = refl

sort-first : (sorts : List (Option Sort)) → sort_at sorts 0 ≡ first_sort sorts
sort-first [] = refl
sort-first (sort ∷ sorts) = refl

module _ (scope : Scope) (name : Spot) (after : List (Option Spot)) (fault : Diagnostic) where
  in-places : (parameters : List (Option Sort)) (before : List (Option Spot)) →
      In fault (taken_faults (sort_at parameters (length before)) name (value_in scope name.text)) →
      In fault (variables_faults scope parameters (before ++ Some name ∷ after))
  in-places parameters [] here =
      in-left fault (taken_faults (first_sort parameters) name (value_in scope name.text))
      (variables_faults scope (other_sorts parameters) after)
      (subst (λ sort. In fault (taken_faults sort name (value_in scope name.text))) (sort-first parameters) here)
  in-places parameters (variable ∷ before) here =
      in-right fault (variable_faults scope (first_sort parameters) variable)
      (variables_faults scope (other_sorts parameters) (before ++ Some name ∷ after))
      (in-places (other_sorts parameters) before
      (subst (λ sort. In fault (taken_faults sort name (value_in scope name.text)))
      (sort-later parameters (length before)) here))

no-variable : (parameter : Option Sort) (name : Spot) (meaning : Option ValueMeaning) → IsNoVariable meaning →
    In (diagnostic_at kind.Unknown name) (taken_faults parameter name meaning)
no-variable parameter name meaning nothing = inl refl
no-variable parameter name meaning (a_synonym sort value) = inl refl

module _ (scope : Scope) (parameters : List (Option Sort)) (variables : List (Option Spot)) where
  placed : (name : Spot) (place : ℕ) (fault : Diagnostic) (takes : TakesAt variables name place) →
      In fault (taken_faults (sort_at parameters place) name (value_in scope name.text)) →
      In fault (variables_faults scope parameters variables)
  placed name place fault takes here =
      subst (λ list. In fault (variables_faults scope parameters list)) (sym takes.variables_are)
      (in-places scope name takes.after fault parameters takes.before
      (subst (λ n. In fault (taken_faults (sort_at parameters n) name (value_in scope name.text))) takes.counted here))

  listed-places : (fault : Diagnostic) → BreaksPlaces scope parameters variables fault →
      In fault (variables_faults scope parameters variables)
  listed-places fault (unknown name place takes isnt) =
      placed name place (diagnostic_at kind.Unknown name) takes
      (no-variable (sort_at parameters place) name (value_in scope name.text) isnt)
  listed-places fault (unfit name place takes number sort parameter is taken bad) =
      placed name place (diagnostic_at kind.Sort name) takes
      (subst (λ meaning. In (diagnostic_at kind.Sort name) (taken_faults (sort_at parameters place) name meaning))
      (sym is)
      (in-if (is_unfit (sort_at parameters place) (Some sort)) kind.Sort name
      (ap (λ p. is_unfit p (Some sort)) taken ∙ ap not bad)))

-- ---- inputs and saves

less-is : (m n : ℕ) → nat_lt m n ≡ true → m < n
less-is m n h = grind (arith, nat_tests)

is-less : (m n : ℕ) → m < n → nat_lt m n ≡ true
is-less m n h = grind (arith, nat_tests)

module _ (context : Context) where
  name-broken : (input : Input) (meaning : Option SignalMeaning) →
      signal_in context.scope input.signal.text ≡ meaning →
      Each (BreaksInput context input) (named_faults input meaning)
  name-broken input None is = (unknown_signal is, tt)
  name-broken input (Some meaning) is =
      each-if (BreaksInput context input) (nat_lt (length (sorts_of meaning)) (length input.variables)) kind.Sort
      input.signal (λ h. more_places meaning is (less-is (length (sorts_of meaning)) (length input.variables) h))

  input-broken : (input : Input) → Each (BreaksInput context input) (input_faults context input)
  input-broken input =
      let meaning = signal_in context.scope input.signal.text in
      each-both (BreaksInput context input) (named_faults input meaning)
      (variables_faults context.scope (parameters_of meaning) input.variables)
      (name-broken input meaning refl)
      (each-weaker (BreaksPlaces context.scope (parameters_of meaning) input.variables) (BreaksInput context input)
      (variables_faults context.scope (parameters_of meaning) input.variables) (λ fault h. at_place fault h)
      (each-places context.scope (parameters_of meaning) input.variables [] input.variables refl))

  listed-input : (input : Input) (fault : Diagnostic) → BreaksInput context input fault →
      In fault (input_faults context input)
  listed-input input fault (unknown_signal is) =
      let meaning = signal_in context.scope input.signal.text in
      in-left (diagnostic_at kind.Unknown input.signal) (named_faults input meaning)
      (variables_faults context.scope (parameters_of meaning) input.variables)
      (subst (λ m. In (diagnostic_at kind.Unknown input.signal) (named_faults input m)) (sym is) (inl refl))
  listed-input input fault (more_places means is more) =
      let meaning = signal_in context.scope input.signal.text in
      in-left (diagnostic_at kind.Sort input.signal) (named_faults input meaning)
      (variables_faults context.scope (parameters_of meaning) input.variables)
      (subst (λ m. In (diagnostic_at kind.Sort input.signal) (named_faults input m)) (sym is)
      (in-if (nat_lt (length (sorts_of means)) (length input.variables)) kind.Sort input.signal
      (is-less (length (sorts_of means)) (length input.variables) more)))
  listed-input input fault (at_place told h) =
      let meaning = signal_in context.scope input.signal.text in
      in-right fault (named_faults input meaning)
      (variables_faults context.scope (parameters_of meaning) input.variables)
      (listed-places context.scope (parameters_of meaning) input.variables fault h)

  item-broken : (item : SignalListItem) → Each (BreaksItem context item) (item_faults context item)
  item-broken (SignalItem name) =
      each-if (BreaksItem context (SignalItem name)) (is_none (signal_in context.scope name.text)) kind.Unknown name
      (λ h. no_signal name (none-is (signal_in context.scope name.text) h))
  item-broken (ListItem name) =
      each-if (BreaksItem context (ListItem name)) (is_none (list_in context name.text)) kind.Unknown name
      (λ h. no_list name (none-is (list_in context name.text) h))

  listed-item : (item : SignalListItem) (fault : Diagnostic) → BreaksItem context item fault →
      In fault (item_faults context item)
  listed-item item fault (no_signal name is) =
      in-if (is_none (signal_in context.scope name.text)) kind.Unknown name (ap is_none is)
  listed-item item fault (no_list name is) =
      in-if (is_none (list_in context name.text)) kind.Unknown name (ap is_none is)

  -- ---- stimuli

  inputs-broken : (word : Spelling) (inputs : Inputs) (condition : Option Condition) (transition : Transition) →
      Each (BreaksStimulus context (InputPart word inputs condition transition)) (inputs_faults context inputs)
  inputs-broken word (InputList inputs) condition transition =
      each-of (BreaksStimulus context (InputPart word (InputList inputs) condition transition)) (input_faults context)
      inputs (λ one among.
      each-weaker (BreaksInput context one)
      (BreaksStimulus context (InputPart word (InputList inputs) condition transition)) (input_faults context one)
      (λ fault h. of_input word inputs condition transition one fault among h) (input-broken one))
  inputs-broken word (InputAll asterisk) condition transition = tt

  enabling-broken : (word : Spelling) (inputs : Inputs) (condition : Option Condition) (transition : Transition) →
      Each (BreaksStimulus context (InputPart word inputs condition transition)) (condition_faults context condition)
  enabling-broken word inputs None transition = tt
  enabling-broken word inputs (Some condition) transition =
      each-weaker (IsBrokenAt at.Condition context.scope (Some Boolean) condition.condition)
      (BreaksStimulus context (InputPart word inputs (Some condition) transition))
      (expression_faults context condition.condition)
      (λ fault h. of_enabling word inputs condition transition fault h)
      (listed-broken-at at.Condition context.scope (Some Boolean) condition.condition)

  stimulus-broken : (stimulus : Stimulus) → Each (BreaksStimulus context stimulus) (stimulus_faults context stimulus)
  stimulus-broken (InputPart word inputs condition transition) =
      each-both (BreaksStimulus context (InputPart word inputs condition transition)) (inputs_faults context inputs)
      (condition_faults context condition) (inputs-broken word inputs condition transition)
      (enabling-broken word inputs condition transition)
  stimulus-broken (PriorityInput word inputs transition) =
      each-of (BreaksStimulus context (PriorityInput word inputs transition)) (input_faults context) inputs
      (λ one among.
      each-weaker (BreaksInput context one) (BreaksStimulus context (PriorityInput word inputs transition))
      (input_faults context one) (λ fault h. of_priority_input word inputs transition one fault among h)
      (input-broken one))
  stimulus-broken (SavePart word (SaveList items)) =
      each-of (BreaksStimulus context (SavePart word (SaveList items))) (item_faults context) items (λ item among.
      each-weaker (BreaksItem context item) (BreaksStimulus context (SavePart word (SaveList items)))
      (item_faults context item) (λ fault h. of_save word items item fault among h) (item-broken item))
  stimulus-broken (SavePart word (SaveAll asterisk)) = tt
  stimulus-broken (ContinuousSignal word condition priority transition) =
      each-weaker (IsBrokenAt at.Condition context.scope (Some Boolean) condition)
      (BreaksStimulus context (ContinuousSignal word condition priority transition))
      (expression_faults context condition) (λ fault h. of_continuous word condition priority transition fault h)
      (listed-broken-at at.Condition context.scope (Some Boolean) condition)

  listed-stimulus : (stimulus : Stimulus) (fault : Diagnostic) → BreaksStimulus context stimulus fault →
      In fault (stimulus_faults context stimulus)
  listed-stimulus stimulus fault (of_input word inputs condition transition one told among h) =
      in-left fault (list_faults context inputs) (condition_faults context condition)
      (in-each fault (input_faults context) inputs one among (listed-input one fault h))
  listed-stimulus stimulus fault (of_enabling word inputs condition transition told h) =
      in-right fault (inputs_faults context inputs) (expression_faults context condition.condition)
      (broken-listed-at at.Condition context.scope (Some Boolean) condition.condition fault h)
  listed-stimulus stimulus fault (of_priority_input word inputs transition one told among h) =
      in-each fault (input_faults context) inputs one among (listed-input one fault h)
  listed-stimulus stimulus fault (of_save word items item told among h) =
      in-each fault (item_faults context) items item among (listed-item item fault h)
  listed-stimulus stimulus fault (of_continuous word condition priority transition told h) =
      broken-listed-at at.Condition context.scope (Some Boolean) condition fault h

  part-broken : (body : List BodyPart) (part : BodyPart) → In part body →
      Each (IsBroken context body) (part_faults context part)
  part-broken body (StatePart states stimuli) here =
      each-of (IsBroken context body) (stimulus_faults context) stimuli (λ stimulus among.
      each-weaker (BreaksStimulus context stimulus) (IsBroken context body) (stimulus_faults context stimulus)
      (λ fault h. record {
        states = states;
        stimuli = stimuli;
        stimulus = stimulus;
        part = here;
        among = among;
        broken = h;
      }) (stimulus-broken stimulus))
  part-broken body (FreeAction word label transition) here = tt

pub listed-broken : ListedBroken
listed-broken context body = each-of (IsBroken context body) (part_faults context) body (part-broken context body)

pub broken-listed : BrokenListed
broken-listed context body fault is =
    in-each fault (part_faults context) body (StatePart is.states is.stimuli) is.part
    (in-each fault (stimulus_faults context) is.stimuli is.stimulus is.among
    (listed-stimulus context is.stimulus fault is.broken))
