-- What stimuli say of signals is sound: their variables are there, and take the values of the signal.
use Rattle.std.proofs.Common.{◌≡◌, ◌∙◌, ◌≤◌, ◌++◌, ℕ, Bool, true, false, not, IfSome, List, [], ◌∷◌, Option, None, Some, arith, cond, filter, fold, if◌then◌else◌, is_some, length, map, nat_lt, refl, ap, slice_get, sym, subst}
use Rattle.std.proofs.lemmas.Bool.{eqb-true, ltb-false}
use Rattle.std.proofs.lemmas.List.{length-map}
use Rattle.std.specs.Option.{option_or}
use Rattle.port_model.specs.declared.values.item.SignalId.{SignalId}
use Rattle.build_names.proofs.FaultLemmas.{each-both, each-in, each-of}
use Rattle.build_names.specs.FaultLaws.{Each}
use Rattle.build_names.specs.Faults.{fault_if}
use Rattle.build_names.specs.declared.faults.fault.Rule as faults
use Rattle.build_names.specs.declared.faults.fault.Rule.TheVariants as broken
use Rattle.build_expressions.specs.OperandSorts.{fits, kind_of}
use Rattle.build_expressions.specs.Scope as names
use Rattle.build_expressions.specs.Scope.{SignalMeaning, signal_in, value_in}
use Rattle.build_expressions.specs.declared.scope.ValueMeaning.{ValueMeaning}
use Rattle.build_expressions.specs.declared.scope.ValueMeaning.TheVariants as meant
use Rattle.laws_sound_processes.specs.States.{IsSoundInput, TakeAll}
use Rattle.laws_sound_runs.specs.Scopes.{IsSoundScope, IsSoundSignal, IsSoundValue}
use Rattle.build_states.specs.States.{Answers, is_part_of, mentions_in, named_in, no_answers, parts_of, table_named, with_answer, with_mention, with_mentions, with_subjects}
use Rattle.build_states.specs.Context.{Context}
use Rattle.build_states.specs.Faulty as faulty
use Rattle.build_states.specs.Mentions.{Mention, Response, input, inputs_mentions, item_mention, item_subjects, list_mentions, number_of, priority_input, received, save, saved_mentions, sorts_of, subjects_of, variable_of, variables_in}
use Rattle.build_states.specs.Reading.{Begun, Part, Reading, body_faults, body_read, first_reading, no_stimuli, number_of_condition, stimuli_faults, with_part, with_stimuli, with_stimulus}
use Rattle.build_states.specs.declared.stimuli.mention.Manner.{Manner}
use Rattle.build_states.specs.declared.stimuli.mention.Manner.TheVariants as manner
use Rattle.build_states.specs.declared.stimuli.subject.Subject.{Subject}
use Rattle.build_states.specs.declared.stimuli.subject.Subject.TheVariants.{Rest, Signal}
use Rattle.build_states.specs.declared.stimuli.transition.TransitionId.{TransitionId}
use Rattle.sdl_system.specs.State.{same_signal}
use Rattle.sdl_system.specs.System.{SystemValue}
use Rattle.sdl_system.specs.declared.id.ConditionId.{ConditionId}
use Rattle.sdl_system.specs.declared.id.VariableId.{VariableId}
use Rattle.sdl_system.specs.declared.process.Process.{Process}
use Rattle.sdl_system.specs.declared.signal.Signal as signals
use Rattle.sdl_system.specs.declared.sort.Sort.{Sort}
use Rattle.sdl_tree.specs.Tree as tree
use Rattle.sdl_tree.specs.Tree.{BodyPart, Input, Inputs, Saved, SignalListItem, Stimulus}
use Rattle.sdl_tree.specs.Words.{Spot}

-- ---- lists of faults that are empty

pub none-left : {A : Type 0} (xs ys : List A) → xs ++ ys ≡ [] → xs ≡ []
none-left [] ys is = refl
none-left (x ∷ xs) ys is = absurd (let never : ⊥ = cc in never)

pub none-right : {A : Type 0} (xs ys : List A) → xs ++ ys ≡ [] → ys ≡ []
none-right [] ys is = is
none-right (x ∷ xs) ys is = absurd (let never : ⊥ = cc in never)

unbroken : (b : Bool) (rule : faults.Rule) (word : Spot) → fault_if b rule word ≡ [] → b ≡ false
unbroken true rule word is = absurd (let never : ⊥ = cc in never)
unbroken false rule word is = refl

not-false : (b : Bool) → not b ≡ false → b ≡ true
not-false true is = refl
not-false false is = absurd (let never : ⊥ = cc in never)

abbrev the_signal : ℕ → SignalId
the_signal n = record { 0 = n }

-- ---- what is said

-- what a response says of a signal that is named, and what of the others
abbrev pub Says : SystemValue → Process → SignalId → Response → Type 0
Says system process signal (input variables condition begin) = IsSoundInput system process signal variables
Says system process signal (priority_input variables begin) = IsSoundInput system process signal variables
Says system process signal save = Unit {0}

abbrev pub SaysRest : Response → Type 0
SaysRest (input variables condition begin) = variables ≡ []
SaysRest (priority_input variables begin) = ⊥
SaysRest save = Unit {0}

module _ (system : SystemValue) (process : Process) where
  -- the number is that of a signal of the system, with these sorts
  record IsNumbered (number : SignalId) (places : List (Option Sort)) : Type 0 where
    signal : signals.Signal
    listed : slice_get system.signals number.0 ≡ Some signal
    sorts : places ≡ map Some signal.sorts.items

  abbrev pub SaysOf : Response → Subject → Type 0
  SaysOf response (Signal signal) = Says system process signal response
  SaysOf response Rest = SaysRest response

  abbrev pub IsGood : Mention → Type 0
  IsGood mention = Each (SaysOf mention.response) mention.subjects

  abbrev pub AreGood : Part → Type 0
  AreGood part = Each IsGood part.mentions

  abbrev SaysNamed : SignalId × Response → Type 0
  SaysNamed said = Says system process said.0 said.1

  record AreAnswers (answers : Answers) : Type 0 where
    named : Each SaysNamed answers.named
    rest : IfSome answers.rest SaysRest

  -- ---- the answers of a state

  one-more : (known : Bool) (named : List (SignalId × Response)) (signal : SignalId) (response : Response) →
      Each SaysNamed named → Says system process signal response →
      Each SaysNamed (if known then named else named ++ (signal, response) ∷ [])
  one-more true named signal response are says = are
  one-more false named signal response are says =
      each-both SaysNamed named ((signal, response) ∷ []) are (says, tt)

  rest-or : (rest : Option Response) (response : Response) → IfSome rest SaysRest → SaysRest response →
      IfSome (option_or rest (Some response)) SaysRest
  rest-or None response is says = says
  rest-or (Some first) response is says = is

  answer-more : (answers : Answers) (response : Response) (subject : Subject) → AreAnswers answers →
      SaysOf response subject → AreAnswers (with_answer answers response subject)
  answer-more answers response (Signal signal) are says = record {
    named = one-more (is_some (named_in answers.named signal)) answers.named signal response are.named says;
    rest = are.rest;
  }
  answer-more answers response Rest are says = record {
    named = are.named;
    rest = rest-or answers.rest response are.rest says;
  }

  subjects-more : (answers : Answers) (response : Response) (subjects : List Subject) → AreAnswers answers →
      Each (SaysOf response) subjects → AreAnswers (with_subjects answers response subjects)
  subjects-more answers response [] are says = are
  subjects-more answers response (subject ∷ subjects) are says =
      subjects-more (with_answer answers response subject) response subjects
      (answer-more answers response subject are says.0) says.1

  mentions-more : (answers : Answers) (mentions : List Mention) → AreAnswers answers → Each IsGood mentions →
      AreAnswers (with_mentions answers mentions)
  mentions-more answers [] are each = are
  mentions-more answers (mention ∷ mentions) are each =
      mentions-more (with_mention answers mention) mentions
      (subjects-more answers mention.response mention.subjects are each.0) each.1

  filtered-by : {A : Type 0} (P : A → Type 0) (b : Bool) (x : A) (xs : List A) → P x → Each P xs →
      Each P (cond b (x ∷ xs) xs)
  filtered-by P true x xs is each = (is, each)
  filtered-by P false x xs is each = each

  filtered : {A : Type 0} (P : A → Type 0) (test : A → Bool) (xs : List A) → Each P xs → Each P (filter test xs)
  filtered P test [] each = tt
  filtered P test (x ∷ xs) each = filtered-by P (test x) x (filter test xs) each.0 (filtered P test xs each.1)

  no-more : AreAnswers no_answers
  no-more = record { named = tt; rest = tt }

  -- those of the state of a name
  table-answers : (parts : List Part) (name : Spot) → Each AreGood parts →
      AreAnswers (table_named parts name).answers
  table-answers parts name each =
      let own = parts_of name.text parts in
      mentions-more no_answers (mentions_in own) no-more
      (each-of IsGood (λ (part : Part). part.mentions) own
      (λ part among.
      each-in AreGood own part (filtered AreGood (λ (part : Part). is_part_of name.text part.states) parts each) among))

  found-by : (b : Bool) (signal : SignalId) (said : SignalId × Response) (response : Response)
      (later : Option Response) → same_signal signal said.0 ≡ b → SaysNamed said →
      (later ≡ Some response → Says system process signal response) → cond b (Some said.1) later ≡ Some response →
      Says system process signal response
  found-by true signal said response later same says by_later is =
      let numbers : signal.0 ≡ said.0.0 = eqb-true signal.0 said.0.0 same in
      let one : said.0 ≡ signal = ap the_signal (sym numbers) in
      let what : said.1 ≡ response = cc in
      subst (λ (s : SignalId). Says system process s response) one
      (subst (λ (r : Response). Says system process said.0 r) what says)
  found-by false signal said response later same says by_later is = by_later is

  found-says : (named : List (SignalId × Response)) (signal : SignalId) (response : Response) → Each SaysNamed named →
      named_in named signal ≡ Some response → Says system process signal response
  found-says [] signal response each is = absurd (let never : ⊥ = cc in never)
  found-says (said ∷ named) signal response each is =
      found-by (same_signal signal said.0) signal said response (named_in named signal) refl each.0
      (λ later. found-says named signal response each.1 later) is

  -- what a state says of a signal that it names, and of the others
  pub named-says : (parts : List Part) (name : Spot) → Each AreGood parts → (signal : SignalId) (response : Response) →
      named_in (table_named parts name).answers.named signal ≡ Some response → Says system process signal response
  named-says parts name each signal response is =
      found-says (table_named parts name).answers.named signal response (table-answers parts name each).named is

  pub rest-says : (parts : List Part) (name : Spot) → Each AreGood parts →
      IfSome (table_named parts name).answers.rest SaysRest
  rest-says parts name each = (table-answers parts name each).rest

  module _ (context : Context) (sound : IsSoundScope system process context.scope) where
    -- ---- variables

    one-taken : (one : Sort) (sorts : List Sort) (name : Spot) (found : Option ValueMeaning)
        (variables : List (Option VariableId)) →
        ((meaning : ValueMeaning) → found ≡ Some meaning → IsSoundValue process meaning) →
        faulty.taken_faults (Some one) name found ≡ [] → TakeAll process sorts variables →
        TakeAll process (one ∷ sorts) (variable_of found ∷ variables)
    one-taken one sorts name None variables is none rest = absurd (let never : ⊥ = cc in never)
    one-taken one sorts name (Some (meant.Synonym sort constant)) variables is none rest =
        absurd (let never : ⊥ = cc in never)
    one-taken one sorts name (Some (meant.Variable number sort)) variables is none rest =
        let has : IsSoundValue process (meant.Variable number sort) = is (meant.Variable number sort) refl in
        let unfit : faulty.is_unfit (Some one) (Some (has.0).sort) ≡ false =
        ap (faulty.is_unfit (Some one)) (sym has.2)
        ∙ unbroken (faulty.is_unfit (Some one) sort) broken.Sort name none in (
          record {
            variable = has.0;
            listed = has.1;
            fitting = not-false (fits (kind_of one) (has.0).sort) unfit;
          },
          rest,
        )

    all-taken : (sorts : List Sort) (variables : List (Option Spot)) → length variables ≤ length sorts →
        faulty.variables_faults context.scope (map Some sorts) variables ≡ [] →
        TakeAll process sorts (variables_in context.scope variables)
    all-taken sorts [] within none = tt
    all-taken [] (variable ∷ variables) within none = absurd (omega (arith, within))
    all-taken (one ∷ sorts) (None ∷ variables) within none =
        all-taken sorts variables (omega (arith, within)) none
    all-taken (one ∷ sorts) (Some name ∷ variables) within none =
        let here = faulty.taken_faults (Some one) name (value_in context.scope name.text) in
        let behind = faulty.variables_faults context.scope (map Some sorts) variables in
        one-taken one sorts name (value_in context.scope name.text) (variables_in context.scope variables)
        (sound.values name.text) (none-left here behind none)
        (all-taken sorts variables (omega (arith, within)) (none-right here behind none))

    -- ---- inputs

    says-received : (how : Manner) (begin : TransitionId) (signal : SignalId) (variables : List (Option VariableId)) →
        IsSoundInput system process signal variables → Says system process signal (received how begin variables)
    says-received (manner.Input condition) begin signal variables is = is
    says-received manner.Priority begin signal variables is = is

    -- a signal or a timer with these sorts takes the variables of an input
    input-taken : (number : SignalId) (places : List (Option Sort)) (one : Input) →
        IsNumbered number places → faulty.variables_faults context.scope places one.variables ≡ [] →
        nat_lt (length places) (length one.variables) ≡ false →
        IsSoundInput system process number (variables_in context.scope one.variables)
    input-taken number places one is none within =
        let sorts = (is.signal).sorts.items in
        let many = ltb-false (length places) (length one.variables) within in
        let long = ap length is.sorts ∙ length-map sorts Some in
        record {
          signal = is.signal;
          listed = is.listed;
          takes = all-taken sorts one.variables (omega (arith, many, long))
              (ap (λ list. faulty.variables_faults context.scope list one.variables) (sym is.sorts) ∙ none);
        }

    named-input : (meaning : SignalMeaning) → IsSoundSignal system meaning →
        IsNumbered (number_of meaning) (sorts_of meaning)
    named-input (names.signal number sorts) is = record { signal = is.0; listed = is.1; sorts = is.2 }
    named-input (names.timer number sorts has_default) is = record { signal = is.0; listed = is.2; sorts = is.3 }

    -- a name that means nothing is told; else the input is of what it means
    signal-good : (how : Manner) (begin : TransitionId) (one : Input) (found : Option SignalMeaning) →
        ((meaning : SignalMeaning) → found ≡ Some meaning → IsSoundSignal system meaning) →
        faulty.signal_faults context.scope one found ≡ [] →
        Each (SaysOf (received how begin (variables_in context.scope one.variables))) (subjects_of found)
    signal-good how begin one None sound none = tt
    signal-good how begin one (Some meaning) is none =
        let many = faulty.named_faults one (Some meaning) in
        let fit = faulty.variables_faults context.scope (sorts_of meaning) one.variables in
        let within = unbroken (nat_lt (length (sorts_of meaning)) (length one.variables)) broken.Sort one.signal
        (none-left many fit none) in (
          says-received how begin (number_of meaning) (variables_in context.scope one.variables)
              (input-taken (number_of meaning) (sorts_of meaning) one (named-input meaning (is meaning refl))
              (none-right many fit none) within),
          tt,
        )

    list-good : (how : Manner) (begin : TransitionId) (inputs : List Input) → faulty.list_faults context inputs ≡ [] →
        Each IsGood (list_mentions context how begin inputs)
    list-good how begin [] none = tt
    list-good how begin (one ∷ inputs) none =
        let here = faulty.input_faults context one in
        let behind = faulty.list_faults context inputs in (
          signal-good how begin one (signal_in context.scope one.signal.text) (sound.signals one.signal.text)
              (none-left here behind none),
          list-good how begin inputs (none-right here behind none),
        )

    inputs-good : (condition : Option ConditionId) (begin : TransitionId) (inputs : Inputs) →
        faulty.inputs_faults context inputs ≡ [] →
        Each IsGood (inputs_mentions context (manner.Input condition) begin inputs)
    inputs-good condition begin (tree.InputList inputs) none = list-good (manner.Input condition) begin inputs none
    inputs-good condition begin (tree.InputAll asterisk) none = ((refl, tt), tt)

    -- ---- saves

    each-saved : (subjects : List Subject) → Each (SaysOf save) subjects
    each-saved [] = tt
    each-saved (Signal signal ∷ subjects) = (tt, each-saved subjects)
    each-saved (Rest ∷ subjects) = (tt, each-saved subjects)

    items-good : (items : List SignalListItem) → Each IsGood (map (item_mention context) items)
    items-good [] = tt
    items-good (item ∷ items) = (each-saved (item_subjects context item), items-good items)

    saved-good : (saved : Saved) → Each IsGood (saved_mentions context saved)
    saved-good (tree.SaveList items) = items-good items
    saved-good (tree.SaveAll asterisk) = ((tt, tt), tt)

    -- ---- stimuli and parts

    stimulus-good : (begun : Begun) (stimulus : Stimulus) → faulty.stimulus_faults context stimulus ≡ [] →
        AreGood begun.part → AreGood (with_stimulus context begun stimulus).part
    stimulus-good begun (tree.InputPart word inputs condition transition) none are =
        each-both IsGood begun.part.mentions _ are
        (inputs-good (number_of_condition begun.numbering.conditions condition) begun.numbering.next inputs
        (none-left (faulty.inputs_faults context inputs) (faulty.condition_faults context condition) none))
    stimulus-good begun (tree.PriorityInput word inputs transition) none are =
        each-both IsGood begun.part.mentions _ are (list-good manner.Priority begun.numbering.next inputs none)
    stimulus-good begun (tree.SavePart word saved) none are =
        each-both IsGood begun.part.mentions _ are (saved-good saved)
    stimulus-good begun (tree.ContinuousSignal word condition priority transition) none are = are

    stimuli-good : (begun : Begun) (stimuli : List Stimulus) → stimuli_faults context stimuli ≡ [] →
        AreGood begun.part → AreGood (with_stimuli context begun stimuli).part
    stimuli-good begun [] none are = are
    stimuli-good begun (stimulus ∷ stimuli) none are =
        let here = faulty.stimulus_faults context stimulus in
        let behind = stimuli_faults context stimuli in
        stimuli-good (with_stimulus context begun stimulus) stimuli (none-right here behind none)
        (stimulus-good begun stimulus (none-left here behind none) are)

    parts-good : (reading : Reading) (body : List BodyPart) → body_faults context body ≡ [] →
        Each AreGood reading.parts → Each AreGood (fold (with_part context) reading body).parts
    parts-good reading [] none are = are
    parts-good reading (tree.StatePart states stimuli ∷ body) none are =
        let here = stimuli_faults context stimuli in
        let behind = body_faults context body in
        parts-good (with_part context reading (tree.StatePart states stimuli)) body (none-right here behind none)
        (each-both AreGood reading.parts (_ ∷ []) are (
          stimuli-good (record { numbering = reading.numbering; part = no_stimuli states }) stimuli
              (none-left here behind none) tt,
          tt,
        ))
    parts-good reading (tree.FreeAction word label transition ∷ body) none are =
        parts-good (with_part context reading (tree.FreeAction word label transition)) body none are

    -- what all parts of a process say
    pub all-good : (body : List BodyPart) → body_faults context body ≡ [] → Each AreGood (body_read context body).parts
    all-good body none = parts-good first_reading body none tt
