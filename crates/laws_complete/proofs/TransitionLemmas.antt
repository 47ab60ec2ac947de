-- Transitions in which no rule is broken, and each label of which has a number, have their bodies.
use Rattle.std.proofs.Common.{◌≡◌, ◌∙◌, ◌++◌, inl, inr, ℕ, ◌+◌, Bool, true, false, List, [], ◌∷◌, Option, None, Some, append-nil, cond, flat_map, is_none, map, option_map, refl, ap, sym, subst}
use Rattle.std.proofs.lemmas.Grind.{flat_map-append}
use Rattle.std.proofs.lemmas.Slice.Eq.{bytes_eq-Decides}
use Rattle.std.specs.Str.{bytes_eq}
use Rattle.build_process.specs.Bodies.{beginning_body, bodies_among, faults_among, statement_faults}
use Rattle.build_process.specs.Numbered.{AreNumbered, numbered}
use Rattle.laws_complete.proofs.ExpressionLemmas.{both-there, empty-left, empty-right, is-there, mapped-there, term-given, unbroken}
use Rattle.laws_complete.proofs.StatementLemmas.{answers-there, create-there, output-there, reset-there, set-there, task-there}
use Rattle.laws_complete.specs.Complete.{HasDurations, IsComplete, IsThere}
use Rattle.laws_complete.specs.Expressions.{HasTerm}
use Rattle.laws_complete.specs.Transitions.{BodiesGiven}
use Rattle.build_flow.specs.Beginnings.{Beginning, beginnings, part_beginnings, stimulus_beginnings}
use Rattle.build_names.specs.Labels.{action_labels, actions_labels, body_labels, ending_labels, label_words, otherwise_labels, parts_labels, process_labels, stimulus_labels, transition_labels}
use Rattle.build_statements.specs.Contexts.{Context, label_in, state_in}
use Rattle.build_statements.specs.Faulty.{answers_faults, asked_faults, terminator_faults}
use Rattle.build_statements.specs.Statements.{answers_in, asked_in, create_in, kind_in, output_in, reset_in, set_in, task_in, terminator_in}
use Rattle.build_statements.specs.Transitions.{acts, action_faults, asks, before, body_in, ending_faults, ending_in, head_in, labelled, other_faults, other_in, parts_faults, parts_of, piece, pieces_in, steps_faults, steps_in, transition_faults}
use Rattle.build_names.proofs.FaultLemmas.{in-left, in-right}
use Rattle.build_names.specs.FaultLaws.{In}
use Rattle.build_names.specs.Names.{first_of}
use Rattle.build_names.specs.declared.faults.fault.Rule.TheVariants.{NoLabel, NoState}
use Rattle.build_expressions.specs.Partial.{both}
use Rattle.build_expressions.specs.Typing.{Typed, term_in}
use Rattle.build_expressions.specs.declared.context.Context.TheVariants.{Transition}
use Rattle.build_expressions.specs.declared.operand_sort.OperandSort.{OperandSort}
use Rattle.sdl_system.specs.Body as body
use Rattle.sdl_system.specs.Body.{Body}
use Rattle.sdl_system.specs.declared.id.LabelId.{LabelId}
use Rattle.sdl_tree.specs.Tree as tree
use Rattle.sdl_tree.specs.Tree.{Actions, Action, BodyPart, Ending, Otherwise, Parts, ProcessDefinition, Stimulus, Terminator}
use Rattle.sdl_tree.specs.Words.{Spot}

-- ---- labels with their numbers

-- each of the labels has a number
abbrev HaveNumbers : Context → List Spot → Type 0
HaveNumbers context words = (word : Spot) → In word words → IsThere (label_in context word.text)

left-numbers : (context : Context) (xs ys : List Spot) → HaveNumbers context (xs ++ ys) → HaveNumbers context xs
left-numbers context xs ys have word at = have word (in-left word xs ys at)

right-numbers : (context : Context) (xs ys : List Spot) → HaveNumbers context (xs ++ ys) → HaveNumbers context ys
right-numbers context xs ys have word at = have word (in-right word xs ys at)

labelled-there : (context : Context) (name : Option Spot) (b : Option Body) →
    HaveNumbers context (label_words name) → IsThere b → IsThere (labelled context name b)
labelled-there context None b have there = there
labelled-there context (Some name) b have there =
    both-there body.label (label_in context name.text) b (have name (inl refl)) there

-- ---- terminators

terminator-there : (context : Context) (terminator : Terminator) → terminator_faults context terminator ≡ [] →
    IsThere (terminator_in context terminator)
terminator-there context (tree.Next word (tree.Same dash)) none = tt
terminator-there context (tree.Next word (tree.To state)) none =
    mapped-there body.to_state (state_in context state.text) (is-there (state_in context state.text)
    (unbroken (is_none (state_in context state.text)) NoState state none))
terminator-there context (tree.Stop word) none = tt
terminator-there context (tree.Join word label) none =
    mapped-there body.join (label_in context label.text) (is-there (label_in context label.text)
    (unbroken (is_none (label_in context label.text)) NoLabel label none))

ending-there : (context : Context) (ending : Option Ending) → ending_faults context ending ≡ [] →
    HaveNumbers context (ending_labels ending) → IsThere (ending_in context ending)
ending-there context None none have = tt
ending-there context (Some ending) none have =
    labelled-there context ending.label (option_map body.ending (terminator_in context ending.terminator)) have
    (mapped-there body.ending (terminator_in context ending.terminator)
    (terminator-there context ending.terminator none))

-- ---- whole transitions

-- the term of a question
question-there : (typed : Option Typed) → HasTerm typed → IsThere (term_in typed)
question-there None has = has
question-there (Some typed) has = has.0

module _ (context : Context) (complete : IsComplete context.scope) (durations : HasDurations context) where
  mutual
    body-there : (transition : tree.Transition) → transition_faults context transition ≡ [] →
        HaveNumbers context (transition_labels transition) → IsThere (body_in context transition)
    body-there (tree.Steps actions ending) none have =
        steps-there actions (ending_in context ending)
        (empty-left (steps_faults context actions) (ending_faults context ending) none)
        (left-numbers context (actions_labels actions) (ending_labels ending) have)
        (ending-there context ending (empty-right (steps_faults context actions) (ending_faults context ending) none)
        (right-numbers context (actions_labels actions) (ending_labels ending) have))

    steps-there : (actions : Actions) (end : Option Body) → steps_faults context actions ≡ [] →
        HaveNumbers context (actions_labels actions) → IsThere end → IsThere (steps_in context actions end)
    steps-there tree.NoAction end none have there = there
    steps-there (tree.AndAction name first rest) end none have there =
        let behind = right-numbers context (label_words name) (action_labels first ++ actions_labels rest) have in
        labelled-there context name (both before (head_in context first) (steps_in context rest end))
        (left-numbers context (label_words name) (action_labels first ++ actions_labels rest) have)
        (both-there before (head_in context first) (steps_in context rest end)
        (head-there first (empty-left (action_faults context first) (steps_faults context rest) none)
        (left-numbers context (action_labels first) (actions_labels rest) behind))
        (steps-there rest end (empty-right (action_faults context first) (steps_faults context rest) none)
        (right-numbers context (action_labels first) (actions_labels rest) behind) there))

    head-there : (action : Action) → action_faults context action ≡ [] →
        HaveNumbers context (action_labels action) → IsThere (head_in context action)
    head-there (tree.Task word assignments) none have =
        mapped-there acts (task_in context assignments) (task-there context complete assignments none)
    head-there (tree.Output word outputs destination) none have =
        mapped-there acts (output_in context outputs destination)
        (output-there context complete outputs destination none)
    head-there (tree.Set word clauses) none have =
        mapped-there acts (set_in context clauses) (set-there context complete durations clauses none)
    head-there (tree.Reset word groups) none have =
        mapped-there acts (reset_in context groups) (reset-there context complete groups none)
    head-there (tree.Create word applied) none have =
        mapped-there acts (create_in context applied) (create-there context complete applied none)
    head-there (tree.Decision word question parts other) none have =
        let typed = asked_in context question in
        let within = parts_faults context (kind_in typed) parts in
        let behind = other_faults context other in
        let asked = empty-left (asked_faults context question) (within ++ behind) none in
        let follow = empty-right (asked_faults context question) (within ++ behind) none in
        let pieces = pieces_in context (kind_in typed) parts in
        both-there asks (term_in typed) (both parts_of pieces (other_in context other))
        (question-there typed (term-given Transition context.scope complete question asked))
        (both-there parts_of pieces (other_in context other)
        (pieces-there (kind_in typed) parts (empty-left within behind follow)
        (left-numbers context (parts_labels parts) (otherwise_labels other) have))
        (other-there other (empty-right within behind follow)
        (right-numbers context (parts_labels parts) (otherwise_labels other) have)))

    pieces-there : (question : Option OperandSort) (parts : Parts) →
        parts_faults context question parts ≡ [] → HaveNumbers context (parts_labels parts) →
        IsThere (pieces_in context question parts)
    pieces-there question tree.NoPart none have = tt
    pieces-there question (tree.AndPart answers transition rest) none have =
        let here = answers_faults context question answers ++ transition_faults context transition in
        let first = empty-left here (parts_faults context question rest) none in
        both-there ◌∷◌ (both piece (answers_in context question answers) (body_in context transition))
        (pieces_in context question rest)
        (both-there piece (answers_in context question answers) (body_in context transition)
        (answers-there context complete question answers
        (empty-left (answers_faults context question answers) (transition_faults context transition) first))
        (body-there transition
        (empty-right (answers_faults context question answers) (transition_faults context transition) first)
        (left-numbers context (transition_labels transition) (parts_labels rest) have)))
        (pieces-there question rest (empty-right here (parts_faults context question rest) none)
        (right-numbers context (transition_labels transition) (parts_labels rest) have))

    other-there : (other : Otherwise) → other_faults context other ≡ [] →
        HaveNumbers context (otherwise_labels other) → IsThere (other_in context other)
    other-there tree.NoElse none have = tt
    other-there (tree.Else transition) none have =
        mapped-there Some (body_in context transition) (body-there transition none have)

  -- ---- all transitions of a process

  beginning-there : (b : Beginning) → statement_faults context b ≡ [] →
      HaveNumbers context (label_words b.label ++ transition_labels b.transition) → IsThere (beginning_body context b)
  beginning-there b none have =
      labelled-there context b.label (body_in context b.transition)
      (left-numbers context (label_words b.label) (transition_labels b.transition) have)
      (body-there b.transition none
      (right-numbers context (label_words b.label) (transition_labels b.transition) have))

-- the labels of a transition, that of its connection before them
abbrev begun_labels : Beginning → List Spot
begun_labels b = label_words b.label ++ transition_labels b.transition

the-value : {A : Type 0} (value : Option A) → IsThere value → (v : A) × (value ≡ Some v)
the-value None there = absurd there
the-value (Some v) there = (v, refl)

all-bodies : (context : Context) → IsComplete context.scope → HasDurations context →
    (list : List Beginning) → faults_among context list ≡ [] → HaveNumbers context (flat_map begun_labels list) →
    (bodies : List Body) × (bodies_among context list ≡ map Some bodies)
all-bodies context complete durations [] none have = ([], refl)
all-bodies context complete durations (b ∷ list) none have =
    let first = the-value (beginning_body context b) (beginning-there context complete durations b
    (empty-left (statement_faults context b) (faults_among context list) none)
    (left-numbers context (begun_labels b) (flat_map begun_labels list) have)) in
    let rest = all-bodies context complete durations list
    (empty-right (statement_faults context b) (faults_among context list) none)
    (right-numbers context (begun_labels b) (flat_map begun_labels list) have) in
    let same : bodies_among context (b ∷ list) ≡ map Some (first.0 ∷ rest.0) =
    ap (λ (o : Option Body). o ∷ bodies_among context list) first.1
    ∙ ap (λ (bodies : List (Option Body)). Some first.0 ∷ bodies) rest.1 in
    (first.0 ∷ rest.0, same)

-- ---- the labels of a process

stimulus-begun : (s : Stimulus) → stimulus_labels s ≡ flat_map begun_labels (stimulus_beginnings s)
stimulus-begun (tree.InputPart word inputs condition transition) = sym (append-nil (transition_labels transition))
stimulus-begun (tree.PriorityInput word inputs transition) = sym (append-nil (transition_labels transition))
stimulus-begun (tree.SavePart word saved) = refl
stimulus-begun (tree.ContinuousSignal word condition priority transition) =
    sym (append-nil (transition_labels transition))

-- what each element of a list gives, and what that gives in turn
flat-begun : {A : Type 0} (labels : A → List Spot) (begun : A → List Beginning) →
    ((x : A) → labels x ≡ flat_map begun_labels (begun x)) → (xs : List A) →
    flat_map labels xs ≡ flat_map begun_labels (flat_map begun xs)
flat-begun labels begun each [] = refl
flat-begun labels begun each (x ∷ xs) =
    ap (λ list. list ++ flat_map labels xs) (each x)
    ∙ ap (λ list. flat_map begun_labels (begun x) ++ list) (flat-begun labels begun each xs)
    ∙ sym (flat_map-append begun_labels (begun x) (flat_map begun xs))

part-begun : (part : BodyPart) → body_labels part ≡ flat_map begun_labels (part_beginnings part)
part-begun (tree.StatePart states stimuli) = flat-begun stimulus_labels stimulus_beginnings stimulus-begun stimuli
part-begun (tree.FreeAction word label transition) =
    ap (λ list. label ∷ list) (sym (append-nil (transition_labels transition)))

process-begun : (process : ProcessDefinition) → process_labels process ≡ flat_map begun_labels (beginnings process)
process-begun process =
    ap (λ list. transition_labels process.start.transition ++ list)
    (flat-begun body_labels part_beginnings part-begun process.body)

-- each label of a list is found by its name among those that are numbered
first-there : (same : Bool) (one : LabelId) (later : Option LabelId) → same ≡ true →
    IsThere (cond same (Some one) later)
first-there true one later is = tt
first-there false one later is = absurd (let never : ⊥ = cc in never)

later-there : (same : Bool) (one : LabelId) (later : Option LabelId) → IsThere later →
    IsThere (cond same (Some one) later)
later-there true one later there = tt
later-there false one later there = there

number-there : (k : ℕ) (labels : List Spot) (word : Spot) → In word labels →
    IsThere (first_of (numbered k labels) word.text)
number-there k [] word at = absurd at
number-there k (x ∷ labels) word at =
    let later = first_of (numbered (k + 1) labels) word.text in
    elim at [
      | inl same ↦ first-there (bytes_eq word.text x.text) (record { 0 = k }) later
          ((bytes_eq-Decides word.text x.text).1 (ap (λ (w : Spot). w.text) same))
      | inr behind ↦ later-there (bytes_eq word.text x.text) (record { 0 = k }) later
          (number-there (k + 1) labels word behind)
    ]

process-numbers : (context : Context) (process : ProcessDefinition) → AreNumbered context process →
    HaveNumbers context (flat_map begun_labels (beginnings process))
process-numbers context process are word at =
    subst (λ (names : List (List ℕ × LabelId)). IsThere (first_of names word.text)) (sym are.numbers)
    (number-there 0 (process_labels process) word
    (subst (λ (list : List Spot). In word list) (sym (process-begun process)) at))

pub bodies-given : BodiesGiven
bodies-given context process complete durations are none =
    all-bodies context complete durations (beginnings process) none (process-numbers context process are)
