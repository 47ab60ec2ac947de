-- What a transition does names what is there, and its values fit their places.
use Rattle.std.proofs.Common.{◌≡◌, ◌++◌, ℕ, All, IfSome, List, [], ◌∷◌, Option, None, Some, flat_map, map, option_map, refl, slice_get, sym, subst, zero, suc}
use Rattle.std.proofs.lemmas.List.Elements.{All-cons, All-nil}
use Rattle.std.proofs.lemmas.Option.{slice_get_within}
use Rattle.build_process.specs.Bodies.{beginning_body, bodies_among}
use Rattle.build_flow.specs.Beginnings.{Beginning, beginnings}
use Rattle.build_statements.specs.Contexts.{Context, label_in, state_in}
use Rattle.build_statements.specs.Statements.{agent_name, answers_in, asked_in, assigned, assigning_in, create_in, created_as, default_of, kind_in, output_in, process_of, reset_in, sending_in, sent, sent_as, sent_to, set_for, set_in, setting_in, sort_of, target_of, task_in, terminator_in, timed, timed_as, timing_in, value_for, values_for, when_in, whither_in, whither_of}
use Rattle.build_statements.specs.Transitions.{Head, Piece, acts, asks, before, body_in, ending_in, head_in, labelled, other_in, parts_of, piece, pieces_in, steps_in}
use Rattle.build_statements.specs.declared.task.Target.{Target}
use Rattle.build_expressions.specs.Partial.{all_some, both}
use Rattle.build_expressions.specs.Scope as names
use Rattle.build_expressions.specs.Scope.{AgentMeaning, SignalMeaning, agent_in, signal_in, value_in}
use Rattle.build_expressions.specs.Typing.{Typed, term_in}
use Rattle.build_expressions.specs.declared.context.Context.TheVariants.{Transition}
use Rattle.build_expressions.specs.declared.operand_sort.OperandSort.{OperandSort}
use Rattle.build_expressions.specs.declared.scope.ValueMeaning.{ValueMeaning}
use Rattle.build_expressions.specs.declared.scope.ValueMeaning.TheVariants as meant
use Rattle.laws_sound_processes.specs.BodyLaws.{BodiesAreTyped, TransitionsAreTyped}
use Rattle.laws_sound_processes.specs.Typed.{HasSomeKind, IsSoundContext, IsTypedAction, IsTypedAssigning, IsTypedBody, IsTypedSending, IsTypedSetting, IsTypedTerminator, IsTypedTiming, IsTypedWhen, IsTypedWhither}
use Rattle.laws_sound_runs.specs.Paths.{EveryPart}
use Rattle.laws_sound_runs.proofs.KindLemmas.{Kinded, TermOf, listed-terms-fit, placed-terms-fit, typed-kinded}
use Rattle.laws_sound_runs.specs.Kinds.{FitPlaces, FitsPlace}
use Rattle.laws_sound_runs.specs.Scopes.{IsSoundAgent, IsSoundSignal, IsSoundValue, parameter_sorts}
use Rattle.sdl_system.specs.Body as body
use Rattle.sdl_system.specs.Body.{Action, Body}
use Rattle.sdl_system.specs.Soundness.{IsState}
use Rattle.sdl_system.specs.System.{SystemValue}
use Rattle.sdl_system.specs.Term.{Term, terms_of}
use Rattle.sdl_system.specs.declared.process.Process.{Process}
use Rattle.sdl_system.specs.declared.sort.Sort.{Sort}
use Rattle.sdl_system.specs.declared.sort.Sort.TheVariants as sorts
use Rattle.sdl_tree.specs.Tree as tree
use Rattle.sdl_tree.specs.Tree.{Applied, Assignment, Expr}
use Rattle.sdl_tree.specs.Words.{Spot}

-- ---- what holds of a value, where it is there

abbrev pub Holds : {A : Type 0} → (A → Type 0) → Option A → Type 0
Holds P None = Unit {0}
Holds P (Some x) = P x

pub holds-of : {A : Type 0} (P : A → Type 0) (found : Option A) → ((x : A) → found ≡ Some x → P x) → Holds P found
holds-of P None each = tt
holds-of P (Some x) each = each x refl

pub holds-map : {A B : Type 0} (P : A → Type 0) (Q : B → Type 0) (f : A → B) (found : Option A) →
    ((x : A) → P x → Q (f x)) → Holds P found → Holds Q (option_map f found)
holds-map P Q f None each has = tt
holds-map P Q f (Some x) each has = each x has

pub holds-both : {A B C : Type 0} (P : A → Type 0) (Q : B → Type 0) (R : C → Type 0) (f : A → B → C) (a : Option A)
    (b : Option B) → ((x : A) (y : B) → P x → Q y → R (f x y)) → Holds P a → Holds Q b → Holds R (both f a b)
holds-both P Q R f None b each has also = tt
holds-both P Q R f (Some x) None each has also = tt
holds-both P Q R f (Some x) (Some y) each has also = each x y has also

cons-all : {A : Type 0} (P : A → Type 0) (first : Option A) (rest : Option (List A)) → Holds P first →
    Holds (All P) rest → Holds (All P) (both ◌∷◌ first rest)
cons-all P first rest has also =
    holds-both P (All P) (All P) ◌∷◌ first rest (λ x xs one others. All-cons P x xs one others) has also

each-holds : {A B : Type 0} (P : B → Type 0) (f : A → Option B) → ((x : A) → Holds P (f x)) → (xs : List A) →
    Holds (All P) (all_some (map f xs))
each-holds P f each [] = All-nil P
each-holds P f each (x ∷ xs) = cons-all P (f x) (all_some (map f xs)) (each x) (each-holds P f each xs)

-- each of two lists
abbrev Each : {A : Type 0} → (A → Type 0) → List (Option A) → Type 0
Each P [] = Unit {0}
Each P (x ∷ xs) = Holds P x × Each P xs

each-some : {A : Type 0} (P : A → Type 0) (xs : List (Option A)) → Each P xs → Holds (All P) (all_some xs)
each-some P [] each = All-nil P
each-some P (x ∷ xs) each = cons-all P x (all_some xs) each.0 (each-some P xs each.1)

each-append : {A : Type 0} (P : A → Type 0) (xs ys : List (Option A)) → Each P xs → Each P ys → Each P (xs ++ ys)
each-append P [] ys each also = also
each-append P (x ∷ xs) ys each also = (each.0, each-append P xs ys each.1 also)

each-map : {A B : Type 0} (P : B → Type 0) (f : A → Option B) → ((x : A) → Holds P (f x)) → (xs : List A) →
    Each P (map f xs)
each-map P f each [] = tt
each-map P f each (x ∷ xs) = (each x, each-map P f each xs)

each-group : {A B : Type 0} (P : B → Type 0) (f : A → Option B) → ((x : A) → Holds P (f x)) →
    (groups : List (List A)) → Each P (flat_map (map f) groups)
each-group P f each [] = tt
each-group P f each (group ∷ groups) =
    each-append P (map f group) (flat_map (map f) groups) (each-map P f each group) (each-group P f each groups)

module _ (system : SystemValue) (process : Process) (context : Context)
    (sound : IsSoundContext system process context) where
  -- ---- values

  value-fits : (sort : Sort) (value : Expr) →
      Holds (FitsPlace system process sort) (value_for context (Some sort) value)
  value-fits sort value =
      holds-of (FitsPlace system process sort) (value_for context (Some sort) value)
      (λ term is. placed-terms-fit system process Transition context.scope sort value term sound.scope is)

  values-fit : (places : List Sort) (values : List Expr) →
      Holds (λ terms. FitPlaces system process places (terms_of terms)) (values_for context (map Some places) values)
  values-fit places values =
      holds-of (λ terms. FitPlaces system process places (terms_of terms)) (values_for context (map Some places) values)
      (λ terms is. listed-terms-fit system process Transition context.scope places values terms sound.scope is)

  -- ---- task

  -- a value for a variable, where the name stands for one
  assigned-typed : (found : Option ValueMeaning) (value : Expr) →
      ((meaning : ValueMeaning) → found ≡ Some meaning → IsSoundValue process meaning) →
      Holds (IsTypedAssigning system process)
      (both assigned (target_of found) (value_for context (sort_of (target_of found)) value))
  assigned-typed None value is = tt
  assigned-typed (Some (meant.Synonym sort constant)) value is = tt
  assigned-typed (Some (meant.Variable number sort)) value is =
      let has : IsSoundValue process (meant.Variable number sort) = is (meant.Variable number sort) refl in
      let target : Target = record { number = number; sort = sort } in
      holds-map (FitsPlace system process (has.0).sort) (IsTypedAssigning system process) (assigned target)
      (value_for context sort value)
      (λ term fits. record { variable = has.0; listed = has.1; fits = fits })
      (subst (λ (s : Option Sort). Holds (FitsPlace system process (has.0).sort) (value_for context s value))
      (sym has.2) (value-fits (has.0).sort value))

  assigning-typed : (assignment : Assignment) →
      Holds (IsTypedAssigning system process) (assigning_in context assignment)
  assigning-typed assignment =
      assigned-typed (value_in context.scope assignment.variable.text) assignment.value
      (sound.scope.values assignment.variable.text)

  task-typed : (assignments : List Assignment) → Holds (IsTypedAction system process) (task_in context assignments)
  task-typed assignments =
      holds-map (All (IsTypedAssigning system process)) (IsTypedAction system process) body.task
      (all_some (map (assigning_in context) assignments)) (λ list has. has)
      (each-holds (IsTypedAssigning system process) (assigning_in context) assigning-typed assignments)

  -- ---- output

  sent-typed : (values : List Expr) (found : Option SignalMeaning) →
      ((meaning : SignalMeaning) → found ≡ Some meaning → IsSoundSignal system meaning) →
      Holds (IsTypedSending system process) (sent_as context values found)
  sent-typed values None is = tt
  sent-typed values (Some (names.timer number places has_default)) is = tt
  sent-typed values (Some (names.signal number places)) is =
      let has : IsSoundSignal system (names.signal number places) = is (names.signal number places) refl in
      holds-map (λ terms. FitPlaces system process (has.0).sorts.items (terms_of terms)) (IsTypedSending system process)
      (sent number) (values_for context places values)
      (λ terms fits. record { signal = has.0; listed = has.1; none = has.3; fits = fits })
      (subst (λ (list : List (Option Sort)).
      Holds (λ terms. FitPlaces system process (has.0).sorts.items (terms_of terms)) (values_for context list values))
      (sym has.2) (values-fit (has.0).sorts.items values))

  sending-typed : (applied : Applied) → Holds (IsTypedSending system process) (sending_in context applied)
  sending-typed applied =
      sent-typed applied.values (signal_in context.scope applied.name.text) (sound.scope.signals applied.name.text)

  process-typed : (found : Option AgentMeaning) →
      ((meaning : AgentMeaning) → found ≡ Some meaning → IsSoundAgent system meaning) →
      Holds (IsTypedWhither system process) (process_of found)
  process-typed None is = tt
  process-typed (Some names.block) is = tt
  process-typed (Some (names.process number places)) is =
      let has : IsSoundAgent system (names.process number places) = is (names.process number places) refl in
      slice_get_within system.processes number.0 has.0 has.1

  whither-typed : (value : Expr) (name : Option Spot) →
      Holds (IsTypedWhither system process) (whither_of context value name)
  whither-typed value None =
      holds-map (FitsPlace system process sorts.Pid) (IsTypedWhither system process) body.to_pid
      (value_for context (Some sorts.Pid) value) (λ term fits. fits) (value-fits sorts.Pid value)
  whither-typed value (Some name) =
      process-typed (agent_in context.scope name.text) (sound.scope.agents name.text)

  destination-typed : (destination : Option tree.Destination) →
      Holds (λ to. IfSome to (IsTypedWhither system process)) (sent_to context destination)
  destination-typed None = tt
  destination-typed (Some destination) =
      holds-map (IsTypedWhither system process) (λ to. IfSome to (IsTypedWhither system process)) Some
      (whither_in context destination.value) (λ to has. has)
      (whither-typed destination.value (agent_name context.scope destination.value))

  output-typed : (outputs : List Applied) (destination : Option tree.Destination) →
      Holds (IsTypedAction system process) (output_in context outputs destination)
  output-typed outputs destination =
      holds-both (All (IsTypedSending system process)) (λ to. IfSome to (IsTypedWhither system process))
      (IsTypedAction system process) body.output (all_some (map (sending_in context) outputs))
      (sent_to context destination) (λ signals to has also. (has, also))
      (each-holds (IsTypedSending system process) (sending_in context) sending-typed outputs)
      (destination-typed destination)

  -- ---- set and reset

  timed-typed : (values : List Expr) (found : Option SignalMeaning) →
      ((meaning : SignalMeaning) → found ≡ Some meaning → IsSoundSignal system meaning) →
      Holds (IsTypedTiming system process) (timed_as context values found)
  timed-typed values None is = tt
  timed-typed values (Some (names.signal number places)) is = tt
  timed-typed values (Some (names.timer number places has_default)) is =
      let has : IsSoundSignal system (names.timer number places has_default) =
      is (names.timer number places has_default) refl in
      holds-map (λ terms. FitPlaces system process (has.0).sorts.items (terms_of terms)) (IsTypedTiming system process)
      (timed number) (values_for context places values)
      (λ terms fits. record { signal = has.0; timer = has.1; listed = has.2; some = has.4; fits = fits })
      (subst (λ (list : List (Option Sort)).
      Holds (λ terms. FitPlaces system process (has.0).sorts.items (terms_of terms)) (values_for context list values))
      (sym has.3) (values-fit (has.0).sorts.items values))

  timing-typed : (applied : Applied) → Holds (IsTypedTiming system process) (timing_in context applied)
  timing-typed applied =
      timed-typed applied.values (signal_in context.scope applied.name.text) (sound.scope.signals applied.name.text)

  when-typed : (name : Spot) (time : Option Expr) → Holds (IsTypedWhen system process) (when_in context name time)
  when-typed name None =
      holds-map (λ ticks. Unit {0}) (IsTypedWhen system process) body.after
      (default_of context (signal_in context.scope name.text)) (λ ticks has. tt)
      (holds-of (λ ticks. Unit {0}) (default_of context (signal_in context.scope name.text)) (λ ticks is. tt))
  when-typed name (Some time) =
      holds-map (FitsPlace system process sorts.Time) (IsTypedWhen system process) body.at
      (value_for context (Some sorts.Time) time) (λ term fits. fits) (value-fits sorts.Time time)

  setting-typed : (clause : tree.SetClause) → Holds (IsTypedSetting system process) (setting_in context clause)
  setting-typed clause =
      holds-both (IsTypedTiming system process) (IsTypedWhen system process) (IsTypedSetting system process) set_for
      (timing_in context clause.timer) (when_in context clause.timer.name clause.time)
      (λ timing due has also. (has, also)) (timing-typed clause.timer) (when-typed clause.timer.name clause.time)

  set-typed : (clauses : List tree.SetClause) → Holds (IsTypedAction system process) (set_in context clauses)
  set-typed clauses =
      holds-map (All (IsTypedSetting system process)) (IsTypedAction system process) body.set
      (all_some (map (setting_in context) clauses)) (λ list has. has)
      (each-holds (IsTypedSetting system process) (setting_in context) setting-typed clauses)

  reset-typed : (groups : List (List Applied)) → Holds (IsTypedAction system process) (reset_in context groups)
  reset-typed groups =
      holds-map (All (IsTypedTiming system process)) (IsTypedAction system process) body.reset
      (all_some (flat_map (map (timing_in context)) groups)) (λ list has. has)
      (each-some (IsTypedTiming system process) (flat_map (map (timing_in context)) groups)
      (each-group (IsTypedTiming system process) (timing_in context) timing-typed groups))

  -- ---- create

  created-typed : (values : List Expr) (found : Option AgentMeaning) →
      ((meaning : AgentMeaning) → found ≡ Some meaning → IsSoundAgent system meaning) →
      Holds (IsTypedAction system process) (created_as context values found)
  created-typed values None is = tt
  created-typed values (Some names.block) is = tt
  created-typed values (Some (names.process number places)) is =
      let has : IsSoundAgent system (names.process number places) = is (names.process number places) refl in
      holds-map (λ terms. FitPlaces system process (parameter_sorts has.0) (terms_of terms))
      (IsTypedAction system process) (body.create number) (values_for context places values)
      (λ terms fits. record { created = has.0; listed = has.1; takes = has.3; fits = fits })
      (subst (λ (list : List (Option Sort)).
      Holds (λ terms. FitPlaces system process (parameter_sorts has.0) (terms_of terms))
      (values_for context list values)) (sym has.2) (values-fit (parameter_sorts has.0) values))

  create-typed : (applied : Applied) → Holds (IsTypedAction system process) (create_in context applied)
  create-typed applied =
      created-typed applied.values (agent_in context.scope applied.name.text) (sound.scope.agents applied.name.text)

  -- ---- terminators

  terminator-typed : (terminator : tree.Terminator) →
      Holds (IsTypedTerminator process) (terminator_in context terminator)
  terminator-typed (tree.Next word (tree.Same dash)) = tt
  terminator-typed (tree.Next word (tree.To state)) =
      holds-map (IsState process) (IsTypedTerminator process) body.to_state (state_in context state.text)
      (λ number is. is) (holds-of (IsState process) (state_in context state.text) (sound.states state.text))
  terminator-typed (tree.Stop word) = tt
  terminator-typed (tree.Join word label) =
      holds-map (λ number. Unit {0}) (IsTypedTerminator process) body.join (label_in context label.text)
      (λ number is. tt) (holds-of (λ number. Unit {0}) (label_in context label.text) (λ number is. tt))

  -- ---- whole transitions

  labelled-typed : (name : Option Spot) (b : Option Body) → Holds (IsTypedBody system process) b →
      Holds (IsTypedBody system process) (labelled context name b)
  labelled-typed None b has = has
  labelled-typed (Some name) b has =
      holds-both (λ number. Unit {0}) (IsTypedBody system process) (IsTypedBody system process) body.label
      (label_in context name.text) b (λ number rest is also. also)
      (holds-of (λ number. Unit {0}) (label_in context name.text) (λ number is. tt)) has

  ending-typed : (ending : Option tree.Ending) → Holds (IsTypedBody system process) (ending_in context ending)
  ending-typed None = tt
  ending-typed (Some ending) =
      labelled-typed ending.label (option_map body.ending (terminator_in context ending.terminator))
      (holds-map (IsTypedTerminator process) (IsTypedBody system process) body.ending
      (terminator_in context ending.terminator) (λ terminator is. is) (terminator-typed ending.terminator))

  abbrev IsTypedParts : body.Parts → Type 0
  IsTypedParts parts =
      EveryPart (IsTypedAction system process) (HasSomeKind system process) (IsTypedTerminator process) parts

  abbrev IsTypedHead : Head → Type 0
  IsTypedHead (acts action) = IsTypedAction system process action
  IsTypedHead (asks question parts) = HasSomeKind system process question × IsTypedParts parts

  before-typed : (h : Head) (rest : Body) → IsTypedHead h → IsTypedBody system process rest →
      IsTypedBody system process (before h rest)
  before-typed (acts action) rest has also = (has, also)
  before-typed (asks question parts) rest has also = (has.0, has.1, also)

  abbrev ArePieces : List Piece → Type 0
  ArePieces [] = Unit {0}
  ArePieces (first ∷ rest) = IsTypedBody system process first.body × ArePieces rest

  parts-typed : (pieces : List Piece) (other : Option Body) → ArePieces pieces →
      Holds (IsTypedBody system process) other → IsTypedParts (parts_of pieces other)
  parts-typed [] None has also = tt
  parts-typed [] (Some b) has also = also
  parts-typed (first ∷ rest) other has also = (has.0, parts-typed rest other has.1 also)

  question-kinded : (typed : Option Typed) → Kinded system process typed →
      Holds (HasSomeKind system process) (term_in typed)
  question-kinded None has = tt
  question-kinded (Some typed) has = of-term typed.kind typed.term has
    where
      of-term : (kind : OperandSort) (term : Option Term) →
          TermOf system process kind term →
          Holds (HasSomeKind system process) term
      of-term kind None has = tt
      of-term kind (Some term) has = record { kind = kind; is = has }

  mutual
    pub body-typed : (transition : tree.Transition) → Holds (IsTypedBody system process) (body_in context transition)
    body-typed (tree.Steps actions ending) =
        steps-typed actions (ending_in context ending) (ending-typed ending)

    steps-typed : (actions : tree.Actions) (end : Option Body) → Holds (IsTypedBody system process) end →
        Holds (IsTypedBody system process) (steps_in context actions end)
    steps-typed tree.NoAction end has = has
    steps-typed (tree.AndAction name first rest) end has =
        labelled-typed name (both before (head_in context first) (steps_in context rest end))
        (holds-both IsTypedHead (IsTypedBody system process) (IsTypedBody system process) before
        (head_in context first) (steps_in context rest end) before-typed (head-typed first)
        (steps-typed rest end has))

    head-typed : (first : tree.Action) → Holds IsTypedHead (head_in context first)
    head-typed (tree.Task word assignments) =
        holds-map (IsTypedAction system process) IsTypedHead acts (task_in context assignments) (λ action has. has)
        (task-typed assignments)
    head-typed (tree.Output word outputs destination) =
        holds-map (IsTypedAction system process) IsTypedHead acts (output_in context outputs destination)
        (λ action has. has) (output-typed outputs destination)
    head-typed (tree.Set word clauses) =
        holds-map (IsTypedAction system process) IsTypedHead acts (set_in context clauses) (λ action has. has)
        (set-typed clauses)
    head-typed (tree.Reset word groups) =
        holds-map (IsTypedAction system process) IsTypedHead acts (reset_in context groups) (λ action has. has)
        (reset-typed groups)
    head-typed (tree.Create word applied) =
        holds-map (IsTypedAction system process) IsTypedHead acts (create_in context applied) (λ action has. has)
        (create-typed applied)
    head-typed (tree.Decision word question parts other) =
        let typed = asked_in context question in
        let pieces = pieces_in context (kind_in typed) parts in
        holds-both (HasSomeKind system process) IsTypedParts IsTypedHead asks (term_in typed)
        (both parts_of pieces (other_in context other)) (λ term parts has also. (has, also))
        (question-kinded typed (typed-kinded system process Transition context.scope sound.scope question))
        (holds-both ArePieces (Holds (IsTypedBody system process)) IsTypedParts parts_of pieces (other_in context other)
        parts-typed (pieces-typed (kind_in typed) parts) (other-typed other))

    pieces-typed : (kind : Option OperandSort) (parts : tree.Parts) → Holds ArePieces (pieces_in context kind parts)
    pieces-typed kind tree.NoPart = tt
    pieces-typed kind (tree.AndPart answers transition rest) =
        let first = both piece (answers_in context kind answers) (body_in context transition) in
        holds-both (λ (one : Piece). IsTypedBody system process one.body) ArePieces ArePieces ◌∷◌ first
        (pieces_in context kind rest) (λ one others has also. (has, also))
        (holds-both (λ list. Unit {0}) (IsTypedBody system process)
        (λ (one : Piece). IsTypedBody system process one.body) piece (answers_in context kind answers)
        (body_in context transition) (λ list b has also. also)
        (holds-of (λ list. Unit {0}) (answers_in context kind answers) (λ list is. tt)) (body-typed transition))
        (pieces-typed kind rest)

    other-typed : (other : tree.Otherwise) → Holds (Holds (IsTypedBody system process)) (other_in context other)
    other-typed tree.NoElse = tt
    other-typed (tree.Else transition) =
        holds-map (IsTypedBody system process) (Holds (IsTypedBody system process)) Some (body_in context transition)
        (λ b has. has) (body-typed transition)

  -- ---- all transitions of a process

  beginning-typed : (b : Beginning) → Holds (IsTypedBody system process) (beginning_body context b)
  beginning-typed b = labelled-typed b.label (body_in context b.transition) (body-typed b.transition)

  among-typed : (list : List Beginning) (bodies : List Body) (number : ℕ) (whole : Body) →
      bodies_among context list ≡ map Some bodies → slice_get bodies number ≡ Some whole →
      IsTypedBody system process whole
  among-typed [] [] zero whole is at = absurd (let never : ⊥ = cc in never)
  among-typed [] [] (suc number) whole is at = absurd (let never : ⊥ = cc in never)
  among-typed [] (x ∷ bodies) number whole is at = absurd (let never : ⊥ = cc in never)
  among-typed (b ∷ list) [] number whole is at = absurd (let never : ⊥ = cc in never)
  among-typed (b ∷ list) (x ∷ bodies) zero whole is at =
      let same : beginning_body context b ≡ Some whole = cc in
      subst (Holds (IsTypedBody system process)) same (beginning-typed b)
  among-typed (b ∷ list) (x ∷ bodies) (suc number) whole is at =
      let rest : bodies_among context list ≡ map Some bodies = cc in
      among-typed list bodies number whole rest at

pub transitions-are-typed : TransitionsAreTyped
transitions-are-typed system process context transition whole sound is =
    subst (Holds (IsTypedBody system process)) is (body-typed system process context sound transition)

pub bodies-are-typed : BodiesAreTyped
bodies-are-typed system process context definition bodies number whole sound is at =
    among-typed system process context sound (beginnings definition) bodies number whole is at
