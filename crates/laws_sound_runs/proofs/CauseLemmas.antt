-- Why transitions fail as Undefined.
use Rattle.std.proofs.Common.{◌≡◌, ◌∙◌, ◌⊎◌, ap, ℤ, ◌+ℤ◌, pos, true, false, Bool, List, [], ◌∷◌, Option, None, Some, Result, Ok, Err, if◌then◌else◌, inl, inr, refl}
use Rattle.port_model.specs.History.{PortEvent}
use Rattle.port_model.specs.Port.{PortState}
use Rattle.port_model.specs.declared.values.item.SignalId.{SignalId}
use Rattle.port_model.specs.declared.values.value.Value.{Value}
use Rattle.run_record.specs.Environment.{Environment, environment, sorts_of}
use Rattle.run_record.specs.Value.{accessed, asked, at_place, first_sort, followed, given, keyed, later_sorts, narrowed, operated, operated_on, placed, truth_in, value_at, value_of, values_of}
use Rattle.run_record.specs.Variables.{VariableList, value_in}
use Rattle.run_record.specs.declared.evaluation.identity.Identity.{Identity}
use Rattle.run_record.specs.declared.evaluation.store.Store.{Store}
use Rattle.run_record.specs.declared.failure.Failure.{Failure}
use Rattle.run_record.specs.declared.failure.Failure.TheVariants.{NoAnswer, Overflow, SetsSpent, TooLong, Undefined}
use Rattle.run_semantics.specs.Fails.{FailsIn, HasCause, both, conditions_of, due_by, later, named_by, parameters_of, pid_named, sent_by, set_by, ticks_later, ticks_of}
use Rattle.run_semantics.specs.Fails.{of_condition, of_continuous, of_event, of_take, of_trying}
use Rattle.run_semantics.specs.ControlPoint.{Amid, AtStart, Closed, Definition, Doing, Ended, In, ControlPoint, Receiving}
use Rattle.run_semantics.specs.Reception.{sort_in}
use Rattle.run_semantics.specs.Selection.{Tried, failing, fails, first_failure, tried, tried_or}
use Rattle.laws_sound_runs.proofs.PlaceLemmas.{comes-to-states}
use Rattle.laws_sound_runs.specs.Asked.{AskAny, AskListed, Asks, AsksAt, AsksWhen, AsksWhom, IsUnassigned, IsUnassignedIn}
use Rattle.laws_sound_runs.specs.RunLaws.{ConditionsAskUnassigned, UndefinedIsUnassigned}
use Rattle.laws_sound_runs.specs.States.{LeadsNowhere}
use Rattle.sdl_system.specs.Behaviour.{Behaviour, ContinuousSignal, StateMeaning}
use Rattle.sdl_system.specs.Body as body
use Rattle.sdl_system.specs.Body.{Sending, Setting, When, Whither}
use Rattle.sdl_system.specs.Operation as operations
use Rattle.sdl_system.specs.Operation.{applied, applied_to_one, is_in_range, ranged, truth_of}
use Rattle.sdl_system.specs.Sort.{as_sort}
use Rattle.sdl_system.specs.Term.{Term, Terms, constant, variable, now, pid, active, unary, binary, no_term, and_term, terms_of}
use Rattle.sdl_system.specs.declared.id.VariableId.{VariableId}
use Rattle.sdl_system.specs.declared.operation.Failure as operation
use Rattle.sdl_system.specs.declared.operation.Failure.TheVariants as cause
use Rattle.sdl_system.specs.declared.operation.NumberSort.TheVariants as number
use Rattle.sdl_system.specs.declared.operation.Operation.{Operation}
use Rattle.sdl_system.specs.declared.operation.UnaryOperation.{UnaryOperation}
use Rattle.sdl_system.specs.declared.sort.Sort.{Sort}
use Rattle.sdl_system.specs.declared.sort.Sort.TheVariants as sort

-- ---- one of the variables that are asked for has no value

record IsUnset (variables : VariableList) (asks : VariableId → Type 0) : Type 0 where
  one : VariableId
  is_asked : asks one
  none : value_in variables one ≡ None

-- where it is undefined, one has none
abbrev Caused : {T : Type 0} → VariableList → (VariableId → Type 0) → Result T Failure → Type 0
Caused variables asks (Ok value) = Unit {0}
Caused variables asks (Err why) = why ≡ Undefined → IsUnset variables asks

widened : (variables : VariableList) (few many : VariableId → Type 0) → ((n : VariableId) → few n → many n) →
    IsUnset variables few → IsUnset variables many
widened variables few many wide unset =
    record { one = unset.one; is_asked = wide unset.one unset.is_asked; none = unset.none }

caused-wide : {T : Type 0} (variables : VariableList) (few many : VariableId → Type 0) (answer : Result T Failure) →
    ((n : VariableId) → few n → many n) → Caused variables few answer → Caused variables many answer
caused-wide variables few many (Ok value) wide caused = tt
caused-wide variables few many (Err why) wide caused = λ is. widened variables few many wide (caused is)

module _ (variables : VariableList) (asks : VariableId → Type 0) where
  caused-given : (answer : Result Value operation.Failure) → Caused variables asks (given answer)
  caused-given (Ok value) = tt
  caused-given (Err cause.Overflow) = λ is. absurd (let never : ⊥ = cc in never)
  caused-given (Err cause.ZeroDivisor) = λ is. absurd (let never : ⊥ = cc in never)

  caused-accessed : (n : VariableId) (found : Option Value) → value_in variables n ≡ found → asks n →
      Caused variables asks (accessed found)
  caused-accessed n None is has = λ undefined. record { one = n; is_asked = has; none = is }
  caused-accessed n (Some value) is has = tt

  caused-operated-on : (o : UnaryOperation) (operand : Result Value Failure) → Caused variables asks operand →
      Caused variables asks (operated_on o operand)
  caused-operated-on o (Ok value) caused = caused-given (applied_to_one o value)
  caused-operated-on o (Err why) caused = caused

  caused-operated : (o : Operation) (left right : Result Value Failure) → Caused variables asks left →
      Caused variables asks right → Caused variables asks (operated o left right)
  caused-operated o (Err why) right caused also = caused
  caused-operated o (Ok value) (Err why) caused also = also
  caused-operated o (Ok value) (Ok other) caused also = caused-given (applied o value other)

  caused-narrowed : (there : Option Value) → Caused variables asks (narrowed there)
  caused-narrowed None = λ is. absurd (let never : ⊥ = cc in never)
  caused-narrowed (Some value) = tt

  caused-placed : (place : Option Sort) (value : Value) → Caused variables asks (placed place value)
  caused-placed None value = tt
  caused-placed (Some one) value = caused-narrowed (as_sort one value)

  caused-at : (place : Option Sort) (answer : Result Value Failure) → Caused variables asks answer →
      Caused variables asks (at_place place answer)
  caused-at place (Err why) caused = caused
  caused-at place (Ok value) caused = caused-placed place value

  caused-followed : (first : Result Value Failure) (rest : Result (List Value) Failure) →
      Caused variables asks first → Caused variables asks rest → Caused variables asks (followed first rest)
  caused-followed (Err why) rest caused also = caused
  caused-followed (Ok first) (Err why) caused also = also
  caused-followed (Ok first) (Ok rest) caused also = tt

  caused-keyed : (timer : SignalId) (values : Result (List Value) Failure) → Caused variables asks values →
      Caused variables asks (keyed timer values)
  caused-keyed timer (Ok values) caused = tt
  caused-keyed timer (Err why) caused = caused

  caused-asked : (here : Environment) (timer : SignalId) (values : Result (List Value) Failure) →
      Caused variables asks values → Caused variables asks (asked here (keyed timer values))
  caused-asked here timer (Ok values) caused = tt
  caused-asked here timer (Err why) caused = caused

  caused-both : {A B : Type 0} (first : Result A Failure) (second : Result B Failure) → Caused variables asks first →
      Caused variables asks second → Caused variables asks (both first second)
  caused-both (Err why) second caused also = caused
  caused-both (Ok first) (Err why) caused also = also
  caused-both (Ok first) (Ok second) caused also = tt

module _ (here : Environment) where
  mutual
    caused-term : (term : Term) → Caused here.variables (λ n. Asks n term) (value_of here term)
    caused-term (constant value) = tt
    caused-term (variable n) =
        caused-accessed here.variables (λ m. Asks m (variable n)) n (value_in here.variables n) refl refl
    caused-term now =
        caused-given here.variables (λ n. Asks n now) (operations.value_in number.Time (ranged (pos here.now)))
    caused-term (pid who) = tt
    caused-term (active timer values) =
        caused-asked here.variables (λ n. AskAny n values) here timer (values_of here (here.sorts timer) values)
        (caused-terms (here.sorts timer) values)
    caused-term (unary o operand) =
        caused-operated-on here.variables (λ n. Asks n operand) o (value_of here operand) (caused-term operand)
    caused-term (binary o left right) =
        caused-operated here.variables (λ n. Asks n left ⊎ Asks n right) o (value_of here left) (value_of here right)
        (caused-wide here.variables (λ n. Asks n left) (λ n. Asks n left ⊎ Asks n right) (value_of here left)
        (λ n has. inl has) (caused-term left))
        (caused-wide here.variables (λ n. Asks n right) (λ n. Asks n left ⊎ Asks n right) (value_of here right)
        (λ n has. inr has) (caused-term right))

    caused-terms : (sorts : List Sort) (terms : Terms) →
        Caused here.variables (λ n. AskAny n terms) (values_of here sorts terms)
    caused-terms sorts no_term = tt
    caused-terms sorts (and_term first rest) =
        let asks : VariableId → Type 0 = λ n. Asks n first ⊎ AskAny n rest in
        caused-followed here.variables asks (at_place (first_sort sorts) (value_of here first))
        (values_of here (later_sorts sorts) rest)
        (caused-at here.variables asks (first_sort sorts) (value_of here first)
        (caused-wide here.variables (λ n. Asks n first) asks (value_of here first) (λ n has. inl has)
        (caused-term first)))
        (caused-wide here.variables (λ n. AskAny n rest) asks (values_of here (later_sorts sorts) rest)
        (λ n has. inr has) (caused-terms (later_sorts sorts) rest))

  -- ---- what statements evaluate

  caused-pid : (term : Term) (answer : Result Value Failure) → Caused here.variables (λ n. Asks n term) answer →
      Caused here.variables (λ n. Asks n term) (pid_named answer)
  caused-pid term (Err why) caused = caused
  caused-pid term (Ok value) caused = tt

  caused-whom : (to : Option Whither) → Caused here.variables (λ n. AsksWhom n to) (named_by here to)
  caused-whom None = tt
  caused-whom (Some (body.to_process process)) = tt
  caused-whom (Some (body.to_pid term)) =
      caused-pid term (value_at here sort.Pid term)
      (caused-at here.variables (λ n. Asks n term) (Some sort.Pid) (value_of here term) (caused-term term))

  caused-ticks : (term : Term) (answer : Result Value Failure) → Caused here.variables (λ n. Asks n term) answer →
      Caused here.variables (λ n. Asks n term) (ticks_of answer)
  caused-ticks term (Err why) caused = caused
  caused-ticks term (Ok value) caused = tt

  -- a time that is out of range is no variable without a value
  caused-range : (asks : VariableId → Type 0) (time : ℤ) (fits : Bool) →
      Caused here.variables asks (ticks_later (if fits then Ok time else Err Overflow))
  caused-range asks time true = tt
  caused-range asks time false = λ is. absurd (let never : ⊥ = cc in never)

  caused-later : (asks : VariableId → Type 0) (first second : Bool) (time : ℤ) →
      Caused here.variables asks
      (ticks_later (if first then (if second then Ok time else Err Overflow) else Err Overflow))
  caused-later asks true second time = caused-range asks time second
  caused-later asks false second time = λ is. absurd (let never : ⊥ = cc in never)

  caused-due : (due : When) → Caused here.variables (λ n. AsksWhen n due) (due_by here due)
  caused-due (body.at time) =
      caused-ticks time (value_at here sort.Time time)
      (caused-at here.variables (λ n. Asks n time) (Some sort.Time) (value_of here time) (caused-term time))
  caused-due (body.after ticks) =
      caused-later (λ n. ⊥) (is_in_range (pos here.now)) (is_in_range (pos here.now +ℤ ticks)) (pos here.now +ℤ ticks)

  caused-key : (timer : SignalId) (terms : List Term) →
      Caused here.variables (λ n. AskListed n terms) (keyed timer (values_of here (here.sorts timer) (terms_of terms)))
  caused-key timer terms =
      caused-keyed here.variables (λ n. AskListed n terms) timer (values_of here (here.sorts timer) (terms_of terms))
      (caused-terms (here.sorts timer) (terms_of terms))

  caused-set : (one : Setting) →
      Caused here.variables (λ n. AsksWhen n one.due ⊎ AskListed n (one.timer).values) (set_by here one)
  caused-set one =
      let asks : VariableId → Type 0 = λ n. AsksWhen n one.due ⊎ AskListed n (one.timer).values in
      let key = keyed (one.timer).timer (values_of here (here.sorts (one.timer).timer) (terms_of (one.timer).values)) in
      caused-both here.variables asks (due_by here one.due) key
      (caused-wide here.variables (λ n. AsksWhen n one.due) asks (due_by here one.due) (λ n has. inl has)
      (caused-due one.due))
      (caused-wide here.variables (λ n. AskListed n (one.timer).values) asks key (λ n has. inr has)
      (caused-key (one.timer).timer (one.timer).values))

  -- ---- conditions

  abbrev UnsetAmong : List Term → Type 0
  UnsetAmong terms = IsUnset here.variables (λ n. AskListed n terms)

  of-first : (term : Term) (rest : List Term) → IsUnset here.variables (λ n. Asks n term) → UnsetAmong (term ∷ rest)
  of-first term rest unset =
      widened here.variables (λ n. Asks n term) (λ n. AskListed n (term ∷ rest)) (λ n has. inl has) unset

  of-rest : (term : Term) (rest : List Term) → UnsetAmong rest → UnsetAmong (term ∷ rest)
  of-rest term rest unset =
      widened here.variables (λ n. AskListed n rest) (λ n. AskListed n (term ∷ rest)) (λ n has. inr has) unset

  failing-by : (term : Term) (rest : List Term) (answer : Result Value Failure) (later : Option Failure) →
      Caused here.variables (λ n. Asks n term) answer → (later ≡ Some Undefined → UnsetAmong rest) →
      failing (truth_in answer) later ≡ Some Undefined → UnsetAmong (term ∷ rest)
  failing-by term rest (Err why) later caused by_rest is =
      of-first term rest (caused (let same : why ≡ Undefined = cc in same))
  failing-by term rest (Ok value) later caused by_rest is = of-rest term rest (by_rest is)

  enabling-unset : (terms : List Term) → first_failure here terms ≡ Some Undefined → UnsetAmong terms
  enabling-unset [] is = absurd (let never : ⊥ = cc in never)
  enabling-unset (term ∷ rest) is =
      failing-by term rest (value_of here term) (first_failure here rest) (caused-term term) (enabling-unset rest) is

  tried-if : (truth : Bool) (signal : ContinuousSignal) (later : Tried) (terms : List Term) →
      (later ≡ fails Undefined → UnsetAmong terms) → tried_or (Ok truth) signal later ≡ fails Undefined →
      UnsetAmong terms
  tried-if true signal later terms by_rest is = absurd (let never : ⊥ = cc in never)
  tried-if false signal later terms by_rest is = by_rest is

  tried-by : (signal : ContinuousSignal) (rest : List ContinuousSignal) (answer : Result Value Failure)
      (later : Tried) → Caused here.variables (λ n. Asks n signal.condition) answer →
      (later ≡ fails Undefined → UnsetAmong (conditions_of rest)) →
      tried_or (truth_in answer) signal later ≡ fails Undefined → UnsetAmong (conditions_of (signal ∷ rest))
  tried-by signal rest (Err why) later caused by_rest is =
      of-first signal.condition (conditions_of rest) (caused (let same : why ≡ Undefined = cc in same))
  tried-by signal rest (Ok value) later caused by_rest is =
      tried-if (truth_of value) signal later (conditions_of (signal ∷ rest))
      (λ same. of-rest signal.condition (conditions_of rest) (by_rest same)) is

  continuous-unset : (signals : List ContinuousSignal) → tried here signals ≡ fails Undefined →
      UnsetAmong (conditions_of signals)
  continuous-unset [] is = absurd (let never : ⊥ = cc in never)
  continuous-unset (signal ∷ rest) is =
      tried-by signal rest (value_of here signal.condition) (tried here rest) (caused-term signal.condition)
      (continuous-unset rest) is

  state-unset : (p : Behaviour) (state : StateMeaning) (calls : List PortEvent) (why : Failure) →
      FailsIn p state here calls why → why ≡ Undefined → IsUnassignedIn here.variables state
  state-unset p state _ _ (of_condition why first) is =
      let unset = enabling-unset state.enabling (first ∙ ap (λ (f : Failure). Some f) is) in
      record { number = unset.one; asked = inl unset.is_asked; unset = unset.none }
  state-unset p state _ _ of_take is = absurd (let never : ⊥ = cc in never)
  state-unset p state _ _ (of_event classes taken selects given) is = absurd (let never : ⊥ = cc in never)
  state-unset p state _ _ (of_continuous classes why selects trying) is =
      let unset = continuous-unset state.continuous (trying ∙ ap (λ (f : Failure). fails f) is) in
      record { number = unset.one; asked = inr unset.is_asked; unset = unset.none }
  state-unset p state _ _ (of_trying classes selects wants) is = absurd (let never : ⊥ = cc in never)

module _ (d : Definition) (who : Identity) (q : PortState) (s : Store) where
  abbrev here : Environment
  here = environment d.system who s q

  caused-sent : (to : Option Whither) (one : Sending) →
      Caused s.variables (λ n. AsksWhom n to ⊎ AskListed n one.values) (sent_by d.system here to one)
  caused-sent to one =
      let asks : VariableId → Type 0 = λ n. AsksWhom n to ⊎ AskListed n one.values in
      let values = values_of here (sorts_of d.system one.signal) (terms_of one.values) in
      caused-both s.variables asks (named_by here to) values
      (caused-wide s.variables (λ n. AsksWhom n to) asks (named_by here to) (λ n has. inl has) (caused-whom here to))
      (caused-wide s.variables (λ n. AskListed n one.values) asks values (λ n has. inr has)
      (caused-terms here (sorts_of d.system one.signal) (terms_of one.values)))

  -- what has failed as Undefined
  failed : {T : Type 0} (asks : VariableId → Type 0) (answer : Result T Failure) → Caused s.variables asks answer →
      answer ≡ Err Undefined → IsUnset s.variables asks
  failed asks (Ok value) caused is = absurd (let never : ⊥ = cc in never)
  failed asks (Err why) caused is = caused (let same : why ≡ Undefined = cc in same)

  at-place : (place : ControlPoint) → IsUnset s.variables (λ n. AsksAt n place) → IsUnassigned s.variables place
  at-place place unset = record { number = unset.one; asked = unset.is_asked; unset = unset.none }

  no-unset : {A : Type 0} → IsUnset s.variables (λ n. ⊥) → A
  no-unset unset = absurd unset.is_asked

  too-long : {A : Type 0} → Undefined ≡ TooLong → A
  too-long is = absurd (let never : ⊥ = cc in never)

  no-answer : {A : Type 0} → Undefined ≡ NoAnswer → A
  no-answer is = absurd (let never : ⊥ = cc in never)

  spent : {A : Type 0} → Undefined ≡ SetsSpent → A
  spent is = absurd (let never : ⊥ = cc in never)

  unassigned : (place : ControlPoint) → (LeadsNowhere d place → ⊥) → HasCause d who q place s Undefined →
      IsUnassigned s.variables place
  unassigned AtStart leads has = absurd has
  unassigned (In n) leads has = absurd has
  unassigned (Receiving origin (Some target ∷ variables) (value ∷ values) rest) leads has =
      no-unset (failed (λ n. ⊥) (placed (sort_in d.behaviour target) value)
      (caused-placed s.variables (λ n. ⊥) (sort_in d.behaviour target) value) has)
  unassigned (Receiving origin variables values rest) leads has = absurd has
  unassigned (Doing origin body.nothing) leads has = absurd has
  unassigned (Doing origin (body.action first rest)) leads has = too-long has.0
  unassigned (Doing origin (body.decision question parts rest)) leads (inl long) = too-long long.0
  unassigned (Doing origin (body.decision question parts rest)) leads (inr (inl failing_so)) =
      at-place (Doing origin (body.decision question parts rest))
      (failed (λ n. Asks n question) (value_of here question) (caused-term here question) failing_so.1)
  unassigned (Doing origin (body.decision question parts rest)) leads (inr (inr none)) = no-answer (none.1).told
  unassigned (Doing origin (body.label number rest)) leads has = absurd has
  unassigned (Doing origin (body.ending (body.join label))) leads has = too-long has.0
  unassigned (Doing origin (body.ending (body.to_state n))) leads has = absurd (leads has.1)
  unassigned (Doing None (body.ending body.to_same)) leads has = absurd (leads tt)
  unassigned (Doing (Some n) (body.ending body.to_same)) leads has = absurd (leads has.1)
  unassigned (Doing origin (body.ending body.stop)) leads has = absurd has
  unassigned (Amid origin (body.task []) rest) leads has = absurd has
  unassigned (Amid origin (body.task (one ∷ more)) rest) leads has =
      at-place (Amid origin (body.task (one ∷ more)) rest)
      (failed (λ n. Asks n one.value) (at_place (sort_in d.behaviour one.variable) (value_of here one.value))
      (caused-at s.variables (λ n. Asks n one.value) (sort_in d.behaviour one.variable) (value_of here one.value)
      (caused-term here one.value)) has)
  unassigned (Amid origin (body.output [] to) rest) leads has = absurd has
  unassigned (Amid origin (body.output (one ∷ more) to) rest) leads has =
      at-place (Amid origin (body.output (one ∷ more) to) rest)
      (failed (λ n. AsksWhom n to ⊎ AskListed n one.values) (sent_by d.system here to one) (caused-sent to one) has)
  unassigned (Amid origin (body.set []) rest) leads has = absurd has
  unassigned (Amid origin (body.set (one ∷ more)) rest) leads (inl failing_so) =
      at-place (Amid origin (body.set (one ∷ more)) rest)
      (failed (λ n. AsksWhen n one.due ⊎ AskListed n (one.timer).values) (set_by here one) (caused-set here one)
      failing_so)
  unassigned (Amid origin (body.set (one ∷ more)) rest) leads (inr is) = spent is.told
  unassigned (Amid origin (body.reset []) rest) leads has = absurd has
  unassigned (Amid origin (body.reset (one ∷ more)) rest) leads has =
      at-place (Amid origin (body.reset (one ∷ more)) rest)
      (failed (λ n. AskListed n one.values)
      (keyed one.timer (values_of here (here.sorts one.timer) (terms_of one.values)))
      (caused-key here one.timer one.values) has)
  unassigned (Amid origin (body.create process values) rest) leads has =
      at-place (Amid origin (body.create process values) rest)
      (failed (λ n. AskListed n values) (values_of here (parameters_of d.system process) (terms_of values))
      (caused-terms here (parameters_of d.system process) (terms_of values)) has)
  unassigned Ended leads has = absurd has
  unassigned Closed leads has = absurd has

pub undefined-is-unassigned : UndefinedIsUnassigned
undefined-is-unassigned d who place s t q r deeds history sound runs has =
    unassigned d who r t place (comes-to-states d who place s t q r deeds history sound runs) has

pub conditions-ask-unassigned : ConditionsAskUnassigned
conditions-ask-unassigned p state here calls has = state-unset here p state calls Undefined has refl
