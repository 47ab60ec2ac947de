-- Laws of evaluation.
use Rattle.std.proofs.Common.{◌≡◌, ◌∙◌, true, refl, ap, pos, Option, None, Some, Result, Ok, Err, List, subst}
use Rattle.std.specs.Option.{IfSome}
use Rattle.port_model.specs.Port.{PortState}
use Rattle.port_model.specs.declared.values.item.SignalId.{SignalId}
use Rattle.port_model.specs.declared.values.timer_key.TimerKey.{TimerKey}
use Rattle.port_model.specs.declared.values.value.Value.{Value}
use Rattle.port_model.specs.declared.values.value.Value.TheVariants as value
use Rattle.sdl_system.specs.Operation.{applied, applied_to_one, ranged, value_in}
use Rattle.sdl_system.specs.OperationLaws.{TakesSort}
use Rattle.sdl_system.specs.Sort.{as_sort, has_sort}
use Rattle.sdl_system.specs.System.{SystemValue}
use Rattle.sdl_system.specs.Term.{Term, Terms, constant, variable, now, pid, active, unary, binary, no_term, and_term, terms_of}
use Rattle.sdl_system.specs.declared.expression.PidExpression.{PidExpression}
use Rattle.sdl_system.specs.declared.expression.PidExpression.TheVariants.{SelfPid, Parent, Offspring, Sender}
use Rattle.sdl_system.specs.declared.operation.Failure as operation
use Rattle.sdl_system.specs.declared.operation.Failure.TheVariants as cause
use Rattle.sdl_system.specs.declared.operation.NumberSort.TheVariants as number
use Rattle.sdl_system.specs.declared.operation.Operation.{Operation}
use Rattle.sdl_system.specs.declared.operation.UnaryOperation.{UnaryOperation}
use Rattle.sdl_system.specs.declared.sort.Sort.{Sort}
use Rattle.run_record.specs.declared.failure.Failure.{Failure}
use Rattle.run_record.specs.Environment.{Environment, environment}
use Rattle.run_record.specs.Laws.{AreActiveInBoth, FailsByItself, FailsLeftFirst, FailsRight, HasSortOfPlace, KnowTheSame, ListsFailByThemselves, ListsReadWhatIsKnown, ReadsWhatIsKnown, is_of_evaluation}
use Rattle.run_record.specs.Value.{accessed, asked, at_place, first_sort, followed, given, keyed, later_sorts, narrowed, operated, operated_on, pid_in, time_value, value_of, values_of}
use Rattle.run_record.specs.Variables as variables
use Rattle.run_record.specs.declared.evaluation.identity.Identity.{Identity}
use Rattle.run_record.specs.declared.evaluation.store.Store.{Store}

-- ---- causes

-- a failure here is one of an evaluation
abbrev IsOwn : {T : Type 0} → Result T Failure → Type 0
IsOwn (Ok value) = Unit {0}
IsOwn (Err why) = is_of_evaluation why ≡ true

own-given : (answer : Result Value operation.Failure) → IsOwn (given answer)
own-given (Ok value) = tt
own-given (Err cause.Overflow) = refl
own-given (Err cause.ZeroDivisor) = refl

own-accessed : (value : Option Value) → IsOwn (accessed value)
own-accessed None = refl
own-accessed (Some value) = tt

own-operated_on : (operation : UnaryOperation) (operand : Result Value Failure) → IsOwn operand →
    IsOwn (operated_on operation operand)
own-operated_on operation (Ok operand) own = own-given (applied_to_one operation operand)
own-operated_on operation (Err why) own = own

own-operated : (operation : Operation) (left right : Result Value Failure) → IsOwn left → IsOwn right →
    IsOwn (operated operation left right)
own-operated operation (Ok left) (Ok right) own other = own-given (applied operation left right)
own-operated operation (Ok left) (Err why) own other = other
own-operated operation (Err why) right own other = own

own-narrowed : (value : Option Value) → IsOwn (narrowed value)
own-narrowed None = refl
own-narrowed (Some value) = tt

own-at_place : (place : Option Sort) (answer : Result Value Failure) → IsOwn answer → IsOwn (at_place place answer)
own-at_place place (Err why) own = own
own-at_place None (Ok value) own = tt
own-at_place (Some sort) (Ok value) own = own-narrowed (as_sort sort value)

own-followed : (first : Result Value Failure) (rest : Result (List Value) Failure) → IsOwn first → IsOwn rest →
    IsOwn (followed first rest)
own-followed (Ok first) (Ok rest) own other = tt
own-followed (Ok first) (Err why) own other = other
own-followed (Err why) rest own other = own

own-asked : (here : Environment) (timer : SignalId) (values : Result (List Value) Failure) → IsOwn values →
    IsOwn (asked here (keyed timer values))
own-asked here timer (Ok values) own = tt
own-asked here timer (Err why) own = own

mutual
  own-value_of : (here : Environment) (term : Term) → IsOwn (value_of here term)
  own-value_of here (constant value) = tt
  own-value_of here (variable number) = own-accessed (variables.value_in here.variables number)
  own-value_of here now = own-given (value_in number.Time (ranged (pos here.now)))
  own-value_of here (pid who) = tt
  own-value_of here (active timer values) =
      own-asked here timer (values_of here (here.sorts timer) values) (own-values_of here (here.sorts timer) values)
  own-value_of here (unary operation operand) =
      own-operated_on operation (value_of here operand) (own-value_of here operand)
  own-value_of here (binary operation left right) =
      own-operated operation (value_of here left) (value_of here right) (own-value_of here left)
      (own-value_of here right)

  own-values_of : (here : Environment) (sorts : List Sort) (terms : Terms) → IsOwn (values_of here sorts terms)
  own-values_of here sorts no_term = tt
  own-values_of here sorts (and_term first rest) =
      own-followed (at_place (first_sort sorts) (value_of here first)) (values_of here (later_sorts sorts) rest)
      (own-at_place (first_sort sorts) (value_of here first) (own-value_of here first))
      (own-values_of here (later_sorts sorts) rest)

pub fails_by_itself : FailsByItself
fails_by_itself here term why fails =
    let P : Result Value Failure → Type 0 = λ answer. IsOwn answer in
    subst P fails (own-value_of here term)

pub lists_fail_by_themselves : ListsFailByThemselves
lists_fail_by_themselves here sorts terms why fails =
    let P : Result (List Value) Failure → Type 0 = λ answer. IsOwn answer in
    subst P fails (own-values_of here sorts (terms_of terms))

-- ---- places

narrowed_sort : (sort : Sort) (there : Option Value) (value : Value) → IfSome there (λ v. has_sort sort v ≡ true) →
    narrowed there ≡ Ok value → has_sort sort value ≡ true
narrowed_sort sort None value has known = cc
narrowed_sort sort (Some v) value has known = let h : has_sort sort v ≡ true = has in cc

placed_sort : TakesSort → (sort : Sort) (answer : Result Value Failure) (value : Value) →
    at_place (Some sort) answer ≡ Ok value → has_sort sort value ≡ true
placed_sort takes sort (Err why) value known = cc
placed_sort takes sort (Ok v) value known = narrowed_sort sort (as_sort sort v) value (takes sort v) known

pub has_sort_of_place : TakesSort → HasSortOfPlace
has_sort_of_place takes here sort term value known = placed_sort takes sort (value_of here term) value known

-- ---- operands

pub fails_left_first : FailsLeftFirst
fails_left_first here operation left right why fails =
    ap (λ answer. operated operation answer (value_of here right)) fails

pub fails_right : FailsRight
fails_right here operation left right value why known fails =
    ap (λ answer. operated operation answer (value_of here right)) known
    ∙ ap (operated operation (Ok value)) fails

-- ---- what is read

-- the words of an expression stand for the same in both
record Agree (one other : Environment) : Type 0 where
  variables : one.variables ≡ other.variables
  pids : (word : PidExpression) → pid_in one word ≡ pid_in other word
  now : one.now ≡ other.now
  sorts : (timer : SignalId) → one.sorts timer ≡ other.sorts timer
  active : (key : TimerKey) → one.active key ≡ other.active key

asked-same : (one other : Environment) → Agree one other → (key : Result TimerKey Failure) →
    asked one key ≡ asked other key
asked-same one other same (Ok key) = ap (λ truth. Ok (value.Bool truth)) (same.active key)
asked-same one other same (Err why) = refl

mutual
  value_of-same : (one other : Environment) → Agree one other → (term : Term) → value_of one term ≡ value_of other term
  value_of-same one other same (constant value) = refl
  value_of-same one other same (variable number) =
      ap (λ list. accessed (variables.value_in list number)) same.variables
  value_of-same one other same now = ap time_value same.now
  value_of-same one other same (pid who) = ap (λ pid. Ok (value.Pid pid)) (same.pids who)
  value_of-same one other same (active timer values) =
      asked-same one other same (keyed timer (values_of one (one.sorts timer) values))
      ∙ ap (λ sorts. asked other (keyed timer (values_of one sorts values))) (same.sorts timer)
      ∙ ap (λ list. asked other (keyed timer list)) (values_of-same one other same (other.sorts timer) values)
  value_of-same one other same (unary operation operand) =
      ap (operated_on operation) (value_of-same one other same operand)
  value_of-same one other same (binary operation left right) =
      ap (λ answer. operated operation answer (value_of one right)) (value_of-same one other same left)
      ∙ ap (operated operation (value_of other left)) (value_of-same one other same right)

  values_of-same : (one other : Environment) → Agree one other → (sorts : List Sort) (terms : Terms) →
      values_of one sorts terms ≡ values_of other sorts terms
  values_of-same one other same sorts no_term = refl
  values_of-same one other same sorts (and_term first rest) =
      ap (λ answer. followed (at_place (first_sort sorts) answer) (values_of one (later_sorts sorts) rest))
      (value_of-same one other same first)
      ∙ ap (followed (at_place (first_sort sorts) (value_of other first)))
      (values_of-same one other same (later_sorts sorts) rest)

pids-same : (system : SystemValue) (who : Identity) (one other : Store) (first second : PortState) →
    KnowTheSame one other → (word : PidExpression) →
    pid_in (environment system who one first) word ≡ pid_in (environment system who other second) word
pids-same system who one other first second same SelfPid = refl
pids-same system who one other first second same Parent = refl
pids-same system who one other first second same Offspring = same.offspring
pids-same system who one other first second same Sender = same.sender

agree : (system : SystemValue) (who : Identity) (one other : Store) (first second : PortState) →
    KnowTheSame one other → AreActiveInBoth first second →
    Agree (environment system who one first) (environment system who other second)
agree system who one other first second same in_both = record {
  variables = same.variables;
  pids = pids-same system who one other first second same;
  now = same.time;
  sorts = λ timer. refl;
  active = in_both;
}

pub reads_what_is_known : ReadsWhatIsKnown
reads_what_is_known system who one other first second term same in_both =
    value_of-same (environment system who one first) (environment system who other second)
    (agree system who one other first second same in_both) term

pub lists_read_what_is_known : ListsReadWhatIsKnown
lists_read_what_is_known system who one other first second sorts terms same in_both =
    values_of-same (environment system who one first) (environment system who other second)
    (agree system who one other first second same in_both) sorts (terms_of terms)
