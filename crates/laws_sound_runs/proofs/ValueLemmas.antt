-- What terms of a kind come to.
use Rattle.std.proofs.Common.{◌≡◌, ℤ, pos, negsuc, neg_ℤ, Bool, true, Option, None, Some, Result, Ok, Err, refl, subst}
use Rattle.port_model.specs.declared.values.timer_key.TimerKey.{TimerKey}
use Rattle.port_model.specs.declared.values.value.Value.{Value}
use Rattle.port_model.specs.declared.values.value.Value.TheVariants as value
use Rattle.run_record.specs.Environment.{Environment}
use Rattle.run_record.specs.Value.{accessed, asked, given, keyed, operated, operated_on, value_of, values_of}
use Rattle.run_record.specs.Variables.{value_in}
use Rattle.run_record.specs.declared.failure.Failure.{Failure}
use Rattle.build_expressions.specs.OperandSorts.{added, compared, fits, joined, kind_of, ordered, result_of, scaled, subtracted, unary_result_of}
use Rattle.build_expressions.specs.declared.operand_sort.OperandSort.{OperandSort}
use Rattle.build_expressions.specs.declared.operand_sort.OperandSort.TheVariants.{Free, Integer, Time, Duration, Boolean, Pid}
use Rattle.build_expressions.specs.declared.operator.TypedOperation.{TypedOperation}
use Rattle.build_expressions.specs.declared.operator.TypedUnaryOperation.{TypedUnaryOperation}
use Rattle.laws_sound_runs.specs.Kinds.{HasKind, has_kind, of_binary, of_now, of_pid, of_timer, of_unary, of_value, of_variable}
use Rattle.laws_sound_runs.specs.TermLaws.{HaveSorts, StaysWhatItIs, ValuesHaveKinds}
use Rattle.sdl_system.specs.Operation.{applied, applied_to_one, calculated, number_in, number_of, ranged, unsorted}
use Rattle.sdl_system.specs.Operation as operations
use Rattle.sdl_system.specs.Sort.{as_natural, as_sort, has_sort}
use Rattle.sdl_system.specs.System.{SystemValue}
use Rattle.sdl_system.specs.Term.{Term}
use Rattle.sdl_system.specs.declared.operation.Arithmetic.{Arithmetic}
use Rattle.sdl_system.specs.declared.operation.Arithmetic.TheVariants as arithmetics
use Rattle.sdl_system.specs.declared.operation.Comparison.{Comparison}
use Rattle.sdl_system.specs.declared.operation.Comparison.TheVariants as comparison
use Rattle.sdl_system.specs.declared.operation.Failure as operation
use Rattle.sdl_system.specs.declared.operation.Logic.{Logic}
use Rattle.sdl_system.specs.declared.operation.Logic.TheVariants as logic
use Rattle.sdl_system.specs.declared.operation.NumberSort.{NumberSort}
use Rattle.sdl_system.specs.declared.operation.NumberSort.TheVariants as number
use Rattle.sdl_system.specs.declared.operation.Operation.{Operation}
use Rattle.sdl_system.specs.declared.operation.UnaryOperation.{UnaryOperation}
use Rattle.sdl_system.specs.declared.process.Process.{Process}
use Rattle.sdl_system.specs.declared.sort.Sort.{Sort}
use Rattle.sdl_system.specs.declared.sort.Sort.TheVariants as sort
use Rattle.sdl_tree.specs.declared.expressions.Operator.{Operator}
use Rattle.sdl_tree.specs.declared.expressions.Operator.TheVariants as operator
use Rattle.sdl_tree.specs.declared.expressions.UnaryOperator.{UnaryOperator}
use Rattle.sdl_tree.specs.declared.expressions.UnaryOperator.TheVariants as unary

-- where there is a value, it is of the kind
abbrev IsOf : OperandSort → Result Value Failure → Type 0
IsOf kind (Ok v) = has_kind kind v ≡ true
IsOf kind (Err why) = Unit {0}

-- ---- what operations give

number-of : (kind : OperandSort) (one : NumberSort) (answer : Result ℤ operation.Failure) →
    ((n : ℤ) → has_kind kind (number_in one n) ≡ true) → IsOf kind (given (operations.value_in one answer))
number-of kind one (Ok n) each = each n
number-of kind one (Err why) each = tt

abbrev GivesOne : Option TypedUnaryOperation → Type 0
GivesOne None = Unit {0}
GivesOne (Some result) = (v : Value) → IsOf result.kind (given (applied_to_one result.operation v))

unary-gives : (one : UnaryOperator) (kind : OperandSort) → GivesOne (unary_result_of one kind)
unary-gives unary.Minus Free = λ v. number-of Free number.Integer (ranged (neg_ℤ (number_of v))) (λ n. refl)
unary-gives unary.Minus Integer = λ v. number-of Integer number.Integer (ranged (neg_ℤ (number_of v))) (λ n. refl)
unary-gives unary.Minus Duration = λ v. number-of Duration number.Duration (ranged (neg_ℤ (number_of v))) (λ n. refl)
unary-gives unary.Not Boolean = λ v. refl
unary-gives _ _ = tt

abbrev Gives : Option TypedOperation → Type 0
Gives None = Unit {0}
Gives (Some result) = (v w : Value) → IsOf result.kind (given (applied result.operation v w))

calculated-of : (kind : OperandSort) (a : Arithmetic) (one : NumberSort) →
    ((n : ℤ) → has_kind kind (number_in one n) ≡ true) →
    (v w : Value) → IsOf kind (given (operations.value_in one (calculated a (number_of v) (number_of w))))
calculated-of kind a one each v w = number-of kind one (calculated a (number_of v) (number_of w)) each

scaled-gives : (a : Arithmetic) (left right : OperandSort) → Gives (scaled a left right)
scaled-gives a Free Free = calculated-of Free a number.Integer (λ n. refl)
scaled-gives a Free Integer = calculated-of Integer a number.Integer (λ n. refl)
scaled-gives a Integer Free = calculated-of Integer a number.Integer (λ n. refl)
scaled-gives a Integer Integer = calculated-of Integer a number.Integer (λ n. refl)
scaled-gives a _ _ = tt

added-gives : (left right : OperandSort) → Gives (added left right)
added-gives Time Duration = calculated-of Time arithmetics.Plus number.Time (λ n. refl)
added-gives Time Free = calculated-of Time arithmetics.Plus number.Time (λ n. refl)
added-gives Duration Time = calculated-of Time arithmetics.Plus number.Time (λ n. refl)
added-gives Free Time = calculated-of Time arithmetics.Plus number.Time (λ n. refl)
added-gives Duration Duration = calculated-of Duration arithmetics.Plus number.Duration (λ n. refl)
added-gives Duration Free = calculated-of Duration arithmetics.Plus number.Duration (λ n. refl)
added-gives Free Duration = calculated-of Duration arithmetics.Plus number.Duration (λ n. refl)
added-gives left right = scaled-gives arithmetics.Plus left right

subtracted-gives : (left right : OperandSort) → Gives (subtracted left right)
subtracted-gives Time Duration = calculated-of Time arithmetics.Minus number.Time (λ n. refl)
subtracted-gives Time Free = calculated-of Time arithmetics.Minus number.Time (λ n. refl)
subtracted-gives Time Time = calculated-of Duration arithmetics.Minus number.Duration (λ n. refl)
subtracted-gives Free Time = calculated-of Duration arithmetics.Minus number.Duration (λ n. refl)
subtracted-gives Duration Duration = calculated-of Duration arithmetics.Minus number.Duration (λ n. refl)
subtracted-gives Duration Free = calculated-of Duration arithmetics.Minus number.Duration (λ n. refl)
subtracted-gives Free Duration = calculated-of Duration arithmetics.Minus number.Duration (λ n. refl)
subtracted-gives left right = scaled-gives arithmetics.Minus left right

ordered-gives : (c : Comparison) (left right : OperandSort) → Gives (ordered c left right)
ordered-gives c Free Free = λ v w. refl
ordered-gives c Free Integer = λ v w. refl
ordered-gives c Free Time = λ v w. refl
ordered-gives c Free Duration = λ v w. refl
ordered-gives c Integer Free = λ v w. refl
ordered-gives c Time Free = λ v w. refl
ordered-gives c Duration Free = λ v w. refl
ordered-gives c Integer Integer = λ v w. refl
ordered-gives c Time Time = λ v w. refl
ordered-gives c Duration Duration = λ v w. refl
ordered-gives c _ _ = tt

compared-gives : (c : Comparison) (left right : OperandSort) → Gives (compared c left right)
compared-gives c Boolean Boolean = λ v w. refl
compared-gives c Pid Pid = λ v w. refl
compared-gives c left right = ordered-gives c left right

joined-gives : (l : Logic) (left right : OperandSort) → Gives (joined l left right)
joined-gives l Boolean Boolean = λ v w. refl
joined-gives l _ _ = tt

gives : (one : Operator) (left right : OperandSort) → Gives (result_of one left right)
gives operator.Implies left right = joined-gives logic.Implies left right
gives operator.Or left right = joined-gives logic.Or left right
gives operator.Xor left right = joined-gives logic.Xor left right
gives operator.And left right = joined-gives logic.And left right
gives operator.Equal left right = compared-gives comparison.Equal left right
gives operator.NotEqual left right = compared-gives comparison.NotEqual left right
gives operator.Less left right = ordered-gives comparison.Less left right
gives operator.LessOrEqual left right = ordered-gives comparison.LessOrEqual left right
gives operator.Greater left right = ordered-gives comparison.Greater left right
gives operator.GreaterOrEqual left right = ordered-gives comparison.GreaterOrEqual left right
gives operator.Plus left right = added-gives left right
gives operator.Minus left right = subtracted-gives left right
gives operator.Times left right = scaled-gives arithmetics.Times left right
gives operator.Divide left right = scaled-gives arithmetics.Divide left right
gives operator.Mod left right = scaled-gives arithmetics.Mod left right
gives operator.Rem left right = scaled-gives arithmetics.Rem left right

-- ---- terms

pub sort-kind : (one : Sort) (v : Value) → has_sort one v ≡ true → has_kind (kind_of one) v ≡ true
sort-kind sort.Boolean (value.Bool truth) has = refl
sort-kind sort.Integer (value.Int n) has = refl
sort-kind sort.Natural (value.Int n) has = refl
sort-kind sort.Pid (value.Pid who) has = refl
sort-kind sort.Time (value.Time n) has = refl
sort-kind sort.Duration (value.Duration n) has = refl
sort-kind one v has = cc

accessed-of : (one : Sort) (found : Option Value) → ((v : Value) → found ≡ Some v → has_sort one v ≡ true) →
    IsOf (kind_of one) (accessed found)
accessed-of one None each = tt
accessed-of one (Some v) each = sort-kind one v (each v refl)

asked-of : (here : Environment) (key : Result TimerKey Failure) → IsOf Boolean (asked here key)
asked-of here (Ok key) = refl
asked-of here (Err why) = tt

operated-on-of : (kind : OperandSort) (o : UnaryOperation) (operand : Result Value Failure) →
    ((v : Value) → IsOf kind (given (applied_to_one o v))) → IsOf kind (operated_on o operand)
operated-on-of kind o (Ok v) each = each v
operated-on-of kind o (Err why) each = tt

operated-of : (kind : OperandSort) (o : Operation) (left right : Result Value Failure) →
    ((v w : Value) → IsOf kind (given (applied o v w))) → IsOf kind (operated o left right)
operated-of kind o (Err why) right each = tt
operated-of kind o (Ok v) (Err why) each = tt
operated-of kind o (Ok v) (Ok w) each = each v w

module _ (system : SystemValue) (process : Process) (here : Environment)
    (sorted : HaveSorts process here.variables) where
  value-kinded : (kind : OperandSort) (term : Term) → HasKind system process kind term → IsOf kind (value_of here term)
  value-kinded _ _ (of_value kind v is) = is
  value-kinded _ _ (of_variable n v listed) =
      accessed-of v.sort (value_in here.variables n) (λ w is. sorted n v w listed is)
  value-kinded _ _ of_now = number-of Time number.Time (ranged (pos here.now)) (λ n. refl)
  value-kinded _ _ (of_pid who) = refl
  value-kinded _ _ (of_timer n signal timer values listed is fit) =
      asked-of here (keyed n (values_of here (here.sorts n) values))
  value-kinded _ _ (of_unary one kind operand result is has) =
      operated-on-of result.kind result.operation (value_of here operand) (subst GivesOne is (unary-gives one kind))
  value-kinded _ _ (of_binary one kind other left right result is has also) =
      operated-of result.kind result.operation (value_of here left) (value_of here right)
      (subst Gives is (gives one kind other))

pub values-have-kinds : ValuesHaveKinds
values-have-kinds system process here kind term v has sorted known =
    subst (IsOf kind) known (value-kinded system process here sorted kind term has)

-- ---- places

-- what is there is the value but for the sort of a number
abbrev IsSame : Value → Option Value → Type 0
IsSame v None = Unit {0}
IsSame v (Some there) = unsorted there ≡ unsorted v

natural-same : (n : ℤ) → IsSame (value.Int n) (as_natural n)
natural-same (pos n) = refl
natural-same (negsuc n) = tt

int-same : (one : Sort) (n : ℤ) → fits Free one ≡ true → IsSame (value.Int n) (as_sort one (value.Int n))
int-same sort.Boolean n fitting = cc
int-same sort.Integer n fitting = refl
int-same sort.Natural n fitting = natural-same n
int-same sort.Pid n fitting = cc
int-same sort.Time n fitting = refl
int-same sort.Duration n fitting = refl

integer-fits : (one : Sort) → fits Integer one ≡ true → fits Free one ≡ true
integer-fits sort.Boolean fitting = cc
integer-fits sort.Integer fitting = refl
integer-fits sort.Natural fitting = refl
integer-fits sort.Pid fitting = cc
integer-fits sort.Time fitting = cc
integer-fits sort.Duration fitting = cc

time-same : (one : Sort) (n : ℤ) → fits Time one ≡ true → IsSame (value.Time n) (as_sort one (value.Time n))
time-same sort.Time n fitting = refl
time-same sort.Duration n fitting = refl
time-same sort.Integer n fitting = refl
time-same sort.Natural n fitting = absurd (let never : ⊥ = cc in never)
time-same sort.Boolean n fitting = cc
time-same sort.Pid n fitting = cc

duration-same : (one : Sort) (n : ℤ) → fits Duration one ≡ true →
    IsSame (value.Duration n) (as_sort one (value.Duration n))
duration-same sort.Time n fitting = refl
duration-same sort.Duration n fitting = refl
duration-same sort.Integer n fitting = refl
duration-same sort.Natural n fitting = absurd (let never : ⊥ = cc in never)
duration-same sort.Boolean n fitting = cc
duration-same sort.Pid n fitting = cc

truth-same : (one : Sort) (truth : Bool) → fits Boolean one ≡ true →
    IsSame (value.Bool truth) (as_sort one (value.Bool truth))
truth-same sort.Boolean truth fitting = refl
truth-same sort.Integer truth fitting = cc
truth-same sort.Natural truth fitting = cc
truth-same sort.Pid truth fitting = cc
truth-same sort.Time truth fitting = cc
truth-same sort.Duration truth fitting = cc

same : (kind : OperandSort) (one : Sort) (v : Value) → has_kind kind v ≡ true → fits kind one ≡ true →
    IsSame v (as_sort one v)
same Free one (value.Int n) has fitting = int-same one n fitting
same Integer one (value.Int n) has fitting = int-same one n (integer-fits one fitting)
same Time one (value.Time n) has fitting = time-same one n fitting
same Duration one (value.Duration n) has fitting = duration-same one n fitting
same Boolean one (value.Bool truth) has fitting = truth-same one truth fitting
same Pid sort.Pid (value.Pid who) has fitting = refl
same kind one v has fitting = absurd (let never : ⊥ = cc in never)

pub stays-what-it-is : StaysWhatItIs
stays-what-it-is kind one v there has fitting known = subst (IsSame v) known (same kind one v has fitting)
