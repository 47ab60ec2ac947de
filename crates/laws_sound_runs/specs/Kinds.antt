-- Of which kind a term is in a process of a system, and of which kind a value (Z.104: expressions).
use Rattle.std.specs.Prelude.{◌≡◌, Bool, true, false, List, [], ◌∷◌, Some, slice_get}
use Rattle.port_model.specs.declared.values.item.SignalId.{SignalId}
use Rattle.port_model.specs.declared.values.value.Value.{Value}
use Rattle.port_model.specs.declared.values.value.Value.TheVariants as value
use Rattle.build_expressions.specs.OperandSorts.{fits, kind_of, result_of, unary_result_of}
use Rattle.build_expressions.specs.declared.operand_sort.OperandSort.{OperandSort}
use Rattle.build_expressions.specs.declared.operand_sort.OperandSort.TheVariants.{Free, Integer, Time, Duration, Boolean, Pid}
use Rattle.build_expressions.specs.declared.operator.TypedOperation.{TypedOperation}
use Rattle.build_expressions.specs.declared.operator.TypedUnaryOperation.{TypedUnaryOperation}
use Rattle.sdl_system.specs.System.{SystemValue}
use Rattle.sdl_system.specs.Term.{Term, Terms, constant, variable, now, pid, active, unary, binary, no_term, and_term}
use Rattle.sdl_system.specs.declared.expression.PidExpression.{PidExpression}
use Rattle.sdl_system.specs.declared.id.VariableId.{VariableId}
use Rattle.sdl_system.specs.declared.process.Process.{Process}
use Rattle.sdl_system.specs.declared.process.Variable.{Variable}
use Rattle.sdl_system.specs.declared.signal.Signal.{Signal}
use Rattle.sdl_system.specs.declared.signal.Timer.{Timer}
use Rattle.sdl_system.specs.declared.sort.Sort.{Sort}
use Rattle.sdl_tree.specs.declared.expressions.Operator.{Operator}
use Rattle.sdl_tree.specs.declared.expressions.UnaryOperator.{UnaryOperator}

-- whether a value is one of this kind; a number whose sort its place decides is an Integer meanwhile
abbrev pub has_kind : OperandSort → Value → Bool
has_kind Free (value.Int number) = true
has_kind Integer (value.Int number) = true
has_kind Time (value.Time number) = true
has_kind Duration (value.Duration number) = true
has_kind Boolean (value.Bool truth) = true
has_kind Pid (value.Pid who) = true
has_kind kind other = false

mutual
  -- The term is of the kind in the process. Its variables are those of the process, and its timers those of the system,
  -- with as many values as they take, each of which fits its place; each operation is the one of an operator between
  -- operands of these kinds.
  pub data HasKind (system : SystemValue) (process : Process) : OperandSort → Term → Type 0 where
    of_value : (kind : OperandSort) (v : Value) → has_kind kind v ≡ true → HasKind system process kind (constant v)
    of_variable : (number : VariableId) (v : Variable) → slice_get process.variables.items number.0 ≡ Some v
        → HasKind system process (kind_of v.sort) (variable number)
    of_now : HasKind system process Time now
    of_pid : (who : PidExpression) → HasKind system process Pid (pid who)
    of_timer : (number : SignalId) (signal : Signal) (timer : Timer) (values : Terms)
        → slice_get system.signals number.0 ≡ Some signal → signal.timer ≡ Some timer
        → FitPlaces system process signal.sorts.items values → HasKind system process Boolean (active number values)
    of_unary : (operator : UnaryOperator) (kind : OperandSort) (operand : Term) (result : TypedUnaryOperation)
        → unary_result_of operator kind ≡ Some result → HasKind system process kind operand
        → HasKind system process result.kind (unary result.operation operand)
    of_binary : (operator : Operator) (one other : OperandSort) (left right : Term) (result : TypedOperation)
        → result_of operator one other ≡ Some result → HasKind system process one left
        → HasKind system process other right
        → HasKind system process result.kind (binary result.operation left right)

  -- there are as many terms as places of these sorts, and each is of a kind that fits its place
  pub data FitPlaces (system : SystemValue) (process : Process) : List Sort → Terms → Type 0 where
    no_place : FitPlaces system process [] no_term
    and_place : (kind : OperandSort) (sort : Sort) (sorts : List Sort) (first : Term) (rest : Terms) →
        fits kind sort ≡ true
        → HasKind system process kind first → FitPlaces system process sorts rest
        → FitPlaces system process (sort ∷ sorts) (and_term first rest)

-- the term is of a kind that fits a place of this sort
pub record FitsPlace (system : SystemValue) (process : Process) (sort : Sort) (term : Term) : Type 0 where
  pub kind : OperandSort
  pub fitting : fits kind sort ≡ true
  pub is : HasKind system process kind term
