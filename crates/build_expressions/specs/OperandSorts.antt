-- What each operator gives for operands of which sorts (Z.104). What isn't here is no operation.
use Rattle.std.specs.Prelude.{Bool, true, false, Option, Some, None}
use Rattle.build_expressions.specs.declared.operand_sort.OperandSort.{OperandSort}
use Rattle.build_expressions.specs.declared.operand_sort.OperandSort.TheVariants.{Free, Integer, Time, Duration, Boolean, Pid}
use Rattle.build_expressions.specs.declared.operator.TypedOperation.{TypedOperation}
use Rattle.build_expressions.specs.declared.operator.TypedUnaryOperation.{TypedUnaryOperation}
use Rattle.sdl_system.specs.declared.operation.Arithmetic.{Arithmetic}
use Rattle.sdl_system.specs.declared.operation.Arithmetic.TheVariants as arithmetics
use Rattle.sdl_system.specs.declared.operation.Comparison.{Comparison}
use Rattle.sdl_system.specs.declared.operation.Comparison.TheVariants as comparison
use Rattle.sdl_system.specs.declared.operation.Logic.{Logic}
use Rattle.sdl_system.specs.declared.operation.Logic.TheVariants as logic
use Rattle.sdl_system.specs.declared.operation.NumberSort.{NumberSort}
use Rattle.sdl_system.specs.declared.operation.NumberSort.TheVariants as number
use Rattle.sdl_system.specs.declared.operation.Operation.{Operation}
use Rattle.sdl_system.specs.declared.operation.Operation.TheVariants as operation
use Rattle.sdl_system.specs.declared.operation.UnaryOperation.TheVariants as unary_operation
use Rattle.sdl_system.specs.declared.sort.Sort.{Sort}
use Rattle.sdl_system.specs.declared.sort.Sort.TheVariants as sort
use Rattle.sdl_tree.specs.declared.expressions.Operator.{Operator}
use Rattle.sdl_tree.specs.declared.expressions.Operator.TheVariants as operator
use Rattle.sdl_tree.specs.declared.expressions.UnaryOperator.{UnaryOperator}
use Rattle.sdl_tree.specs.declared.expressions.UnaryOperator.TheVariants as unary

-- the operand sort of a variable, parameter or synonym of this sort
abbrev pub kind_of : Sort → OperandSort
kind_of sort.Boolean = Boolean
kind_of sort.Integer = Integer
kind_of sort.Natural = Integer
kind_of sort.Pid = Pid
kind_of sort.Time = Time
kind_of sort.Duration = Duration

-- whether an operand of this sort fits a place of the other, which isn't free
abbrev pub fits_kind : OperandSort → OperandSort → Bool
fits_kind Free Integer = true
fits_kind Free Time = true
fits_kind Free Duration = true
fits_kind Integer Integer = true
fits_kind Time Time = true
fits_kind Duration Duration = true
fits_kind Boolean Boolean = true
fits_kind Pid Pid = true
fits_kind _ _ = false

-- whether it fits a variable or a parameter of this sort
abbrev pub fits : OperandSort → Sort → Bool
fits kind place = fits_kind kind (kind_of place)

-- ---- what an operation is, and the sort of what it gives

abbrev pub arithmetic : Arithmetic → NumberSort → OperandSort → Option TypedOperation
arithmetic a sort kind = Some (record { operation = operation.Arithmetic a sort; kind = kind })

abbrev pub integers : Arithmetic → Option TypedOperation
integers a = arithmetic a number.Integer Integer

abbrev pub time : Arithmetic → Option TypedOperation
time a = arithmetic a number.Time Time

abbrev pub duration : Arithmetic → Option TypedOperation
duration a = arithmetic a number.Duration Duration

-- * / mod rem
abbrev pub scaled : Arithmetic → OperandSort → OperandSort → Option TypedOperation
scaled a Free Free = arithmetic a number.Integer Free
scaled a Free Integer = integers a
scaled a Integer Free = integers a
scaled a Integer Integer = integers a
scaled a _ _ = None

-- +
abbrev pub added : OperandSort → OperandSort → Option TypedOperation
added Time Duration = time arithmetics.Plus
added Time Free = time arithmetics.Plus
added Duration Time = time arithmetics.Plus
added Free Time = time arithmetics.Plus
added Duration Duration = duration arithmetics.Plus
added Duration Free = duration arithmetics.Plus
added Free Duration = duration arithmetics.Plus
added left right = scaled arithmetics.Plus left right

-- -
abbrev pub subtracted : OperandSort → OperandSort → Option TypedOperation
subtracted Time Duration = time arithmetics.Minus
subtracted Time Free = time arithmetics.Minus
subtracted Time Time = duration arithmetics.Minus
subtracted Free Time = duration arithmetics.Minus
subtracted Duration Duration = duration arithmetics.Minus
subtracted Duration Free = duration arithmetics.Minus
subtracted Free Duration = duration arithmetics.Minus
subtracted left right = scaled arithmetics.Minus left right

abbrev pub truth : Operation → Option TypedOperation
truth o = Some (record { operation = o; kind = Boolean })

-- < <= > >=
abbrev pub ordered : Comparison → OperandSort → OperandSort → Option TypedOperation
ordered c Free Free = truth (operation.Comparison c)
ordered c Free Integer = truth (operation.Comparison c)
ordered c Free Time = truth (operation.Comparison c)
ordered c Free Duration = truth (operation.Comparison c)
ordered c Integer Free = truth (operation.Comparison c)
ordered c Time Free = truth (operation.Comparison c)
ordered c Duration Free = truth (operation.Comparison c)
ordered c Integer Integer = truth (operation.Comparison c)
ordered c Time Time = truth (operation.Comparison c)
ordered c Duration Duration = truth (operation.Comparison c)
ordered c _ _ = None

-- = /=
abbrev pub compared : Comparison → OperandSort → OperandSort → Option TypedOperation
compared c Boolean Boolean = truth (operation.Comparison c)
compared c Pid Pid = truth (operation.Comparison c)
compared c left right = ordered c left right

-- and or xor =>
abbrev pub joined : Logic → OperandSort → OperandSort → Option TypedOperation
joined l Boolean Boolean = truth (operation.Logic l)
joined l _ _ = None

-- the operation of an operator between operands of these sorts
abbrev pub result_of : Operator → OperandSort → OperandSort → Option TypedOperation
result_of operator.Implies = joined logic.Implies
result_of operator.Or = joined logic.Or
result_of operator.Xor = joined logic.Xor
result_of operator.And = joined logic.And
result_of operator.Equal = compared comparison.Equal
result_of operator.NotEqual = compared comparison.NotEqual
result_of operator.Less = ordered comparison.Less
result_of operator.LessOrEqual = ordered comparison.LessOrEqual
result_of operator.Greater = ordered comparison.Greater
result_of operator.GreaterOrEqual = ordered comparison.GreaterOrEqual
result_of operator.Plus = added
result_of operator.Minus = subtracted
result_of operator.Times = scaled arithmetics.Times
result_of operator.Divide = scaled arithmetics.Divide
result_of operator.Mod = scaled arithmetics.Mod
result_of operator.Rem = scaled arithmetics.Rem

abbrev pub negative : NumberSort → OperandSort → Option TypedUnaryOperation
negative sort kind = Some (record { operation = unary_operation.Minus sort; kind = kind })

-- the operation of an operator before an operand of this sort
abbrev pub unary_result_of : UnaryOperator → OperandSort → Option TypedUnaryOperation
unary_result_of unary.Minus Free = negative number.Integer Free
unary_result_of unary.Minus Integer = negative number.Integer Integer
unary_result_of unary.Minus Duration = negative number.Duration Duration
unary_result_of unary.Not Boolean = Some (record { operation = unary_operation.Not; kind = Boolean })
unary_result_of _ _ = None
