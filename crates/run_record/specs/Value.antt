-- What an expression comes to (Z.104: expressions), by recursion on its tree: a value, or why there is none.
use Rattle.std.specs.Prelude.{ℕ, pos, Bool, List, [], ◌∷◌, Option, None, Some, Result, Ok, Err}
use Rattle.port_model.specs.declared.values.item.SignalId.{SignalId}
use Rattle.port_model.specs.declared.values.pid.Pid.{Pid}
use Rattle.port_model.specs.declared.values.timer_key.TimerKey.{TimerKey}
use Rattle.port_model.specs.declared.values.value.Value.{Value}
use Rattle.port_model.specs.declared.values.value.Value.TheVariants as value
use Rattle.sdl_system.specs.Operation.{applied, applied_to_one, ranged, truth_of, value_in}
use Rattle.sdl_system.specs.Sort.{as_sort}
use Rattle.sdl_system.specs.Term.{Term, Terms, constant, variable, now, pid, active, unary, binary, no_term, and_term, terms_of}
use Rattle.sdl_system.specs.declared.expression.PidExpression.{PidExpression}
use Rattle.sdl_system.specs.declared.expression.PidExpression.TheVariants.{SelfPid, Parent, Offspring, Sender}
use Rattle.sdl_system.specs.declared.operation.Failure as operation
use Rattle.sdl_system.specs.declared.operation.NumberSort.TheVariants as number
use Rattle.sdl_system.specs.declared.operation.Operation.{Operation}
use Rattle.sdl_system.specs.declared.operation.UnaryOperation.{UnaryOperation}
use Rattle.sdl_system.specs.declared.sort.Sort.{Sort}
use Rattle.run_record.specs.Failure.{failure_of}
use Rattle.run_record.specs.declared.failure.Failure.{Failure}
use Rattle.run_record.specs.declared.failure.Failure.TheVariants.{NotNatural, Undefined}
use Rattle.run_record.specs.Environment.{Environment}
use Rattle.run_record.specs.Variables as variables

-- ---- words

-- a variable that was never assigned has no value
abbrev pub accessed : Option Value → Result Value Failure
accessed None = Err Undefined
accessed (Some value) = Ok value

-- what an operation gives; a failure of it fails the instance
abbrev pub given : Result Value operation.Failure → Result Value Failure
given (Ok value) = Ok value
given (Err why) = Err (failure_of why)

-- a time in ticks as a value; past 64 bits with a sign there is none
abbrev pub time_value : ℕ → Result Value Failure
time_value ticks = given (value_in number.Time (ranged (pos ticks)))

-- the Pid for which a word stands
abbrev pub pid_in : Environment → PidExpression → Pid
pid_in here SelfPid = here.own
pid_in here Parent = here.parent
pid_in here Offspring = here.offspring
pid_in here Sender = here.sender

-- ---- operations

abbrev pub operated_on : UnaryOperation → Result Value Failure → Result Value Failure
operated_on operation (Err why) = Err why
operated_on operation (Ok operand) = given (applied_to_one operation operand)

-- both operands are evaluated, and the left one fails first
abbrev pub operated : Operation → Result Value Failure → Result Value Failure → Result Value Failure
operated operation (Err why) right = Err why
operated operation (Ok left) (Err why) = Err why
operated operation (Ok left) (Ok right) = given (applied operation left right)

-- ---- places

-- a value in the sort of its place, where it has one
abbrev pub narrowed : Option Value → Result Value Failure
narrowed None = Err NotNatural
narrowed (Some value) = Ok value

-- a value at a place of a sort; where there is no such place it stays what it is
abbrev pub placed : Option Sort → Value → Result Value Failure
placed None value = Ok value
placed (Some sort) value = narrowed (as_sort sort value)

abbrev pub at_place : Option Sort → Result Value Failure → Result Value Failure
at_place place (Err why) = Err why
at_place place (Ok value) = placed place value

-- the first of these sorts, and those behind it
abbrev pub first_sort : List Sort → Option Sort
first_sort [] = None
first_sort (sort ∷ sorts) = Some sort

abbrev pub later_sorts : List Sort → List Sort
later_sorts [] = []
later_sorts (sort ∷ sorts) = sorts

-- a value and those behind it, of which the first failure counts
abbrev pub followed : Result Value Failure → Result (List Value) Failure → Result (List Value) Failure
followed (Err why) rest = Err why
followed (Ok first) (Err why) = Err why
followed (Ok first) (Ok rest) = Ok (first ∷ rest)

-- ---- timers

abbrev pub keyed : SignalId → Result (List Value) Failure → Result TimerKey Failure
keyed timer (Err why) = Err why
keyed timer (Ok values) = Ok (record { name = timer; values = values })

abbrev pub asked : Environment → Result TimerKey Failure → Result Value Failure
asked here (Err why) = Err why
asked here (Ok key) = Ok (value.Bool (here.active key))

-- ---- expressions

abbrev mutual
  -- what an expression comes to
  pub value_of : Environment → Term → Result Value Failure
  value_of here (constant value) = Ok value
  value_of here (variable number) = accessed (variables.value_in here.variables number)
  value_of here now = time_value here.now
  value_of here (pid who) = Ok (value.Pid (pid_in here who))
  value_of here (active timer values) = asked here (keyed timer (values_of here (here.sorts timer) values))
  value_of here (unary operation operand) = operated_on operation (value_of here operand)
  value_of here (binary operation left right) = operated operation (value_of here left) (value_of here right)

  -- what several come to, each at its place, from left to right
  pub values_of : Environment → List Sort → Terms → Result (List Value) Failure
  values_of here sorts no_term = Ok []
  values_of here sorts (and_term first rest) =
      followed (at_place (first_sort sorts) (value_of here first)) (values_of here (later_sorts sorts) rest)

-- what an expression comes to at a place of a sort
abbrev pub value_at : Environment → Sort → Term → Result Value Failure
value_at here sort term = at_place (Some sort) (value_of here term)

-- what several come to at places of these sorts
abbrev pub values_at : Environment → List Sort → List Term → Result (List Value) Failure
values_at here sorts terms = values_of here sorts (terms_of terms)

-- the key of a timer with these values
abbrev pub key_at : Environment → SignalId → List Term → Result TimerKey Failure
key_at here timer terms = keyed timer (values_at here (here.sorts timer) terms)

-- whether a condition is true
abbrev pub truth_in : Result Value Failure → Result Bool Failure
truth_in (Err why) = Err why
truth_in (Ok value) = Ok (truth_of value)

abbrev pub truth_at : Environment → Term → Result Bool Failure
truth_at here term = truth_in (value_of here term)
