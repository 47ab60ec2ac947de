-- What a constant expression comes to, and when it is none (Z.104: expressions).
use Rattle.std.specs.Prelude.{◌++◌, Bool, true, false, List, [], Option, None, Some, Result, Ok, Err, is_none, option_and_then, if◌then◌else◌}
use Rattle.std.specs.Option.{unwrap_or}
use Rattle.port_model.specs.declared.values.value.Value.{Value}
use Rattle.build_names.specs.Faults.{Diagnostic, fault_if}
use Rattle.build_names.specs.declared.faults.fault.Rule.TheVariants.{BadCount}
use Rattle.build_expressions.specs.Misused.{place_faults}
use Rattle.build_expressions.specs.Scope.{Scope}
use Rattle.build_expressions.specs.Typing.{Typed, taken_in, typed_in}
use Rattle.build_expressions.specs.Words.{first_word}
use Rattle.build_expressions.specs.declared.context.Context.TheVariants as context
use Rattle.build_expressions.specs.declared.scope.Constant.{Constant}
use Rattle.build_expressions.specs.declared.scope.Constant.TheVariants as constants
use Rattle.sdl_system.specs.Operation.{applied, applied_to_one}
use Rattle.sdl_system.specs.Sort.{as_sort}
use Rattle.sdl_system.specs.Term.{Term, constant, variable, now, pid, active, unary, binary}
use Rattle.sdl_system.specs.declared.operation.Failure.{Failure}
use Rattle.sdl_system.specs.declared.operation.Operation.{Operation}
use Rattle.sdl_system.specs.declared.operation.UnaryOperation.{UnaryOperation}
use Rattle.sdl_system.specs.declared.sort.Sort.{Sort}
use Rattle.sdl_tree.specs.Tree.{Expr}
use Rattle.sdl_tree.specs.Words.{Spot}

-- ---- values

-- the value that an operation gives, where it gives one
abbrev pub given : Result Value Failure → Option Value
given (Ok value) = Some value
given (Err why) = None

abbrev pub unary_value : UnaryOperation → Option Value → Option Value
unary_value operation None = None
unary_value operation (Some operand) = given (applied_to_one operation operand)

abbrev pub binary_value : Operation → Option Value → Option Value → Option Value
binary_value operation None right = None
binary_value operation (Some left) None = None
binary_value operation (Some left) (Some right) = given (applied operation left right)

-- the value of a term, where each operation in it gives one and it asks nothing of an instance
abbrev pub value_of : Term → Option Value
value_of (constant value) = Some value
value_of (variable number) = None
value_of now = None
value_of (pid who) = None
value_of (active timer values) = None
value_of (unary operation operand) = unary_value operation (value_of operand)
value_of (binary operation left right) = binary_value operation (value_of left) (value_of right)

-- ---- constants at places of a sort

-- the value at the place; a negative one at a Natural place stays what it is
abbrev pub placed : Option Sort → Value → Value
placed None value = value
placed (Some sort) value = unwrap_or (as_sort sort value) value

abbrev pub with_value : Option Sort → Option Value → Constant
with_value place None = constants.NoValue
with_value place (Some value) = constants.Value (placed place value)

-- whether there is no value, or a negative one at a Natural place
abbrev pub is_miscounted : Option Sort → Option Value → Bool
is_miscounted place None = true
is_miscounted None (Some value) = false
is_miscounted (Some sort) (Some value) = is_none (as_sort sort value)

-- what an expression comes to that fits its place, where one does; where a synonym in it is refused, its value isn't
-- asked for
abbrev pub counted : Option Sort → Option Typed → Constant
counted place None = constants.Refused
counted place (Some typed) =
    if typed.is_refused then constants.Refused else with_value place (option_and_then value_of typed.term)

abbrev pub counted_faults : Option Sort → Spot → Option Typed → List Diagnostic
counted_faults place word None = []
counted_faults place word (Some typed) = if typed.is_refused
    then []
    else fault_if (is_miscounted place (option_and_then value_of typed.term)) BadCount word

-- what the expression comes to at a place of this sort; where the sort is unknown, each kind fits
abbrev pub constant_in : Scope → Option Sort → Expr → Constant
constant_in scope place expression = counted place (taken_in place (typed_in context.Constant scope expression))

-- the rules that it breaks
abbrev pub constant_faults : Scope → Option Sort → Expr → List Diagnostic
constant_faults scope place expression =
    place_faults context.Constant scope place expression
    ++ counted_faults place (first_word expression) (taken_in place (typed_in context.Constant scope expression))
