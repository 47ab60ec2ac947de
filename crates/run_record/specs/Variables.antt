-- The variables of an instance (Z.102: variable).
use Rattle.std.specs.Prelude.{ℤ, List, Option, None, Some, option_and_then, slice_get, unwrap_or}
use Rattle.port_model.specs.declared.values.value.Value.{Value}
use Rattle.port_model.specs.declared.values.value.Value.TheVariants as value
use Rattle.sdl_system.specs.declared.expression.Expression.{Expression}
use Rattle.sdl_system.specs.declared.expression.Expression.TheVariants as expression
use Rattle.sdl_system.specs.declared.id.VariableId.{VariableId}

-- by number, each with its value once it has one
abbrev pub VariableList : Type 0
VariableList = List (Option Value)

-- the value of a variable, where it has one
abbrev pub value_in : VariableList → VariableId → Option Value
value_in variables variable = unwrap_or (slice_get variables variable.0) None

-- what an expression comes to that is a literal, or a variable with a value
abbrev pub known_in : VariableList → Expression → Option Value
known_in variables (expression.Value constant) = Some constant
known_in variables (expression.Variable variable) = value_in variables variable
known_in variables other = None

-- the number of an Integer, where the value is one
abbrev pub integer_of : Value → Option ℤ
integer_of (value.Int number) = Some number
integer_of other = None

-- what an expression comes to that is an integer literal, or a variable with an integer
abbrev pub integer_in : VariableList → Expression → Option ℤ
integer_in variables expression = option_and_then integer_of (known_in variables expression)
