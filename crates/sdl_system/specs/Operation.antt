-- What the operations of the predefined sorts give (Z.104: predefined sorts). They are defined for all values: what is
-- no number counts as 0, and what is no truth as false.
use Rattle.std.specs.Prelude.{ℤ, pos, negsuc, zero, suc, neg_ℤ, ◌+ℤ◌, ◌-ℤ◌, ◌*ℤ◌, ◌^◌, ◌&&◌, ◌||◌, Bool, false, not, nat_lt, int_lt, int_le, int_div, int_rem, Result, Ok, Err, if◌then◌else◌}
use Rattle.std.specs.Int.{int_rem_euclid}
use Rattle.port_model.specs.Same.{same_value}
use Rattle.port_model.specs.declared.values.value.Value.{Value}
use Rattle.port_model.specs.declared.values.value.Value.TheVariants as value
use Rattle.sdl_system.specs.declared.operation.Arithmetic as arithmetic
use Rattle.sdl_system.specs.declared.operation.Arithmetic.TheVariants.{Plus, Minus, Times, Divide, Mod, Rem}
use Rattle.sdl_system.specs.declared.operation.Comparison as comparison
use Rattle.sdl_system.specs.declared.operation.Comparison.TheVariants.{Equal, NotEqual, Less, LessOrEqual, Greater, GreaterOrEqual}
use Rattle.sdl_system.specs.declared.operation.Failure.{Failure}
use Rattle.sdl_system.specs.declared.operation.Failure.TheVariants.{Overflow, ZeroDivisor}
use Rattle.sdl_system.specs.declared.operation.Logic as logic
use Rattle.sdl_system.specs.declared.operation.Logic.TheVariants.{Implies, Or, Xor, And}
use Rattle.sdl_system.specs.declared.operation.NumberSort.{NumberSort}
use Rattle.sdl_system.specs.declared.operation.NumberSort.TheVariants as sort
use Rattle.sdl_system.specs.declared.operation.Operation as operation
use Rattle.sdl_system.specs.declared.operation.Operation.TheVariants as kind
use Rattle.sdl_system.specs.declared.operation.UnaryOperation as unary
use Rattle.sdl_system.specs.declared.operation.UnaryOperation.TheVariants as one

-- ---- what a value is

-- the number of a value
abbrev pub number_of : Value → ℤ
number_of (value.Int number) = number
number_of (value.Time number) = number
number_of (value.Duration number) = number
number_of (value.Bool truth) = pos 0
number_of (value.Pid pid) = pos 0

-- the truth of a value
abbrev pub truth_of : Value → Bool
truth_of (value.Bool truth) = truth
truth_of other = false

-- a number as a value of a sort of numbers
abbrev pub number_in : NumberSort → ℤ → Value
number_in sort.Integer number = value.Int number
number_in sort.Time number = value.Time number
number_in sort.Duration number = value.Duration number

-- the value without the sort of its number
abbrev pub unsorted : Value → Value
unsorted (value.Int number) = value.Int number
unsorted (value.Time number) = value.Int number
unsorted (value.Duration number) = value.Int number
unsorted (value.Bool truth) = value.Bool truth
unsorted (value.Pid pid) = value.Pid pid

-- ---- questions about two values

-- numbers are the same where they count the same, truths and Pids where they are the same
abbrev pub compared : comparison.Comparison → Value → Value → Bool
compared Equal left right = same_value (unsorted left) (unsorted right)
compared NotEqual left right = not (same_value (unsorted left) (unsorted right))
compared Less left right = int_lt (number_of left) (number_of right)
compared LessOrEqual left right = int_le (number_of left) (number_of right)
compared Greater left right = int_lt (number_of right) (number_of left)
compared GreaterOrEqual left right = int_le (number_of right) (number_of left)

-- ---- numbers

-- whether a number is one of 64 bits with a sign
abbrev pub is_in_range : ℤ → Bool
is_in_range (pos n) = nat_lt n (2 ^ 63)
is_in_range (negsuc n) = nat_lt n (2 ^ 63)

-- the number, or an overflow
abbrev pub ranged : ℤ → Result ℤ Failure
ranged number = if is_in_range number then Ok number else Err Overflow

-- the same of a number that a division gives
abbrev pub divided : ℤ → ℤ → Result ℤ Failure
divided (pos zero) number = Err ZeroDivisor
divided (pos (suc divisor)) number = ranged number
divided (negsuc divisor) number = ranged number

-- An operation on unbounded numbers. `/` truncates towards zero, `rem` has the dividend's sign, and `mod` lies between
-- 0 and the divisor's amount less one.
abbrev pub calculated : arithmetic.Arithmetic → ℤ → ℤ → Result ℤ Failure
calculated Plus left right = ranged (left +ℤ right)
calculated Minus left right = ranged (left -ℤ right)
calculated Times left right = ranged (left *ℤ right)
calculated Divide left right = divided right (int_div left right)
calculated Mod left right = divided right (int_rem_euclid left right)
calculated Rem left right = divided right (int_rem left right)

-- ---- truths

abbrev pub combined : logic.Logic → Bool → Bool → Bool
combined Implies left right = not left || right
combined Or left right = left || right
combined Xor left right = if left then not right else right
combined And left right = left && right

-- ---- operations

-- the number as a value of this sort, where there is one
abbrev pub value_in : NumberSort → Result ℤ Failure → Result Value Failure
value_in sort (Ok number) = Ok (number_in sort number)
value_in sort (Err why) = Err why

-- what an operation gives of two values
abbrev pub applied : operation.Operation → Value → Value → Result Value Failure
applied (kind.Arithmetic arithmetic sort) left right =
    value_in sort (calculated arithmetic (number_of left) (number_of right))
applied (kind.Comparison comparison) left right = Ok (value.Bool (compared comparison left right))
applied (kind.Logic logic) left right = Ok (value.Bool (combined logic (truth_of left) (truth_of right)))

-- what an operation gives of one value
abbrev pub applied_to_one : unary.UnaryOperation → Value → Result Value Failure
applied_to_one (one.Minus sort) operand = value_in sort (ranged (neg_ℤ (number_of operand)))
applied_to_one one.Not operand = Ok (value.Bool (not (truth_of operand)))
