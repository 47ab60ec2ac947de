-- For how many ticks the timers of a process are set where no time is told (Z.102: timer).
use Rattle.std.specs.Prelude.{ℤ, List, [], Option, None, Some}
use Rattle.build_names.specs.Faults.{Diagnostic}
use Rattle.build_expressions.specs.Constants.{constant_faults, constant_in}
use Rattle.build_expressions.specs.Scope.{Scope}
use Rattle.build_expressions.specs.declared.scope.Constant.{Constant}
use Rattle.build_expressions.specs.declared.scope.Constant.TheVariants as constants
use Rattle.sdl_system.specs.Operation.{number_of}
use Rattle.sdl_system.specs.declared.sort.Sort.TheVariants as sort
use Rattle.sdl_tree.specs.Tree.{Expr, TimerDefinition}

-- the number of a constant that has a value
abbrev pub ticks_of : Constant → Option ℤ
ticks_of (constants.Value value) = Some (number_of value)
ticks_of constants.NoValue = None
ticks_of constants.Refused = None

-- the ticks of a default duration: None where none stands, and where a rule is broken in it
abbrev pub duration_in : Scope → Option Expr → Option ℤ
duration_in scope None = None
duration_in scope (Some expression) = ticks_of (constant_in scope (Some sort.Duration) expression)

abbrev pub duration_faults : Scope → Option Expr → List Diagnostic
duration_faults scope None = []
duration_faults scope (Some expression) = constant_faults scope (Some sort.Duration) expression

abbrev pub timer_faults : Scope → TimerDefinition → List Diagnostic
timer_faults scope timer = duration_faults scope timer.duration
