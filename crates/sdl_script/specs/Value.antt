-- Values as they are spelled, and what they are at a parameter of some sort.
use Rattle.std.specs.Prelude.{◌≡◌, ℤ, Bool, Option, None, Some, option_and_then}
use Rattle.std.specs.Option.{option_map}
use Rattle.port_model.specs.declared.values.pid.Pid as pid
use Rattle.port_model.specs.declared.values.pid.Pid.TheVariants as who
use Rattle.port_model.specs.declared.values.value.Value.{Value}
use Rattle.port_model.specs.declared.values.value.Value.TheVariants as value
use Rattle.sdl_system.specs.Sort.{as_natural}
use Rattle.sdl_system.specs.declared.sort.Sort.{Sort}
use Rattle.sdl_system.specs.declared.sort.Sort.TheVariants as sort
use Rattle.sdl_script.specs.declared.value.SpelledValue.{SpelledValue}
use Rattle.sdl_script.specs.declared.value.SpelledValue.TheVariants as spelled

-- a number, where it is one and 64 bits signed hold it
abbrev pub number_in : SpelledValue → Option ℤ
number_in (spelled.Number number) = number
number_in other = None

-- `true` or `false`
abbrev pub truth_in : SpelledValue → Option Bool
truth_in (spelled.Truth truth) = Some truth
truth_in other = None

-- `null`, `env`, or an instance by its number, where 32 bits hold it
abbrev pub pid_in : SpelledValue → Option pid.Pid
pid_in spelled.Null = Some who.Null
pid_in spelled.Env = Some who.Env
pid_in (spelled.Instance number) = option_map who.Of number
pid_in other = None

-- what is spelled at a parameter of this sort: a number is an Integer, a Time and a Duration, and a Natural if it isn't
-- negative
abbrev pub value_at : Sort → SpelledValue → Option Value
value_at sort.Boolean spelled = option_map value.Bool (truth_in spelled)
value_at sort.Integer spelled = option_map value.Int (number_in spelled)
value_at sort.Natural spelled = option_and_then as_natural (number_in spelled)
value_at sort.Pid spelled = option_map value.Pid (pid_in spelled)
value_at sort.Time spelled = option_map value.Time (number_in spelled)
value_at sort.Duration spelled = option_map value.Duration (number_in spelled)

-- a spelled value is this value at a parameter of this sort
abbrev pub Fits : SpelledValue → Sort → Value → Type 0
Fits spelled sort value = value_at sort spelled ≡ Some value
